-- Decimal numbers in a line, each with its place.
use Rattle.std.specs.Prelude.{ℕ, ◌-◌, Bool, true, List, [], ◌∷◌, length, ◌==◌, if◌then◌else◌, Option, Result, Ok, Err}
use Rattle.text_scan.specs.Bytes.{decimal_number, front, is_decimal_digit, is_space_or_tab, past_prefix}
use Rattle.macrocell_text.specs.declared.fault.MacrocellFault.{MacrocellFault}
use Rattle.macrocell_text.specs.declared.fault.MacrocellFault.TheVariants.{Tag}

-- a number in a line, none where it has more than 32 bits; the place of its first digit; and what stands behind it
pub record Number : Type 0 where
  pub value : Option ℕ
  pub place : ℕ
  pub rest : List ℕ

-- the place of what is left of a line that ends at a place
abbrev pub place_of : ℕ → List ℕ → ℕ
place_of line_end rest = line_end - length rest

-- nothing, or a blank in front
abbrev pub ends_word : List ℕ → Bool
ends_word [] = true
ends_word (byte ∷ rest) = is_space_or_tab byte

-- the number with which the rest of a line begins; where there is none, the first byte that is no digit, or the line's end
abbrev pub number_in_front : ℕ → List ℕ → Result Number MacrocellFault
number_in_front line_end rest =
    if length rest == 0 then Err (Tag line_end)
    else (if ends_word (past_prefix is_decimal_digit rest)
    then Ok (record { value = decimal_number 4294967295 (front is_decimal_digit rest); place = place_of line_end rest; rest = past_prefix is_decimal_digit rest })
    else Err (Tag (place_of line_end (past_prefix is_decimal_digit rest))))

-- the same behind blanks
abbrev pub number_told : ℕ → List ℕ → Result Number MacrocellFault
number_told line_end rest = number_in_front line_end (past_prefix is_space_or_tab rest)
