-- Bytes of ASCII texts, and decimal numbers.
use Rattle.std.specs.Prelude.{ℕ, Bool, ◌||◌, ◌&&◌, List, [], ◌∷◌, nat_le, ◌==◌, if◌then◌else◌, take, drop, length, ◌-◌, reverse, Option, Some, None}
use Rattle.std.specs.List.{prefix_len, list_all}
use Rattle.std.specs.Str.{bytes_eq}
use Rattle.std.specs.Str.Parse.{digits_value}

abbrev pub is_decimal_digit : ℕ → Bool
is_decimal_digit c = nat_le 48 c && nat_le c 57

-- a space or a tab
abbrev pub is_space_or_tab : ℕ → Bool
is_space_or_tab c = c == 32 || c == 9

-- LF or CR
abbrev pub ends_line : ℕ → Bool
ends_line c = c == 10 || c == 13

-- the part in front that passes a test
abbrev pub front : (ℕ → Bool) → List ℕ → List ℕ
front test xs = take (prefix_len test xs) xs

-- what follows that part
abbrev pub past_prefix : (ℕ → Bool) → List ℕ → List ℕ
past_prefix test xs = drop (prefix_len test xs) xs

-- the next reading of what was read, if it was
infixl 10 ◌>=>◌
abbrev pub ◌>=>◌ : {A B : Type 0} → Option A → (A → Option B) → Option B
(Some x) >=> f = f x
None >=> f = None

-- what stands behind a byte, if the text begins with it
abbrev pub text_behind : ℕ → List ℕ → Option (List ℕ)
text_behind c [] = None
text_behind c (d ∷ rest) = if c == d then Some rest else None

-- what stands behind a byte, blanks before it passed over
abbrev pub behind_symbol : ℕ → List ℕ → Option (List ℕ)
behind_symbol c line = text_behind c (past_prefix is_space_or_tab line)

-- what stands behind some bytes, if the text begins with them
abbrev pub behind_all : List ℕ → List ℕ → Option (List ℕ)
behind_all cs text = if bytes_eq (take (length cs) text) cs then Some (drop (length cs) text) else None

-- the text up to the blanks that it ends with
abbrev pub without_blanks_behind : List ℕ → List ℕ
without_blanks_behind text = take (length text - prefix_len is_space_or_tab (reverse text)) text

abbrev pub is_comma : ℕ → Bool
is_comma c = c == 44

-- a number, if it is at most so much
abbrev pub limited : ℕ → ℕ → Option ℕ
limited most n = if nat_le n most then Some n else None

-- a decimal number of at most so much, with any zeros in front, and nothing else
abbrev pub decimal_number : ℕ → List ℕ → Option ℕ
decimal_number most [] = None
decimal_number most (c ∷ digits) = if list_all is_decimal_digit (c ∷ digits) then limited most (digits_value 10 (c ∷ digits)) else None
