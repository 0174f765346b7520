-- The words of a line, and numbers with a sign.
use Rattle.std.specs.Prelude.{ℕ, not, List, [], ◌∷◌, ◌==◌, if◌then◌else◌, Option, None, ℤ, pos, neg_ℤ, length, option_map, filter}
use Rattle.std.specs.List.{slice_split}
use Rattle.text_scan.specs.Bytes.{decimal_number, is_space_or_tab}

-- the words of a line, separated by blanks
abbrev pub words : List ℕ → List (List ℕ)
words line = filter (λ word. not (length word == 0)) (slice_split is_space_or_tab line)

-- a number of 32 bits with its sign
abbrev pub signed_number : List ℕ → Option ℤ
signed_number [] = None
signed_number (c ∷ digits) =
    if c == 45 then option_map (λ n. neg_ℤ (pos n)) (decimal_number 2147483648 digits) else option_map pos (decimal_number 2147483647 (c ∷ digits))
