-- The header line: `x = w, y = h`, blanks round every part, then nothing, or a comma and any text.
use Rattle.std.specs.Prelude.{ℕ, Bool, true, List, [], ◌∷◌, ◌==◌, if◌then◌else◌, Option, Some, None, option_map}
use Rattle.text_scan.specs.Bytes.{is_decimal_digit, is_space_or_tab, front, past_prefix, ◌>=>◌, behind_symbol, decimal_number}

-- the greatest side that a header can name
abbrev pub most_pattern_side : ℕ
most_pattern_side = 4294967295

-- the number in front, and what stands behind it
abbrev pub number_in_front : List ℕ → Option (ℕ × List ℕ)
number_in_front line = option_map (λ n. (n, past_prefix is_decimal_digit line)) (decimal_number most_pattern_side (front is_decimal_digit line))

-- a side: a letter, `=`, and a number
abbrev pub side_spelled : ℕ → List ℕ → Option (ℕ × List ℕ)
side_spelled letter line = behind_symbol letter line >=> λ rest. behind_symbol 61 rest >=> λ rest. number_in_front (past_prefix is_space_or_tab rest)

-- nothing, or a comma and any text
abbrev pub may_end_with : List ℕ → Bool
may_end_with [] = true
may_end_with (c ∷ rest) = c == 44

-- the two sides of a header line
abbrev pub header_of : List ℕ → Option (ℕ × ℕ)
header_of line =
    side_spelled 120 line >=> λ w. behind_symbol 44 w.1 >=> λ rest. side_spelled 121 rest >=> λ h.
    (if may_end_with (past_prefix is_space_or_tab h.1) then Some (w.0, h.0) else None)
