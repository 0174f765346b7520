-- Texts as they are written by hand: counts with any digits, and comment lines, line ends and blanks anywhere.
use Rattle.std.specs.Prelude.{◌≡◌, ◌⊎◌, ℕ, true, not, ◌||◌, List, [], ◌∷◌, ◌++◌, Option, if◌then◌else◌, ⊤, codes}
use Rattle.std.specs.List.{list_all, enumerate_from}
use Rattle.std.specs.Str.Parse.{digits_value}
use Rattle.text_scan.specs.Bytes.{is_decimal_digit, is_space_or_tab, ends_line}
use Rattle.multistate_rle.specs.Letters.{IsStateTag}
use Rattle.multistate_rle.specs.Position.{OriginValue, origin_in}
use Rattle.multistate_rle.specs.Tokens.{Token, Cells, Rows, count_of}
use Rattle.multistate_rle.specs.Reading.{Mark, bytes_of, bare, lines_of, begins_comment, or_else}

-- the digits of a count: none for 1, or any that write it
abbrev pub IsCount : ℕ → List ℕ → Type 0
IsCount n [] = n ≡ 1
IsCount n (c ∷ digits) = (list_all is_decimal_digit (c ∷ digits) ≡ true) × (digits_value 10 (c ∷ digits) ≡ n)

-- the letters of a state, or `$`
abbrev pub IsTag : Token → List ℕ → Type 0
IsTag (Cells n s) tag = IsStateTag s tag
IsTag (Rows n) tag = tag ≡ codes "$"

-- bytes spell tokens: each is a count and a tag
abbrev pub IsSpelling : List Token → List ℕ → Type 0
IsSpelling [] bytes = bytes ≡ []
IsSpelling (token ∷ tokens) bytes =
    (digits : List ℕ) × (tag : List ℕ) × (more : List ℕ) × (IsCount (count_of token) digits × (IsTag token tag × (IsSpelling tokens more × (bytes ≡ digits ++ (tag ++ more)))))

-- digits, or none, and then nothing, or the end mark and anything
abbrev pub EndsTokens : List ℕ → Type 0
EndsTokens [] = ⊤
EndsTokens (c ∷ rest) = (c ≡ 33) ⊎ ((is_decimal_digit c ≡ true) × EndsTokens rest)

-- a line without its end
abbrev pub IsLine : List ℕ → Type 0
IsLine line = list_all (λ c. not (ends_line c)) line ≡ true

-- lines in front of a header, each with the byte that ends it: comments and blank lines
abbrev pub AreFrontLines : List (List ℕ × ℕ) → Type 0
AreFrontLines [] = ⊤
AreFrontLines (line ∷ lines) =
    IsLine line.0 × ((ends_line line.1 ≡ true) × (((begins_comment line.0 || list_all is_space_or_tab line.0) ≡ true) × AreFrontLines lines))

-- lines and their ends, and the text behind them
abbrev pub with_lines : List (List ℕ × ℕ) → List ℕ → List ℕ
with_lines [] rest = rest
with_lines (line ∷ lines) rest = line.0 ++ line.1 ∷ with_lines lines rest

-- the first origin that lines name, or an earlier one
abbrev pub first_origin : Option OriginValue → List (List ℕ × ℕ) → Option OriginValue
first_origin found [] = found
first_origin found (line ∷ lines) = first_origin (if begins_comment line.0 then or_else found (origin_in line.0) else found) lines

-- the bytes that are left, without comment lines, line ends and blanks, of a text that begins at a place, each with its
-- place
abbrev pub bare_from : ℕ → List ℕ → List Mark
bare_from place text = bare (lines_of (enumerate_from place text))

-- the bytes of a text that are left without comment lines, line ends and blanks
abbrev pub bare_text : List ℕ → List ℕ
bare_text text = bytes_of (bare_from 0 text)
