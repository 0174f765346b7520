-- Writing an RLE text.
use Rattle.std.specs.Prelude.{◌≡◌, ℕ, ◌+◌, List, [], ◌∷◌, ◌++◌, Bool, map, nat_le, ◌==◌, if◌then◌else◌, codes, decimal, length}
use Rattle.std.specs.Fmt.{signed_decimal}
use Rattle.generations_rule.specs.Rule.{GenerationsRule}
use Rattle.generations_rule.specs.RuleText.{text_of}
use Rattle.pattern_cells.specs.declared.cell.Cell.{Cell}
use Rattle.multistate_rle.specs.Bounds.{BoundsValue, bounds_of, in_box}
use Rattle.multistate_rle.specs.Letters.{LettersValue, letters_of, letters_text, plain}
use Rattle.multistate_rle.specs.Tokens.{Token, Cells, Rows, IsTokensOf, tokens_from}

-- a count of 1 is left out
abbrev pub count_text : ℕ → List ℕ
count_text n = if n == 1 then [] else decimal n

abbrev pub spelling : ℕ → LettersValue → List ℕ
spelling n l = count_text n ++ letters_text l

abbrev pub token_text : Bool → Token → List ℕ
token_text two (Cells n s) = spelling n (letters_of two s)
token_text two (Rows n) = spelling n (plain 36)

-- how many bytes a line has, at most
abbrev pub line_limit : ℕ
line_limit = 70

-- pieces on lines of at most so many bytes, none split; the first number is how many stand on the line
abbrev pub wrapped : ℕ → List (List ℕ) → List ℕ
wrapped used [] = codes "\n"
wrapped used (piece ∷ pieces) =
    if nat_le (used + length piece) line_limit then piece ++ wrapped (used + length piece) pieces
    else codes "\n" ++ piece ++ wrapped (length piece) pieces

-- the tokens and the end mark
abbrev pub body : Bool → List Token → List ℕ
body two tokens = wrapped 0 (map (token_text two) tokens ++ spelling 1 (plain 33) ∷ [])

-- the two lines in front
abbrev pub head_lines : List ℕ → ℕ → BoundsValue → List ℕ
head_lines rule g b =
    codes "#CXRLE Pos=" ++ signed_decimal b.x ++ codes "," ++ signed_decimal b.y ++ codes " Gen=" ++ decimal g
    ++ codes "\nx = " ++ decimal b.width ++ codes ", y = " ++ decimal b.height ++ codes ", rule = " ++ rule ++ codes "\n"

-- the RLE text of cells, sorted and nonzero, at a generation
abbrev pub text_of_cells : GenerationsRule → ℕ → List Cell → List ℕ
text_of_cells r g cells = head_lines (text_of r) g (bounds_of cells) ++ body (r.states == 2) (tokens_from 0 0 (in_box (bounds_of cells) cells))

-- the same, where the tokens are any canonical list that draws the cells
pub record IsRleText (r : GenerationsRule) (g : ℕ) (cells : List Cell) (text : List ℕ) : Type 0 where
  pub tokens : List Token
  pub of_cells : IsTokensOf tokens (in_box (bounds_of cells) cells)
  pub spelt : text ≡ head_lines (text_of r) g (bounds_of cells) ++ body (r.states == 2) tokens
