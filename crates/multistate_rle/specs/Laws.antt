-- What the definitions obey.
use Rattle.std.specs.Prelude.{◌↔◌, Some, None, unwrap_or, ◌≡◌, ◌⊎◌, ℕ, ◌+◌, ◌≤◌, ◌<◌, ◌^◌, ℤ, pos, negsuc, not, Bool, List, ◌∷◌, ◌++◌, true, false, nat_le, if◌then◌else◌, length, Ok, Err}
use Rattle.generations_rule.specs.Rule.{GenerationsRule, IsRule}
use Rattle.pattern_cells.specs.declared.pattern.PatternCell.{PatternCell}
use Rattle.pattern_cells.specs.declared.cell.Cell.{Cell}
use Rattle.pattern_cells.specs.Cells.{is_sorted, are_nonzero, are_states_below}
use Rattle.multistate_rle.specs.Bounds.{BoundsValue, bounds_of, in_box}
use Rattle.pattern_cells.specs.Pattern.{RlePattern, are_sorted, are_alive, are_within}
use Rattle.std.specs.List.{list_all, enumerate_from}
use Rattle.text_scan.specs.Bytes.{ends_line}
use Rattle.multistate_rle.specs.Header.{header_of}
use Rattle.multistate_rle.specs.Position.{OriginValue, origin_from, no_items}
use Rattle.multistate_rle.specs.HeaderLine.{HasNoHeader}
use Rattle.multistate_rle.specs.declared.fault.RleFault.{RleFault}
use Rattle.multistate_rle.specs.declared.fault.RleFault.TheVariants.{Header}
use Rattle.multistate_rle.specs.Letters.{letters_of, letters_text, IsStateTag}
use Rattle.multistate_rle.specs.Tokens.{Token, IsTokensOf, cells_drawn, tokens_from}
use Rattle.multistate_rle.specs.Reading.{parsed, Mark, bytes_of, bare, start, AreFine, body_read, pattern_of, lines_of}
use Rattle.multistate_rle.specs.Spelling.{IsSpelling, EndsTokens, IsLine, AreFrontLines, with_lines, first_origin, bare_from, bare_text}
use Rattle.multistate_rle.specs.Faulty.{pen_behind, BeginsFaulty}
use Rattle.multistate_rle.specs.Parts.{SpellsPattern, IsWrong}
use Rattle.multistate_rle.specs.Writing.{text_of_cells, IsRleText, head_lines, body}

-- a finite set of nonzero cells, as its sorted list, has a canonical token list
abbrev pub HasTokens : Type 0
HasTokens = (cells : List PatternCell) → are_sorted cells ≡ true → are_alive cells ≡ true → IsTokensOf (tokens_from 0 0 cells) cells

-- and only that one
abbrev pub HasOneTokenList : Type 0
HasOneTokenList = (cells : List PatternCell) (tokens : List Token) → IsTokensOf tokens cells → tokens ≡ tokens_from 0 0 cells

-- so the text of cells is the only one that their canonical tokens spell
abbrev pub CellsHaveOneText : Type 0
CellsHaveOneText = (r : GenerationsRule) (g : ℕ) (cells : List Cell) (text : List ℕ) → IsRleText r g cells text → text ≡ text_of_cells r g cells

-- the letters that are written of a state are letters of that state, and there are no others
abbrev pub HasLetters : Type 0
HasLetters = (s : ℕ) (tag : List ℕ) → s ≤ 255 →
    (IsStateTag s tag ↔ ((tag ≡ letters_text (letters_of false s)) ⊎ ((s ≤ 1) × (tag ≡ letters_text (letters_of true s)))))

-- ---- texts by hand

-- Where what is left of the lines behind a header, without comment lines and blanks, spells tokens that are not faulty,
-- what is read is what the tokens draw.
abbrev pub ReadsSpellings : Type 0
ReadsSpellings = (end : ℕ) (origin : OriginValue) (sides : ℕ × ℕ) (lines : List (List Mark)) (tokens : List Token) (spelt tail : List ℕ) →
    bytes_of (bare lines) ≡ spelt ++ tail → IsSpelling tokens spelt → EndsTokens tail → AreFine start tokens →
    body_read end origin sides lines ≡ Ok (pattern_of origin sides (cells_drawn tokens 0 0))

-- A whole text: comments and blank lines, a header, and a text that without comment lines, line ends and blanks spells
-- tokens that are not faulty. It is read as what the tokens draw, with the first origin that a comment names.
abbrev pub ReadsTexts : Type 0
ReadsTexts = (front : List (List ℕ × ℕ)) (header : List ℕ) (end : ℕ) (sides : ℕ × ℕ) (text : List ℕ) (tokens : List Token) (spelt tail : List ℕ) →
    AreFrontLines front → IsLine header → header_of header ≡ Some sides → ends_line end ≡ true →
    bare_text text ≡ spelt ++ tail → IsSpelling tokens spelt → EndsTokens tail → AreFine start tokens →
    parsed (with_lines front (header ++ end ∷ text))
    ≡ Ok (pattern_of (unwrap_or (first_origin None front) (origin_from no_items)) sides (cells_drawn tokens 0 0))

-- A whole text: comments and blank lines, a header, and a text that without comment lines, line ends and blanks spells
-- tokens that are not faulty, behind which a faulty one stands, and anything. It is refused for that token.
abbrev pub RefusesFaults : Type 0
RefusesFaults = (front : List (List ℕ × ℕ)) (header : List ℕ) (end : ℕ) (sides : ℕ × ℕ) (text : List ℕ) (tokens : List Token) (spelt faulty : List Mark) (fault : RleFault) →
    AreFrontLines front → IsLine header → header_of header ≡ Some sides → ends_line end ≡ true →
    bare_from (length (with_lines front header) + 1) text ≡ spelt ++ faulty → IsSpelling tokens (bytes_of spelt) → AreFine start tokens →
    BeginsFaulty (length (with_lines front (header ++ end ∷ text))) (pen_behind start tokens) faulty fault →
    parsed (with_lines front (header ++ end ∷ text)) ≡ Err fault

-- A text is refused as one without a header exactly where it has none.
abbrev pub RefusesWithoutHeader : Type 0
RefusesWithoutHeader = (text : List ℕ) → HasNoHeader text ↔ (parsed text ≡ Err Header)

-- A text is read as a pattern exactly where it spells it.
abbrev pub ReadsExactly : Type 0
ReadsExactly = (text : List ℕ) (p : RlePattern) → SpellsPattern text p ↔ (parsed text ≡ Ok p)

-- And it is refused for a fault exactly where it is wrong in that way.
abbrev pub RefusesExactly : Type 0
RefusesExactly = (text : List ℕ) (fault : RleFault) → IsWrong text fault ↔ (parsed text ≡ Err fault)

-- The body that is written of cells is read as the cells, behind any header and from any place of a text on.
abbrev pub ReadsBodiesBack : Type 0
ReadsBodiesBack = (end : ℕ) (origin : OriginValue) (sides : ℕ × ℕ) (n : ℕ) (two : Bool) (cells : List PatternCell) →
    are_sorted cells ≡ true → are_alive cells ≡ true → are_within (2 ^ 32) (2 ^ 32) cells ≡ true → length cells ≤ 2 ^ 20 →
    list_all (λ cell. nat_le cell.state (if two then 1 else 255)) cells ≡ true →
    body_read end origin sides (lines_of (enumerate_from n (body two (tokens_from 0 0 cells)))) ≡ Ok (pattern_of origin sides cells)

-- a signed number of 32 bits
abbrev pub IsSignedWord : ℤ → Type 0
IsSignedWord (pos n) = n ≤ 2147483647
IsSignedWord (negsuc n) = n ≤ 2147483647

-- A whole text that is written of cells in a box, with sides below 2^32, is read as the cells in that box, with its
-- position and generation. The rule stands in the header as any text without a line's end.
abbrev pub ReadsBoxesBack : Type 0
ReadsBoxesBack = (rule : List ℕ) (g : ℕ) (b : BoundsValue) (two : Bool) (cells : List PatternCell) →
    IsSignedWord b.x → IsSignedWord b.y → g < 2 ^ 64 → b.width ≤ 4294967295 → b.height ≤ 4294967295 →
    list_all (λ c. not (ends_line c)) rule ≡ true → are_sorted cells ≡ true → are_alive cells ≡ true →
    are_within b.width b.height cells ≡ true → length cells ≤ 2 ^ 20 →
    list_all (λ cell. nat_le cell.state (if two then 1 else 255)) cells ≡ true →
    parsed (head_lines rule g b ++ body two (tokens_from 0 0 cells))
    ≡ Ok (record { width = b.width; height = b.height; pos = (b.x, b.y); generation = g; cells = cells })

-- What is written of cells, sorted, nonzero and below the rule's number of states, at most 2^20 and with sides below
-- 2^32, is read again: the same cells less the position, the same box, position and generation.
abbrev pub ReadsBack : Type 0
ReadsBack = (r : GenerationsRule) (g : ℕ) (cells : List Cell) → IsRule r → g < 2 ^ 64 →
    IsSignedWord (bounds_of cells).x → IsSignedWord (bounds_of cells).y →
    is_sorted cells ≡ true → are_nonzero cells ≡ true → are_states_below r.states cells ≡ true → length cells ≤ 2 ^ 20 →
    (bounds_of cells).width < 2 ^ 32 → (bounds_of cells).height < 2 ^ 32 →
    parsed (text_of_cells r g cells)
    ≡ Ok (record {
      width = (bounds_of cells).width;
      height = (bounds_of cells).height;
      pos = ((bounds_of cells).x, (bounds_of cells).y);
      generation = g;
      cells = in_box (bounds_of cells) cells;
    })
