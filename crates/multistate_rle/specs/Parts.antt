-- The parts of a text that is read, and of one that is refused.
use Rattle.std.specs.Prelude.{◌≡◌, ◌⊎◌, ℕ, ◌+◌, true, List, [], ◌∷◌, ◌++◌, Some, None, unwrap_or, length, drop, ⊤}
use Rattle.multistate_rle.specs.declared.fault.RleFault.{RleFault}
use Rattle.multistate_rle.specs.declared.fault.RleFault.TheVariants.{Header}
use Rattle.text_scan.specs.Bytes.{ends_line}
use Rattle.multistate_rle.specs.Header.{header_of}
use Rattle.multistate_rle.specs.HeaderLine.{HasNoHeader}
use Rattle.pattern_cells.specs.Pattern.{RlePattern}
use Rattle.multistate_rle.specs.Position.{origin_from, no_items}
use Rattle.multistate_rle.specs.Tokens.{Token, cells_drawn}
use Rattle.multistate_rle.specs.Reading.{Mark, bytes_of, start, AreFine, pattern_of}
use Rattle.multistate_rle.specs.Spelling.{IsSpelling, EndsTokens, IsLine, AreFrontLines, with_lines, first_origin, bare_from, bare_text}
use Rattle.multistate_rle.specs.Faulty.{pen_behind, BeginsFaulty}

-- nothing, or a line's end and anything
abbrev pub EndsLine : List ℕ → Type 0
EndsLine [] = ⊤
EndsLine (c ∷ rest) = ends_line c ≡ true

-- A text in its parts: comments and blank lines, a header that names the sides, and behind the header's line end, from a
-- place on, a body. Where the text ends with its header, the body is empty.
pub record HasFrontAndBody (text : List ℕ) (front : List (List ℕ × ℕ)) (sides : ℕ × ℕ) (place : ℕ) (body : List ℕ) : Type 0 where
  pub header : List ℕ
  pub behind : List ℕ
  pub text_is : text ≡ with_lines front (header ++ behind)
  pub front_is : AreFrontLines front
  pub line_is : IsLine header
  pub header_is : header_of header ≡ Some sides
  pub behind_is : EndsLine behind
  pub place_is : place ≡ length (with_lines front header) + 1
  pub body_is : body ≡ drop 1 behind

-- A text spells a pattern: its body, without comment lines, line ends and blanks, spells tokens that are not faulty, and
-- the pattern is what they draw, with the header's sides and the first origin that a comment in front names.
pub record SpellsPattern (text : List ℕ) (p : RlePattern) : Type 0 where
  pub front : List (List ℕ × ℕ)
  pub sides : ℕ × ℕ
  pub place : ℕ
  pub body : List ℕ
  pub tokens : List Token
  pub spelt : List ℕ
  pub tail : List ℕ
  pub parts : HasFrontAndBody text front sides place body
  pub bytes_are : bare_text body ≡ spelt ++ tail
  pub spelling : IsSpelling tokens spelt
  pub tail_is : EndsTokens tail
  pub fine : AreFine start tokens
  pub pattern_is : p ≡ pattern_of (unwrap_or (first_origin None front) (origin_from no_items)) sides (cells_drawn tokens 0 0)

-- A text spells a fault: its body, without comment lines, line ends and blanks, spells tokens that are not faulty, and
-- then a faulty one stands, with anything behind it.
pub record SpellsFault (text : List ℕ) (fault : RleFault) : Type 0 where
  pub front : List (List ℕ × ℕ)
  pub sides : ℕ × ℕ
  pub place : ℕ
  pub body : List ℕ
  pub tokens : List Token
  pub spelt : List Mark
  pub faulty : List Mark
  pub parts : HasFrontAndBody text front sides place body
  pub bytes_are : bare_from place body ≡ spelt ++ faulty
  pub spelling : IsSpelling tokens (bytes_of spelt)
  pub fine : AreFine start tokens
  pub fault_is : BeginsFaulty (length text) (pen_behind start tokens) faulty fault

-- A text is wrong: it has no header, or it spells a fault.
abbrev pub IsWrong : List ℕ → RleFault → Type 0
IsWrong text fault = (HasNoHeader text × (fault ≡ Header)) ⊎ SpellsFault text fault
