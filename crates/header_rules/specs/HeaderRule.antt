-- Which rule the header of a pattern text tells, and where.
use Rattle.std.specs.Prelude.{ℕ, ◌+◌, ◌-◌, List, [], ◌∷◌, length, codes, drop, take, nat_lt, if◌then◌else◌, Option, Some, None}
use Rattle.std.specs.List.{before_first}
use Rattle.std.specs.Option.{is_some}
use Rattle.text_scan.specs.Bytes.{is_space_or_tab, past_prefix, ◌>=>◌, behind_all, behind_symbol, is_comma, without_blanks_behind}
use Rattle.multistate_rle.specs.Header.{side_spelled}
use Rattle.multistate_rle.specs.HeaderLine.{text_lines, may_precede}
use Rattle.header_rules.specs.declared.header.HeaderRule.{HeaderRule}
use Rattle.header_rules.specs.declared.header.HeaderBounds.{HeaderBounds}
use Rattle.header_rules.specs.Families.{rule_in_family, unbounded}
use Rattle.header_rules.specs.SpelledRule.{rule_spelled}

-- a line, and the place in its text where it begins
pub record PlacedLine : Type 0 where
  pub start : ℕ
  pub text : List ℕ

-- the first of some lines that is neither a comment nor blank; they begin at a place, and one byte ends each
abbrev pub header_line : ℕ → List (List ℕ) → Option PlacedLine
header_line start [] = None
header_line start (line ∷ lines) =
    if may_precede line then header_line (start + (length line + 1)) lines else Some (record { start = start; text = line })

-- what stands behind `x = w, y = h` and a comma
abbrev pub behind_sides : List ℕ → Option (List ℕ)
behind_sides line = side_spelled 120 line >=> λ x. behind_symbol 44 x.1 >=> λ rest. side_spelled 121 rest >=> λ y. behind_symbol 44 y.1

-- what stands behind `rule =` and its blanks
abbrev pub behind_rule : List ℕ → Option (List ℕ)
behind_rule text = behind_all (codes "rule") (past_prefix is_space_or_tab text) >=> λ rest. behind_symbol 61 rest >=> λ rest. Some (past_prefix is_space_or_tab rest)

-- a rule's text, in front of a comma or of the line's end
abbrev pub rule_text : List ℕ → List ℕ
rule_text rest = without_blanks_behind (before_first is_comma rest)

-- the part of a rule's text that is read: what stands in front of a bounded grid, if a rule of this family stands there
abbrev pub part_read : List ℕ → List ℕ
part_read text = if is_some (rule_in_family (unbounded text)) then unbounded text else text

-- what stands behind so many bytes and a colon, up to the line's end
abbrev pub bounds_behind : ℕ → List ℕ → List ℕ
bounds_behind count rest = without_blanks_behind (drop (count + 1) rest)

-- bounds at a place, unless they are empty
abbrev pub bounds_at : ℕ → List ℕ → Option HeaderBounds
bounds_at place [] = None
bounds_at place (byte ∷ bounds) = Some (record { place = place; length = length (byte ∷ bounds) })

-- the bounds of a rule, in whose text this stands in front of a colon, or which has none
abbrev pub bounds_told : ℕ → List ℕ → List ℕ → List ℕ → Option HeaderBounds
bounds_told place text front rest =
    if nat_lt (length front) (length text) then bounds_at (place + (length front + 1)) (bounds_behind (length front) rest) else None

-- a text that is read as a rule, unless it is empty
abbrev pub told_as : ℕ → List ℕ → Option HeaderBounds → Option HeaderRule
told_as place [] bounds = None
told_as place (byte ∷ part) bounds = Some (record { place = place; length = length (byte ∷ part); rule = rule_spelled (byte ∷ part); bounds = bounds })

-- what the rest of a line tells, which begins at a place with a rule's text
abbrev pub told_at : ℕ → List ℕ → Option HeaderRule
told_at place rest = told_as place (part_read (rule_text rest)) (bounds_told place (rule_text rest) (unbounded (rule_text rest)) rest)

-- what is told of a rule's text of so many bytes at a place of a text
abbrev pub rule_standing : List ℕ → ℕ → ℕ → Option HeaderRule
rule_standing text place length = told_at place (take length (drop place text))

-- the rule that a header's line tells; its text begins where that is left of the line which stands behind `rule =`
abbrev pub told_in_line : PlacedLine → Option HeaderRule
told_in_line line =
    behind_sides line.text >=> λ rest. behind_rule rest >=> λ rest. told_at (line.start + (length line.text - length rest)) rest

-- the rule that the header of a text tells, if it has one and that tells one
abbrev pub header_rule_told : List ℕ → Option HeaderRule
header_rule_told text = header_line 0 (text_lines text) >=> told_in_line
