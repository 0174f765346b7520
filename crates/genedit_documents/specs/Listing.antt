-- The edits of a document's file, listed.
use Rattle.std.specs.Prelude.{ℕ, List, [], ◌∷◌, ◌++◌, length, take, max, Option, Some, None, codes, decimal}
use Rattle.generations_rule.specs.Rule.{GenerationsRule}
use Rattle.generations_rule.specs.RuleText.{text_of}
use Rattle.edit_stamps.specs.Edit.{PlaneEdit}
use Rattle.edit_stamps.specs.Stamp.{counter_in}
use Rattle.genedit_lib.specs.EditLines.{edit_lines}

-- so many edits from the first on, or all
abbrev pub first_of : Option ℕ → List PlaneEdit → List PlaneEdit
first_of None edits = edits
first_of (Some most) edits = take most edits

-- the greatest counter; 0 without an edit
abbrev pub clock_of : List PlaneEdit → ℕ
clock_of [] = 0
clock_of (e ∷ edits) = max (counter_in e.stamp) (clock_of edits)

abbrev pub counts_text : ℕ → ℕ → List ℕ
counts_text clock lost = codes " clock " ++ decimal clock ++ codes " lost " ++ decimal lost ++ codes "\n"

-- behind a number of edits: their rule, their greatest counter, and how many bytes are lost
abbrev pub summary_line : GenerationsRule → ℕ → ℕ → List ℕ
summary_line r clock lost = codes " edits " ++ text_of r ++ counts_text clock lost

-- each edit in a line, and the line that sums them up
abbrev pub log_text : GenerationsRule → List PlaneEdit → ℕ → List ℕ
log_text r edits lost = edit_lines edits ++ decimal (length edits) ++ summary_line r (clock_of edits) lost
