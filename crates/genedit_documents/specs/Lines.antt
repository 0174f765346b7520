-- The lines that tell what was done to a document.
use Rattle.std.specs.Prelude.{ℕ, List, ◌++◌, codes, decimal}
use Rattle.generations_rule.specs.Rule.{GenerationsRule}
use Rattle.generations_rule.specs.RuleText.{text_of}

-- a document without an edit was made
abbrev pub new_line : List ℕ → GenerationsRule → List ℕ
new_line path r = codes "new " ++ path ++ codes " " ++ text_of r ++ codes "\n"

-- documents were merged: how many edits the file has now, and how many of them are new
abbrev pub merged_line : List ℕ → (edits new : ℕ) → List ℕ
merged_line path edits new = codes "merged " ++ path ++ codes " " ++ decimal edits ++ codes " new " ++ decimal new ++ codes "\n"
