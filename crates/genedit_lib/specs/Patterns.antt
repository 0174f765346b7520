-- Patterns by their names.
use Rattle.std.specs.Prelude.{ℕ, List, Option}
use Rattle.std.specs.BTreeMap.{get}
use Rattle.std.specs.Cmp.Lexicographic.{slice_cmp}
use Rattle.std.specs.Ordering.{nat_cmp}
use Rattle.pattern_cells.specs.Pattern.{RlePattern}
use Rattle.genedit_lib.specs.declared.patterns.Patterns.{Patterns}

-- the pattern that a name stands for
abbrev pub pattern_in : Patterns → List ℕ → Option RlePattern
pattern_in patterns name = get (slice_cmp nat_cmp) patterns.by_name name
