-- The macrocell that a file is converted to, or why there is none.
use Rattle.std.specs.Prelude.{◌≡◌, ◌⊎◌, ℕ, ◌≤◌, ◌<◌, ◌^◌, true, List}
use Rattle.generations_rule.specs.Place.{Place}
use Rattle.generations_rule.specs.Rule.{GenerationsRule}
use Rattle.generations_rule.specs.Evolution.{at}
use Rattle.export.specs.declared.fault.ExportFault.TheVariants.{GenRange}
use Rattle.genedit_view.specs.declared.fault.ViewFault.{ViewFault}
use Rattle.genedit_view.specs.Fault.{fault_of_generation}
use Rattle.genedit_view.specs.Reading.{IsReadAs}
use Rattle.genedit_view.specs.Seeing.{IsNotSeen}
use Rattle.genedit_view.specs.Universes.{universe_view}
use Rattle.macrocell_lines.specs.Macrocell.{IsMacrocell}
use Rattle.genedit_convert.specs.declared.options.ConvertOptions.{ConvertOptions}
use Rattle.genedit_convert.specs.Converted.{asked, generation_of}

-- the text is read as a map, and the macrocell is that of what the rule makes of it in the generations that are asked for, at the
-- generation that the text tells and those
pub record IsMacrocellOf (o : ConvertOptions) (text out : List ℕ) : Type 0 where
  pub rule : GenerationsRule
  pub states : Place → ℕ
  pub read : IsReadAs true o.rule text rule states
  pub fits : generation_of o text < 2 ^ 64
  pub is : IsMacrocell rule (generation_of o text) (at rule states (asked o.generation)) out

-- the generation has more than 64 bits
pub record IsTooLateAMacrocell (o : ConvertOptions) (text : List ℕ) (fault : ViewFault) : Type 0 where
  pub rule : GenerationsRule
  pub states : Place → ℕ
  pub read : IsReadAs true o.rule text rule states
  pub late : 2 ^ 64 ≤ generation_of o text
  pub told : fault ≡ fault_of_generation GenRange

-- nothing is seen of the text in that generation, or it is too late
abbrev pub IsNoMacrocell : ConvertOptions → List ℕ → ViewFault → Type 0
IsNoMacrocell o text fault = IsNotSeen (universe_view o.rule (asked o.generation)) text fault ⊎ IsTooLateAMacrocell o text fault
