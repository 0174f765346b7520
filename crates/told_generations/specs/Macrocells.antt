-- What a map is at a later generation, as a macrocell.
use Rattle.std.specs.Prelude.{◌≡◌, ◌<◌, ◌≤◌, ℕ, List, ◌++◌, Option, Some, None}
use Rattle.generations_rule.specs.Place.{Place}
use Rattle.generations_rule.specs.Rule.{GenerationsRule}
use Rattle.generations_rule.specs.Evolution.{at}
use Rattle.export.specs.declared.fault.ExportFault.TheVariants.{GenRange}
use Rattle.export.specs.Export.{last_generation}
use Rattle.macrocell_lines.specs.Macrocell.{IsMacrocell}
use Rattle.told_generations.specs.Refusals.{refusal_line}

-- the macrocell of a map g generations later is given, and nothing printed; or the generation is none, and that is printed
abbrev pub IsMacrocellGiven : {B : Type 0} → (B → List ℕ) → GenerationsRule → (Place → ℕ) → ℕ → List ℕ → List ℕ → Option B → Type 0
IsMacrocellGiven bytes_of r f g out out' (Some text) = (g ≤ last_generation) × IsMacrocell r g (at r f g) (bytes_of text) × (out' ≡ out)
IsMacrocellGiven bytes_of r f g out out' None = (last_generation < g) × (out' ≡ out ++ refusal_line GenRange)
