-- The generations of a plane, and how they are refused.
use Rattle.std.specs.Prelude.{ℕ}
use Rattle.generations_rule.specs.Place.{Place}
use Rattle.generations_rule.specs.Rule.{GenerationsRule}
use Rattle.export.specs.declared.fault.ExportFault.{ExportFault}
use Rattle.export.specs.Export.{IsExportRefused, most_cells}

-- a generation is refused as its export is
abbrev pub refuses_export : GenerationsRule → (Place → ℕ) → ℕ → ExportFault → Type 0
refuses_export r f g fault = IsExportRefused r f g most_cells fault
