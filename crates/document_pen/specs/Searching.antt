-- What is told of a search for the period of a document.
use Rattle.std.specs.Prelude.{◌≡◌, ℕ, Result, Ok, Err}
use Rattle.generation_engine.specs.Universe.{states_in_writes}
use Rattle.export.specs.declared.fault.ExportFault.TheVariants as exports
use Rattle.map_periods.specs.Periods.{IsRefusedWithin}
use Rattle.map_periods.specs.PlanePeriods.{refuses_export}
use Rattle.stamped_tree.specs.Plane.{map_of}
use Rattle.told_generations.specs.Searches.{PrintsPeriod}
use Rattle.document_pen.specs.declared.fault.PenFault.{PenFault}
use Rattle.document_pen.specs.declared.fault.PenFault.TheVariants.{Memory, StoreFull, Write}
use Rattle.document_pen.specs.Pen.{PenState}

-- memory is wanting, or room for a universe at a generation that the search reaches, and nothing is done
abbrev pub LacksForSearch : ℕ → ℕ → PenState → PenState → PenFault → Type 0
LacksForSearch first most m n Memory = n ≡ m
LacksForSearch first most m n StoreFull =
    let states = states_in_writes (map_of m.replica.plane) in
    (n ≡ m) × IsRefusedWithin m.replica.rule states (refuses_export m.replica.rule states) first most exports.StoreFull
LacksForSearch first most m n Write = ⊥

-- more is printed, and nothing else done
abbrev pub KeepsAllButPrinted : PenState → PenState → Type 0
KeepsAllButPrinted m n = n ≡ record m { out = n.out }

-- the least period of what the document shows, at a generation, is printed, or that there is none, or a refusal; or memory or room is wanting
abbrev pub IsPeriodTold : ℕ → ℕ → PenState → PenState → Result (Unit {0}) PenFault → Type 0
IsPeriodTold first most m n (Ok done) = PrintsPeriod m.replica.rule (states_in_writes (map_of m.replica.plane)) first most m.out n.out × KeepsAllButPrinted m n
IsPeriodTold first most m n (Err fault) = LacksForSearch first most m n fault
