-- How a generation that is refused is told.
use Rattle.std.specs.Prelude.{◌≡◌, List, ℕ, ◌++◌}
use Rattle.export.specs.declared.fault.ExportFault.{ExportFault}
use Rattle.export.specs.declared.fault.ExportFault.TheVariants as exports
use Rattle.replica_core.specs.declared.event.Reply.TheVariants as replies
use Rattle.replica_core.specs.Fault.{fault_of_export}
use Rattle.genedit_lib.specs.Output.{reply_line}

-- a refusal, as it is printed
abbrev pub refusal_line : ExportFault → List ℕ
refusal_line fault = reply_line (replies.Refused (fault_of_export fault))

-- a fault that is no want is printed
abbrev pub IsRefusalLine : ExportFault → List ℕ → List ℕ → Type 0
IsRefusalLine exports.GenRange out out' = out' ≡ out ++ refusal_line exports.GenRange
IsRefusalLine exports.TooManyCells out out' = out' ≡ out ++ refusal_line exports.TooManyCells
IsRefusalLine exports.StoreFull out out' = ⊥
IsRefusalLine exports.Memory out out' = ⊥
