-- What a replica exports, cuts and counts.
use Rattle.std.specs.Prelude.{◌≡◌, ◌⊎◌, ℕ, ◌≤◌, List, Result, Ok, Err}
use Rattle.generations_rule.specs.Place.{Place}
use Rattle.generations_rule.specs.Rule.{GenerationsRule}
use Rattle.generation_engine.specs.Universe.{states_in_writes}
use Rattle.export.specs.declared.asking.Count.{Count as Counted}
use Rattle.export.specs.declared.fault.ExportFault.{ExportFault}
use Rattle.export.specs.declared.fault.ExportFault.TheVariants as exports
use Rattle.export.specs.Asking.{IsCount, IsCut}
use Rattle.export.specs.Export.{IsExport, last_generation, most_cells}
use Rattle.stamped_tree.specs.Plane.{map_of}
use Rattle.replica_core.specs.declared.event.Question.{Question}
use Rattle.replica_core.specs.declared.event.Question.TheVariants.{Export, Cut, Count}
use Rattle.replica_core.specs.declared.event.Reply.{Reply}
use Rattle.replica_core.specs.declared.event.Reply.TheVariants as replies
use Rattle.replica_core.specs.declared.event.Stop.{Stop}
use Rattle.replica_core.specs.declared.event.Stop.TheVariants as stops
use Rattle.replica_core.specs.declared.fault.Fault.{Fault}
use Rattle.replica_core.specs.Fault.{IsWant, fault_of_export}
use Rattle.replica_core.specs.Replica.{ReplicaState}

-- the answer of an export of what a replica holds
abbrev pub IsExportOf : ReplicaState → ℕ → Result (List ℕ) ExportFault → Type 0
IsExportOf r g answer = IsExport r.rule (states_in_writes (map_of r.plane)) g most_cells answer

-- An export is refused as it is meant to be, or meets a want, but only at a generation that is one.
abbrev pub IsExportFault : ReplicaState → ℕ → Fault → Type 0
IsExportFault r g fault = (IsWant fault × (g ≤ last_generation)) ⊎ ((refusal : ExportFault) × (fault ≡ fault_of_export refusal) × IsExportOf r g (Err refusal))

-- ---- replies

-- what an export answers, or a cut, as a reply
abbrev pub export_reply : Result (List ℕ) ExportFault → Reply
export_reply (Ok text) = replies.Text text
export_reply (Err fault) = replies.Refused (fault_of_export fault)

-- and what a count answers
abbrev pub count_reply : Result Counted ExportFault → Reply
count_reply (Ok count) = replies.Counted count
count_reply (Err fault) = replies.Refused (fault_of_export fault)

-- a refusal as a reply; a want is none
abbrev pub refusal_or_stop : ExportFault → Result Reply Stop
refusal_or_stop exports.Memory = Err stops.Memory
refusal_or_stop exports.StoreFull = Err stops.StoreFull
refusal_or_stop exports.GenRange = Ok (replies.Refused (fault_of_export exports.GenRange))
refusal_or_stop exports.TooManyCells = Ok (replies.Refused (fault_of_export exports.TooManyCells))

-- the same of an answer, of which what was found is told
abbrev pub reply_or_stop : {A : Type 0} → (A → Reply) → Result A ExportFault → Result Reply Stop
reply_or_stop told (Ok answer) = Ok (told answer)
reply_or_stop told (Err fault) = refusal_or_stop fault

-- the reply tells an answer
abbrev pub TellsAnswer : {A : Type 0} → (Result A ExportFault → Type 0) → (Result A ExportFault → Reply) → Reply → Type 0
TellsAnswer {A} IsAnswer reply_of reply = (answer : Result A ExportFault) × IsAnswer answer × (reply ≡ reply_of answer)

-- the reply to a question about a map of states under a rule
abbrev pub Tells : GenerationsRule → (Place → ℕ) → Question → Reply → Type 0
Tells r f (Export g) reply = TellsAnswer (IsExport r f g most_cells) export_reply reply
Tells r f (Cut cut) reply = TellsAnswer (IsCut r f cut.window cut.generation most_cells) export_reply reply
Tells r f (Count g) reply = TellsAnswer (IsCount r f g) count_reply reply

-- the generation that a question is about
abbrev pub generation_of : Question → ℕ
generation_of (Export g) = g
generation_of (Cut cut) = cut.generation
generation_of (Count g) = g
