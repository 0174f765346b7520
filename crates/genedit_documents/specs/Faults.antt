-- How the program ends where a document is refused, and what it says.
use Rattle.std.specs.Prelude.{ℕ, List, ◌++◌, Some, None, codes, decimal}
use Rattle.documents.specs.declared.fault.DocumentFault.{DocumentFault}
use Rattle.documents.specs.declared.fault.DocumentFault.TheVariants.{StateRange, OtherRule, SameStamp, NoDocument, Body, Memory}
use Rattle.documents.specs.Faults.{document_fault_number}
use Rattle.edit_stamps.specs.Stamp.{counter_in, replica_in}
use Rattle.genedit_io.specs.Cause.{file_fault_text}
use Rattle.genedit_io.specs.declared.fault.RunFault.{RunFault}
use Rattle.genedit_io.specs.declared.fault.RunFault.TheVariants as run
use Rattle.replica_core.specs.declared.fault.Fault.{Fault}
use Rattle.replica_core.specs.declared.fault.Fault.TheVariants as faults
use Rattle.replica_core.specs.Fault.{replica_fault_number}

-- a refusal by its number; that of a record has its place
abbrev pub run_fault : DocumentFault → RunFault
run_fault Memory = run.Memory
run_fault (Body fault place) = run.Refused (document_fault_number (Body fault place)) (Some place)
run_fault StateRange = run.Refused 11 None
run_fault OtherRule = run.Refused 16 None
run_fault (SameStamp stamp) = run.Refused 41 None
run_fault NoDocument = run.Refused 42 None

-- of an export
abbrev pub export_ending : Fault → RunFault
export_ending faults.Memory = run.Memory
export_ending faults.StoreFull = run.StoreFull
export_ending fault = run.Refused (replica_fault_number fault) None

-- in words
abbrev pub cause_of_fault : DocumentFault → List ℕ
cause_of_fault StateRange = codes "an edit has a state that its rule has not"
cause_of_fault OtherRule = codes "it has another rule"
cause_of_fault (SameStamp stamp) = codes "two edits have that counter and replica: see --renumber of genedit merge"
cause_of_fault NoDocument = codes "it holds no record of a document"
cause_of_fault (Body fault place) = codes "that record of it tells no edit under the rule"
cause_of_fault Memory = codes "out of memory"

-- two edits of one stamp: counter and replica too
abbrev pub clash_text : ℕ → ℕ → List ℕ → List ℕ → List ℕ
clash_text counter replica path cause = codes "refused 41 SameStamp " ++ decimal counter ++ codes " " ++ decimal replica ++ codes " " ++ path ++ codes ": " ++ cause

-- the fault, the file and the cause; of two edits of one stamp also counter and replica
abbrev pub fault_text : DocumentFault → List ℕ → List ℕ
fault_text (SameStamp stamp) path = clash_text (counter_in stamp) (replica_in stamp) path (cause_of_fault (SameStamp stamp))
fault_text StateRange path = file_fault_text (run_fault StateRange) path (cause_of_fault StateRange)
fault_text OtherRule path = file_fault_text (run_fault OtherRule) path (cause_of_fault OtherRule)
fault_text NoDocument path = file_fault_text (run_fault NoDocument) path (cause_of_fault NoDocument)
fault_text (Body fault place) path = file_fault_text (run_fault (Body fault place)) path (cause_of_fault (Body fault place))
fault_text Memory path = file_fault_text (run_fault Memory) path (cause_of_fault Memory)
