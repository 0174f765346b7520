-- The refusals of documents, as users meet them.
use Rattle.std.specs.Prelude.{ℕ, List, codes}
use Rattle.document_bodies.specs.Faults.{body_fault_number, body_fault_text}
use Rattle.documents.specs.declared.fault.DocumentFault.{DocumentFault}
use Rattle.documents.specs.declared.fault.DocumentFault.TheVariants.{StateRange, OtherRule, SameStamp, NoDocument, Body, Memory}

-- its number in the table of faults
abbrev pub document_fault_number : DocumentFault → ℕ
document_fault_number StateRange = 11
document_fault_number OtherRule = 16
document_fault_number (SameStamp stamp) = 41
document_fault_number NoDocument = 42
document_fault_number (Body fault place) = body_fault_number fault
document_fault_number Memory = 255

-- its name there
abbrev pub document_fault_text : DocumentFault → List ℕ
document_fault_text StateRange = codes "StateRange"
document_fault_text OtherRule = codes "OtherRule"
document_fault_text (SameStamp stamp) = codes "SameStamp"
document_fault_text NoDocument = codes "NoDocument"
document_fault_text (Body fault place) = body_fault_text fault
document_fault_text Memory = codes "Memory"
