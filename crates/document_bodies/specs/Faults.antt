-- The refusals of bodies, as users meet them.
use Rattle.std.specs.Prelude.{ℕ, List, codes}
use Rattle.delta_exchange.specs.Fault.{read_fault_number, read_fault_text}
use Rattle.document_bodies.specs.declared.fault.BodyFault.{BodyFault}
use Rattle.document_bodies.specs.declared.fault.BodyFault.TheVariants.{NoDocument, Read}

-- its number in the table of faults
abbrev pub body_fault_number : BodyFault → ℕ
body_fault_number NoDocument = 42
body_fault_number (Read fault) = read_fault_number fault

-- its name there
abbrev pub body_fault_text : BodyFault → List ℕ
body_fault_text NoDocument = codes "NoDocument"
body_fault_text (Read fault) = read_fault_text fault
