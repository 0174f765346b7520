-- What a body of a document is read as.
use Rattle.std.specs.Prelude.{◌≡◌, ℕ, List, [], ◌∷◌, Result, Ok, Err}
use Rattle.generations_rule.specs.Rule.{GenerationsRule}
use Rattle.edit_stamps.specs.Edit.{PlaneEdit}
use Rattle.delta_exchange.specs.Reading.{delta_of}
use Rattle.delta_exchange.specs.declared.fault.ReadFault.{ReadFault}
use Rattle.delta_exchange.specs.declared.fault.ReadFault.TheVariants as read
use Rattle.document_bodies.specs.declared.fault.BodyFault.{BodyFault}
use Rattle.document_bodies.specs.declared.fault.BodyFault.TheVariants as body

-- a refusal of the message, as that of the body
abbrev pub body_fault_of : ReadFault → BodyFault
body_fault_of fault = body.Read fault

-- the edit of a message of just one
abbrev pub single : List PlaneEdit → Result PlaneEdit BodyFault
single [] = Err body.NoDocument
single (e ∷ []) = Ok e
single (e ∷ f ∷ edits) = Err body.NoDocument

abbrev pub of_message : Result (List PlaneEdit) ReadFault → Result PlaneEdit BodyFault
of_message (Ok edits) = single edits
of_message (Err fault) = Err (body.Read fault)

-- the edit that a body behind the head tells, or why it tells none
abbrev pub edit_of : GenerationsRule → List ℕ → Result PlaneEdit BodyFault
edit_of r text = of_message (delta_of r text)

-- want of memory, which is no part of what a body means
abbrev pub IsWant : BodyFault → Type 0
IsWant fault = fault ≡ body.Read read.Memory
