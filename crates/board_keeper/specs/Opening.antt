-- Which files are opened for a board.
use Rattle.std.specs.Prelude.{◌≡◌, ◌≢◌, ℕ, List, [], Option, Some, None, Vec}
use Rattle.std.specs.declared.alloc.Global.{Global}
use Rattle.generations_rule.specs.Rule.{GenerationsRule}
use Rattle.document_bodies.specs.Bodies.{IsHead, head_body}
use Rattle.board_keeper.specs.declared.opening.HeadFault.{HeadFault}
use Rattle.board_keeper.specs.declared.opening.HeadFault.TheVariants as fault

-- it has the head of a document under this rule; or no body at all
abbrev pub HasHead : GenerationsRule → Option (Vec ℕ Global) → List (Vec ℕ Global) → Type 0
HasHead r (Some head) bodies = head.items ≡ head_body r
HasHead r None bodies = bodies ≡ []

-- why a file of this first body, if it has one, names no rule where this one is given, or none
abbrev pub IsHeadFault : Option GenerationsRule → Option (List ℕ) → HeadFault → Type 0
IsHeadFault asked head fault.NoRule = (head ≡ None) × (asked ≡ None)
IsHeadFault asked head fault.NoDocument = (body : List ℕ) × (head ≡ Some body) × (¬ IsHead body)
IsHeadFault asked head fault.OtherRule = (a : GenerationsRule) × (r : GenerationsRule) × (asked ≡ Some a) × (head ≡ Some (head_body r)) × (a ≢ r)
IsHeadFault asked head fault.Memory = Unit {0}
