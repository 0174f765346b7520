-- The bodies of a file that holds a document: its rule, and its edits.
use Rattle.std.specs.Prelude.{◌≡◌, ◌⊎◌, ◌<◌, ◌^◌, ℕ, List, [], ◌∷◌, length, map}
use mathlib.Core.List.{IsPrefix}
use Rattle.generations_rule.specs.Rule.{GenerationsRule, IsRule}
use Rattle.edit_stamps.specs.Edit.{PlaneEdit}
use Rattle.delta_exchange.specs.Delta.{AreTellable}
use Rattle.delta_exchange.specs.Spelling.{delta_text}

-- the first body: the delta of no edit, which names the rule and tells that this is a document
abbrev pub head_body : GenerationsRule → List ℕ
head_body r = delta_text r []

-- each further one: the delta of one edit
abbrev pub edit_body : GenerationsRule → PlaneEdit → List ℕ
edit_body r e = delta_text r (e ∷ [])

abbrev pub edit_bodies : GenerationsRule → List PlaneEdit → List (List ℕ)
edit_bodies r edits = map (edit_body r) edits

-- all bodies of a document
abbrev pub bodies_of : GenerationsRule → List PlaneEdit → List (List ℕ)
bodies_of r edits = head_body r ∷ edit_bodies r edits

-- each is an edit whose states the rule has
abbrev pub AreEditsUnder : GenerationsRule → List PlaneEdit → Type 0
AreEditsUnder r [] = Unit {0}
AreEditsUnder r (e ∷ edits) = AreTellable r.states (e ∷ []) × AreEditsUnder r edits

-- a body is the head of a document under some rule
abbrev pub IsHead : List ℕ → Type 0
IsHead body = (r : GenerationsRule) × IsRule r × (body ≡ head_body r)

-- What bodies obey.
pub record AreBodyLaws : Type 0 where
  -- a document has one list of bodies, and those of different documents are different
  pub one : (q r : GenerationsRule) (a b : List PlaneEdit) → IsRule q → IsRule r → AreEditsUnder q a → AreEditsUnder r b → bodies_of q a ≡ bodies_of r b → (q ≡ r) × (a ≡ b)
  -- the first bodies of a document are none, or those of its first edits
  pub first : (r : GenerationsRule) (edits : List PlaneEdit) (got : List (List ℕ)) → IsPrefix got (bodies_of r edits) → (got ≡ []) ⊎ ((some : List PlaneEdit) × IsPrefix some edits × (got ≡ bodies_of r some))
  -- where the bodies of one document begin those of another, its edits begin the other's
  pub begins : (r : GenerationsRule) (a b : List PlaneEdit) → IsRule r → AreEditsUnder r a → AreEditsUnder r b → IsPrefix (bodies_of r a) (bodies_of r b) → IsPrefix a b
  -- the body of an edit is short enough for a record and for a frame
  pub short : (r : GenerationsRule) (e : PlaneEdit) → IsRule r → AreTellable r.states (e ∷ []) → length (edit_body r e) < 2 ^ 24
  pub short_head : (r : GenerationsRule) → IsRule r → length (head_body r) < 2 ^ 24
