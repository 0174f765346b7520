-- What a replica holds of a list's edits.
use Rattle.std.proofs.Common.{◌≡◌, ◌∙◌, ℕ, zero, suc, Bool, true, false, List, [], ◌∷◌, refl, sym, subst, arith, inl, inr}
use Rattle.std.specs.Prelude.{IsTrue, Option, Some, None, slice_get}
use Rattle.std.specs.List.{AllByRecursion, Contains}
use Rattle.std.proofs.lemmas.List.Elements.{Contains-append_right}
use Rattle.generations_rule.specs.Place.{Place}
use Rattle.generations_rule.specs.Rule.{GenerationsRule, IsRule}
use Rattle.edit_stamps.specs.Edit.{PlaneEdit, HaveStatesBelow, IsEdit, greatest, is_covered, listed, write_by, writes_of}
use Rattle.edit_stamps.specs.Stamp.{is_stamp}
use Rattle.edit_stamps.specs.PlaneMap.{is_plane_write}
use Rattle.edit_stamps.proofs.GreatestWrites.{made_by_one}
use Rattle.edit_stamps.proofs.StateLaws.{greatest_below}
use Rattle.stamped_writes.specs.declared.write.Write.{Write}
use Rattle.stamped_tree.proofs.OnPlaneLaws.{edit_inside}
use Rattle.delta_exchange.specs.Delta.{AreTellable}
use Rattle.delta_exchange.specs.State.{IsTellableMap}
use Rattle.replica_core.specs.World.{IsEditUnder}

-- what holds of each element holds of all
pub all_each : {X : Type 0} (P : X → Type 0) (xs : List X) → ((x : X) → Contains xs x → P x) → AllByRecursion P xs
all_each P [] each = tt
all_each P (x ∷ xs) each = (each x (0, omega arith, refl), all_each P xs (λ y here. each y (Contains-append_right (x ∷ []) xs y here)))

-- an element that stands at a place is one
pub contains_at : {X : Type 0} (xs : List X) (at : ℕ) (x : X) → slice_get xs at ≡ Some x → Contains xs x
contains_at [] zero x here = absurd cc
contains_at [] (suc at) x here = absurd cc
contains_at (y ∷ xs) zero x here = (0, omega arith, cc)
contains_at (y ∷ xs) (suc at) x here = let found = contains_at xs at x here in (suc found.0, omega (arith, found.1), found.2)

-- one edit of a rule can be told
pub tellable : (r : GenerationsRule) (e : PlaneEdit) → IsEditUnder r e → AreTellable r.states (e ∷ [])
tellable r e is = record { edits_are = (is.edit, tt); below = (is.states, tt); count = omega arith }

-- ---- the map of some edits

states_each : (r : GenerationsRule) (edits : List PlaneEdit) → AllByRecursion (IsEditUnder r) edits → HaveStatesBelow r.states edits
states_each r [] are = tt
states_each r (e ∷ edits) are = (are.0.states, states_each r edits are.1)

-- an edit writes its stamp, or nothing
by_stamp : (stamp : ℕ) (o : Option ℕ) (covered : Bool) → is_stamp stamp ≡ true → is_plane_write (write_by stamp o covered) ≡ true
by_stamp stamp (Some state) covered is = rw is refl
by_stamp stamp None true is = rw is refl
by_stamp stamp None false is = refl

write_stamped : (e : PlaneEdit) (c : Place) → IsEdit e → IsTrue (is_plane_write (writes_of e c))
write_stamped e c is = by_stamp e.stamp (listed e.cells c) (is_covered e.area c) is.stamp

-- the map of edits of a rule can be told
pub map_tellable : (r : GenerationsRule) (edits : List PlaneEdit) → IsRule r → ((e : PlaneEdit) → Contains edits e → IsEditUnder r e) → IsTellableMap r.states (greatest edits)
map_tellable r edits rule each = record {
  below = greatest_below r.states edits (omega (arith, rule.least)) (states_each r edits (all_each (IsEditUnder r) edits each));
  stamped = λ c. elim (made_by_one edits c) [
    | inl nothing ↦ subst (λ (w : Write). IsTrue (is_plane_write w)) (sym nothing) refl
    | inr by ↦ subst (λ (w : Write). IsTrue (is_plane_write w)) by.2 (write_stamped by.0 c (each by.0 by.1).edit)
  ];
  inside = λ c out. elim (made_by_one edits c) [
    | inl nothing ↦ nothing
    | inr by ↦ sym by.2 ∙ edit_inside by.0 (each by.0 by.1).edit c out
  ];
}
