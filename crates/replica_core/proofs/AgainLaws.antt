-- An edit that stands in the journal is taken once more, and nothing changes.
use Rattle.std.proofs.Common.{◌≡◌, ℕ, zero, suc, ◌<◌, ◌≤◌, List, [], ◌∷◌, length, Some, refl, sym, subst, ◌∙◌, ap, arith}
use Rattle.std.specs.Prelude.{◌↔◌, Bool, IsTrue, None, false, get_or, slice_get}
use Rattle.std.specs.List.{AllByRecursion, Contains}
use Rattle.std.proofs.lemmas.Option.{get_or_from_slice_get, slice_get_past, slice_get_read, slice_get_within}
use Rattle.edit_stamps.specs.Edit.{PlaneEdit, greatest, has_states_below, is_edit, writes_of}
use Rattle.edit_stamps.specs.OneEdit.{tells_edits}
use Rattle.edit_stamps.proofs.WriteLaws.{greater-unwritten, is_lattice, is_least_upper_bound}
use Rattle.edit_journal.proofs.NotedLaws.{noted_all}
use Rattle.stamped_tree.specs.Plane.{map_of}
use Rattle.stamped_writes.specs.Write.{AreSame, IsBelow, Writes, greater, joined}
use Rattle.delta_exchange.specs.Delta.{AreTellable}
use Rattle.delta_exchange.specs.declared.message.Content.TheVariants.{Edits}
use Rattle.replica_core.specs.Replica.{IsReplica, ReplicaState, Takes}
use Rattle.replica_core.proofs.HistoryLaws.{only_one}
use Rattle.replica_core.proofs.SideBySide.{some_is}

at_place : (journal : List PlaneEdit) (place : ℕ) (e : PlaneEdit) → slice_get journal place ≡ Some e → Contains journal e
at_place journal place e is = (place, slice_get_within journal place e is, get_or_from_slice_get journal place e e is)

-- what an edit writes that is below a map is joined into it, and the map stays
joined_again : (p : Writes) (e : PlaneEdit) → IsBelow (writes_of e) p → AreSame p (joined p (greatest (e ∷ [])))
joined_again p e below c =
    sym (ap (greater (p c)) (greater-unwritten (writes_of e c)) ∙ is_lattice.commutative (p c) (writes_of e c) ∙ (is_least_upper_bound.absorbs (writes_of e) p).0 below c)

pub taken_again : (r : ReplicaState) (place : ℕ) (e : PlaneEdit) → IsReplica r → slice_get r.journal place ≡ Some e → Takes r r (Edits (e ∷ []))
taken_again r place e is there =
    let has = at_place r.journal place e there in
    record {
      one = record { rule = refl; number = refl; room = refl };
      map = joined_again (map_of r.plane) e (is.journal.held e has);
      journal = sym (noted_all r.journal (e ∷ []) (λ f alone. subst (Contains r.journal) (sym (only_one e f alone)) has));
    }

all_at : {X : Type 0} (P : X → Type 0) (xs : List X) (place : ℕ) (x : X) → AllByRecursion P xs → slice_get xs place ≡ Some x → P x
all_at P [] place x all there = absurd (omega (arith, slice_get_within [] place x there))
all_at P (y ∷ xs) zero x all there = subst P (some_is there) all.0
all_at P (y ∷ xs) (suc place) x all there = all_at P xs place x all.1 there

pub tellable_at : (r : ReplicaState) (place : ℕ) (e : PlaneEdit) → IsReplica r → slice_get r.journal place ≡ Some e → AreTellable r.rule.states (e ∷ [])
tellable_at r place e is there = record {
  edits_are = (is.journal.edits e (at_place r.journal place e there), tt);
  below = (all_at (λ f. IsTrue (has_states_below r.rule.states f)) r.journal place e is.noted there, tt);
  count = omega arith;
}

-- whether the edit at a place is another, by the test of two edits
pub told_at : (listed journal : List PlaneEdit) (place : ℕ) (there e : PlaneEdit) (same : Bool) → listed ≡ journal → same ≡ is_edit there e → place < length listed → there ≡ get_or listed place there
    → IsTrue same ↔ (slice_get journal place ≡ Some e)
told_at listed journal place there e same are is inside at =
    let here : slice_get journal place ≡ Some there = ap (λ edits. slice_get edits place) (sym are) ∙ slice_get_read listed (length listed) place there refl inside at in
    (λ t. here ∙ ap Some ((tells_edits there e).0 (sym is ∙ t)), λ found. is ∙ (tells_edits there e).1 (some_is (sym here ∙ found)))

none_is : (e : PlaneEdit) → None ≡ Some e → IsTrue false
none_is e is = absurd cc

-- behind its end there is none
pub none_at : (listed journal : List PlaneEdit) (place : ℕ) (e : PlaneEdit) → listed ≡ journal → length listed ≤ place → IsTrue false ↔ (slice_get journal place ≡ Some e)
none_at listed journal place e are past = (λ t. absurd cc, λ found. none_is e (sym (slice_get_past listed place past) ∙ ap (λ edits. slice_get edits place) are ∙ found))
