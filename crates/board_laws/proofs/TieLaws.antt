-- A replica that takes edits one by one holds their greatest writes.
use Rattle.std.proofs.Common.{◌≡◌, ℕ, zero, suc, ◌-◌, ◌<◌, ◌≤◌, List, [], ◌∷◌, ◌++◌, length, refl, sym, ap, subst, ◌∙◌, arith}
use Rattle.std.specs.Prelude.{Ok, Result, Some, slice_get, slice_set}
use Rattle.std.specs.Option.{ok_or}
use Rattle.generations_rule.specs.Place.{at_place}
use Rattle.generations_rule.specs.Refusal.{◌>>=◌}
use Rattle.edit_stamps.specs.Edit.{PlaneEdit, greatest, writes_of}
use Rattle.stamped_writes.specs.Write.{greater, unwritten, AreSame, joined}
use Rattle.stamped_tree.specs.Plane.{map_of}
use Rattle.edit_stamps.proofs.WriteLaws.{is_lattice, joins_lists, greater-unwritten}
use Rattle.edit_stamps.proofs.WriteLaws.{depends_on_members}
use Rattle.generation_engine.specs.Universe.{states_in_writes}
use Rattle.export.proofs.ExportLaws.{has_one_export}
use Rattle.replica_events.specs.declared.event.Event.TheVariants.{Deliver}
use Rattle.replica_core.specs.declared.event.Reply.TheVariants as replies
use Rattle.replica_core.specs.declared.fault.Fault.{Fault}
use Rattle.replica_core.specs.declared.fault.Fault.TheVariants as faults
use Rattle.replica_core.specs.Replica.{ReplicaState}
use Rattle.replica_core.specs.World.{Delta, Given, History, ReplicaHistory, after, after_message, changed, delivered, numbered, replica, with_replica}
use Rattle.replica_core.proofs.HeadlineLaws.{exports_greatest}
use Rattle.replica_core.proofs.HistoryLaws.{at_least_one, some_of_ok}
use Rattle.replica_core.proofs.SideBySide.{get_set_here, numbered_at}
use Rattle.export.specs.Export.{most_cells}
use Rattle.board_laws.specs.Ties.{TakesEach, HoldsGreatest, HasMapOfReplica, PublishesAsDelivered, PublishIsDeliver, ViewIsShow, ExportsAsReplica, IsTied}

-- each edit that is taken is joined
takes_all : (r s : ReplicaState) (edits : List PlaneEdit) → TakesEach r edits s → AreSame (map_of s.plane) (joined (map_of r.plane) (greatest edits))
takes_all r s [] same c = ap (λ (t : ReplicaState). map_of t.plane c) same ∙ sym (greater-unwritten (map_of r.plane c))
takes_all r s (e ∷ edits) t c =
    takes_all t.0 s edits t.2 c
    ∙ (ap (λ w. greater w (greatest edits c)) (t.1.map c ∙ ap (greater (map_of r.plane c)) (greater-unwritten (writes_of e c)))
    ∙ is_lattice.associative (map_of r.plane c) (writes_of e c) (greatest edits c))

pub holds_greatest : HoldsGreatest
holds_greatest rule number nodes r s edits new taken c =
    takes_all r s edits taken c
    ∙ (ap (λ w. greater w (greatest edits c)) (new.map c) ∙ (is_lattice.commutative unwritten (greatest edits c) ∙ greater-unwritten (greatest edits c)))

pub has_map : HasMapOfReplica
has_map rule number nodes r s edits plane new taken stands c = stands c ∙ sym (holds_greatest rule number nodes r s edits new taken c)

pub publishes : PublishesAsDelivered
publishes rule number nodes r s t edits e after new taken takes stands c =
    stands c
    ∙ (joins_lists edits (e ∷ []) c
    ∙ (ap (λ w. greater w (greatest (e ∷ []) c)) (sym (holds_greatest rule number nodes r s edits new taken c))
    ∙ sym (takes.map c)))

-- ---- in a world of replicas

-- a place at which something stands is within the list
within : {A : Type 0} (xs : List A) (k : ℕ) (x : A) → slice_get xs k ≡ Some x → k < length xs
within [] k x at = absurd (cc (at))
within (y ∷ xs) zero x at = omega arith
within (y ∷ xs) (suc k) x at = let h = within xs k x at in omega arith

-- what a replica has is what it was given
given : (w : History) (number : ℕ) (h new : ReplicaHistory) → replica w number ≡ Ok h → replica (with_replica w number new) number ≡ Ok new
given w number h new there =
    let one : 1 ≤ number = at_least_one w number h there in
    let at : slice_get w.replicas (number - 1) ≡ Some h = sym (numbered_at w.replicas number one) ∙ some_of_ok (numbered w.replicas number) faults.NoReplica h there in
    ap (λ o. ok_or o faults.NoReplica)
    (numbered_at (slice_set w.replicas (number - 1) new) number one ∙ get_set_here w.replicas (number - 1) new (within w.replicas (number - 1) h at))

pub delivers : PublishIsDeliver
delivers w m number edits e is sent =
    let new : ReplicaHistory = after_message is.history (Delta (e ∷ [])) in
    let found : delivered w m number ≡ Ok new = λ i. sent i >>= (λ s. is.there i >>= (λ h. Ok (after_message h s))) in
    let now : after w (Deliver m number) ≡ with_replica w number new = ap (λ (o : Result ReplicaHistory Fault). changed w o (λ h. with_replica w number h)) found in record {
      history = new;
      there = ap (λ (v : History). replica v number) now ∙ given w number is.history new is.there;
      taken = ap (λ l. l ++ e ∷ []) is.taken;
    }

pub shows : ViewIsShow
shows w number edits x y seen is sees =
    let told : replies.Shown seen ≡ replies.Shown (greatest is.history.taken (at_place x y)) = ap replies.Shown (sees ∙ ap (λ l. greatest l (at_place x y)) (sym is.taken)) in (
      subst (λ (o : Result ReplicaHistory Fault). Given o (replies.Shown seen) (λ h. replies.Shown seen ≡ replies.Shown (greatest h.taken (at_place x y)))) (sym is.there) told,
      refl,
    )

pub exports : ExportsAsReplica
exports rule n events number h held edits plane g a b at same stands is is_other =
    has_one_export rule (states_in_writes (map_of plane)) (states_in_writes (greatest h.taken)) g most_cells a b
    (λ c. ap (λ w. w.state) (stands c ∙ depends_on_members edits h.taken same c))
    is (exports_greatest rule n events number h held g b at is_other)

pub is_tied : IsTied
is_tied = record { greatest = holds_greatest; map = has_map; publishes = publishes; delivers = delivers; shows = shows; exports = exports }
