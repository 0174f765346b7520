-- What holds of every world after every list of events.
use Rattle.std.proofs.Common.{◌≡◌, ℕ, ◌<◌, ◌≤◌, List, [], ◌∷◌, ◌++◌, refl, sym, ◌∙◌, ap, subst, arith, inl, suc, zero, length, ◌-◌}
use Rattle.std.specs.Prelude.{IsTrue, Ok, Some, slice_get, slice_index_or}
use Rattle.generations_rule.specs.Place.{Place}
use Rattle.generations_rule.specs.Rule.{GenerationsRule}
use Rattle.edit_stamps.specs.Edit.{PlaneEdit, greatest, is_covered, listed, writes_of}
use Rattle.stamped_tree.specs.Plane.{map_of}
use Rattle.stamped_writes.specs.Write.{at_most, greater, AreSame}
use Rattle.edit_stamps.proofs.WriteLaws.{depends_on_members, is_least_upper_bound, is_total, joins_lists}
use Rattle.edit_stamps.proofs.GreatestWrites.{made_by_one}
use Rattle.replica_events.specs.declared.event.Event.{Event}
use Rattle.replica_core.specs.declared.fault.Fault.TheVariants as faults
use Rattle.replica_core.specs.Replica.{ReplicaState}
use Rattle.generation_engine.specs.Universe.{states_in_writes}
use Rattle.export.specs.Export.{IsExport, most_cells}
use Rattle.export.proofs.ExportLaws.{has_one_export}
use Rattle.replica_core.specs.Exporting.{Tells}
use Rattle.replica_core.proofs.ReplyLaws.{one_told}
use Rattle.replica_core.specs.Headline.{Agrees, AnswersAlike, ExportsGreatest, ExportsSameBytes, HasOneEditAStamp, HasOneWinner, HoldsGreatest, IsAt, IsGreatestOf, NeverGoesDown, SendsTexts, WritesSameBytes}
use Rattle.replica_core.specs.World.{History, ReplicaHistory, Sent, IsTextOfSent, after, after_all, message, numbered, opening, replica}
use Rattle.delta_exchange.proofs.StateLaws.{has_one_state_text}
use Rattle.delta_exchange.specs.StateText.{IsStateText}
use Rattle.replica_core.proofs.DrawLaws.{stamp_written}
use Rattle.replica_core.proofs.EventLaws.{keeps_rule}
use Rattle.replica_core.proofs.HistoryLaws.{at_least_one, grows_along, same_ok, some_of_ok, sound_along, sound_opening}
use Rattle.replica_core.proofs.RunLaws.{along_both}
use Rattle.replica_core.proofs.SideBySide.{numbered_at}

rule_along : (w : History) (events : List Event) → (after_all w events).rule ≡ w.rule
rule_along w [] = refl
rule_along w (event ∷ events) = rule_along (after w event) events ∙ keeps_rule w event

-- the rule of a replica is that of its world
held_rule : (rule : GenerationsRule) (n : ℕ) (events : List Event) (r : ℕ) (h : ReplicaHistory) (held : ReplicaState)
    → IsAt rule n events r h held → held.rule ≡ rule
held_rule rule n events r h held at =
    let w : History = after_all (opening rule n) events in
    let one : 1 ≤ r = at_least_one w r h at.history in
    let left : slice_get w.replicas (r - 1) ≡ Some h = sym (numbered_at w.replicas r one) ∙ some_of_ok (numbered w.replicas r) faults.NoReplica h at.history in
    let right : slice_get at.world.replicas (r - 1) ≡ Some held = sym (numbered_at at.world.replicas r one) ∙ at.state in
    (at.stands.replicas.each (r - 1) h held left right).same_rule ∙ rule_along (opening rule n) events

-- the map of a replica is that of the edits that it took
held_map : (rule : GenerationsRule) (n : ℕ) (events : List Event) (r : ℕ) (h : ReplicaHistory) (held : ReplicaState)
    → IsAt rule n events r h held → AreSame (map_of held.plane) (greatest h.taken)
held_map rule n events r h held at =
    let w : History = after_all (opening rule n) events in
    let one : 1 ≤ r = at_least_one w r h at.history in
    let left : slice_get w.replicas (r - 1) ≡ Some h = sym (numbered_at w.replicas r one) ∙ some_of_ok (numbered w.replicas r) faults.NoReplica h at.history in
    let right : slice_get at.world.replicas (r - 1) ≡ Some held = sym (numbered_at at.world.replicas r one) ∙ at.state in
    (at.stands.replicas.each (r - 1) h held left right).map

-- the greatest write of edits is one of theirs, and none is above it
above_each : (edits : List PlaneEdit) (c : Place) (k : ℕ) (d : PlaneEdit) → k < length edits → IsTrue (at_most (writes_of (slice_index_or edits k d) c) (greatest edits c))
above_each [] c k d below = absurd (omega (arith, below))
above_each (e ∷ edits) c zero d below = is_least_upper_bound.left (writes_of e) (greatest edits) c
above_each (e ∷ edits) c (suc k) d below =
    is_total.transitive (writes_of (slice_index_or edits k d) c) (greatest edits c) (greater (writes_of e c) (greatest edits c))
    (above_each edits c k d (omega (arith, below))) (is_least_upper_bound.right (writes_of e) (greatest edits) c)

pub greatest_of : (edits : List PlaneEdit) (c : Place) → IsGreatestOf edits c (greatest edits c)
greatest_of edits c = record {
  above = λ e here. subst (λ x. IsTrue (at_most (writes_of x c) (greatest edits c))) here.2 (above_each edits c here.0 e here.1);
  made = made_by_one edits c;
}

pub holds_greatest : HoldsGreatest
holds_greatest rule n events r h held at c = subst (IsGreatestOf h.taken c) (sym (held_map rule n events r h held at c)) (greatest_of h.taken c)

pub agrees : Agrees
agrees rule other_rule n m events others r s h k held other at there same c =
    held_map rule n events r h held at c ∙ depends_on_members h.taken k.taken same c ∙ sym (held_map other_rule m others s k other there c)

pub exports_greatest : ExportsGreatest
exports_greatest rule n events r h held g answer at is =
    subst (λ t. IsExport t (states_in_writes (greatest h.taken)) g most_cells answer) (held_rule rule n events r h held at)
    (subst (λ f. IsExport held.rule f g most_cells answer) (λ i c. (held_map rule n events r h held at c i).state) is)

pub exports_same_bytes : ExportsSameBytes
exports_same_bytes rule n m events others r s h k held other g a b at at_other same is is_other =
    has_one_export rule (states_in_writes (greatest h.taken)) (states_in_writes (greatest k.taken)) g most_cells a b
    (λ c. ap (λ w. w.state) (depends_on_members h.taken k.taken same c))
    (exports_greatest rule n events r h held g a at is) (exports_greatest rule m others s k other g b at_other is_other)

pub answers_alike : AnswersAlike
answers_alike rule n m events others r s h k held other question a b at there same is is_other =
    let f = states_in_writes (map_of held.plane) in
    let g = states_in_writes (map_of other.plane) in
    let one : f ≡ g = λ i c. (agrees rule rule n m events others r s h k held other at there same c i).state in
    one_told rule f question a b
    (subst (λ t. Tells t f question a) (held_rule rule n events r h held at) is)
    (subst (λ t. Tells t f question b) (held_rule rule m others s k other there) (subst (λ q. Tells other.rule q question b) (sym one) is_other))

pub writes_same_bytes : WritesSameBytes
writes_same_bytes rule n m events others r s h k held other a b at there same one two =
    has_one_state_text rule (map_of held.plane) (map_of other.plane) a b
    (subst (λ g. IsStateText g (map_of held.plane) a) (held_rule rule n events r h held at) one)
    (subst (λ g. IsStateText g (map_of other.plane) b) (held_rule rule m others s k other there) two)
    (agrees rule rule n m events others r s h k held other at there same)

sent_number : (w : History) (m : ℕ) (sent : Sent) → message w m ≡ Ok sent → 1 ≤ m
sent_number w zero sent is = absurd (cc)
sent_number w (suc i) sent is = omega arith

pub sends_texts : SendsTexts
sends_texts rule n events world m sent text stands is there =
    let w : History = after_all (opening rule n) events in
    let one : 1 ≤ m = sent_number w m sent is in
    let left : slice_get w.messages (m - 1) ≡ Some sent = sym (numbered_at w.messages m one) ∙ some_of_ok (numbered w.messages m) faults.NoMessage sent is in
    let right : slice_get world.messages (m - 1) ≡ Some text = sym (numbered_at world.messages m one) ∙ there in
    subst (λ g. IsTextOfSent g sent text) (rule_along (opening rule n) events) (stands.messages.each (m - 1) sent text left right).spelt

pub has_one_edit_a_stamp : HasOneEditAStamp
has_one_edit_a_stamp rule n events e f few inside also same = (sound_along (opening rule n) events (sound_opening rule n few)).one e f inside also same

pub has_one_winner : HasOneWinner
has_one_winner rule n events r h held c e f few at e_here f_here e_wins f_wins some =
    let w : History = after_all (opening rule n) events in
    let own : (x : PlaneEdit) → writes_of x c ≡ map_of held.plane c → x.stamp ≡ (map_of held.plane c).stamp =
    λ x wins. sym (stamp_written x.stamp (listed x.cells c) (is_covered x.area c) (subst (λ v. 0 < v.stamp) (sym wins) some)) ∙ ap (λ v. v.stamp) wins in
    has_one_edit_a_stamp rule n events e f few (inl (r, h, at.history, e_here)) (inl (r, h, at.history, f_here)) (own e e_wins ∙ sym (own f f_wins))

pub never_goes_down : NeverGoesDown
never_goes_down rule n events more r h k held later at after_more c =
    let w : History = after_all (opening rule n) events in
    let grown = grows_along w more r h at.history in
    let now_is : k ≡ grown.now = same_ok (replica (after_all w more) r) k grown.now (ap (λ v. replica v r) (sym (along_both (opening rule n) events more)) ∙ after_more.history) grown.there in
    let taken_is : k.taken ≡ h.taken ++ grown.more = ap (λ x. x.taken) now_is ∙ grown.grown in
    let upper : map_of later.plane c ≡ greater (greatest h.taken c) (greatest grown.more c) =
    held_map rule n (events ++ more) r k later after_more c ∙ ap (λ l. greatest l c) taken_is ∙ joins_lists h.taken grown.more c in
    subst (λ v. IsTrue (at_most v (map_of later.plane c))) (sym (held_map rule n events r h held at c))
    (subst (λ v. IsTrue (at_most (greatest h.taken c) v)) (sym upper) (is_least_upper_bound.left (greatest h.taken) (greatest grown.more) c))
