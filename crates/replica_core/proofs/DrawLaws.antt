-- A draw: the stamp of what is drawn, which cells it wins, and what a refusal says.
use Rattle.std.proofs.Common.{◌≡◌, ◌≢◌, ◌⊎◌, ℕ, ◌+◌, ◌<◌, ◌≤◌, Bool, true, false, [], ◌∷◌, ◌++◌, refl, sym, ◌∙◌, ap, arith, inl, inr}
use Rattle.std.specs.Prelude.{IsTrue, Option, Some, None, Result, Ok, Err, nat_lt, not}
use Rattle.std.specs.Result.{IsOk}
use Rattle.std.proofs.lemmas.Bool.Decides.{nat_tests}
use Rattle.generations_rule.specs.Refusal.{◌>>=◌, when, unless}
use Rattle.generations_rule.specs.Rule.{GenerationsRule}
use Rattle.edit_stamps.specs.declared.fault.EditFault.{EditFault}
use Rattle.stamped_writes.specs.declared.write.Write.{Write}
use Rattle.edit_stamps.specs.Edit.{has_states_below, PlaneEdit, is_covered, listed, write_by, writes_of}
use Rattle.edit_stamps.specs.Making.{cells_fault, settled}
use Rattle.edit_stamps.specs.Pasting.{box_of, clear_fault, copy_fault, or_fault, placed}
use Rattle.edit_stamps.specs.PlaneMap.{IsGreatestStamp}
use Rattle.stamped_tree.specs.Plane.{map_of}
use Rattle.edit_stamps.specs.Stamp.{counter_in, last_counter, stamp_of}
use Rattle.stamped_writes.specs.Write.{AreSame, greater, joined}
use Rattle.delta_exchange.specs.declared.message.Content.TheVariants.{Edits}
use Rattle.replica_core.specs.declared.fault.Fault.{Fault}
use Rattle.replica_core.specs.declared.fault.Fault.TheVariants as faults
use Rattle.replica_events.specs.declared.edit_spec.EditSpec.{EditSpec}
use Rattle.replica_events.specs.declared.edit_spec.EditSpec.TheVariants.{Cells, Copy, Or, Clear}
use Rattle.replica_core.specs.Fault.{IsWant}
use Rattle.replica_core.specs.Replica.{ReplicaState, IsDraw, IsOneReplica, IsUnchanged, MeetsWant, edit_drawn, made, or_edit_fault, stamp_after}

-- ---- what is made

-- what is made, where nothing is refused
made_is : (fault : Option EditFault) (kept e : PlaneEdit) → or_edit_fault (unless fault kept) ≡ Ok e → kept ≡ e
made_is None kept e is = cc
made_is (Some fault) kept e is = absurd (cc)

-- an edit has the stamp with which it was made
pub made_stamp : (g : GenerationsRule) (stamp : ℕ) (spec : EditSpec) (e : PlaneEdit) → or_edit_fault (made g stamp spec) ≡ Ok e → e.stamp ≡ stamp
made_stamp g stamp (Cells cells) e is =
    sym (ap (λ x. x.stamp) (made_is (cells_fault g.states cells) (record { stamp = stamp; area = None; cells = settled cells }) e is))
made_stamp g stamp (Copy p x y) e is =
    sym (ap (λ x. x.stamp) (made_is (copy_fault g.states (box_of p x y) (placed x y p.cells)) (record { stamp = stamp; area = Some (box_of p x y); cells = placed x y p.cells }) e is))
made_stamp g stamp (Or p x y) e is =
    sym (ap (λ x. x.stamp) (made_is (or_fault g.states (placed x y p.cells)) (record { stamp = stamp; area = None; cells = placed x y p.cells }) e is))
made_stamp g stamp (Clear area) e is =
    sym (ap (λ x. x.stamp) (made_is (clear_fault area) (record { stamp = stamp; area = Some area; cells = [] }) e is))

-- ---- which cells an edit wins

-- a write of an edit has its stamp
pub stamp_written : (stamp : ℕ) (o : Option ℕ) (covered : Bool) → 0 < (write_by stamp o covered).stamp → (write_by stamp o covered).stamp ≡ stamp
stamp_written stamp (Some state) covered some = refl
stamp_written stamp None true some = refl
stamp_written stamp None false some = absurd (omega (arith, some))

wins_above : (v w : Write) → v.stamp < w.stamp → greater v w ≡ w
wins_above v w above = let less : nat_lt v.stamp w.stamp ≡ true = grind (arith, nat_tests, above) in rw less refl

-- the next stamp is above the greatest
above_greatest : (n number stamp : ℕ) (b : Bool) → unless (when (not b) faults.ClockFull) (stamp_of (counter_in n + 1) number) ≡ Ok stamp → n < stamp
above_greatest n number stamp true is = let same : stamp_of (counter_in n + 1) number ≡ stamp = cc in omega (arith, same)
above_greatest n number stamp false is = absurd (cc)

-- so is that of the edit that is made with it
pub next_above : (n number stamp : ℕ) (g : GenerationsRule) (spec : EditSpec) (e : PlaneEdit) → stamp_after (counter_in n) number ≡ Ok stamp
    → or_edit_fault (made g stamp spec) ≡ Ok e → n < e.stamp
next_above n number stamp g spec e next is =
    omega (arith, above_greatest n number stamp (nat_lt (counter_in n) last_counter) next, made_stamp g stamp spec e is)

-- ---- what a draw answers

pub draws : (old new : ReplicaState) (n stamp : ℕ) (spec : EditSpec) (e : PlaneEdit)
    → IsGreatestStamp n (map_of old.plane) → stamp_after (counter_in n) old.number ≡ Ok stamp → or_edit_fault (made old.rule stamp spec) ≡ Ok e
    → IsTrue (has_states_below old.rule.states e)
    → IsOneReplica old new → AreSame (map_of new.plane) (joined (map_of old.plane) (writes_of e)) → new.journal ≡ old.journal ++ e ∷ []
    → IsDraw old new (edit_drawn old.rule (counter_in n) old.number spec) (Ok e)
draws old new n stamp spec e greatest_is next is states one map journal = (
  ap (λ s. s >>= (λ stamp. or_edit_fault (made old.rule stamp spec))) next ∙ is,
  record {
    one = one;
    states = states;
    map = map;
    journal = journal;
    wins = λ c some. map c ∙ wins_above (map_of old.plane c) (writes_of e c) (
        let above : n < stamp = above_greatest n old.number stamp (nat_lt (counter_in n) last_counter) next in
        let mine : (writes_of e c).stamp ≡ stamp = stamp_written e.stamp (listed e.cells c) (is_covered e.area c) some ∙ made_stamp old.rule stamp spec e is in
        let held : (map_of old.plane c).stamp ≤ n = greatest_is.above c in
        omega (arith, above, mine, held)
        );
  },
)

-- a draw that was refused memory or room
pub stops : (old new : ReplicaState) (n stamp : ℕ) (spec : EditSpec) (e : PlaneEdit) (fault : Fault)
    → stamp_after (counter_in n) old.number ≡ Ok stamp → or_edit_fault (made old.rule stamp spec) ≡ Ok e
    → MeetsWant old new (λ content. content ≡ Edits (e ∷ [])) fault → IsDraw old new (edit_drawn old.rule (counter_in n) old.number spec) (Err fault)
stops old new n stamp spec e fault next is want =
    inl (e, ap (λ s. s >>= (λ stamp. or_edit_fault (made old.rule stamp spec))) next ∙ is, want)

-- a replica that nothing was done to
pub unchanged : (r : ReplicaState) → IsUnchanged r r
unchanged r = record { one = record { rule = refl; number = refl; room = refl }; map = λ c. refl; journal = refl }

-- an edit that the maker means is one that the draw means
wants : (r : ReplicaState) (meant : Result PlaneEdit Fault) (made_now : Result PlaneEdit EditFault) (fault : Fault) → IsWant fault
    → fault ≢ faults.StoreFull → meant ≡ or_edit_fault made_now → IsOk made_now → IsDraw r r meant (Err fault)
wants r meant (Ok e) fault want roomy is ok =
    inl (e, is, record { want = want; unchanged = unchanged r; full = λ same. absurd (roomy same) })
wants r meant (Err refusal) fault want roomy is ok = absurd (cc)

-- a refusal of the maker is one of the draw
pub refuses : (r : ReplicaState) (meant : Result PlaneEdit Fault) (made_now : Result PlaneEdit EditFault) (fault : Fault) → meant ≡ or_edit_fault made_now
    → IsWant fault ⊎ (or_edit_fault made_now ≡ Err fault) → (IsWant fault → IsOk made_now) → fault ≢ faults.StoreFull → IsDraw r r meant (Err fault)
refuses r meant made_now fault is (inl want) last roomy = wants r meant made_now fault want roomy is (last want)
refuses r meant made_now fault is (inr same) last roomy = inr (is ∙ same, refl)

pub refuses_made : (r : ReplicaState) (n stamp : ℕ) (spec : EditSpec) (fault : Fault)
    → stamp_after (counter_in n) r.number ≡ Ok stamp → IsWant fault ⊎ (or_edit_fault (made r.rule stamp spec) ≡ Err fault)
    → (IsWant fault → IsOk (made r.rule stamp spec)) → fault ≢ faults.StoreFull → IsDraw r r (edit_drawn r.rule (counter_in n) r.number spec) (Err fault)
refuses_made r n stamp spec fault next told last roomy =
    refuses r (edit_drawn r.rule (counter_in n) r.number spec) (made r.rule stamp spec) fault
    (ap (λ s. s >>= (λ stamp. or_edit_fault (made r.rule stamp spec))) next) told last roomy
