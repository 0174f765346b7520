-- What a client's replica stands for.
use Rattle.std.proofs.Common.{◌≡◌, ◌≤◌, ◌<◌, ℕ, max, ◌+◌, Bool, true, false, List, [], ◌∷◌, ◌++◌, Result, Ok, Err, refl, sym, ap, subst, ◌∙◌, arith, append-nil, append_assoc}
use Rattle.std.specs.Prelude.{IsTrue, not, nat_lt}
use Rattle.generations_rule.specs.Refusal.{unless, when, ◌>>=◌}
use Rattle.generations_rule.specs.Rule.{GenerationsRule}
use Rattle.edit_stamps.specs.Edit.{PlaneEdit, greatest, writes_of}
use Rattle.edit_stamps.specs.Stamp.{counter_in, last_counter, stamp_of}
use Rattle.edit_stamps.proofs.ClockLaws.{stamp_in}
use Rattle.stamped_writes.specs.Write.{at_most}
use Rattle.delta_exchange.specs.Delta.{AreTellable}
use Rattle.delta_exchange.specs.Spelling.{delta_text}
use Rattle.delta_exchange.specs.State.{IsTellableMap}
use Rattle.delta_exchange.specs.Versions.{IsReadableStateText}
use Rattle.replica_core.specs.declared.fault.Fault.{Fault}
use Rattle.replica_core.specs.declared.fault.Fault.TheVariants as faults
use Rattle.replica_core.specs.Peers.{HoldsEdits}
use Rattle.replica_core.specs.Replica.{ReplicaState, edit_drawn, made, or_edit_fault, stamp_after}
use Rattle.replica_core.proofs.DrawLaws.{made_stamp}
use Rattle.replica_core.proofs.HeadlineLaws.{greatest_of}
use Rattle.replica_core.proofs.PeerLaws.{holds_what_it_took}
use Rattle.replica_events.specs.declared.edit_spec.EditSpec.{EditSpec}
use Rattle.stamped_tree.specs.Plane.{map_of}
use Rattle.frame_line.specs.Receiving.{bytes_in}
use Rattle.board_client.specs.Hearing.{AreTaken, IsTaken}
use Rattle.board_client.specs.Laws.{DrawsAbove, HoldsWhatItHeard, TellEdits}

-- ---- what is held

pub taken_edits : (rule : GenerationsRule) (E F : List PlaneEdit) (texts : List (List ℕ)) (r s : ReplicaState) → HoldsEdits rule E r → AreTaken r texts s → TellEdits rule F texts → HoldsEdits rule (E ++ F) s
taken_edits rule E [] [] r s held taken told = subst (λ F. HoldsEdits rule F s) (sym (append-nil E)) (subst (HoldsEdits rule E) (sym taken) held)
taken_edits rule E [] (text ∷ texts) r s held taken told = absurd told
taken_edits rule E (e ∷ F) [] r s held taken told = absurd told
taken_edits rule E (e ∷ F) (text ∷ texts) r s held taken told =
    let one : IsTaken r text taken.0 = taken.1 in
    let tellable = subst (λ g. AreTellable g.states (e ∷ [])) (sym held.same_rule) told.0 in
    let spelt : text ≡ delta_text r.rule (e ∷ []) = told.1 ∙ ap (λ g. delta_text g (e ∷ [])) (sym held.same_rule) in
    let next = holds_what_it_took.edits rule E (e ∷ []) r taken.0 held (one.edits (e ∷ []) tellable spelt) in
    subst (λ F. HoldsEdits rule F s) (append_assoc E (e ∷ []) F) (taken_edits rule (E ++ e ∷ []) F texts taken.0 s next taken.2 told.2)

pub taken_plane : (rule : GenerationsRule) (E F : List PlaneEdit) (text : List ℕ) (r s : ReplicaState) → HoldsEdits rule E r → IsTaken r text s → IsTellableMap rule.states (greatest F)
    → IsReadableStateText rule (greatest F) text → HoldsEdits rule (E ++ F) s
taken_plane rule E F text r s held taken tellable spelt =
    holds_what_it_took.map rule E F r s (greatest F) held (λ c. refl)
    (taken.map (greatest F) (subst (λ g. IsTellableMap g.states (greatest F)) (sym held.same_rule) tellable) (subst (λ g. IsReadableStateText g (greatest F) text) (sym held.same_rule) spelt))

pub holds_what_it_heard : HoldsWhatItHeard
holds_what_it_heard = record {
  edits = λ said rule E F count a b r s held p told. taken_edits rule E F p.texts r s held p.taken told;
  whole = λ said rule E F a b r s held p tellable spelt. taken_plane rule E F p.text r s held p.taken tellable spelt;
  pieces = λ rule E F a b r s held p tellable spelt. taken_plane rule E F (bytes_in p.pieces) r s held p.taken tellable spelt;
  drawn = λ rule E e a b r s held p. holds_what_it_took.edits rule E (e ∷ []) r s held p.1;
  drawn_behind = λ rule E e a b r s held p. holds_what_it_took.edits rule E (e ∷ []) r s held p.1;
}

-- ---- counters

-- the stamp and the edit of a drawing that nothing refuses
drawn_as : (next : Result ℕ Fault) (g : GenerationsRule) (spec : EditSpec) (e : PlaneEdit) → (next >>= (λ stamp. or_edit_fault (made g stamp spec))) ≡ Ok e
    → (stamp : ℕ) × (next ≡ Ok stamp) × (or_edit_fault (made g stamp spec) ≡ Ok e)
drawn_as (Ok stamp) g spec e is = (stamp, refl, is)
drawn_as (Err fault) g spec e is = absurd cc

stamp_is : (counter number stamp : ℕ) (b : Bool) → unless (when (not b) faults.ClockFull) (stamp_of (counter + 1) number) ≡ Ok stamp → stamp ≡ stamp_of (counter + 1) number
stamp_is counter number stamp true is = cc
stamp_is counter number stamp false is = absurd cc

-- a drawing's counter is above the one that it was made behind
past : (g : GenerationsRule) (counter number : ℕ) (spec : EditSpec) (e : PlaneEdit) → edit_drawn g counter number spec ≡ Ok e → counter < counter_in e.stamp
past g counter number spec e drawn =
    let at = drawn_as (stamp_after counter number) g spec e drawn in
    let own : e.stamp ≡ stamp_of (counter + 1) number = made_stamp g at.0 spec e at.2 ∙ stamp_is counter number at.0 (nat_lt counter last_counter) at.1 in
    one_more counter e.stamp number own where
      one_more : (counter stamp number : ℕ) → stamp ≡ stamp_of (counter + 1) number → counter < counter_in stamp
      one_more counter stamp number is = omega arith

counters : (held after n stamp : ℕ) → held ≤ n → max after (counter_in n) < counter_in stamp → counter_in held < counter_in stamp
counters held after n stamp below is = omega arith

given : (after n stamp : ℕ) → max after n < stamp → after < stamp
given after n stamp is = omega arith

pub draws_above : DrawsAbove
draws_above = record {
  given = λ rule number after n spec e drawn. given after (counter_in n) (counter_in e.stamp) (past rule (max after (counter_in n)) number spec e drawn);
  above = λ rule E r after n spec e held h greatest_is drawn here edit.
      let below : held.stamp ≤ n = stamp_in held (map_of r.plane) n edit (λ c. subst (λ w. IsTrue (at_most (writes_of held c) w)) (sym (h.map c)) ((greatest_of E c).above held here)) greatest_is in
      counters held.stamp after n e.stamp below (past r.rule (max after (counter_in n)) r.number spec e drawn);
}
