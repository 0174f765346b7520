use Rattle.std.proofs.Common.{Vec, Global, ◌≡◌, ◌+◌, ◌<◌, ◌++◌, ◌∷◌, [], ℕ, List, Some, length, map, slice_get, refl, sym, ap, subst, ◌∙◌, arith, length-append}
use Rattle.edit_stamps.specs.Edit.{PlaneEdit}
use Rattle.board.specs.declared.entry.Entry.{Entry}
use Rattle.board.specs.Entries.{edits_of}
use Rattle.document_bodies.specs.Counters.{AreNewestOf}
use Rattle.relay_board.specs.Relaying.{Relaying}
use Rattle.relay_board.specs.Seating.{IsSame, Seating}
use Rattle.board_keeper.specs.Loading.{AreGood}
use Rattle.board_keeper.proofs.Growing.{same_on}
use Rattle.board_keeper.proofs.Loads.{edit_fault, edits_more, old_stamp, one_loaded, seat_on, text_at}
use Rattle.board_keeper.proofs.loading.load.Goals as goal

pub returns-in-Err-clause-fault : goal.returns-in-Err-clause-fault
returns-in-Err-clause-fault g c =
    let d = c.args.document in
    let at : ℕ = c.loop-at.at in
    let lt : at < length d.bodies.now = omega (arith, c.loop-at-test.true) in
    let here : slice_get (map (λ v. v.items) d.bodies.now) at ≡ Some c.deref.result.now = text_at d.bodies.now at c.index-document-at.result c.index-document-at.is lt ∙ (ap (λ (t : Vec ℕ Global). Some t.items) c.index-document-at.is ∙ ap Some (sym c.deref.ensures.value)) in
    edit_fault d.rule.now (map (λ v. v.items) d.bodies.now) at c.deref.result.now (edits_of c.loop-at.relay.list) c.in-Err.fault c.loop-at.invariant.good here c.in-Err.ensures.fault

pub returns-then-not-see-clause-fault : goal.returns-then-not-see-clause-fault
returns-then-not-see-clause-fault g c =
    let d = c.args.document in
    let at : ℕ = c.loop-at.at in
    let e : PlaneEdit = c.in-Ok-edit_at.edit in
    let lt : at < length d.bodies.now = omega (arith, c.loop-at-test.true) in
    let here : slice_get (map (λ v. v.items) d.bodies.now) at ≡ Some c.deref.result.now = text_at d.bodies.now at c.index-document-at.result c.index-document-at.is lt ∙ (ap (λ (t : Vec ℕ Global). Some t.items) c.index-document-at.is ∙ ap Some (sym c.deref.ensures.value)) in
    old_stamp d.rule.now (map (λ v. v.items) d.bodies.now) at c.deref.result.now (edits_of c.loop-at.relay.list) e c.stamp-stamp.result c.loop-at.newest c.loop-at.invariant.good here
    c.in-Ok-edit_at.ensures.edit.0 (sym c.stamp-stamp.ensures) c.loop-at.invariant.counters
    (λ less. cc (c.if-not-see.true, c.see.ensures.newer.1 (rw c.stamp-stamp.ensures less)))

pub loop-at-preserved : goal.loop-at-preserved
loop-at-preserved g c =
    let d = c.args.document in
    let at : ℕ = c.loop-at.at in
    let a : Relaying = c.loop-at.relay in
    let b : Relaying = c.brought.new.relay in
    let e : PlaneEdit = c.in-Ok-edit_at.edit in
    let lt : at < length d.bodies.now = omega (arith, c.loop-at-test.true) in
    let here : slice_get (map (λ v. v.items) d.bodies.now) at ≡ Some c.deref.result.now = text_at d.bodies.now at c.index-document-at.result c.index-document-at.is lt ∙ (ap (λ (t : Vec ℕ Global). Some t.items) c.index-document-at.is ∙ ap Some (sym c.deref.ensures.value)) in
    let put = c.in_ok-brought.ensures.put in
    let list : b.list ≡ a.list ++ put.0 ∷ [] = sym c.in_ok-brought.ensures.published ∙ (put.2 ∙ ap (λ (l : List Entry). l ++ put.0 ∷ []) c.loop-at.invariant.mine) in
    let edits : edits_of b.list ≡ edits_of a.list ++ e ∷ [] = edits_more a.list b.list put.0 e list put.1 in
    let less = rw c.stamp-stamp.ensures at (c.see.ensures.newer.0 c.if-not-see.false) in
    let seen = rw c.stamp-stamp.ensures at c.see.ensures.seen in
    let one = one_loaded d.rule.now (map (λ v. v.items) d.bodies.now) at c.deref.result.now (edits_of a.list) e c.loop-at.newest c.see.new.self c.loop-at.invariant.good here
    c.in-Ok-edit_at.ensures.edit.1 c.loop-at.invariant.counters less seen in
    let same = c.in_ok-brought.ensures.same in record {
      same = same_on c.args.relay.now a b c.loop-at.invariant.same same.0;
      file = (seat_on c.args.file.now c.loop-at.file c.brought.new.file c.loop-at.invariant.file.0 same.1, same.2 ∙ c.loop-at.invariant.file.1);
      count = ap length list ∙ (length-append a.list (put.0 ∷ []) ∙ ap (λ n. n + 1) c.loop-at.invariant.count);
      mine = c.in_ok-brought.ensures.published;
      kept = c.in_ok-brought.ensures.left;
      good = subst (AreGood d.rule.now (map (λ v. v.items) d.bodies.now) (at + 1)) (sym edits) one.0;
      counters = subst (λ (l : List PlaneEdit). AreNewestOf l c.see.new.self) (sym edits) one.1;
    }
