use Rattle.std.proofs.Common.{◌≡◌, ◌<◌, ◌∷◌, ◌++◌, ◌∙◌, [], true, refl, sym, ap, subst, length, Some}
use Rattle.std.specs.Prelude.{slice_get, IfNone, if◌then◌else◌}
use Rattle.std.proofs.lemmas.Option.{slice_get_within}
use Rattle.square_store.specs.Steps.{IsAbsentLeaf, LeafAdded}
use Rattle.square_store.proofs.Lists.{any_missing, missing_any, missing_place}
use Rattle.square_store.proofs.Nodes.{not_full, good_leaf, was_absent, was_there, entered_found, absent_unfound, not_memory, not_store_full, on_each}
use Rattle.square_store.proofs.store.Store.enter_leaf.Goals as goal

pub returns-in_default-clause-absent : goal.returns-in_default-clause-absent
returns-in_default-clause-absent g c =
    let eq = g.L.PartialEq.eq in
    rw (← c.self.view_is) (any_missing eq (λ a b. (g.met.L.LeafKind.same a b, λ e. subst (λ z. eq a z ≡ true) e (g.met.L.Eq.laws.refl a))) c.args.leaf c.self.inside.leaves.keys c.in_default.ensures.absent)

pub invariant_of-self-then-is_new : goal.invariant_of-self-then-is_new
invariant_of-self-then-is_new g c =
    let s = c.self.inside in
    let eq = g.L.PartialEq.eq in
    let absent = any_missing eq (λ a b. (g.met.L.LeafKind.same a b, λ e. subst (λ z. eq a z ≡ true) e (g.met.L.Eq.laws.refl a))) c.args.leaf s.leaves.keys (was_absent _ _ c.in-Ok.ensures.added c.if-is_new.true) in
    let below : length s.squares.nodes < s.room = not_full (length s.squares.nodes) s.room _ (rw (← c.self.view_is) at c.is_full.ensures) c.if-is_full.false c.self.invariant.0.few_squares in
    let at : c.in-Ok.at ≡ length s.leaves.keys = c.in-Ok.ensures.index ∙ missing_place eq (λ a b. (g.met.L.LeafKind.same a b, λ e. subst (λ z. eq a z ≡ true) e (g.met.L.Eq.laws.refl a))) c.args.leaf s.leaves.keys absent in
    let leaves : c.insert_full.new.self.keys ≡ s.leaves.keys ++ c.args.leaf ∷ [] = c.in-Ok.ensures.keys ∙ ap (λ b. if b then s.leaves.keys else s.leaves.keys ++ c.args.leaf ∷ []) (missing_any eq (λ a b. (g.met.L.LeafKind.same a b, λ e. subst (λ z. eq a z ≡ true) e (g.met.L.Eq.laws.refl a))) c.args.leaf s.leaves.keys absent) in
    rw (leaves, c.push.ensures.nodes, c.push.ensures.summaries, c.push.ensures.firsts, c.reserve.ensures.nodes, c.reserve.ensures.summaries, c.reserve.ensures.firsts, at)
    (good_leaf g.L.LeafKind.write g.L.LeafKind.side g.L.LeafKind.IsLeaf g.L.LeafKind.IsSummary _ s.squares.summaries c.self.invariant c.args.leaf _ absent c.requires.leaf c.requires.spelt c.summary.ensures below)

pub returns-then-is_new-clause-entered : goal.returns-then-is_new-clause-entered
returns-then-is_new-clause-entered g c =
    let s = c.self.inside in
    let eq = g.L.PartialEq.eq in
    let absent = any_missing eq (λ a b. (g.met.L.LeafKind.same a b, λ e. subst (λ z. eq a z ≡ true) e (g.met.L.Eq.laws.refl a))) c.args.leaf s.leaves.keys (was_absent _ _ c.in-Ok.ensures.added c.if-is_new.true) in
    let at : c.in-Ok.at ≡ length s.leaves.keys = c.in-Ok.ensures.index ∙ missing_place eq (λ a b. (g.met.L.LeafKind.same a b, λ e. subst (λ z. eq a z ≡ true) e (g.met.L.Eq.laws.refl a))) c.args.leaf s.leaves.keys absent in
    let leaves : c.insert_full.new.self.keys ≡ s.leaves.keys ++ c.args.leaf ∷ [] = c.in-Ok.ensures.keys ∙ ap (λ b. if b then s.leaves.keys else s.leaves.keys ++ c.args.leaf ∷ []) (missing_any eq (λ a b. (g.met.L.LeafKind.same a b, λ e. subst (λ z. eq a z ≡ true) e (g.met.L.Eq.laws.refl a))) c.args.leaf s.leaves.keys absent) in
    rw (← c.self.view_is) (LeafAdded absent (record {
      place = c.len-place.ensures ∙ ap length c.reserve.ensures.nodes;
      whole = rw (leaves, c.push.ensures.nodes, c.push.ensures.firsts, c.reserve.ensures.nodes, c.reserve.ensures.firsts, at) refl;
    }))

pub invariant_of-self-2 : goal.invariant_of-self-2
invariant_of-self-2 g c =
    let s = c.self.inside in
    let kept : c.insert_full.new.self.keys ≡ s.leaves.keys = c.in-Ok.ensures.keys ∙ ap (λ b. if b then s.leaves.keys else s.leaves.keys ++ c.args.leaf ∷ []) (was_there _ _ c.in-Ok.ensures.added c.if-is_new.false) in
    rw (kept, c.reserve.ensures.nodes, c.reserve.ensures.summaries, c.reserve.ensures.firsts) c.self.invariant

pub unreachable-requires : goal.unreachable-requires
unreachable-requires g c =
    let s = c.self.inside in
    let kept : c.insert_full.new.self.keys ≡ s.leaves.keys = c.in-Ok.ensures.keys ∙ ap (λ b. if b then s.leaves.keys else s.leaves.keys ++ c.args.leaf ∷ []) (was_there _ _ c.in-Ok.ensures.added c.if-is_new.false) in
    let stored = c.in-Ok.ensures.stored in
    let at : slice_get s.leaves.keys c.in-Ok.at ≡ Some stored.0 = rw (← kept) stored.1 in
    let named = c.self.invariant.0.canonical.named c.in-Ok.at (slice_get_within _ _ _ at) in
    c.in_default-find.ensures.none named.0 (rw c.reserve.ensures.nodes named.1)

pub returns-then-is_full-clause-entered : goal.returns-then-is_full-clause-entered
returns-then-is_full-clause-entered g c = rw c.ok_or.ensures.value (entered_found _ _ _ _ c.find_leaf.ensures.some)

pub returns-then-is_full-clause-absent : goal.returns-then-is_full-clause-absent
returns-then-is_full-clause-absent g c = rw c.ok_or.ensures.value (absent_unfound c.args.self.now c.args.leaf _ _ c.find_leaf.ensures.none)

pub returns-then-is_full-clause-full : goal.returns-then-is_full-clause-full
returns-then-is_full-clause-full g c = λ e. c.if-is_full.ensures.0 refl

pub returns-then-is_full-clause-memory : goal.returns-then-is_full-clause-memory
returns-then-is_full-clause-memory g c = λ e. absurd (not_memory _ (sym c.ok_or.ensures.value ∙ e))

pub invariant_of-self : goal.invariant_of-self
invariant_of-self g c = rw (c.reserve.ensures.nodes, c.reserve.ensures.summaries, c.reserve.ensures.firsts) c.self.invariant

pub returns-then-is_err-clause-entered : goal.returns-then-is_err-clause-entered
returns-then-is_err-clause-entered g c = rw (c.ok_or-then-is_err.ensures.value, c.reserve.ensures.nodes, c.reserve.ensures.firsts, c.self.view_is) (entered_found _ _ _ _ (rw (c.reserve.ensures.nodes, c.reserve.ensures.firsts, c.self.view_is) at c.find_leaf-then-is_err.ensures.some))

pub returns-then-is_err-clause-err : goal.returns-then-is_err-clause-err
returns-then-is_err-clause-err g c = on_each _ (rw (← c.reserve.ensures.nodes, ← c.reserve.ensures.firsts) at c.self.view_is)

pub returns-then-is_err-clause-absent : goal.returns-then-is_err-clause-absent
returns-then-is_err-clause-absent g c =
    let none : IfNone c.find_leaf-then-is_err.result (IsAbsentLeaf c.args.self.now c.args.leaf) = rw (← c.self.view_is) c.find_leaf-then-is_err.ensures.none in
    rw c.ok_or-then-is_err.ensures.value (absent_unfound c.args.self.now c.args.leaf _ _ none)

pub returns-then-is_err-clause-full : goal.returns-then-is_err-clause-full
returns-then-is_err-clause-full g c = λ e. absurd (not_store_full _ (sym c.ok_or-then-is_err.ensures.value ∙ e))

pub returns-then-is_err-clause-memory : goal.returns-then-is_err-clause-memory
returns-then-is_err-clause-memory g c = λ e. not_full _ _ _ c.is_full.ensures c.if-is_full.false (rw c.self.view_is at c.self.invariant.0).few_squares

pub invariant_of-self-in_default : goal.invariant_of-self-in_default
invariant_of-self-in_default g c = rw (c.in_default.ensures.err, c.reserve.ensures.nodes, c.reserve.ensures.summaries, c.reserve.ensures.firsts) c.self.invariant

pub returns-in_default-clause-err : goal.returns-in_default-clause-err
returns-in_default-clause-err g c = rw (c.in_default.ensures.err, c.reserve.ensures.nodes, c.reserve.ensures.firsts) c.self.view_is

pub returns-in_default-clause-memory : goal.returns-in_default-clause-memory
returns-in_default-clause-memory g c = λ e. not_full _ _ _ c.is_full.ensures c.if-is_full.false (rw c.self.view_is at c.self.invariant.0).few_squares
