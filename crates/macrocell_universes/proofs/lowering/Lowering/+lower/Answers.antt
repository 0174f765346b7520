use Rattle.std.proofs.Common.{◌≡◌, ◌∙◌, ◌<◌, ◌-◌, ◌+◌, refl, ap, sym, subst, arith, Err}
use Rattle.square_store.proofs.Made.{told}
use Rattle.generation_engine.specs.declared.leaf_kind.EngineLeaf.{EngineLeaf}
use Rattle.macrocell_lines.proofs.Walked.{ok_then}
use Rattle.macrocell_universes.specs.declared.lowering.Lowering.{Lowering}
use Rattle.macrocell_universes.specs.declared.lowering.Pair.{Pair}
use Rattle.macrocell_universes.specs.declared.quarters.Numbered.{Numbered}
use Rattle.macrocell_universes.specs.Lowered.{IsLowered}
use Rattle.macrocell_universes.proofs.Lowerings.{both_told, leaf_adds, leaf_full, leaf_same, leaf_stands, lowered_before, lowered_noted, noted_later, pair_full, pair_lowered, pair_ne_full, pair_nw_full, pair_se_full, pair_sw_full, pair_below, states_of_two}
use Rattle.macrocell_universes.proofs.lowering.Lowering.+lower.Goals as goal

pub returns-in-Some-clause-lowered : goal.returns-in-Some-clause-lowered
returns-in-Some-clause-lowered t c = lowered_before c.args.entries.now c.args.self.now c.args.pair c.in-Some.part.now c.requires.noted (sym c.in-Some.ensures.value)

pub returns-then-pair-eq0-clause-lowered : goal.returns-then-pair-eq0-clause-lowered
returns-then-pair-eq0-clause-lowered t c =
    let es = c.args.entries.now in let pair = c.args.pair in let states = c.lowered_states-states.result in
    let l : EngineLeaf = record { leaf = c.of_states.result } in
    let old : Lowering = record { store = c.add_leaf.new.self; notes = c.args.self.now.notes } in
    let same = leaf_same es pair l states c.if-pair-eq0.true c.of_states.ensures (states_of_two es pair c.squares.result states c.squares.ensures c.lowered_states-states.ensures) in
    ok_then c.note.result (λ p told. subst (λ q. IsLowered es c.args.self.now c.note.new.self pair q) (sym told.0)
    (lowered_noted es c.args.self.now old c.note.new.self c.add_leaf.new.self pair c.in_ok-part.part refl (noted_later es c.args.self.now old c.requires.noted c.in_ok-part.ensures.grows (λ other. refl)) c.in_ok-part.ensures.grows
    (leaf_stands es pair l c.if-pair-eq0.true same c.add_leaf.new.self c.in_ok-part.part c.in_ok-part.ensures.draws)
    (leaf_adds es pair l c.if-pair-eq0.true same c.args.self.now.store c.add_leaf.new.self c.in_ok-part.part c.in_ok-part.ensures.added c.in_ok-part.ensures.draws) told.1.0 told.1.1))
    (both_told (λ p. p ≡ c.in_ok-part.part) _ _ c.note.result c.note.ensures.part c.note.ensures.store c.note.ensures.noted)

pub returns-in_err-nw-clause-full : goal.returns-in_err-nw-clause-full
returns-in_err-nw-clause-full t c = λ h.
    pair_nw_full c.args.entries.now c.args.pair c.quarters_of-above.result c.quarters_of-below.result (omega (arith, c.if-pair-eq0.false)) c.squares.result c.squares.ensures c.quarters_of-above.ensures c.quarters_of-below.ensures
    c.args.self.now c.lower.new.self c.below.result c.below.ensures (c.in_err-nw.ensures.full (ap (λ e. Err e) (told _ _ _ c.from_residual-in_err-nw.ensures.1 h)))

pub returns-in_err-ne-clause-full : goal.returns-in_err-ne-clause-full
returns-in_err-ne-clause-full t c = λ h.
    pair_ne_full c.args.entries.now c.args.pair c.quarters_of-above.result c.quarters_of-below.result (omega (arith, c.if-pair-eq0.false)) c.squares.result c.squares.ensures c.quarters_of-above.ensures c.quarters_of-below.ensures
    c.args.self.now c.lower.new.self c.below.result c.below.ensures c.in_ok-nw.nw c.in_ok-nw.ensures.lowered c.lower-2.new.self c.below-2.result c.below-2.ensures
    (c.in_err-ne.ensures.full (ap (λ e. Err e) (told _ _ _ c.from_residual-in_err-ne.ensures.1 h)))

pub returns-in_err-sw-clause-full : goal.returns-in_err-sw-clause-full
returns-in_err-sw-clause-full t c = λ h.
    pair_sw_full c.args.entries.now c.args.pair c.quarters_of-above.result c.quarters_of-below.result (omega (arith, c.if-pair-eq0.false)) c.squares.result c.squares.ensures c.quarters_of-above.ensures c.quarters_of-below.ensures
    c.args.self.now c.lower.new.self c.below.result c.below.ensures c.in_ok-nw.nw c.in_ok-nw.ensures.lowered c.lower-2.new.self c.below-2.result c.below-2.ensures c.in_ok-ne.ne c.in_ok-ne.ensures.lowered
    c.lower-3.new.self c.below-3.result c.below-3.ensures (c.in_err-sw.ensures.full (ap (λ e. Err e) (told _ _ _ c.from_residual-in_err-sw.ensures.1 h)))

pub lower-requires-4 : goal.lower-requires-4
lower-requires-4 t c =
    let level : c.below-4.result.level ≡ c.args.pair.level - 1 = ap (λ (p : Pair). p.level) c.below-4.ensures in
    let lower : c.squares.result.1.level ≡ c.args.pair.level + 3 = ap (λ (p : Numbered × Numbered). p.1.level) c.squares.ensures in
    let both = pair_below c.args.entries.now c.args.pair c.below-4.result c.squares.result.1 c.squares.result.1 _ _ (omega (arith, c.if-pair-eq0.false)) c.below-4.ensures lower lower c.quarters_of-below.ensures.ne c.quarters_of-below.ensures.se in
    (omega (arith, level, c.decreases, c.if-pair-eq0.false), (c.requires.squares, (c.requires.levels, (c.requires.entries, (c.in_ok-sw.ensures.lowered.noted, (omega (arith, level, c.requires.level), both))))))

pub returns-in_err-se-clause-full : goal.returns-in_err-se-clause-full
returns-in_err-se-clause-full t c = λ h.
    pair_se_full c.args.entries.now c.args.pair c.quarters_of-above.result c.quarters_of-below.result (omega (arith, c.if-pair-eq0.false)) c.squares.result c.squares.ensures c.quarters_of-above.ensures c.quarters_of-below.ensures
    c.args.self.now c.lower.new.self c.below.result c.below.ensures c.in_ok-nw.nw c.in_ok-nw.ensures.lowered c.lower-2.new.self c.below-2.result c.below-2.ensures c.in_ok-ne.ne c.in_ok-ne.ensures.lowered
    c.lower-3.new.self c.below-3.result c.below-3.ensures c.in_ok-sw.sw c.in_ok-sw.ensures.lowered c.lower-4.new.self c.below-4.result c.below-4.ensures
    (c.in_err-se.ensures.full (ap (λ e. Err e) (told _ _ _ c.from_residual-in_err-se.ensures.1 h)))

pub returns-in_err-part-2-clause-full : goal.returns-in_err-part-2-clause-full
returns-in_err-part-2-clause-full t c = λ h.
    pair_full c.args.entries.now c.args.pair c.quarters_of-above.result c.quarters_of-below.result (omega (arith, c.if-pair-eq0.false)) c.squares.result c.squares.ensures c.quarters_of-above.ensures c.quarters_of-below.ensures
    c.args.self.now c.lower.new.self c.below.result c.below.ensures c.in_ok-nw.nw c.in_ok-nw.ensures.lowered c.lower-2.new.self c.below-2.result c.below-2.ensures c.in_ok-ne.ne c.in_ok-ne.ensures.lowered
    c.lower-3.new.self c.below-3.result c.below-3.ensures c.in_ok-sw.sw c.in_ok-sw.ensures.lowered c.lower-4.new.self c.below-4.result c.below-4.ensures c.in_ok-se.se c.in_ok-se.ensures.lowered
    c.from.result c.from.ensures c.add_four.new.self c.in_err-part-2.ensures.err (c.in_err-part-2.ensures.full (ap (λ e. Err e) (told _ _ _ c.from_residual-in_err-part-2.ensures.1 h)))

pub returns-clause-lowered : goal.returns-clause-lowered
returns-clause-lowered t c =
    let old : Lowering = record { store = c.add_four.new.self; notes = c.lower-4.new.self.notes } in
    ok_then c.note-2.result (λ p told. subst (λ q. IsLowered c.args.entries.now c.args.self.now c.note-2.new.self c.args.pair q) (sym told.0)
    (pair_lowered c.args.entries.now c.args.pair c.quarters_of-above.result c.quarters_of-below.result (omega (arith, c.if-pair-eq0.false)) c.squares.result c.squares.ensures c.quarters_of-above.ensures c.quarters_of-below.ensures
    c.args.self.now c.lower.new.self c.below.result c.below.ensures c.in_ok-nw.nw c.in_ok-nw.ensures.lowered c.lower-2.new.self c.below-2.result c.below-2.ensures c.in_ok-ne.ne c.in_ok-ne.ensures.lowered
    c.lower-3.new.self c.below-3.result c.below-3.ensures c.in_ok-sw.sw c.in_ok-sw.ensures.lowered c.lower-4.new.self c.below-4.result c.below-4.ensures c.in_ok-se.se c.in_ok-se.ensures.lowered
    c.from.result c.from.ensures c.add_four.new.self c.in_ok-part-2.part old c.note-2.new.self refl (λ other. refl) c.in_ok-part-2.ensures.grows c.in_ok-part-2.ensures.added c.in_ok-part-2.ensures.draws told.1.0 told.1.1))
    (both_told (λ p. p ≡ c.in_ok-part-2.part) _ _ c.note-2.result c.note-2.ensures.part c.note-2.ensures.store c.note-2.ensures.noted)
