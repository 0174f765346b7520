use Rattle.std.proofs.Common.{◌^◌, arith, ap, sym, subst, Err}
use Rattle.square_store.proofs.Made.{told}
use Rattle.square_store.specs.Squares.{IsAt}
use Rattle.generations_rule.specs.Rule.{IsRule}
use Rattle.generation_engine.specs.Kept.{HasGrown, IsLater, RuledSquares}
use Rattle.generation_engine.proofs.KeptLaws.{dead_later, later_after}
use Rattle.generation_engine.proofs.Passes.{nothing_replaced, all_replaced, read_whole, read_stands, replaced_more, ruled_passes, sixteen_stand, nine_stand, four_stand, later_stand, later_four, twice_power, grown_on, result_there, some_above, above_one, level_below, few_below, exponent_below, first_exponent, less_exponent, next_fits, result_falls, computed_falls, pass_falls, results_fall}
use Rattle.generation_engine.proofs.results.ResultStore.+result.Goals as goal

pub in_one_pass-nine-requires-clause-parts : goal.in_one_pass-nine-requires-clause-parts
in_one_pass-nine-requires-clause-parts t c = sixteen_stand _ _ _ _ c.sixteen-sixteen.ensures

pub in_two_passes-nine-requires-clause-parts : goal.in_two_passes-nine-requires-clause-parts
in_two_passes-nine-requires-clause-parts t c = sixteen_stand _ _ _ _ c.sixteen-sixteen.ensures

pub in_one_pass-returns-clause-later : goal.in_one_pass-returns-clause-later
in_one_pass-returns-clause-later t c =
    let rule : IsRule c.args.self.now.rule = subst (λ (v : RuledSquares). IsRule v.rule) c.self.view_is c.self.invariant.rule in
    ruled_passes c.args.self.now c.nine.new.self c.centres.new.self c.four.new.self c.results.new.self c.add_four.new.self c.args.level 0 (2 ^ c.args.exponent) _ c.args.part _ _ _ _ _ _
    rule c.requires.level c.in_ok-nine.ensures.grows c.in_ok-centres.ensures.grows c.in_ok-four.ensures.grows
    c.sixteen-sixteen.ensures c.in_ok-nine.ensures.drawn c.in_ok-centres.ensures.later c.in_ok-four.ensures.drawn c.in_ok-results.ensures.later c.in_ok-later.ensures.draws (omega arith)

pub in_two_passes-returns-clause-later : goal.in_two_passes-returns-clause-later
in_two_passes-returns-clause-later t c =
    let rule : IsRule c.args.self.now.rule = subst (λ (v : RuledSquares). IsRule v.rule) c.self.view_is c.self.invariant.rule in
    ruled_passes c.args.self.now c.nine.new.self c.results.new.self c.four.new.self c.results-2.new.self c.add_four.new.self c.args.level (2 ^ c.args.level) (2 ^ c.args.level) _ c.args.part _ _ _ _ _ _
    rule c.requires.level c.in_ok-nine.ensures.grows c.in_ok-results.ensures.grows c.in_ok-four.ensures.grows
    c.sixteen-sixteen.ensures c.in_ok-nine.ensures.drawn c.in_ok-results.ensures.later c.in_ok-four.ensures.drawn c.in_ok-results-2.ensures.later c.in_ok-later.ensures.draws (twice_power c.args.level)

pub result-returns-then-is_dead-clause-later : goal.result-returns-then-is_dead-clause-later
result-returns-then-is_dead-clause-later t c =
    let rule : IsRule c.args.self.now.rule = subst (λ (v : RuledSquares). IsRule v.rule) c.self.view_is c.self.invariant.rule in
    dead_later c.args.self.now.rule c.args.self.now.store c.args.level c.args.exponent c.args.part rule c.requires.level c.requires.exponent (c.is_dead.ensures c.if-is_dead.true)

pub in_one_pass-overflow_sub-level : goal.in_one_pass-overflow_sub-level
in_one_pass-overflow_sub-level t c = some_above c.args.level c.requires.level

pub in_one_pass-overflow_sub-level-2 : goal.in_one_pass-overflow_sub-level-2
in_one_pass-overflow_sub-level-2 t c = some_above c.args.level c.requires.level

pub in_one_pass-overflow_sub-level-3 : goal.in_one_pass-overflow_sub-level-3
in_one_pass-overflow_sub-level-3 t c = some_above c.args.level c.requires.level

pub in_one_pass-overflow_sub-level-4 : goal.in_one_pass-overflow_sub-level-4
in_one_pass-overflow_sub-level-4 t c = some_above c.args.level c.requires.level

pub in_one_pass-overflow_sub-level-5 : goal.in_one_pass-overflow_sub-level-5
in_one_pass-overflow_sub-level-5 t c = some_above c.args.level c.requires.level

pub in_one_pass-nine-requires-clause-level : goal.in_one_pass-nine-requires-clause-level
in_one_pass-nine-requires-clause-level t c = level_below c.args.level c.requires.level

pub in_one_pass-four-requires-clause-level : goal.in_one_pass-four-requires-clause-level
in_one_pass-four-requires-clause-level t c = level_below c.args.level c.requires.level

pub in_one_pass-add_four-requires-clause-level : goal.in_one_pass-add_four-requires-clause-level
in_one_pass-add_four-requires-clause-level t c = level_below c.args.level c.requires.level

pub in_one_pass-centres-requires-clause-level : goal.in_one_pass-centres-requires-clause-level
in_one_pass-centres-requires-clause-level t c = level_below c.args.level c.requires.level

pub in_one_pass-centres-requires-clause-parts : goal.in_one_pass-centres-requires-clause-parts
in_one_pass-centres-requires-clause-parts t c = nine_stand _ _ _ _ c.in_ok-nine.ensures.drawn

pub in_one_pass-results-requires : goal.in_one_pass-results-requires
in_one_pass-results-requires t c =
    (results_fall c.args.level t c.requires.level c.decreases, (level_below c.args.level c.requires.level, (few_below c.args.level c.requires.below, (exponent_below c.args.level c.args.exponent c.requires.level c.requires.exponent, four_stand _ _ _ _ c.in_ok-four.ensures.drawn))))

pub in_one_pass-four-requires-clause-parts : goal.in_one_pass-four-requires-clause-parts
in_one_pass-four-requires-clause-parts t c = later_stand _ _ _ _ _ _ _ c.in_ok-centres.ensures.later

pub in_one_pass-add_four-requires-clause-parts : goal.in_one_pass-add_four-requires-clause-parts
in_one_pass-add_four-requires-clause-parts t c = later_four _ _ _ _ _ _ _ _ c.in_ok-four.ensures.drawn c.in_ok-results.ensures.later

pub in_one_pass-returns-in_err-nine-clause-grows : goal.in_one_pass-returns-in_err-nine-clause-grows
in_one_pass-returns-in_err-nine-clause-grows t c = c.in_err-nine.ensures.grows

pub in_one_pass-returns-in_err-nine-clause-full : goal.in_one_pass-returns-in_err-nine-clause-full
in_one_pass-returns-in_err-nine-clause-full t c = λ e. c.in_err-nine.ensures.full (ap (λ e. Err e) (told _ _ _ c.from_residual.ensures.1 e))

pub in_one_pass-returns-in_err-centres-clause-grows : goal.in_one_pass-returns-in_err-centres-clause-grows
in_one_pass-returns-in_err-centres-clause-grows t c = grown_on c.args.self.now c.nine.new.self c.centres.new.self c.in_ok-nine.ensures.grows c.in_err-centres.ensures.grows

pub in_one_pass-returns-in_err-centres-clause-full : goal.in_one_pass-returns-in_err-centres-clause-full
in_one_pass-returns-in_err-centres-clause-full t c = λ e. c.in_err-centres.ensures.full (ap (λ e. Err e) (told _ _ _ c.from_residual-in_err-centres.ensures.1 e))

pub in_one_pass-returns-in_err-four-clause-grows : goal.in_one_pass-returns-in_err-four-clause-grows
in_one_pass-returns-in_err-four-clause-grows t c = grown_on c.args.self.now c.nine.new.self c.four.new.self c.in_ok-nine.ensures.grows (grown_on c.nine.new.self c.centres.new.self c.four.new.self c.in_ok-centres.ensures.grows c.in_err-four.ensures.grows)

pub in_one_pass-returns-in_err-four-clause-full : goal.in_one_pass-returns-in_err-four-clause-full
in_one_pass-returns-in_err-four-clause-full t c = λ e. c.in_err-four.ensures.full (ap (λ e. Err e) (told _ _ _ c.from_residual-in_err-four.ensures.1 e))

pub in_one_pass-returns-in_err-results-clause-grows : goal.in_one_pass-returns-in_err-results-clause-grows
in_one_pass-returns-in_err-results-clause-grows t c = grown_on c.args.self.now c.nine.new.self c.results.new.self c.in_ok-nine.ensures.grows (grown_on c.nine.new.self c.centres.new.self c.results.new.self c.in_ok-centres.ensures.grows (grown_on c.centres.new.self c.four.new.self c.results.new.self c.in_ok-four.ensures.grows c.in_err-results.ensures.grows))

pub in_one_pass-returns-in_err-results-clause-full : goal.in_one_pass-returns-in_err-results-clause-full
in_one_pass-returns-in_err-results-clause-full t c = λ e. c.in_err-results.ensures.full (ap (λ e. Err e) (told _ _ _ c.from_residual-in_err-results.ensures.1 e))

pub in_one_pass-returns-in_err-later-clause-grows : goal.in_one_pass-returns-in_err-later-clause-grows
in_one_pass-returns-in_err-later-clause-grows t c = grown_on c.args.self.now c.nine.new.self c.add_four.new.self c.in_ok-nine.ensures.grows (grown_on c.nine.new.self c.centres.new.self c.add_four.new.self c.in_ok-centres.ensures.grows (grown_on c.centres.new.self c.four.new.self c.add_four.new.self c.in_ok-four.ensures.grows (grown_on c.four.new.self c.results.new.self c.add_four.new.self c.in_ok-results.ensures.grows c.in_err-later.ensures.grows)))

pub in_one_pass-returns-in_err-later-clause-full : goal.in_one_pass-returns-in_err-later-clause-full
in_one_pass-returns-in_err-later-clause-full t c = λ e. c.in_err-later.ensures.full (ap (λ e. Err e) (told _ _ _ c.from_residual-in_err-later.ensures.1 e))

pub in_one_pass-returns-clause-grows : goal.in_one_pass-returns-clause-grows
in_one_pass-returns-clause-grows t c = grown_on c.args.self.now c.nine.new.self c.add_four.new.self c.in_ok-nine.ensures.grows (grown_on c.nine.new.self c.centres.new.self c.add_four.new.self c.in_ok-centres.ensures.grows (grown_on c.centres.new.self c.four.new.self c.add_four.new.self c.in_ok-four.ensures.grows (grown_on c.four.new.self c.results.new.self c.add_four.new.self c.in_ok-results.ensures.grows c.in_ok-later.ensures.grows)))

pub in_two_passes-overflow_sub-level : goal.in_two_passes-overflow_sub-level
in_two_passes-overflow_sub-level t c = some_above c.args.level c.requires.level

pub in_two_passes-overflow_sub-level-2 : goal.in_two_passes-overflow_sub-level-2
in_two_passes-overflow_sub-level-2 t c = some_above c.args.level c.requires.level

pub in_two_passes-overflow_sub-level-3 : goal.in_two_passes-overflow_sub-level-3
in_two_passes-overflow_sub-level-3 t c = some_above c.args.level c.requires.level

pub in_two_passes-overflow_sub-level-4 : goal.in_two_passes-overflow_sub-level-4
in_two_passes-overflow_sub-level-4 t c = some_above c.args.level c.requires.level

pub in_two_passes-overflow_sub-level-5 : goal.in_two_passes-overflow_sub-level-5
in_two_passes-overflow_sub-level-5 t c = some_above c.args.level c.requires.level

pub in_two_passes-nine-requires-clause-level : goal.in_two_passes-nine-requires-clause-level
in_two_passes-nine-requires-clause-level t c = level_below c.args.level c.requires.level

pub in_two_passes-four-requires-clause-level : goal.in_two_passes-four-requires-clause-level
in_two_passes-four-requires-clause-level t c = level_below c.args.level c.requires.level

pub in_two_passes-add_four-requires-clause-level : goal.in_two_passes-add_four-requires-clause-level
in_two_passes-add_four-requires-clause-level t c = level_below c.args.level c.requires.level

pub in_two_passes-results-requires : goal.in_two_passes-results-requires
in_two_passes-results-requires t c =
    (results_fall c.args.level t c.requires.level c.decreases, (level_below c.args.level c.requires.level, (few_below c.args.level c.requires.below, (exponent_below c.args.level c.args.level c.requires.level (omega arith), nine_stand _ _ _ _ c.in_ok-nine.ensures.drawn))))

pub in_two_passes-results-requires-2 : goal.in_two_passes-results-requires-2
in_two_passes-results-requires-2 t c =
    (results_fall c.args.level t c.requires.level c.decreases, (level_below c.args.level c.requires.level, (few_below c.args.level c.requires.below, (exponent_below c.args.level c.args.level c.requires.level (omega arith), four_stand _ _ _ _ c.in_ok-four.ensures.drawn))))

pub in_two_passes-four-requires-clause-parts : goal.in_two_passes-four-requires-clause-parts
in_two_passes-four-requires-clause-parts t c = later_stand _ _ _ _ _ _ _ c.in_ok-results.ensures.later

pub in_two_passes-add_four-requires-clause-parts : goal.in_two_passes-add_four-requires-clause-parts
in_two_passes-add_four-requires-clause-parts t c = later_four _ _ _ _ _ _ _ _ c.in_ok-four.ensures.drawn c.in_ok-results-2.ensures.later

pub in_two_passes-returns-in_err-nine-clause-grows : goal.in_two_passes-returns-in_err-nine-clause-grows
in_two_passes-returns-in_err-nine-clause-grows t c = c.in_err-nine.ensures.grows

pub in_two_passes-returns-in_err-nine-clause-full : goal.in_two_passes-returns-in_err-nine-clause-full
in_two_passes-returns-in_err-nine-clause-full t c = λ e. c.in_err-nine.ensures.full (ap (λ e. Err e) (told _ _ _ c.from_residual.ensures.1 e))

pub in_two_passes-returns-in_err-results-clause-grows : goal.in_two_passes-returns-in_err-results-clause-grows
in_two_passes-returns-in_err-results-clause-grows t c = grown_on c.args.self.now c.nine.new.self c.results.new.self c.in_ok-nine.ensures.grows c.in_err-results.ensures.grows

pub in_two_passes-returns-in_err-results-clause-full : goal.in_two_passes-returns-in_err-results-clause-full
in_two_passes-returns-in_err-results-clause-full t c = λ e. c.in_err-results.ensures.full (ap (λ e. Err e) (told _ _ _ c.from_residual-in_err-results.ensures.1 e))

pub in_two_passes-returns-in_err-four-clause-grows : goal.in_two_passes-returns-in_err-four-clause-grows
in_two_passes-returns-in_err-four-clause-grows t c = grown_on c.args.self.now c.nine.new.self c.four.new.self c.in_ok-nine.ensures.grows (grown_on c.nine.new.self c.results.new.self c.four.new.self c.in_ok-results.ensures.grows c.in_err-four.ensures.grows)

pub in_two_passes-returns-in_err-four-clause-full : goal.in_two_passes-returns-in_err-four-clause-full
in_two_passes-returns-in_err-four-clause-full t c = λ e. c.in_err-four.ensures.full (ap (λ e. Err e) (told _ _ _ c.from_residual-in_err-four.ensures.1 e))

pub in_two_passes-returns-in_err-results-2-clause-grows : goal.in_two_passes-returns-in_err-results-2-clause-grows
in_two_passes-returns-in_err-results-2-clause-grows t c = grown_on c.args.self.now c.nine.new.self c.results-2.new.self c.in_ok-nine.ensures.grows (grown_on c.nine.new.self c.results.new.self c.results-2.new.self c.in_ok-results.ensures.grows (grown_on c.results.new.self c.four.new.self c.results-2.new.self c.in_ok-four.ensures.grows c.in_err-results-2.ensures.grows))

pub in_two_passes-returns-in_err-results-2-clause-full : goal.in_two_passes-returns-in_err-results-2-clause-full
in_two_passes-returns-in_err-results-2-clause-full t c = λ e. c.in_err-results-2.ensures.full (ap (λ e. Err e) (told _ _ _ c.from_residual-in_err-results-2.ensures.1 e))

pub in_two_passes-returns-in_err-later-clause-grows : goal.in_two_passes-returns-in_err-later-clause-grows
in_two_passes-returns-in_err-later-clause-grows t c = grown_on c.args.self.now c.nine.new.self c.add_four.new.self c.in_ok-nine.ensures.grows (grown_on c.nine.new.self c.results.new.self c.add_four.new.self c.in_ok-results.ensures.grows (grown_on c.results.new.self c.four.new.self c.add_four.new.self c.in_ok-four.ensures.grows (grown_on c.four.new.self c.results-2.new.self c.add_four.new.self c.in_ok-results-2.ensures.grows c.in_err-later.ensures.grows)))

pub in_two_passes-returns-in_err-later-clause-full : goal.in_two_passes-returns-in_err-later-clause-full
in_two_passes-returns-in_err-later-clause-full t c = λ e. c.in_err-later.ensures.full (ap (λ e. Err e) (told _ _ _ c.from_residual-in_err-later.ensures.1 e))

pub in_two_passes-returns-clause-grows : goal.in_two_passes-returns-clause-grows
in_two_passes-returns-clause-grows t c = grown_on c.args.self.now c.nine.new.self c.add_four.new.self c.in_ok-nine.ensures.grows (grown_on c.nine.new.self c.results.new.self c.add_four.new.self c.in_ok-results.ensures.grows (grown_on c.results.new.self c.four.new.self c.add_four.new.self c.in_ok-four.ensures.grows (grown_on c.four.new.self c.results-2.new.self c.add_four.new.self c.in_ok-results-2.ensures.grows c.in_ok-later.ensures.grows)))

pub result-computed-requires : goal.result-computed-requires
result-computed-requires t c = (computed_falls c.args.level t c.decreases, (c.requires.level, (c.requires.below, (c.requires.exponent, c.requires.stands))))

pub result-returns-in_err-later-clause-grows : goal.result-returns-in_err-later-clause-grows
result-returns-in_err-later-clause-grows t c = c.in_err-later.ensures.grows

pub result-returns-in_err-later-clause-full : goal.result-returns-in_err-later-clause-full
result-returns-in_err-later-clause-full t c = λ e. c.in_err-later.ensures.full (ap (λ e. Err e) (told _ _ _ c.from_residual.ensures.1 e))

pub result-keep-requires-clause-stands : goal.result-keep-requires-clause-stands
result-keep-requires-clause-stands t c = c.in_ok-later.ensures.grows.store.stands c.args.level c.args.part c.requires.stands

pub result-keep-requires-clause-later : goal.result-keep-requires-clause-later
result-keep-requires-clause-later t c = result_there c.args.self.now c.computed.new.self c.args.level (2 ^ c.args.exponent) c.args.part c.in_ok-later.later c.in_ok-later.ensures.grows c.requires.stands c.in_ok-later.ensures.later

pub result-returns-in_err-keep-clause-full : goal.result-returns-in_err-keep-clause-full
result-returns-in_err-keep-clause-full t c = λ e. c.in_err-keep.ensures.full (ap (λ e. Err e) (told _ _ _ c.from_residual-in_err-keep.ensures.1 e))

pub result-returns-in_err-keep-clause-grows : goal.result-returns-in_err-keep-clause-grows
result-returns-in_err-keep-clause-grows t c = grown_on c.args.self.now c.computed.new.self c.keep.new.self c.in_ok-later.ensures.grows c.keep.ensures.grows

pub result-returns-clause-grows : goal.result-returns-clause-grows
result-returns-clause-grows t c = grown_on c.args.self.now c.computed.new.self c.keep.new.self c.in_ok-later.ensures.grows c.keep.ensures.grows

pub result-returns-clause-later : goal.result-returns-clause-later
result-returns-clause-later t c = later_after c.args.self.now.rule c.args.self.now.store c.computed.new.self.store c.keep.new.self.store c.args.level (2 ^ c.args.exponent) c.args.part c.in_ok-later.later c.keep.ensures.grows.store c.in_ok-later.ensures.later

pub result-returns-in-Some-clause-later : goal.result-returns-in-Some-clause-later
result-returns-in-Some-clause-later t c = c.in-Some.ensures

pub computed-base-requires-clause-stands : goal.computed-base-requires-clause-stands
computed-base-requires-clause-stands t c = subst (λ k. IsAt c.args.self.now.store k c.args.part) c.if-level-eq1.true c.requires.stands

pub computed-base-requires-clause-exponent : goal.computed-base-requires-clause-exponent
computed-base-requires-clause-exponent t c = first_exponent c.args.level c.args.exponent c.if-level-eq1.true c.requires.exponent

pub computed-overflow_add-level : goal.computed-overflow_add-level
computed-overflow_add-level t c = next_fits c.args.level c.requires.below

pub computed-in_two_passes-requires : goal.computed-in_two_passes-requires
computed-in_two_passes-requires t c = (pass_falls c.args.level t c.decreases, (above_one c.args.level c.requires.level c.if-level-eq1.false, (c.requires.below, c.requires.stands)))

pub computed-in_one_pass-requires : goal.computed-in_one_pass-requires
computed-in_one_pass-requires t c =
    (pass_falls c.args.level t c.decreases, (above_one c.args.level c.requires.level c.if-level-eq1.false, (c.requires.below, (less_exponent c.args.level c.args.exponent c.requires.exponent c.if-exponent-level.false, c.requires.stands))))

pub computed-returns-then-level-eq1-clause-grows : goal.computed-returns-then-level-eq1-clause-grows
computed-returns-then-level-eq1-clause-grows t c = c.base.ensures.grows

pub computed-returns-then-level-eq1-clause-full : goal.computed-returns-then-level-eq1-clause-full
computed-returns-then-level-eq1-clause-full t c = c.base.ensures.full

pub computed-returns-then-exponent-level-clause-grows : goal.computed-returns-then-exponent-level-clause-grows
computed-returns-then-exponent-level-clause-grows t c = c.in_two_passes.ensures.grows

pub computed-returns-then-exponent-level-clause-full : goal.computed-returns-then-exponent-level-clause-full
computed-returns-then-exponent-level-clause-full t c = c.in_two_passes.ensures.full

pub computed-returns-else-exponent-level-clause-grows : goal.computed-returns-else-exponent-level-clause-grows
computed-returns-else-exponent-level-clause-grows t c = c.in_one_pass.ensures.grows

pub computed-returns-else-exponent-level-clause-full : goal.computed-returns-else-exponent-level-clause-full
computed-returns-else-exponent-level-clause-full t c = c.in_one_pass.ensures.full

pub computed-returns-else-exponent-level-clause-later : goal.computed-returns-else-exponent-level-clause-later
computed-returns-else-exponent-level-clause-later t c = c.in_one_pass.ensures.later

pub computed-returns-then-level-eq1-clause-later : goal.computed-returns-then-level-eq1-clause-later
computed-returns-then-level-eq1-clause-later t c = rw c.if-level-eq1.true c.base.ensures.later

pub computed-returns-then-exponent-level-clause-later : goal.computed-returns-then-exponent-level-clause-later
computed-returns-then-exponent-level-clause-later t c = rw c.if-exponent-level.true c.in_two_passes.ensures.later

pub results-result-requires : goal.results-result-requires
results-result-requires t c =
    (result_falls c.args.level t c.decreases, (c.requires.level, (c.requires.below, (c.requires.exponent, read_stands c.args.self.now c.loop-place.self c.args.level (2 ^ c.args.exponent) c.args.parts.now c.loop-place.parts c.loop-place.place c.loop-place.invariant c.index-parts-place.result c.loop-place-test.true c.index-parts-place.is c.requires.parts))))

pub results-loop-place-preserved : goal.results-loop-place-preserved
results-loop-place-preserved t c =
    replaced_more c.args.self.now c.loop-place.self c.result.new.self c.args.level (2 ^ c.args.exponent) c.args.parts.now c.loop-place.parts c.loop-place.place c.index-parts-place.result c.in_ok-parts.field-0
    c.requires.parts c.loop-place-test.true c.loop-place.invariant c.in_ok-parts.ensures.grows (read_whole c.args.self.now c.loop-place.self c.args.level (2 ^ c.args.exponent) c.args.parts.now c.loop-place.parts c.loop-place.place c.loop-place.invariant c.index-parts-place.result c.loop-place-test.true c.index-parts-place.is) c.in_ok-parts.ensures.later

pub results-returns-in_err-parts-clause-grows : goal.results-returns-in_err-parts-clause-grows
results-returns-in_err-parts-clause-grows t c = grown_on c.args.self.now c.loop-place.self c.result.new.self c.loop-place.invariant.grows c.in_err-parts.ensures.grows

pub results-returns-in_err-parts-clause-full : goal.results-returns-in_err-parts-clause-full
results-returns-in_err-parts-clause-full t c = λ e. c.in_err-parts.ensures.full (ap (λ e. Err e) (told _ _ _ c.from_residual.ensures.1 e))

pub results-returns-clause-later : goal.results-returns-clause-later
results-returns-clause-later t c = all_replaced c.args.self.now c.loop-place.self c.args.level (2 ^ c.args.exponent) c.args.parts.now c.loop-place.parts c.loop-place.place c.loop-place.invariant c.loop-place-test.false

pub results-loop-place-init : goal.results-loop-place-init
results-loop-place-init t c = nothing_replaced c.args.self.now c.args.level (2 ^ c.args.exponent) c.args.parts.now
