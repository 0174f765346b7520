use Rattle.std.proofs.Common.{◌∙◌, ◌+◌, ap, refl}
use Rattle.map_periods.proofs.PeriodLaws.{at_end, found, none_in_all, none_more, refused_there, told_at}
use Rattle.map_periods.proofs.period.period_of.Goals as goal

pub returns-in-Some-clause-period : goal.returns-in-Some-clause-period
returns-in-Some-clause-period g c =
    let rule = g.G.Generations.rule_of c.args.generations.now in
    let map = g.G.Generations.map_of c.args.generations.now in
    let now = c.loop-passed.invariant in
    found rule map c.args.first c.args.most c.loop-passed.passed c.in-Some.by c.loop-passed-test.true
    (c.in-Some.ensures _ _
    (told_at rule rule map map c.args.first c.args.first c.in_ok-before.before.items c.deref.result.now refl refl refl c.deref.ensures.value now.cells)
    (told_at rule _ map _ (c.args.first + (c.loop-passed.passed + 1)) _ c.in_ok-after.after.items c.deref-in-loop-passed.result.now now.same_rule now.same_map (ap (λ n. c.args.first + n) c.from.ensures)
    c.deref-in-loop-passed.ensures.value c.in_ok-after.ensures.cells))
    now.none

pub returns-in_err-after-clause-refused : goal.returns-in_err-after-clause-refused
returns-in_err-after-clause-refused g c =
    let rule = g.G.Generations.rule_of c.args.generations.now in
    let map = g.G.Generations.map_of c.args.generations.now in
    let now = c.loop-passed.invariant in
    at_end c.from_residual-in_err-after.result _ _ c.from_residual-in_err-after.ensures.1
    (λ e told. refused_there rule map (g.G.Generations.refuses c.args.generations.now) c.args.first c.args.most c.loop-passed.passed _ c.in_err-after.field-0.0 e
    c.loop-passed-test.true (ap (λ n. c.args.first + n) c.from.ensures) told (now.refusals _ _ c.in_err-after.ensures.refused) now.none)

pub loop-passed-preserved : goal.loop-passed-preserved
loop-passed-preserved g c =
    let rule = g.G.Generations.rule_of c.args.generations.now in
    let map = g.G.Generations.map_of c.args.generations.now in
    let now = c.loop-passed.invariant in
    let step = c.cells-in-loop-passed.ensures in
    record {
      cells = now.cells;
      same_rule = step.same_rule ∙ now.same_rule;
      same_map = step.same_map ∙ now.same_map;
      refusals = λ n fault refused. now.refusals n fault (step.refusals n fault refused);
      none = none_more rule map c.args.first c.loop-passed.passed now.none
          (c.in_default.ensures _ _
          (told_at rule rule map map c.args.first c.args.first c.in_ok-before.before.items c.deref.result.now refl refl refl c.deref.ensures.value now.cells)
          (told_at rule _ map _ (c.args.first + (c.loop-passed.passed + 1)) _ c.in_ok-after.after.items c.deref-in-loop-passed.result.now now.same_rule now.same_map (ap (λ n. c.args.first + n) c.from.ensures)
          c.deref-in-loop-passed.ensures.value c.in_ok-after.ensures.cells));
    }

pub returns-clause-period : goal.returns-clause-period
returns-clause-period g c = none_in_all _ _ c.args.first c.args.most c.loop-passed.passed c.loop-passed-test.false c.loop-passed.invariant.none
