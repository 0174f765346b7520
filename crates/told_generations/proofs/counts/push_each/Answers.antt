use Rattle.std.proofs.Common.{ℕ, ◌∙◌, Err, ap, arith, subst, sym}
use Rattle.std.proofs.lemmas.Result.{err_from_is_err_and}
use Rattle.square_store.specs.Limits.{usual_room}
use Rattle.export.specs.Export.{IsRoomWanted}
use Rattle.replica_core.specs.declared.event.Stop.{Stop}
use Rattle.stamped_tree.specs.Plane.{map_of}
use Rattle.generation_engine.specs.Universe.{states_in_writes}
use Rattle.told_generations.specs.Counts.{PrintsCount}
use Rattle.told_generations.proofs.CountLaws.{first_none, first_more, first_part}
use Rattle.told_generations.proofs.OutcomeLaws.{on_err}
use Rattle.told_generations.proofs.counts.push_each.Goals as goal

pub loop-line-init : goal.loop-line-init
loop-line-init c = record {
  kept = tt;
  printed = first_none c.args.replica.now.rule (states_in_writes (map_of c.args.replica.now.plane)) c.args.range c.args.out.now.items;
}

pub loop-line-preserved : goal.loop-line-preserved
loop-line-preserved c =
    let states = states_in_writes (map_of c.args.replica.now.plane) in
    let line = subst (λ (g : ℕ). PrintsCount c.args.replica.now.rule states g c.loop-line.out.items c.push_one.new.out.items) c.at.ensures c.in_ok-push_one.ensures.told in
    record {
      kept = c.in_ok-push_one.ensures.kept;
      printed = first_more c.args.replica.now.rule states c.args.range c.loop-line.line c.args.out.now.items c.loop-line.out.items c.push_one.new.out.items c.loop-line.invariant.printed line;
    }

pub returns-in_err-push_one-clause-kept : goal.returns-in_err-push_one-clause-kept
returns-in_err-push_one-clause-kept c =
    let states = states_in_writes (map_of c.args.replica.now.plane) in
    on_err c.from_residual.result _
    (first_part c.args.replica.now.rule states c.args.range c.loop-line.line c.args.out.now.items c.loop-line.out.items c.push_one.new.out.items c.loop-line.invariant.printed c.in_err-push_one.ensures.part)

pub returns-in_err-push_one-clause-full : goal.returns-in_err-push_one-clause-full
returns-in_err-push_one-clause-full c = λ is. (
    let told = err_from_is_err_and c.from_residual.result c.from_residual.ensures.1 in
    let full = c.in_err-push_one.ensures.full (sym (told.1 ∙ ap (λ (e : Stop). Err e) told.2) ∙ is) in
    record {
      within = c.requires;
      steps = c.loop-line.line;
      one = omega (arith, c.loop-line-test.true, c.from-lines.ensures, c.steps.ensures);
      wanted = subst (λ (g : ℕ). IsRoomWanted c.args.replica.now.rule c.args.replica.now.plane g usual_room) c.at.ensures full;
    })
