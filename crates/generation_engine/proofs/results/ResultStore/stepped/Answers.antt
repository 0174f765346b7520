use Rattle.std.proofs.Common.{subst}
use Rattle.generations_rule.specs.Rule.{IsRule}
use Rattle.generation_engine.specs.Kept.{RuledSquares}
use Rattle.generation_engine.proofs.Universes.{wide_run}
use Rattle.generation_engine.proofs.results.ResultStore.stepped.Goals as goal

pub returns-clause-run : goal.returns-clause-run
returns-clause-run c =
    let rule : IsRule c.args.self.now.rule = subst (λ (v : RuledSquares). IsRule v.rule) c.self.view_is c.self.invariant.rule in
    wide_run c.args.self.now c.padded.new.self c.result.new.self _ c.args.root _ _ rule c.in_ok-wide.ensures.grows c.in_ok-later.ensures.grows c.in_ok-wide.ensures.draws c.in_ok-later.ensures.later
