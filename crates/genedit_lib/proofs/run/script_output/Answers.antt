use Rattle.std.proofs.Common.{◌∙◌}
use Rattle.genedit_lib.proofs.PlanLaws.{outputs}
use Rattle.genedit_lib.proofs.run.script_output.Goals as goal

pub returns-clause-out : goal.returns-clause-out
returns-clause-out c =
    outputs c.args.script c.rule-rule.result c.replicas-replicas.result c.into_commands.result.items c.deref.result.now c.in_ok-plan.plan.lines.items c.deref-2.result.now
    c.in_ok-replies.replies.items c.deref-3.result.now c.in_ok-out.out.items c.rule-rule.ensures c.replicas-replicas.ensures c.into_commands.ensures
    (c.deref.ensures.value ∙ c.in_ok-plan.ensures.events) c.in_ok-plan.ensures.lines c.deref-2.ensures.value c.deref-3.ensures.value c.in_ok-replies.ensures.replies
    c.in_ok-out.ensures
