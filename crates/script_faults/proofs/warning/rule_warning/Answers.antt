use Rattle.std.proofs.Common.{◌∙◌, sym}
use Rattle.script_faults.proofs.WarningLaws.{bounds_are_warned}
use Rattle.script_faults.proofs.warning.rule_warning.Goals as goal

pub returns-in-None-clause-warned : goal.returns-in-None-clause-warned
returns-in-None-clause-warned c =
    bounds_are_warned c.args.rule.now _ c.in_ok-told.told c.other_rule.result c.bounds_warning.result (sym c.header_rule.ensures.told ∙ c.in_ok-told.was) c.other_rule.ensures c.in-None.is c.bounds_warning.ensures
