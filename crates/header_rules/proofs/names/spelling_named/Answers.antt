use Rattle.std.proofs.Common.{◌∙◌, ap}
use Rattle.header_rules.specs.Names.{beside}
use Rattle.header_rules.proofs.TableLemmas.{same_rule_names}
use Rattle.header_rules.proofs.names.spelling_named.Goals as goal

pub returns : goal.returns
returns c = c.spelling_beside.ensures ∙ ap (λ rows. beside rows c.args.name.now) same_rule_names
