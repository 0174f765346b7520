use Rattle.std.proofs.Common.{◌∙◌, ap}
use Rattle.header_rules.specs.Names.{beside}
use Rattle.header_rules.proofs.TableLemmas.{same_other_names}
use Rattle.header_rules.proofs.family_names.family_named.Goals as goal

pub returns : goal.returns
returns c = c.family_beside.ensures ∙ ap (λ rows. beside rows c.args.name.now) same_other_names
