use Rattle.header_rules.specs.Families.{table_fronts}
use Rattle.header_rules.proofs.family_names.has_table_front.Goals as goal

pub returns : goal.returns
unfolding table_fronts
returns c = c.begins_with_any.ensures
