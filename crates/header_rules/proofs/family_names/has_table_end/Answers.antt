use Rattle.header_rules.specs.Families.{table_ends}
use Rattle.header_rules.proofs.family_names.has_table_end.Goals as goal

pub returns : goal.returns
unfolding table_ends
returns c = c.ends_with_any.ensures
