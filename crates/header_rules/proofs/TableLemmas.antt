-- The tables of the code are those of the definitions.
use Rattle.std.proofs.Common.{◌≡◌, refl, map}
use Rattle.header_rules.specs.declared.names.TheConstants.{RULE_NAMES}
use Rattle.header_rules.specs.declared.family_names.TheConstants.{OTHER_NAMES, TABLE_FRONTS, TABLE_ENDS}
use Rattle.header_rules.specs.Names.{rule_names}
use Rattle.header_rules.specs.Families.{other_names, table_fronts, table_ends}

pub same_rule_names : map (λ row. (row.0.now, row.1.now)) RULE_NAMES ≡ rule_names
unfolding rule_names
same_rule_names = refl

pub same_other_names : map (λ row. (row.0.now, row.1)) OTHER_NAMES ≡ other_names
unfolding other_names
same_other_names = refl

pub same_fronts : map (λ front. front.now) TABLE_FRONTS ≡ table_fronts
unfolding table_fronts
same_fronts = refl

pub same_ends : map (λ end. end.now) TABLE_ENDS ≡ table_ends
unfolding table_ends
same_ends = refl
