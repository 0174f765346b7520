use Rattle.generations_rule.proofs.TextLaws.{accepts_only_rules, reads_back, has_short_text}
use Rattle.generations_rule.proofs.laws.text_laws.Goals as goal

pub returns-clause-rules : goal.returns-clause-rules
returns-clause-rules c = accepts_only_rules

pub returns-clause-read_back : goal.returns-clause-read_back
returns-clause-read_back c = reads_back

pub returns-clause-short : goal.returns-clause-short
returns-clause-short c = has_short_text
