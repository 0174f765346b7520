use Rattle.macrocell_text.proofs.RuleNames.{has_one_rule}
use Rattle.macrocell_text.proofs.TextsBack.{has_one_map, reads_macrocell_back, reads_universe_back}
use Rattle.macrocell_text.proofs.laws.text_laws.Goals as goal

pub returns : goal.returns
returns c = record { back = reads_macrocell_back; universe = reads_universe_back; one_map = has_one_map; one_rule = has_one_rule }
