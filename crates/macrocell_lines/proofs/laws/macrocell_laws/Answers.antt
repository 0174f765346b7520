use Rattle.macrocell_lines.proofs.OneText.{one_text}
use Rattle.macrocell_lines.proofs.laws.macrocell_laws.Goals as goal

pub returns : goal.returns
returns c = record { one = one_text }
