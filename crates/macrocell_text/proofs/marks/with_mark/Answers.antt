use Rattle.macrocell_text.proofs.Bits.{bit_marked}
use Rattle.macrocell_text.proofs.marks.with_mark.Goals as goal

pub returns-then-mark-eq42 : goal.returns-then-mark-eq42
returns-then-mark-eq42 c = λ u v hu hv. bit_marked c.args.rows c.args.spot c.args.mark u v c.if-mark-eq42.true c.requires hu hv
