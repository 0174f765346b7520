use Rattle.multistate_rle.proofs.RunLemmas.{uncounted}
use Rattle.multistate_rle.proofs.ahead.count_at.Goals as goal

pub returns-clause-front : goal.returns-clause-front
returns-clause-front c = uncounted c.args.text.now c.args.start c.requires
