use Rattle.samples.proofs.Live.{live_four}
use Rattle.samples.proofs.single.SingleLeafKind.summary_of_four.Goals as goal

pub returns : goal.returns
returns c = λ n a b d e some hp hq hr hs. rw c.any_of.ensures (live_four n a b d e c.args.nw c.args.ne c.args.sw c.args.se hp hq hr hs)
