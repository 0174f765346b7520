use Rattle.std.proofs.Common.{false}
use Rattle.kept_log.proofs.FoundLaws.{bound, cut_at, cut_by, ready_as, replaced_at, replaced_by}
use Rattle.kept_log.proofs.reopening.end_at.Goals as goal

pub returns-then-is_doubtful-clause-kept : goal.returns-then-is_doubtful-clause-kept
returns-then-is_doubtful-clause-kept g c bodies found = replaced_at c.replace.result c.args.bytes.now bodies c.args.whole _ _ found.to c.replace.ensures.held

pub returns-then-is_doubtful-clause-crash : goal.returns-then-is_doubtful-clause-crash
returns-then-is_doubtful-clause-crash g c bodies found kept all leaves =
    replaced_by c.replace.result kept all c.args.is_doubtful c.args.bytes.now bodies c.args.whole _ _ found.to (bound kept all c.args.is_doubtful c.args.bytes.now _ found.ready found.shows leaves) c.replace.ensures.held

pub returns-clause-kept : goal.returns-clause-kept
returns-clause-kept g c bodies found =
    cut_at c.cut.result c.args.bytes.now bodies c.args.whole _ _ found.to (ready_as c.args.is_doubtful false _ c.if-is_doubtful.false found.ready) found.shows c.cut.ensures.held

pub returns-clause-crash : goal.returns-clause-crash
returns-clause-crash g c bodies found kept all leaves =
    cut_by c.cut.result kept all c.args.bytes.now bodies c.args.whole _ _ found.to (bound kept all false c.args.bytes.now _ (ready_as c.args.is_doubtful false _ c.if-is_doubtful.false found.ready) found.shows leaves) c.cut.ensures.held
