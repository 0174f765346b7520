use Rattle.std.proofs.Common.{true, false}
use Rattle.kept_log.proofs.FoundLaws.{doubt_ready, doubt_same, nothing_done, same_seen, sync_crash_err, sync_crash_ok, sync_ready, sync_same, told_as}
use Rattle.kept_log.proofs.finding.made_ready.Goals as goal

pub returns-then-is_doubtful-clause-ready : goal.returns-then-is_doubtful-clause-ready
returns-then-is_doubtful-clause-ready g c = doubt_ready _ (told_as c.is_doubtful.result true _ c.if-is_doubtful.true c.is_doubtful.ensures)

pub returns-then-is_doubtful-clause-same : goal.returns-then-is_doubtful-clause-same
returns-then-is_doubtful-clause-same g c = same_seen _

pub returns-then-is_doubtful-clause-crash : goal.returns-then-is_doubtful-clause-crash
returns-then-is_doubtful-clause-crash g c kept all leaves = nothing_done kept all _ leaves

pub returns-in_err-sync-clause-crash : goal.returns-in_err-sync-clause-crash
returns-in_err-sync-clause-crash g c kept all leaves = sync_crash_err kept all _ _ leaves c.in_err-sync.ensures.held

pub returns-clause-ready : goal.returns-clause-ready
returns-clause-ready g c = sync_ready _ _ (told_as c.is_doubtful.result false _ c.if-is_doubtful.false c.is_doubtful.ensures) c.in_ok-sync.ensures.held

pub returns-clause-same : goal.returns-clause-same
returns-clause-same g c = sync_same _ _ (told_as c.is_doubtful.result false _ c.if-is_doubtful.false c.is_doubtful.ensures) c.in_ok-sync.ensures.held

pub returns-clause-crash : goal.returns-clause-crash
returns-clause-crash g c kept all leaves = sync_crash_ok kept all _ _ (told_as c.is_doubtful.result false _ c.if-is_doubtful.false c.is_doubtful.ensures) leaves c.in_ok-sync.ensures.held

pub returns-in_err-sync-clause-same : goal.returns-in_err-sync-clause-same
returns-in_err-sync-clause-same g c = doubt_same _ _ c.in_err-sync.ensures.held
