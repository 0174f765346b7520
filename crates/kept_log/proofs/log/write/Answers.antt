use Rattle.kept_log.proofs.Along.{when_err}
use Rattle.kept_log.proofs.Moments.{push_err, push_ok, sync_by}
use Rattle.kept_log.proofs.log.write.Goals as goal

pub returns-in_err-push_all-clause-behind : goal.returns-in_err-push_all-clause-behind
returns-in_err-push_all-clause-behind g c list more keeps are e = when_err c.from_residual.result (push_err list more c.args.text.now _ _ are e keeps c.in_err-push_all.ensures.held).1

pub returns-in_err-push_all-clause-crash : goal.returns-in_err-push_all-clause-crash
returns-in_err-push_all-clause-crash g c list more keeps are e = (push_err list more c.args.text.now _ _ are e keeps c.in_err-push_all.ensures.held).0

pub returns-clause-kept : goal.returns-clause-kept
returns-clause-kept g c list more keeps are e =
    (sync_by c.sync.result list more _ _ _ (push_ok list more c.args.text.now _ _ are e keeps c.in_ok-push_all.ensures.held) c.sync.ensures.held).kept

pub returns-clause-behind : goal.returns-clause-behind
returns-clause-behind g c list more keeps are e =
    (sync_by c.sync.result list more _ _ _ (push_ok list more c.args.text.now _ _ are e keeps c.in_ok-push_all.ensures.held) c.sync.ensures.held).behind

pub returns-clause-crash : goal.returns-clause-crash
returns-clause-crash g c list more keeps are e =
    (sync_by c.sync.result list more _ _ _ (push_ok list more c.args.text.now _ _ are e keeps c.in_ok-push_all.ensures.held) c.sync.ensures.held).crash
