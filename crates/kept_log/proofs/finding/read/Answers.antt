use Rattle.devices.specs.declared.source.Failed.{Failed}
use Rattle.kept_log.proofs.FoundLaws.{read_after, read_ready, read_same, read_shown, read_shows, some_read}
use Rattle.kept_log.proofs.finding.read.Goals as goal

pub returns-in-Ok-Some-clause-ready : goal.returns-in-Ok-Some-clause-ready
returns-in-Ok-Some-clause-ready g c = read_ready c.in-Ok.is_doubtful c.in-Ok-Some.bytes.items _ _ c.in-Ok.ensures.ready (some_read Failed _ _ _ c.in-Ok-Some.bytes c.in-Ok-Some.field-0-is c.in-Ok-Some.ensures.held)

pub returns-in-Ok-Some-clause-shows : goal.returns-in-Ok-Some-clause-shows
returns-in-Ok-Some-clause-shows g c = read_shows c.in-Ok-Some.bytes.items _ _ (some_read Failed _ _ _ c.in-Ok-Some.bytes c.in-Ok-Some.field-0-is c.in-Ok-Some.ensures.held)

pub returns-in-Ok-Some-clause-shown : goal.returns-in-Ok-Some-clause-shown
returns-in-Ok-Some-clause-shown g c = read_shown c.in-Ok-Some.bytes.items _ _ _ c.in-Ok.ensures.same (some_read Failed _ _ _ c.in-Ok-Some.bytes c.in-Ok-Some.field-0-is c.in-Ok-Some.ensures.held)

pub returns-in-Ok-Some-clause-crash : goal.returns-in-Ok-Some-clause-crash
returns-in-Ok-Some-clause-crash g c kept all leaves = read_after c.read_whole.result kept all _ _ _ (c.in-Ok.ensures.crash kept all leaves) c.read_whole.ensures.held

pub returns-in-Ok-None-clause-crash : goal.returns-in-Ok-None-clause-crash
returns-in-Ok-None-clause-crash g c kept all leaves = read_after c.read_whole.result kept all _ _ _ (c.in-Ok.ensures.crash kept all leaves) c.read_whole.ensures.held

pub returns-in-Err-clause-crash : goal.returns-in-Err-clause-crash
returns-in-Err-clause-crash g c kept all leaves = read_after c.read_whole.result kept all _ _ _ (c.in-Ok.ensures.crash kept all leaves) c.read_whole.ensures.held

pub returns-in-Ok-Some-clause-same : goal.returns-in-Ok-Some-clause-same
returns-in-Ok-Some-clause-same g c = read_same c.read_whole.result _ _ _ c.in-Ok.ensures.same c.read_whole.ensures.held

pub returns-in-Ok-None-clause-same : goal.returns-in-Ok-None-clause-same
returns-in-Ok-None-clause-same g c = read_same c.read_whole.result _ _ _ c.in-Ok.ensures.same c.read_whole.ensures.held

pub returns-in-Err-clause-same : goal.returns-in-Err-clause-same
returns-in-Err-clause-same g c = read_same c.read_whole.result _ _ _ c.in-Ok.ensures.same c.read_whole.ensures.held
