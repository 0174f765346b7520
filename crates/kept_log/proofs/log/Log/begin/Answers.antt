use Rattle.std.proofs.Common.{◌∙◌}
use Rattle.kept_records.specs.Records.{record_text}
use Rattle.kept_log.proofs.Moments.{began_so, not_touched}
use Rattle.kept_log.proofs.log.Log.begin.Goals as goal

pub returns-in-Open-clause-crash : goal.returns-in-Open-clause-crash
returns-in-Open-clause-crash g c keeps = not_touched (record_text c.args.head.now) _ keeps

pub returns-in-Failed-clause-crash : goal.returns-in-Failed-clause-crash
returns-in-Failed-clause-crash g c keeps = not_touched (record_text c.args.head.now) _ keeps

pub returns-in_default-clause-crash : goal.returns-in_default-clause-crash
returns-in_default-clause-crash g c keeps = not_touched (record_text c.args.head.now) _ keeps

pub returns-in-Ok-replace-clause-crash : goal.returns-in-Ok-replace-clause-crash
returns-in-Ok-replace-clause-crash g c keeps = began_so c.replace.result _ (record_text c.args.head.now) c.args.head.now _ _ c.in-Ok.ensures.body (c.deref.ensures.value ∙ c.in-Ok.ensures.text) keeps c.replace.ensures.held

pub returns-clause-crash : goal.returns-clause-crash
returns-clause-crash g c keeps = began_so c.replace.result _ (record_text c.args.head.now) c.args.head.now _ _ c.in-Ok.ensures.body (c.deref.ensures.value ∙ c.in-Ok.ensures.text) keeps c.replace.ensures.held
