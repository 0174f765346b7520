use Rattle.std.proofs.Common.{subst, ◌∙◌, ap, sym, map, string_bytes, Err, Ok}
use Rattle.std.specs.Prelude.{option_and_then}
use Rattle.clap.specs.Simple.{subcommand_rows_of}
use Rattle.genedit_words.specs.declared.words.NoTask.{NoTask}
use Rattle.genedit_words.specs.Misspelt.{NoRule, NoWeb}
use Rattle.genedit_words.specs.Told.{told_of}
use Rattle.genedit_words.specs.Words.{IsAsked, app_by, task_of}
use Rattle.genedit_words.proofs.ParseLaws.{asks, ends_words, is_named, is_parse, lacks, lacks_nothing}
use Rattle.genedit_words.proofs.words.asked.Goals as goal

pub needs_of-needs-requires : goal.needs_of-needs-requires
needs_of-needs-requires c =
    let m = c.in-Ok.matches in
    let words = map string_bytes c.args.words.now in
    is_named words m (is_parse _ words m (c.in_ok-command.ensures ∙ ap app_by c.none.ensures) c.in-Ok.ensures.matches c.in-Ok.ensures.kinds)

pub returns-then-is_some-clause-ends : goal.returns-then-is_some-clause-ends
returns-then-is_some-clause-ends c =
    let m = c.in-Ok.matches in
    let words = map string_bytes c.args.words.now in
    let parse = is_parse _ words m (c.in_ok-command.ensures ∙ ap app_by c.none.ensures) c.in-Ok.ensures.matches c.in-Ok.ensures.kinds in
    lacks words m c.needs_of-needs.result parse c.needs_of-needs.ensures (sym c.is_some.ensures ∙ c.if-is_some.true)

pub task-requires-clause-named : goal.task-requires-clause-named
task-requires-clause-named c =
    let m = c.in-Ok.matches in
    let words = map string_bytes c.args.words.now in
    is_named words m (is_parse _ words m (c.in_ok-command.ensures ∙ ap app_by c.none.ensures) c.in-Ok.ensures.matches c.in-Ok.ensures.kinds)

pub task-requires-clause-complete : goal.task-requires-clause-complete
task-requires-clause-complete c = lacks_nothing (subcommand_rows_of c.in-Ok.matches) c.needs_of-needs.result c.needs_of-needs.ensures (sym c.is_some.ensures ∙ c.if-is_some.false)

pub returns-in-Ok-task-clause-asks : goal.returns-in-Ok-task-clause-asks
returns-in-Ok-task-clause-asks c =
    let m = c.in-Ok.matches in
    let words = map string_bytes c.args.words.now in
    let parse = is_parse _ words m (c.in_ok-command.ensures ∙ ap app_by c.none.ensures) c.in-Ok.ensures.matches c.in-Ok.ensures.kinds in
    asks words m (Ok (told_of c.in-Ok-task.task)) parse c.in-Ok-task.ensures.asked

pub returns-in-Err-Rule-clause-ends : goal.returns-in-Err-Rule-clause-ends
returns-in-Err-Rule-clause-ends c =
    let m = c.in-Ok.matches in
    let words = map string_bytes c.args.words.now in
    let parse = is_parse _ words m (c.in_ok-command.ensures ∙ ap app_by c.none.ensures) c.in-Ok.ensures.matches c.in-Ok.ensures.kinds in
    asks words m (Err (NoRule c.in-Err-Rule.rule.text.now c.in-Err-Rule.rule.why)) parse
    (subst (λ (n : NoTask). IsAsked (option_and_then task_of (subcommand_rows_of m)) (Err n)) c.in-Err-Rule.field-0-is c.in-Err-Rule.ensures.asked)

pub returns-in-Err-Web-clause-ends : goal.returns-in-Err-Web-clause-ends
returns-in-Err-Web-clause-ends c =
    let m = c.in-Ok.matches in
    let words = map string_bytes c.args.words.now in
    let parse = is_parse _ words m (c.in_ok-command.ensures ∙ ap app_by c.none.ensures) c.in-Ok.ensures.matches c.in-Ok.ensures.kinds in
    asks words m (Err (NoWeb c.in-Err-Web.web.text.now)) parse
    (subst (λ (n : NoTask). IsAsked (option_and_then task_of (subcommand_rows_of m)) (Err n)) c.in-Err-Web.field-0-is c.in-Err-Web.ensures.asked)

pub returns-in-Err-clause-ends : goal.returns-in-Err-clause-ends
returns-in-Err-clause-ends c =
    ends_words _ (map string_bytes c.args.words.now) c.in-Err.error c.with_needs.result (c.in_ok-command.ensures ∙ ap app_by c.none.ensures) c.in-Err.ensures.kinds c.with_needs.ensures
