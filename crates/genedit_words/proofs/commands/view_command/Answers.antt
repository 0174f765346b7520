use Rattle.std.proofs.Common.{codes, ap}
use Rattle.clap.specs.Simple.{App, new_app}
use Rattle.genedit_words.specs.Words.{edits_option, file_argument, flag, gen_option, optional, period_option}
use Rattle.genedit_words.proofs.ShapeLaws.{IsShape, with_argument}
use Rattle.genedit_words.proofs.commands.view_command.Goals as goal

pub returns-clause-shape : goal.returns-clause-shape
returns-clause-shape c =
    let begun : IsShape c.titled.result (new_app (codes "view")) = record { is = c.titled.ensures.app; local = c.titled.ensures.local } in
    let file = with_argument c.titled.result c.in_ok-arg.field-0 c.file_argument.result _ file_argument begun c.file_argument.ensures.rule c.file_argument.ensures.local c.in_ok-arg.ensures in
    let rule = with_argument c.in_ok-arg.field-0 c.in_ok-arg-2.field-0 c.optional.result _ (optional (codes "rule")) file c.optional.ensures.rule c.optional.ensures.local c.in_ok-arg-2.ensures in
    let at = with_argument c.in_ok-arg-2.field-0 c.in_ok-arg-3.field-0 c.corner_argument.result _ (optional (codes "at")) rule c.corner_argument.ensures.rule c.corner_argument.ensures.local c.in_ok-arg-3.ensures in
    let size = with_argument c.in_ok-arg-3.field-0 c.in_ok-arg-4.field-0 c.sides_argument.result _ (optional (codes "size")) at c.sides_argument.ensures.rule c.sides_argument.ensures.local c.in_ok-arg-4.ensures in
    let gen = with_argument c.in_ok-arg-4.field-0 c.in_ok-arg-5.field-0 c.generation_argument.result _ gen_option size c.generation_argument.ensures.rule c.generation_argument.ensures.local c.in_ok-arg-5.ensures in
    let edits = with_argument c.in_ok-arg-5.field-0 c.in_ok-arg-6.field-0 c.edits_argument.result _ edits_option gen c.edits_argument.ensures.rule c.edits_argument.ensures.local c.in_ok-arg-6.ensures in
    let period = with_argument c.in_ok-arg-6.field-0 c.in_ok-arg-7.field-0 c.period_argument.result _ period_option edits c.period_argument.ensures.rule c.period_argument.ensures.local c.in_ok-arg-7.ensures in
    let chart = with_argument c.in_ok-arg-7.field-0 c.in_ok-arg-8.field-0 c.chart_argument.result _ (optional (codes "chart")) period c.chart_argument.ensures.rule c.chart_argument.ensures.local c.in_ok-arg-8.ensures in
    let plain = with_argument c.in_ok-arg-8.field-0 c.in_ok-arg-9.field-0 c.flag.result _ (flag (codes "plain")) chart c.flag.ensures.rule c.flag.ensures.local c.in_ok-arg-9.ensures in
    let svg = with_argument c.in_ok-arg-9.field-0 c.in_ok-command.command c.flag-2.result _ (flag (codes "svg")) plain c.flag-2.ensures.rule c.flag-2.ensures.local c.in_ok-command.ensures in
    ap (λ (a : App). a.top) svg.is
