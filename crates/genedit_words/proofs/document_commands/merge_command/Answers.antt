use Rattle.std.proofs.Common.{codes, ap}
use Rattle.clap.specs.Simple.{App, new_app}
use Rattle.genedit_words.specs.Words.{others_argument, place_argument, renumber_option}
use Rattle.genedit_words.proofs.ShapeLaws.{IsShape, with_argument}
use Rattle.genedit_words.proofs.document_commands.merge_command.Goals as goal

pub returns-clause-shape : goal.returns-clause-shape
returns-clause-shape c =
    let begun : IsShape c.titled.result (new_app (codes "merge")) = record { is = c.titled.ensures.app; local = c.titled.ensures.local } in
    let arg1 = with_argument c.titled.result c.in_ok-arg.field-0 c.document_argument.result _ (place_argument (codes "file")) begun c.document_argument.ensures.rule c.document_argument.ensures.local c.in_ok-arg.ensures in
    let arg2 = with_argument c.in_ok-arg.field-0 c.in_ok-arg-2.field-0 c.others_argument.result _ others_argument arg1 c.others_argument.ensures.rule c.others_argument.ensures.local c.in_ok-arg-2.ensures in
    let arg3 = with_argument c.in_ok-arg-2.field-0 c.in_ok-command.command c.renumber_argument.result _ renumber_option arg2 c.renumber_argument.ensures.rule c.renumber_argument.ensures.local c.in_ok-command.ensures in
    ap (λ (a : App). a.top) arg3.is
