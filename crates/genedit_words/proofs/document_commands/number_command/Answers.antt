use Rattle.std.proofs.Common.{codes, ap}
use Rattle.clap.specs.Simple.{App, new_app}
use Rattle.genedit_words.specs.Words.{place_argument}
use Rattle.genedit_words.proofs.ShapeLaws.{IsShape, with_argument}
use Rattle.genedit_words.proofs.document_commands.number_command.Goals as goal

pub returns-clause-shape : goal.returns-clause-shape
returns-clause-shape c =
    let begun : IsShape c.titled.result (new_app (codes "number")) = record { is = c.titled.ensures.app; local = c.titled.ensures.local } in
    let arg1 = with_argument c.titled.result c.in_ok-arg.field-0 c.place_argument.result _ (place_argument (codes "numbers")) begun c.place_argument.ensures.rule c.place_argument.ensures.local c.in_ok-arg.ensures in
    let arg2 = with_argument c.in_ok-arg.field-0 c.in_ok-command.command c.place_argument-2.result _ (place_argument (codes "name")) arg1 c.place_argument-2.ensures.rule c.place_argument-2.ensures.local c.in_ok-command.ensures in
    ap (λ (a : App). a.top) arg2.is
