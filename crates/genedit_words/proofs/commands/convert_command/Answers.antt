use Rattle.std.proofs.Common.{codes, ap}
use Rattle.clap.specs.Simple.{App, new_app}
use Rattle.genedit_words.specs.Words.{flag, gen_option, optional, place_argument}
use Rattle.genedit_words.proofs.ShapeLaws.{IsShape, with_argument}
use Rattle.genedit_words.proofs.commands.convert_command.Goals as goal

pub returns-clause-shape : goal.returns-clause-shape
returns-clause-shape c =
    let begun : IsShape c.titled.result (new_app (codes "convert")) = record { is = c.titled.ensures.app; local = c.titled.ensures.local } in
    let input = with_argument c.titled.result c.in_ok-arg.field-0 c.place_argument.result _ (place_argument (codes "in")) begun c.place_argument.ensures.rule c.place_argument.ensures.local c.in_ok-arg.ensures in
    let output = with_argument c.in_ok-arg.field-0 c.in_ok-arg-2.field-0 c.place_argument-2.result _ (place_argument (codes "out")) input c.place_argument-2.ensures.rule c.place_argument-2.ensures.local c.in_ok-arg-2.ensures in
    let rule = with_argument c.in_ok-arg-2.field-0 c.in_ok-arg-3.field-0 c.optional.result _ (optional (codes "rule")) output c.optional.ensures.rule c.optional.ensures.local c.in_ok-arg-3.ensures in
    let gen = with_argument c.in_ok-arg-3.field-0 c.in_ok-arg-4.field-0 c.generation_argument.result _ gen_option rule c.generation_argument.ensures.rule c.generation_argument.ensures.local c.in_ok-arg-4.ensures in
    let replace = with_argument c.in_ok-arg-4.field-0 c.in_ok-command.command c.flag.result _ (flag (codes "replace")) gen c.flag.ensures.rule c.flag.ensures.local c.in_ok-command.ensures in
    ap (λ (a : App). a.top) replace.is
