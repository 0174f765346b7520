use Rattle.std.proofs.Common.{codes, ap}
use Rattle.clap.specs.Simple.{App, new_app}
use Rattle.genedit_words.specs.Words.{every_option, flag, port_option}
use Rattle.genedit_words.proofs.ShapeLaws.{IsShape, with_argument}
use Rattle.genedit_words.proofs.commands.join_command.Goals as goal

pub returns-clause-shape : goal.returns-clause-shape
returns-clause-shape c =
    let begun : IsShape c.titled_join.result (new_app (codes "join")) = record { is = c.titled_join.ensures.app; local = c.titled_join.ensures.local } in
    let port = with_argument c.titled_join.result c.in_ok-arg.field-0 c.port_argument.result _ port_option begun c.port_argument.ensures.rule c.port_argument.ensures.local c.in_ok-arg.ensures in
    let every = with_argument c.in_ok-arg.field-0 c.in_ok-arg-2.field-0 c.every_argument.result _ every_option port c.every_argument.ensures.rule c.every_argument.ensures.local c.in_ok-arg-2.ensures in
    let follow = with_argument c.in_ok-arg-2.field-0 c.in_ok-arg-3.field-0 c.flag.result _ (flag (codes "follow")) every c.flag.ensures.rule c.flag.ensures.local c.in_ok-arg-3.ensures in
    let changes = with_argument c.in_ok-arg-3.field-0 c.in_ok-arg-4.field-0 c.flag-2.result _ (flag (codes "changes")) follow c.flag-2.ensures.rule c.flag-2.ensures.local c.in_ok-arg-4.ensures in
    let quiet = with_argument c.in_ok-arg-4.field-0 c.in_ok-arg-5.field-0 c.flag-3.result _ (flag (codes "quiet")) changes c.flag-3.ensures.rule c.flag-3.ensures.local c.in_ok-arg-5.ensures in
    let no_rescue = with_argument c.in_ok-arg-5.field-0 c.in_ok-command.command c.flag-4.result _ (flag (codes "no-rescue")) quiet c.flag-4.ensures.rule c.flag-4.ensures.local c.in_ok-command.ensures in
    ap (λ (a : App). a.top) no_rescue.is
