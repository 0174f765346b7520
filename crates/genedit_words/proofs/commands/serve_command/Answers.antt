use Rattle.std.proofs.Common.{codes, ap}
use Rattle.clap.specs.Simple.{App, new_app}
use Rattle.genedit_words.specs.Words.{board_port, board_rule, board_web, first_option, flag, idle_option, optional, sessions_option}
use Rattle.genedit_words.proofs.ShapeLaws.{IsShape, with_argument}
use Rattle.genedit_words.proofs.commands.serve_command.Goals as goal

pub returns-clause-shape : goal.returns-clause-shape
returns-clause-shape c =
    let begun : IsShape c.titled_serve.result (new_app (codes "serve")) = record { is = c.titled_serve.ensures.app; local = c.titled_serve.ensures.local } in
    let rule = with_argument c.titled_serve.result c.in_ok-arg.field-0 c.board_rule.result _ (board_rule c.args.needs.rule) begun c.board_rule.ensures.rule c.board_rule.ensures.local c.in_ok-arg.ensures in
    let port = with_argument c.in_ok-arg.field-0 c.in_ok-arg-2.field-0 c.board_port.result _ (board_port c.args.needs.port) rule c.board_port.ensures.rule c.board_port.ensures.local c.in_ok-arg-2.ensures in
    let web = with_argument c.in_ok-arg-2.field-0 c.in_ok-arg-3.field-0 c.board_web.result _ (board_web c.args.needs.web) port c.board_web.ensures.rule c.board_web.ensures.local c.in_ok-arg-3.ensures in
    let url = with_argument c.in_ok-arg-3.field-0 c.in_ok-arg-4.field-0 c.optional.result _ (optional (codes "url")) web c.optional.ensures.rule c.optional.ensures.local c.in_ok-arg-4.ensures in
    let sessions = with_argument c.in_ok-arg-4.field-0 c.in_ok-arg-5.field-0 c.sessions_argument.result _ sessions_option url c.sessions_argument.ensures.rule c.sessions_argument.ensures.local c.in_ok-arg-5.ensures in
    let first = with_argument c.in_ok-arg-5.field-0 c.in_ok-arg-6.field-0 c.first_argument.result _ first_option sessions c.first_argument.ensures.rule c.first_argument.ensures.local c.in_ok-arg-6.ensures in
    let keep = with_argument c.in_ok-arg-6.field-0 c.in_ok-arg-7.field-0 c.optional-2.result _ (optional (codes "keep")) first c.optional-2.ensures.rule c.optional-2.ensures.local c.in_ok-arg-7.ensures in
    let until_close = with_argument c.in_ok-arg-7.field-0 c.in_ok-arg-8.field-0 c.flag.result _ (flag (codes "until-close")) keep c.flag.ensures.rule c.flag.ensures.local c.in_ok-arg-8.ensures in
    let until_idle = with_argument c.in_ok-arg-8.field-0 c.in_ok-command.command c.idle_argument.result _ idle_option until_close c.idle_argument.ensures.rule c.idle_argument.ensures.local c.in_ok-command.ensures in
    ap (λ (a : App). a.top) until_idle.is
