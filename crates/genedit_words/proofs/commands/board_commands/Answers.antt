use Rattle.genedit_words.specs.Words.{join_shape, serve_shape, text_app}
use Rattle.genedit_words.proofs.ShapeLaws.{IsShape, with_command}
use Rattle.genedit_words.proofs.commands.board_commands.Goals as goal

pub returns : goal.returns
returns c =
    let begun : IsShape c.in_ok-text_commands.field-0 text_app = record { is = c.in_ok-text_commands.ensures.0; local = c.in_ok-text_commands.ensures.1 } in
    let with1 = with_command c.in_ok-text_commands.field-0 c.in_ok-subcommand.field-0 c.in_ok-serve_command.field-0 _ (serve_shape c.args.needs) begun c.in_ok-serve_command.ensures.shape c.in_ok-serve_command.ensures.local c.in_ok-subcommand.ensures in
    let with2 = with_command c.in_ok-subcommand.field-0 c.in_ok-command.command c.in_ok-join_command.field-0 _ join_shape with1 c.in_ok-join_command.ensures.shape c.in_ok-join_command.ensures.local c.in_ok-command.ensures in
    (with2.is, with2.local)
