use Rattle.genedit_words.specs.Words.{check_shape, convert_shape, rle_shape, run_shape, top_app, view_shape}
use Rattle.genedit_words.proofs.ShapeLaws.{IsShape, with_command}
use Rattle.genedit_words.proofs.commands.text_commands.Goals as goal

pub returns : goal.returns
returns c =
    let begun : IsShape c.top_command.result top_app = record { is = c.top_command.ensures.app; local = c.top_command.ensures.local } in
    let with1 = with_command c.top_command.result c.in_ok-subcommand.field-0 c.in_ok-run_command.field-0 _ run_shape begun c.in_ok-run_command.ensures.shape c.in_ok-run_command.ensures.local c.in_ok-subcommand.ensures in
    let with2 = with_command c.in_ok-subcommand.field-0 c.in_ok-subcommand-2.field-0 c.in_ok-check_command.field-0 _ check_shape with1 c.in_ok-check_command.ensures.shape c.in_ok-check_command.ensures.local c.in_ok-subcommand-2.ensures in
    let with3 = with_command c.in_ok-subcommand-2.field-0 c.in_ok-subcommand-3.field-0 c.in_ok-rle_command.field-0 _ rle_shape with2 c.in_ok-rle_command.ensures.shape c.in_ok-rle_command.ensures.local c.in_ok-subcommand-3.ensures in
    let with4 = with_command c.in_ok-subcommand-3.field-0 c.in_ok-subcommand-4.field-0 c.in_ok-view_command.field-0 _ view_shape with3 c.in_ok-view_command.ensures.shape c.in_ok-view_command.ensures.local c.in_ok-subcommand-4.ensures in
    let with5 = with_command c.in_ok-subcommand-4.field-0 c.in_ok-command.command c.in_ok-convert_command.field-0 _ convert_shape with4 c.in_ok-convert_command.ensures.shape c.in_ok-convert_command.ensures.local c.in_ok-command.ensures in
    (with5.is, with5.local)
