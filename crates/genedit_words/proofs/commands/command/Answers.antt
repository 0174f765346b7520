use Rattle.genedit_words.specs.Words.{board_app, diff_shape, draw_shape, export_shape, feed_shape, follow_shape, log_shape, merge_shape, new_document_shape, number_shape}
use Rattle.genedit_words.proofs.ShapeLaws.{IsShape, with_command}
use Rattle.genedit_words.proofs.commands.command.Goals as goal

pub returns : goal.returns
returns c =
    let begun : IsShape c.in_ok-board_commands.field-0 (board_app c.args.needs) = record { is = c.in_ok-board_commands.ensures.0; local = c.in_ok-board_commands.ensures.1 } in
    let with1 = with_command c.in_ok-board_commands.field-0 c.in_ok-subcommand.field-0 c.in_ok-new_command.field-0 _ new_document_shape begun c.in_ok-new_command.ensures.shape c.in_ok-new_command.ensures.local c.in_ok-subcommand.ensures in
    let with2 = with_command c.in_ok-subcommand.field-0 c.in_ok-subcommand-2.field-0 c.in_ok-draw_command.field-0 _ draw_shape with1 c.in_ok-draw_command.ensures.shape c.in_ok-draw_command.ensures.local c.in_ok-subcommand-2.ensures in
    let with3 = with_command c.in_ok-subcommand-2.field-0 c.in_ok-subcommand-3.field-0 c.in_ok-merge_command.field-0 _ merge_shape with2 c.in_ok-merge_command.ensures.shape c.in_ok-merge_command.ensures.local c.in_ok-subcommand-3.ensures in
    let with4 = with_command c.in_ok-subcommand-3.field-0 c.in_ok-subcommand-4.field-0 c.in_ok-diff_command.field-0 _ diff_shape with3 c.in_ok-diff_command.ensures.shape c.in_ok-diff_command.ensures.local c.in_ok-subcommand-4.ensures in
    let with5 = with_command c.in_ok-subcommand-4.field-0 c.in_ok-subcommand-5.field-0 c.in_ok-log_command.field-0 _ log_shape with4 c.in_ok-log_command.ensures.shape c.in_ok-log_command.ensures.local c.in_ok-subcommand-5.ensures in
    let with6 = with_command c.in_ok-subcommand-5.field-0 c.in_ok-subcommand-6.field-0 c.in_ok-export_command.field-0 _ export_shape with5 c.in_ok-export_command.ensures.shape c.in_ok-export_command.ensures.local c.in_ok-subcommand-6.ensures in
    let with7 = with_command c.in_ok-subcommand-6.field-0 c.in_ok-subcommand-7.field-0 c.in_ok-follow_command.field-0 _ follow_shape with6 c.in_ok-follow_command.ensures.shape c.in_ok-follow_command.ensures.local c.in_ok-subcommand-7.ensures in
    let with8 = with_command c.in_ok-subcommand-7.field-0 c.in_ok-subcommand-8.field-0 c.in_ok-feed_command.field-0 _ feed_shape with7 c.in_ok-feed_command.ensures.shape c.in_ok-feed_command.ensures.local c.in_ok-subcommand-8.ensures in
    let with9 = with_command c.in_ok-subcommand-8.field-0 c.in_ok-command.command c.in_ok-number_command.field-0 _ number_shape with8 c.in_ok-number_command.ensures.shape c.in_ok-number_command.ensures.local c.in_ok-command.ensures in
    with9.is
