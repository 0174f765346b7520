use Rattle.client_commands.proofs.DictationLaws.{spell_the_same, export_the_same, count_the_same, cut_the_same, turn_the_same, hear_the_same, hear_in_order}
use Rattle.client_commands.proofs.PieceLaws.{hear_pieces}
use Rattle.client_commands.proofs.laws.command_laws.Goals as goal

pub returns-clause-spelled : goal.returns-clause-spelled
returns-clause-spelled c = spell_the_same

pub returns-clause-exported : goal.returns-clause-exported
returns-clause-exported c = export_the_same

pub returns-clause-counted : goal.returns-clause-counted
returns-clause-counted c = count_the_same

pub returns-clause-cut : goal.returns-clause-cut
returns-clause-cut c = cut_the_same

pub returns-clause-turned : goal.returns-clause-turned
returns-clause-turned c = turn_the_same

pub returns-clause-heard : goal.returns-clause-heard
returns-clause-heard c = hear_the_same

pub returns-clause-in_order : goal.returns-clause-in_order
returns-clause-in_order c = hear_in_order

pub returns-clause-pieces : goal.returns-clause-pieces
returns-clause-pieces c = hear_pieces
