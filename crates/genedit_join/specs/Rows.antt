-- Worked values of the definitions.
use Rattle.std.specs.Prelude.{◌≡◌, true, false, codes, refl}
use Rattle.std.specs.Fmt.{digits}
use Rattle.board_client.specs.declared.fault.ClientFault.TheVariants as client
use Rattle.client_session.specs.declared.fault.CommandFault.TheVariants as command
use Rattle.frame_line.specs.declared.fault.LineFault.TheVariants as line
use Rattle.genedit_io.specs.declared.cause.Cause.TheVariants.{Full}
use Rattle.genedit_io.specs.declared.fault.RunFault.TheVariants.{Write}
use Rattle.genedit_join.specs.declared.ends.Board.{Board}
use Rattle.genedit_join.specs.declared.ends.End.TheVariants as how
use Rattle.typed_commands.specs.declared.refusals.Tally.{Tally}
use Rattle.genedit_join.specs.declared.fault.JoinFault.TheVariants as fault
use Rattle.typed_commands.specs.declared.files.FileCause.TheVariants as cause
use Rattle.genedit_join.specs.declared.patience.WaitStep.TheVariants.{GiveUp, Say, Wait}
use Rattle.genedit_join.specs.declared.rescue.Kept.TheVariants.{In, Nowhere}
use Rattle.genedit_join.specs.Ends.{end_status, is_rescued, lost_text}
use Rattle.genedit_join.specs.Fault.{fault_of_command, join_fault_text, join_status}
use Rattle.genedit_join.specs.Rescue.{kept_text, rescue_name}
use Rattle.genedit_join.specs.Waiting.{step_after}

pub refused_greeting : join_fault_text (fault_of_command (command.Refused 31)) ≡ codes "refused 31 NoPlace"
unfolding digits
refused_greeting = refl

pub no_seat_left : join_fault_text (fault_of_command (command.Refused 45)) ≡ codes "all seats of the board are taken"
no_seat_left = refl

pub status_without_a_seat : join_status (fault_of_command (command.Refused 45)) ≡ 2
status_without_a_seat = refl

pub server_that_went_away : join_fault_text (fault_of_command (command.Client (client.Line line.Ended))) ≡ codes "the server went away"
server_that_went_away = refl

pub status_without_a_server : join_status (fault_of_command (command.Client (client.Line line.Ended))) ≡ 3
status_without_a_server = refl

pub status_of_no_reply : join_status (fault_of_command (command.Client client.NoReply)) ≡ 3
status_of_no_reply = refl

pub status_without_memory : join_status (fault_of_command command.Memory) ≡ 5
status_without_memory = refl

-- ---- ends

abbrev faulty_and_refused : Tally
faulty_and_refused = record { faulty = true; refused = true }

pub status_of_a_fault_among_lines : end_status (how.Left faulty_and_refused) false ≡ 2
status_of_a_fault_among_lines = refl

pub status_of_a_refusal : end_status (how.Left (record { faulty = false; refused = true })) false ≡ 1
status_of_a_refusal = refl

pub status_at_a_terminal : end_status (how.Left faulty_and_refused) true ≡ 0
status_at_a_terminal = refl

pub status_without_the_server : end_status (how.Fault fault.Gone) true ≡ 3
status_without_the_server = refl

pub status_of_a_script : end_status (how.Fault fault.Script) false ≡ 2
status_of_a_script = refl

pub lost : lost_text fault.Gone ≡ codes "the server went away: the board is kept here; save FILE, export G [FILE], show, pattern, bye"
lost = refl

-- ---- a board that is kept

pub first_name : rescue_name (record { port = 7020; seat = 2 }) 1 ≡ codes "pazgrot-7020-2-1.state"
unfolding digits
first_name = refl

pub kept : kept_text (In (codes "a.state")) ≡ codes "the board is kept in a.state"
kept = refl

pub not_kept : kept_text (Nowhere (codes "a.state") (cause.System Full)) ≡ codes "the board is not kept: write fault a.state: the disk is full"
not_kept = refl

abbrev unsaved_board : Board
unsaved_board = record { is_wanted = true; has_edits = true; is_saved = false }

pub unsaved : is_rescued (how.Fault fault.Gone) true unsaved_board ≡ true
unsaved = refl

pub saved : is_rescued (how.Fault fault.Gone) true (record unsaved_board { is_saved = true }) ≡ false
saved = refl

-- the board is another's matter as long as it is served, and no longer
pub output_failed : is_rescued (how.Fault (fault.Run Write)) true unsaved_board ≡ false
output_failed = refl

pub output_failed_without_a_server : is_rescued (how.Fault (fault.Run Write)) false unsaved_board ≡ true
output_failed_without_a_server = refl

-- ---- waiting

pub after_a_second : step_after 1 true ≡ Say
after_a_second = refl

pub after_ten : step_after 10 true ≡ GiveUp
after_ten = refl

pub for_as_long_as_it_takes : step_after 600 false ≡ Wait
for_as_long_as_it_takes = refl
