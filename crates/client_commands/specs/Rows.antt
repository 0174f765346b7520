-- Worked values of the definitions.
use Rattle.std.specs.Prelude.{◌≡◌, ℕ, true, false, List, [], ◌∷◌, Option, Some, None, codes, refl, pos, negsuc}
use Rattle.std.specs.Str.Lines.{lines}
use Rattle.text_scan.specs.Words.{words}
use Rattle.replica_events.specs.declared.edit_spec.EditSpec.TheVariants.{Cells, Clear}
use Rattle.command_words.specs.Quotes.{client_words}
use Rattle.genedit_script.specs.Script.{command_spelled, numbered_lines, opening_spelled}
use Rattle.client_commands.specs.declared.command.ClientCommand.{ClientCommand}
use Rattle.client_commands.specs.declared.command.ClientCommand.TheVariants.{Count, Counts, Draw, Pattern, Copy, Or, Show, Export, Film, Period, Poll, Wait, Sleep, Save, Open, Help, Bye}
use Rattle.client_commands.specs.declared.dictation.Heard.{Heard}
use Rattle.client_commands.specs.declared.dictation.Heard.TheVariants.{Nothing, Command, Faulty}
use Rattle.client_commands.specs.Commands.{begins_script, client_command_spelled, target_of}
use Rattle.client_commands.specs.Dictation.{lines_heard, heard_by}

-- the command of a line
abbrev command : List ℕ → Option ClientCommand
command line = client_command_spelled (client_words line)

-- ---- drawing and looking

pub two_cells : command (codes "cells 0 -1 255 7 8 0")
    ≡ Some (Draw (Cells (record { x = pos 0; y = negsuc 0; state = 255 } ∷ record { x = pos 7; y = pos 8; state = 0 } ∷ [])))
two_cells = refl

pub no_cell : command (codes "cells") ≡ None
no_cell = refl

pub part_of_a_cell : command (codes "cells 0 0 1 0 0") ≡ None
part_of_a_cell = refl

-- a replica's number makes a word too many
pub cells_of_a_replica : command (codes "cells 1 0 0 1") ≡ None
cells_of_a_replica = refl

pub past_the_states : command (codes "cells 0 0 256") ≡ None
past_the_states = refl

pub cleared : command (codes "clear -3 4 5 6") ≡ Some (Draw (Clear (record { x = negsuc 2; y = pos 4; width = 5; height = 6 })))
cleared = refl

pub clear_without_height : command (codes "clear -3 4 5") ≡ None
clear_without_height = refl

pub clear_of_a_replica : command (codes "clear 1 -3 4 5 6") ≡ None
clear_of_a_replica = refl

pub copied : command (codes "\tcopy  Glider7 -3 4 ") ≡ Some (Copy (record { name = codes "Glider7"; x = negsuc 2; y = pos 4 }))
copied = refl

pub drawn_over : command (codes "or Glider7 -3 4") ≡ Some (Or (record { name = codes "Glider7"; x = negsuc 2; y = pos 4 }))
drawn_over = refl

pub copied_without_a_name : command (codes "copy -3 4") ≡ None
copied_without_a_name = refl

pub name_of_17_letters : command (codes "copy abcdefghijklmno09 0 0") ≡ None
name_of_17_letters = refl

pub shown : command (codes "show 2147483647 -2147483648") ≡ Some (Show (pos 2147483647) (negsuc 2147483647))
shown = refl

pub shown_past_the_edge : command (codes "show 2147483648 0") ≡ None
shown_past_the_edge = refl

-- ---- counts and periods

pub counted : command (codes "count 4") ≡ Some (Count 4)
counted = refl

pub counted_as_it_is : command (codes "count") ≡ Some (Count 0)
counted_as_it_is = refl

pub counted_at_each : command (codes "count 4..9/2") ≡ Some (Counts (record { first = 4; last = 9; step = 2 }))
counted_at_each = refl

pub counted_backwards : command (codes "count 9..4") ≡ None
counted_backwards = refl

pub period_searched : command (codes "period 100 4") ≡ Some (Period (record { first = 4; most = 100 }))
period_searched = refl

-- ---- exports and files

pub exported : command (codes "export 4") ≡ Some (Export 4 None)
exported = refl

pub exported_to_a_file : command (codes "export 4 out/a.rle") ≡ Some (Export 4 (Some (target_of false (codes "out/a.rle"))))
exported_to_a_file = refl

pub exported_over_a_file : command (codes "export! 4 a.rle") ≡ Some (Export 4 (Some (target_of true (codes "a.rle"))))
exported_over_a_file = refl

pub exported_over_no_file : command (codes "export! 4") ≡ None
exported_over_no_file = refl

-- a script's line is none of a client's
pub exported_to_a_number : command (codes "export 1 100000") ≡ None
exported_to_a_number = refl

pub exported_with_a_word_too_many : command (codes "export 1 2 3") ≡ None
exported_with_a_word_too_many = refl

pub exported_at_no_generation : command (codes "export") ≡ None
exported_at_no_generation = refl

-- ---- films

pub filmed : command (codes "export 4..9/2 a%.rle") ≡ Some (Film (record { range = record { first = 4; last = 9; step = 2 }; files = target_of false (codes "a%.rle") }))
filmed = refl

pub filmed_over_files : command (codes "export! 0..1 %") ≡ Some (Film (record { range = record { first = 0; last = 1; step = 1 }; files = target_of true (codes "%") }))
filmed_over_files = refl

pub filmed_in_quotes : command (codes "export 0..1 \"a b%.mc\"") ≡ Some (Film (record { range = record { first = 0; last = 1; step = 1 }; files = target_of false (codes "a b%.mc") }))
filmed_in_quotes = refl

pub filmed_to_no_file : command (codes "export 0..1") ≡ None
filmed_to_no_file = refl

pub filmed_to_output : command (codes "export 0..1 -") ≡ None
filmed_to_output = refl

pub filmed_over_one_file : command (codes "export! 0..1 a.rle") ≡ None
filmed_over_one_file = refl

pub filmed_with_two_signs : command (codes "export 0..1 a%b%.rle") ≡ None
filmed_with_two_signs = refl

pub filmed_backwards : command (codes "export 1..0 a%.rle") ≡ None
filmed_backwards = refl

-- of one generation a `%` is a letter as any
pub exported_to_a_sign : command (codes "export 4 a%.rle") ≡ Some (Export 4 (Some (target_of false (codes "a%.rle"))))
exported_to_a_sign = refl

-- ---- boards in files

pub saved : command (codes "save a.rle") ≡ Some (Save (Some (target_of false (codes "a.rle"))))
saved = refl

pub saved_over_a_file : command (codes "save! a.rle") ≡ Some (Save (Some (target_of true (codes "a.rle"))))
saved_over_a_file = refl

pub saved_to_a_number : command (codes "save 7") ≡ None
saved_to_a_number = refl

pub saved_to_two_files : command (codes "save a b") ≡ None
saved_to_two_files = refl

pub opened : command (codes "open a.rle") ≡ Some (Open (codes "a.rle"))
opened = refl

pub opened_nothing : command (codes "open") ≡ None
opened_nothing = refl

-- ---- names in quotes

pub saved_in_quotes : command (codes "save \"my board.state\"") ≡ Some (Save (Some (target_of false (codes "my board.state"))))
saved_in_quotes = refl

pub saved_over_in_quotes : command (codes "save! \"a b\" ") ≡ Some (Save (Some (target_of true (codes "a b"))))
saved_over_in_quotes = refl

pub opened_in_quotes : command (codes "open \"a b.rle\"") ≡ Some (Open (codes "a b.rle"))
opened_in_quotes = refl

pub opened_one_word_in_quotes : command (codes "open \"a.rle\"") ≡ Some (Open (codes "a.rle"))
opened_one_word_in_quotes = refl

pub exported_in_quotes : command (codes "export 5 \"x y.rle\"") ≡ Some (Export 5 (Some (target_of false (codes "x y.rle"))))
exported_in_quotes = refl

-- in quotes a number and a dash are names
pub saved_to_a_number_in_quotes : command (codes "save \"7\"") ≡ Some (Save (Some (target_of false (codes "7"))))
saved_to_a_number_in_quotes = refl

pub saved_to_a_dash_in_quotes : command (codes "save \"-\"") ≡ Some (Save (Some (target_of false (codes "-"))))
saved_to_a_dash_in_quotes = refl

-- quotes round nothing, or amid a word, are bytes of a name
pub opened_empty_quotes : command (codes "open \"\"") ≡ Some (Open (codes "\"\""))
opened_empty_quotes = refl

pub opened_with_a_quote_amid : command (codes "open a\"b") ≡ Some (Open (codes "a\"b"))
opened_with_a_quote_amid = refl

pub saved_without_a_closing_quote : command (codes "save \"a b") ≡ None
saved_without_a_closing_quote = refl

pub saved_with_text_behind_the_quotes : command (codes "save \"a b\" c") ≡ None
saved_with_text_behind_the_quotes = refl

-- nothing else stands in quotes
pub shown_in_quotes : command (codes "show 0 \"0\"") ≡ None
shown_in_quotes = refl

pub cells_in_quotes : command (codes "cells 0 0 1 0 0 \"1\"") ≡ None
cells_in_quotes = refl

pub block_in_quotes : opening_spelled (words (codes "pattern \"a\"")) ≡ None
block_in_quotes = refl

-- ---- standard output

pub exported_to_output : command (codes "export 4 -") ≡ command (codes "export 4")
exported_to_output = refl

pub exported_over_output : command (codes "export! 4 -") ≡ Some (Export 4 None)
exported_over_output = refl

pub saved_to_output : command (codes "save -") ≡ Some (Save None)
saved_to_output = refl

pub saved_over_output : command (codes "save! -") ≡ Some (Save None)
saved_over_output = refl

-- what is read is a file
pub opened_dash : command (codes "open -") ≡ Some (Open (codes "-"))
opened_dash = refl

-- ---- waiting

pub polled : command (codes "poll") ≡ Some Poll
polled = refl

pub polled_with_a_word : command (codes "poll 1") ≡ None
polled_with_a_word = refl

pub waited_ten_seconds : command (codes "wait 3") ≡ Some (Wait (record { edits = 3; milliseconds = 10000 }))
waited_ten_seconds = refl

pub waited : command (codes "wait 3 0") ≡ Some (Wait (record { edits = 3; milliseconds = 0 }))
waited = refl

pub waited_for_no_number : command (codes "wait") ≡ None
waited_for_no_number = refl

pub waited_past_32_bits : command (codes "wait 4294967296") ≡ None
waited_past_32_bits = refl

pub waited_with_a_word_too_many : command (codes "wait 1 2 3") ≡ None
waited_with_a_word_too_many = refl

pub slept : command (codes "sleep 4294967295") ≡ Some (Sleep 4294967295)
slept = refl

pub slept_for_no_number : command (codes "sleep") ≡ None
slept_for_no_number = refl

pub left : command (codes "bye") ≡ Some Bye
left = refl

pub left_with_a_word : command (codes "bye bye") ≡ None
left_with_a_word = refl

pub helped : command (codes "help") ≡ Some Help
helped = refl

pub asked : command (codes " ? ") ≡ Some Help
asked = refl

pub helped_with_a_word : command (codes "help save") ≡ None
helped_with_a_word = refl

pub quit : command (codes "quit") ≡ Some Bye
quit = refl

pub exited : command (codes "exit") ≡ Some Bye
exited = refl

-- a script has none of these words
pub help_in_a_script : command_spelled (words (codes "help")) ≡ None
help_in_a_script = refl

pub question_in_a_script : command_spelled (words (codes "?")) ≡ None
question_in_a_script = refl

pub quit_in_a_script : command_spelled (words (codes "quit")) ≡ None
quit_in_a_script = refl

pub exit_in_a_script : command_spelled (words (codes "exit")) ≡ None
exit_in_a_script = refl

-- ---- what is no command

pub of_a_script_alone : command (codes "state 1") ≡ None
of_a_script_alone = refl

pub letters_count : command (codes "Poll") ≡ None
letters_count = refl

pub no_block_here : command (codes "pattern a") ≡ None
no_block_here = refl

pub of_a_script_first : begins_script (words (codes "\treplicas 2")) ≡ true
of_a_script_first = refl

pub of_a_script_later : begins_script (words (codes "cells 1 0 0 1")) ≡ false
of_a_script_later = refl

-- ---- lines one by one

-- what the lines of a text come to
abbrev heard_in : List ℕ → List Heard
heard_in text = lines_heard None (numbered_lines 1 (lines text))

pub faults_and_what_is_behind : heard_in (codes "# a\npoll\n\nshow 1\nend\nbye\n")
    ≡ Nothing ∷ Command Poll ∷ Nothing ∷ Faulty 4 ∷ Faulty 5 ∷ Command Bye ∷ []
faults_and_what_is_behind = refl

-- comment lines, blank lines, and lines that only begin or end with `end` belong to the text
pub block : heard_in (codes "pattern a\r\n#C b\r\n\n end\nend \nends\nend\r\nbye")
    ≡ Nothing ∷ Nothing ∷ Nothing ∷ Nothing ∷ Nothing ∷ Nothing ∷ Command (Pattern (codes "a") (codes "#C b\n\n end\nend \nends\n")) ∷ Command Bye ∷ []
block = refl

pub no_fault_in_a_block : heard_in (codes "pattern a\nnonsense\nend") ≡ Nothing ∷ Nothing ∷ Command (Pattern (codes "a") (codes "nonsense\n")) ∷ []
no_fault_in_a_block = refl

pub lines_of_a_block_count : heard_in (codes "pattern a\n\nend\nend") ≡ Nothing ∷ Nothing ∷ Command (Pattern (codes "a") (codes "\n")) ∷ Faulty 4 ∷ []
lines_of_a_block_count = refl

pub open_block : heard_in (codes "\npattern a\nbye\n") ≡ Nothing ∷ Nothing ∷ Nothing ∷ Faulty 2 ∷ []
open_block = refl

pub faulty_name : heard_in (codes "pattern abcdefghijklmno09\nbye\nend") ≡ Faulty 1 ∷ Command Bye ∷ Faulty 3 ∷ []
faulty_name = refl

-- ---- counting

pub return_dropped : heard_by (record { lines = 6; block = None }) (codes "poll\r") ≡ (Command Poll, record { lines = 7; block = None })
return_dropped = refl

pub one_return_dropped : heard_by (record { lines = 6; block = None }) (codes "poll\r\r") ≡ (Faulty 7, record { lines = 7; block = None })
one_return_dropped = refl

pub opening : heard_by (record { lines = 6; block = None }) (codes "pattern a")
    ≡ (Nothing, record { lines = 7; block = Some (record { line = 7; name = codes "a"; text = [] }) })
opening = refl

pub last_number : heard_by (record { lines = 18446744073709551615; block = None }) (codes "x")
    ≡ (Faulty 18446744073709551615, record { lines = 18446744073709551615; block = None })
last_number = refl
