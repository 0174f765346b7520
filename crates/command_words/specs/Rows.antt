-- Worked values of the definitions.
use Rattle.std.specs.Fmt.{digits}
use Rattle.std.specs.Prelude.{◌≡◌, ℕ, List, [], ◌∷◌, true, false, Option, Some, None, codes, refl, negsuc, pos}
use Rattle.pattern_turns.specs.declared.turn.Turn.TheVariants as turned
use Rattle.command_words.specs.declared.argument.Argument.TheVariants as argument
use Rattle.command_words.specs.declared.dialect.Dialect.TheVariants.{Script, Client}
use Rattle.command_words.specs.declared.keyword.Keyword.TheVariants.{Cells, Clear, Copy, Count, Cut, Exit, Export, ExportOver, Help, Open, Period, Poll, Question, Quit, Redo, Replicas, Rule, Save, SaveOver, Show, Turn, Undo, Wait}
use Rattle.command_words.specs.Arguments.{arguments_of}
use Rattle.command_words.specs.Films.{film_name_at, is_film_name}
use Rattle.command_words.specs.Keywords.{keyword_spelled}
use Rattle.command_words.specs.Quotes.{line_words, name_in_quotes}
use Rattle.command_words.specs.Ranges.{generations_of, last_of}
use Rattle.command_words.specs.Spelled.{SpelledValue, begun, fits, line_spelled}

-- ---- keywords

-- a client polls, and a script does not
pub polling : keyword_spelled Client (codes "poll") ≡ Some Poll
polling = refl

pub polling_script : keyword_spelled Script (codes "poll") ≡ None
polling_script = refl

pub showing : keyword_spelled Script (codes "show") ≡ Some Show
showing = refl

pub misspelt : keyword_spelled Client (codes "shwo") ≡ None
misspelt = refl

-- a client is helped and leaves by two words each, of which a script has none
pub helped : keyword_spelled Client (codes "help") ≡ Some Help
helped = refl

pub asked : keyword_spelled Client (codes "?") ≡ Some Question
asked = refl

pub asked_twice : keyword_spelled Client (codes "??") ≡ None
asked_twice = refl

pub leaving : keyword_spelled Client (codes "quit") ≡ Some Quit
leaving = refl

pub going : keyword_spelled Client (codes "exit") ≡ Some Exit
going = refl

pub help_in_a_script : keyword_spelled Script (codes "help") ≡ None
help_in_a_script = refl

pub question_in_a_script : keyword_spelled Script (codes "?") ≡ None
question_in_a_script = refl

pub quit_in_a_script : keyword_spelled Script (codes "quit") ≡ None
quit_in_a_script = refl

pub exit_in_a_script : keyword_spelled Script (codes "exit") ≡ None
exit_in_a_script = refl

-- ---- arguments

-- a client's lines name no replica
pub shown_by_a_client : arguments_of Client Show ≡ argument.X ∷ argument.Y ∷ []
shown_by_a_client = refl

pub greatest_state : fits argument.State (codes "255") ≡ true
greatest_state = refl

pub past_the_states : fits argument.State (codes "256") ≡ false
past_the_states = refl

-- `-0` is a coordinate, and no other number
pub minus_nothing : fits argument.X (codes "-0") ≡ true
minus_nothing = refl

pub no_width : fits argument.Width (codes "-0") ≡ false
no_width = refl

-- a file may have a number's name where that is read, or stands in quotes
pub number_read : fits argument.File (codes "44") ≡ true
number_read = refl

pub number_written : fits argument.NewFile (codes "44") ≡ false
number_written = refl

pub quoted_number_written : fits argument.NewFile (codes "\"44\"") ≡ true
quoted_number_written = refl

pub quoted_coordinate : fits argument.X (codes "\"4\"") ≡ false
quoted_coordinate = refl

pub quoted_pattern : fits argument.Name (codes "\"a\"") ≡ false
quoted_pattern = refl

-- ---- lines

-- what the words of a line spell
abbrev script : List ℕ → Option SpelledValue
script line = line_spelled Script (line_words Script line)

abbrev client : List ℕ → Option SpelledValue
client line = line_spelled Client (line_words Client line)

pub cleared : script (codes "clear 2 -3 4 5 6")
    ≡ Some (record (begun Clear []) { replica = 2; x = negsuc 2; y = pos 4; width = 5; height = 6 })
cleared = refl

-- a client is one replica, whose number is 1
pub cleared_by_a_client : client (codes "clear -3 4 5 6") ≡ script (codes "clear 1 -3 4 5 6")
cleared_by_a_client = refl

pub a_word_too_few : script (codes "clear 2 -3 4 5") ≡ None
a_word_too_few = refl

pub a_word_too_many : script (codes "clear 2 -3 4 5 6 7") ≡ None
a_word_too_many = refl

pub named_pattern : client (codes "copy Glider7 0 1") ≡ Some (record (begun Copy []) { name = codes "Glider7"; y = pos 1 })
named_pattern = refl

pub rule_text : script (codes "rule 23/3/2") ≡ Some (record (begun Rule []) { rule = codes "23/3/2" })
rule_text = refl

pub no_rule : script (codes "rule B3/S23") ≡ None
no_rule = refl

pub most_replicas : script (codes "replicas 64") ≡ Some (record (begun Replicas []) { replicas = 64 })
most_replicas = refl

pub too_many_replicas : script (codes "replicas 65") ≡ None
too_many_replicas = refl

-- what may be left out
pub to_no_file : client (codes "export 4") ≡ Some (record (begun Export []) { generation = 4 })
to_no_file = refl

pub to_a_file : client (codes "export 4 a.rle") ≡ Some (record (begun Export []) { generation = 4; file = Some (codes "a.rle") })
to_a_file = refl

-- a script's export: its second number is no file
pub to_a_number : client (codes "export 1 4") ≡ None
to_a_number = refl

pub over_a_file : client (codes "export! 4 a.rle") ≡ Some (record (begun ExportOver []) { generation = 4; file = Some (codes "a.rle") })
over_a_file = refl

pub over_no_file : client (codes "export! 4") ≡ None
over_no_file = refl

-- a pattern is turned alike by a script and by a client
pub turned_in_a_script : script (codes "turn glider g2 left")
    ≡ Some (record (begun Turn []) { name = codes "glider"; new_name = codes "g2"; turn = Some turned.Left })
turned_in_a_script = refl

pub turned_by_a_client : client (codes "turn glider g2 flip") ≡ script (codes "turn glider g2 flip")
turned_by_a_client = refl

pub other_turns : (fits argument.Turn (codes "half") ≡ true) × (fits argument.Turn (codes "mirror") ≡ true) × (fits argument.Turn (codes "Left") ≡ false)
other_turns = (refl, refl, refl)

pub turned_nowhere : script (codes "turn glider g2") ≡ None
turned_nowhere = refl

pub turned_in_no_name : script (codes "turn glider g_2 left") ≡ None
turned_in_no_name = refl

-- a client counts at several generations, and a script at one
pub counted_at_one : client (codes "count 4") ≡ Some (record (begun Count []) { generation = 4 })
counted_at_one = refl

pub counted_at_several : client (codes "count 4..20/8") ≡ Some (record (begun Count []) { range = Some (record { first = 4; last = 20; step = 8 }) })
counted_at_several = refl

pub counted_at_each : client (codes "count 4..4") ≡ Some (record (begun Count []) { range = Some (record { first = 4; last = 4; step = 1 }) })
counted_at_each = refl

-- ---- films

pub exported_at_several : client (codes "export 4..20/8 a%.rle") ≡ Some (record (begun Export []) { range = Some (record { first = 4; last = 20; step = 8 }); file = Some (codes "a%.rle") })
exported_at_several = refl

pub exported_over_at_several : client (codes "export! 4..5 a") ≡ Some (record (begun ExportOver []) { range = Some (record { first = 4; last = 5; step = 1 }); file = Some (codes "a") })
exported_over_at_several = refl

pub script_exports_at_one : line_spelled Script (codes "export" ∷ codes "1" ∷ codes "4..20" ∷ []) ≡ None
script_exports_at_one = refl

pub one_sign : is_film_name (codes "a%.rle") ≡ true
one_sign = refl

pub no_sign : is_film_name (codes "a.rle") ≡ false
no_sign = refl

pub two_signs : is_film_name (codes "%%") ≡ false
two_signs = refl

pub named_by_the_generation : film_name_at (codes "a%.rle") 120 ≡ codes "a120.rle"
unfolding digits
named_by_the_generation = refl

pub counted_backwards : client (codes "count 4..3") ≡ None
counted_backwards = refl

pub counted_in_place : client (codes "count 0..9/0") ≡ None
counted_in_place = refl

pub counted_at_several_in_a_script : script (codes "count 1 4..20") ≡ None
counted_at_several_in_a_script = refl

pub no_ranges : (fits argument.Generations (codes "4...9") ≡ false) × (fits argument.Generations (codes "4..") ≡ false) × (fits argument.Generations (codes "4..9/") ≡ false)
    × (fits argument.Generations (codes "4.9") ≡ false) × (fits argument.Generations (codes "4..4294967296") ≡ false) × (fits argument.Generation (codes "4..9") ≡ false)
no_ranges = (refl, refl, refl, refl, refl, refl)

-- where whole steps lead
pub all_of_a_range : generations_of (record { first = 4; last = 27; step = 8 }) ≡ 4 ∷ 12 ∷ 20 ∷ []
all_of_a_range = refl

pub last_of_a_range : last_of (record { first = 4; last = 28; step = 8 }) ≡ 28
last_of_a_range = refl

-- a client alone looks for a period, of generation 0 where it says none
pub period_asked : client (codes "period 100 7") ≡ Some (record (begun Period []) { most = 100; generation = 7 })
period_asked = refl

pub period_of_the_board : client (codes "period 65535") ≡ Some (record (begun Period []) { most = 65535 })
period_of_the_board = refl

pub longest_periods : (fits argument.Most (codes "1") ≡ true) × (fits argument.Most (codes "0") ≡ false) × (fits argument.Most (codes "65536") ≡ false)
longest_periods = (refl, refl, refl)

pub period_up_to_nothing : client (codes "period") ≡ None
period_up_to_nothing = refl

pub period_in_a_script : script (codes "period 100 7") ≡ None
period_in_a_script = refl

-- a script's cut tells no file, and a client's may
pub cut_in_a_script : script (codes "cut 2 -3 4 5 6 7")
    ≡ Some (record (begun Cut []) { replica = 2; x = negsuc 2; y = pos 4; width = 5; height = 6; generation = 7 })
cut_in_a_script = refl

pub cut_by_a_client : client (codes "cut -3 4 5 6 7") ≡ script (codes "cut 1 -3 4 5 6 7")
cut_by_a_client = refl

pub cut_in_a_script_to_a_file : script (codes "cut 2 -3 4 5 6 7 a.rle") ≡ None
cut_in_a_script_to_a_file = refl

pub cut_to_a_file : client (codes "cut -3 4 5 6 7 a.rle")
    ≡ Some (record (begun Cut []) { x = negsuc 2; y = pos 4; width = 5; height = 6; generation = 7; file = Some (codes "a.rle") })
cut_to_a_file = refl

pub cut_over_no_file : client (codes "cut! -3 4 5 6 7") ≡ None
cut_over_no_file = refl

pub cut_over_in_a_script : script (codes "cut! 2 -3 4 5 6 7") ≡ None
cut_over_in_a_script = refl

-- a count without a generation is of the board as it is
pub counted : script (codes "count 2") ≡ Some (record (begun Count []) { replica = 2 })
counted = refl

pub counted_later : script (codes "count 2 9") ≡ Some (record (begun Count []) { replica = 2; generation = 9 })
counted_later = refl

pub counted_by_a_client : client (codes "count") ≡ script (codes "count 1")
counted_by_a_client = refl

pub counted_later_by_a_client : client (codes "count 9") ≡ script (codes "count 1 9")
counted_later_by_a_client = refl

-- a client alone takes its drawings back, one a line
pub undone : client (codes "undo") ≡ Some (begun Undo [])
undone = refl

pub redone : client (codes "redo") ≡ Some (begun Redo [])
redone = refl

pub undone_twice : client (codes "undo 2") ≡ None
undone_twice = refl

pub undone_in_a_script : script (codes "undo") ≡ None
undone_in_a_script = refl

pub redone_in_a_script : script (codes "redo") ≡ None
redone_in_a_script = refl

pub saved : client (codes "save 4.state") ≡ Some (record (begun Save []) { file = Some (codes "4.state") })
saved = refl

pub saved_over : client (codes "save! 4x") ≡ Some (record (begun SaveOver []) { file = Some (codes "4x") })
saved_over = refl

pub saved_to_a_number : client (codes "save 44") ≡ None
saved_to_a_number = refl

-- what is read may have any name
pub opened_number : client (codes "open 44") ≡ Some (record (begun Open []) { file = Some (codes "44") })
opened_number = refl

pub waited : client (codes "wait 2 30") ≡ Some (record (begun Wait []) { edits = 2; milliseconds = Some 30 })
waited = refl

-- what is repeated is left
pub cells : client (codes "cells 0 0 1") ≡ Some (begun Cells (codes "0" ∷ codes "0" ∷ codes "1" ∷ []))
cells = refl

pub no_cell : client (codes "cells") ≡ None
no_cell = refl

-- ---- words in quotes

-- one word, which ends the line but for blanks
pub two_words_quoted : line_words Client (codes "save \"my board.state\"") ≡ codes "save" ∷ codes "\"my board.state\"" ∷ []
two_words_quoted = refl

pub one_word_quoted : line_words Client (codes "open \"a\"") ≡ codes "open" ∷ codes "\"a\"" ∷ []
one_word_quoted = refl

pub blanks_quoted : line_words Client (codes "  export\t5 \" x  y\t\" \t ") ≡ codes "export" ∷ codes "5" ∷ codes "\" x  y\t\"" ∷ []
blanks_quoted = refl

-- any other line is parted by blanks: where nothing stands between the quotes
pub no_name_quoted : line_words Client (codes "save \"\"") ≡ codes "save" ∷ codes "\"\"" ∷ []
no_name_quoted = refl

-- where the first is amid a word
pub amid_a_word : line_words Client (codes "save a\"b c\"") ≡ codes "save" ∷ codes "a\"b" ∷ codes "c\"" ∷ []
amid_a_word = refl

-- where none closes
pub not_closed : line_words Client (codes "save \"a b") ≡ codes "save" ∷ codes "\"a" ∷ codes "b" ∷ []
not_closed = refl

-- where something stands behind the closing one
pub text_behind_a_quote : line_words Client (codes "save \"a b\"c") ≡ codes "save" ∷ codes "\"a" ∷ codes "b\"c" ∷ []
text_behind_a_quote = refl

pub word_behind_a_quote : line_words Client (codes "save \"a b\" c") ≡ codes "save" ∷ codes "\"a" ∷ codes "b\"" ∷ codes "c" ∷ []
word_behind_a_quote = refl

-- where one stands between them
pub quote_between : line_words Client (codes "save \"a\"b\"") ≡ codes "save" ∷ codes "\"a\"b\"" ∷ []
quote_between = refl

-- the last two may make a word behind others
pub last_two_quotes : line_words Client (codes "x \"a \"b c\"") ≡ codes "x" ∷ codes "\"a" ∷ codes "\"b c\"" ∷ []
last_two_quotes = refl

pub first_word_quoted : line_words Client (codes "\"save a\"") ≡ codes "\"save a\"" ∷ []
first_word_quoted = refl

-- a script has none
pub quotes_in_a_script : line_words Script (codes "save \"a b\"") ≡ codes "save" ∷ codes "\"a" ∷ codes "b\"" ∷ []
quotes_in_a_script = refl

pub name_quoted : name_in_quotes (codes "\"my board\"  ") ≡ Some (codes "my board")
name_quoted = refl

pub saved_in_quotes : client (codes "save \"my board.state\"") ≡ Some (record (begun Save []) { file = Some (codes "my board.state") })
saved_in_quotes = refl

pub opened_in_quotes : client (codes "open \"a b.rle\" ") ≡ Some (record (begun Open []) { file = Some (codes "a b.rle") })
opened_in_quotes = refl

pub exported_in_quotes : client (codes "export 5 \"x y.rle\"") ≡ Some (record (begun Export []) { generation = 5; file = Some (codes "x y.rle") })
exported_in_quotes = refl

pub exported_over_in_quotes : client (codes "export! 5 \"x\"") ≡ Some (record (begun ExportOver []) { generation = 5; file = Some (codes "x") })
exported_over_in_quotes = refl

pub saved_to_a_quoted_number : client (codes "save \"44\"") ≡ Some (record (begun Save []) { file = Some (codes "44") })
saved_to_a_quoted_number = refl

pub quote_amid_a_name : client (codes "save a\"b") ≡ Some (record (begun Save []) { file = Some (codes "a\"b") })
quote_amid_a_name = refl

pub saved_to_quotes : client (codes "save \"\"") ≡ Some (record (begun Save []) { file = Some (codes "\"\"") })
saved_to_quotes = refl

pub saved_not_closed : client (codes "save \"a b") ≡ None
saved_not_closed = refl

pub saved_with_text_behind : client (codes "save \"a b\" c") ≡ None
saved_with_text_behind = refl

pub quoted_generation : client (codes "export \"5\"") ≡ None
quoted_generation = refl

pub quoted_copy : client (codes "copy \"a b\"") ≡ None
quoted_copy = refl

pub quoted_cells : client (codes "cells 0 0 \"1\"") ≡ None
quoted_cells = refl

pub quoted_save : client (codes "\"save\" a") ≡ None
quoted_save = refl

-- ---- standard output

pub exported_to_output : client (codes "export 4 -") ≡ client (codes "export 4")
exported_to_output = refl

pub exported_over_output : client (codes "export! 4 -") ≡ Some (record (begun ExportOver []) { generation = 4 })
exported_over_output = refl

pub saved_to_output : client (codes "save -") ≡ Some (begun Save [])
saved_to_output = refl

pub saved_over_output : client (codes "save! -") ≡ Some (begun SaveOver [])
saved_over_output = refl

-- a file that is read is called so, and one in quotes
pub opened_dash : client (codes "open -") ≡ Some (record (begun Open []) { file = Some (codes "-") })
opened_dash = refl

pub saved_to_a_quoted_dash : client (codes "save \"-\"") ≡ Some (record (begun Save []) { file = Some (codes "-") })
saved_to_a_quoted_dash = refl

pub waited_for_dash : client (codes "wait -") ≡ None
waited_for_dash = refl
