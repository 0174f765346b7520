-- What the words of the command line ask for.
use Rattle.std.specs.Option.{option_map_or}
use Rattle.std.specs.Prelude.{⊤, ◌≡◌, ◌∷◌, [], ℕ, Bool, List, Option, Some, None, Result, Ok, Err, codes, pos}
use Rattle.std.specs.Prelude.{◌&&◌, ◌||◌, true, false, not, is_some, if◌then◌else◌, option_map, option_and_then, unwrap_or}
use Rattle.std.specs.Str.{bytes_eq}
use Rattle.std.specs.Str.Parse.{digits_value, without_leading_plus}
use Rattle.clap.specs.Words.{App, HasKind, Row, Rule, Shape, Text, fault_of, first_of, new_rule, one_of}
use Rattle.clap.specs.Walk.{all_of}
use Rattle.clap.specs.Words.{subcommand_of}
use Rattle.clap.specs.Simple.{new_shape}
use Rattle.clap.specs.declared.builder.action.ArgAction.TheVariants.{Append, Set, SetTrue}
use Rattle.clap.specs.declared.builder.value_parser.ValueParser.TheVariants as vp
use Rattle.generations_rule.specs.Rule.{GenerationsRule}
use Rattle.header_rules.specs.declared.spelling.Misspelling.{Misspelling}
use Rattle.header_rules.specs.SpelledRule.{rule_spelled}
use Rattle.genedit_io.specs.declared.fault.RunFault.TheVariants.{Memory}
use Rattle.genedit_words.specs.declared.ending.Ending.{Ending}
use Rattle.genedit_words.specs.declared.ending.Ending.TheVariants as ending
use Rattle.genedit_words.specs.declared.task.JoinTask.{JoinTask}
use Rattle.genedit_words.specs.declared.needs.Needs.{Needs}
use Rattle.genedit_words.specs.Misspelt.{Misspelt, NoRule, NoWeb}
use Rattle.genedit_words.specs.Needs.{needs_some, no_needs}
use Rattle.genedit_words.specs.declared.subcommand.Subcommand.{Subcommand}
use Rattle.genedit_words.specs.declared.subcommand.Subcommand.TheVariants as subcommand
use Rattle.genedit_words.specs.declared.task.Task.{Task}
use Rattle.genedit_words.specs.declared.words.NoTask.{NoTask}
use Rattle.genedit_words.specs.declared.words.NoTask.TheVariants as no_task
use Rattle.genedit_words.specs.Subcommands.{subcommand_named}
use Rattle.genedit_words.specs.WebWords.{WebPlace, web_spelled}
use Rattle.genedit_words.specs.Told.{Told, Conversion, Served, Viewed, WebServed, Check, Convert, Diff, Draw, Export, Feed, Follow, Join, Log, Merge, New, Number, Rle, Run, Serve, View, told_of}

-- the rule, or the word that spells none
abbrev pub rule_or_misspelt : Text → Result GenerationsRule Misspelling → Result GenerationsRule Misspelt
rule_or_misspelt text (Ok rule) = Ok rule
rule_or_misspelt text (Err why) = Err (NoRule text why)

-- the rule that a word spells
abbrev pub rule_asked : Text → Result GenerationsRule Misspelt
rule_asked text = rule_or_misspelt text (rule_spelled text)

-- ---- the command line

-- an option `--NAME VALUE`, which may be given
abbrev pub optional : Text → Rule
optional name = record (new_rule name) {
  long = Some name;
  action = Some Set;
  value_names = 1;
}

-- one that has to be given
abbrev pub option : Text → Rule
option name = record (optional name) { required = true }

-- a flag `--NAME`, which may be given
abbrev pub flag : Text → Rule
flag name = record (new_rule name) {
  long = Some name;
  action = Some SetTrue;
}

-- a generation: 0 to 2^29
abbrev pub gen_option : Rule
gen_option = record (optional (codes "gen")) { parser = Some (vp.Signed (pos 0) (pos 536870912)) }

abbrev pub rule_option : Rule
rule_option = option (codes "rule")

-- a port: any number of 16 bits
abbrev pub port_option : Rule
port_option = record (option (codes "port")) { parser = Some (vp.Signed (pos 0) (pos 65535)) }

-- the port of a server, which has to be given, or may be
abbrev pub board_port : Bool → Rule
board_port is_needed = record (optional (codes "port")) { required = is_needed; parser = Some (vp.Signed (pos 0) (pos 65535)) }

-- its web port, which has to be given, or may be
abbrev pub board_web : Bool → Rule
board_web is_needed = record (optional (codes "web")) { required = is_needed }

-- after how many minutes without anybody a server ends by itself: 1 to 1440
abbrev pub idle_option : Rule
idle_option = record (optional (codes "until-idle")) { parser = Some (vp.Signed (pos 1) (pos 1440)) }

-- a number of sessions: 1 to 64
abbrev pub sessions_option : Rule
sessions_option = record (option (codes "sessions")) { parser = Some (vp.Signed (pos 1) (pos 64)) }

-- the number of a server's first seat: 1 to 65472, so that the last of 64 has at most 65535
abbrev pub first_option : Rule
first_option = record (optional (codes "first")) { parser = Some (vp.Signed (pos 1) (pos 65472)) }

-- milliseconds between two polls: 1 to 60,000
abbrev pub every_option : Rule
every_option = record (optional (codes "every")) { parser = Some (vp.Signed (pos 1) (pos 60000)) }

-- a file whose text is read in the place of standard input, which may be given
abbrev pub file_argument : Rule
file_argument = record (new_rule (codes "file")) { value_names = 1 }

abbrev pub run_shape : Shape
run_shape = record (new_shape (codes "run")) { rules = file_argument ∷ [] }

abbrev pub rle_shape : Shape
rle_shape = record (new_shape (codes "rle")) { rules = file_argument ∷ rule_option ∷ [] }

-- the rule of a board that is served, which has to be given, or may be
abbrev pub board_rule : Bool → Rule
board_rule is_needed = record (optional (codes "rule")) { required = is_needed }

-- a server, of which the options that it needs have to be given
abbrev pub serve_shape : Needs → Shape
serve_shape needs = record (new_shape (codes "serve")) {
  rules = board_rule needs.rule ∷ board_port needs.port ∷ board_web needs.web ∷ optional (codes "url") ∷ sessions_option ∷ first_option ∷ optional (codes "keep") ∷ flag (codes "until-close") ∷ idle_option ∷ [];
}

abbrev pub check_shape : Shape
check_shape = record (new_shape (codes "check")) { rules = file_argument ∷ [] }

-- how many records of edits are looked at: any number of 32 bits
abbrev pub edits_option : Rule
edits_option = record (optional (codes "edits")) { parser = Some (vp.Signed (pos 0) (pos 4294967295)) }

-- the longest period that is looked for: 1 to 65535
abbrev pub period_option : Rule
period_option = record (optional (codes "period")) { parser = Some (vp.Signed (pos 1) (pos 65535)) }

abbrev pub view_shape : Shape
view_shape = record (new_shape (codes "view")) {
  rules = file_argument ∷ optional (codes "rule") ∷ optional (codes "at") ∷ optional (codes "size") ∷ gen_option ∷ edits_option ∷ period_option ∷ optional (codes "chart") ∷ flag (codes "plain") ∷ flag (codes "svg") ∷ [];
}

-- a file that has to be named, at its place among the words
abbrev pub place_argument : Text → Rule
place_argument name = record (new_rule name) { value_names = 1; required = true }

abbrev pub convert_shape : Shape
convert_shape = record (new_shape (codes "convert")) {
  rules = place_argument (codes "in") ∷ place_argument (codes "out") ∷ optional (codes "rule") ∷ gen_option ∷ flag (codes "replace") ∷ [];
}

-- a generation at its place: any number of 32 bits
abbrev pub generation_place : Rule
generation_place = record (place_argument (codes "generation")) { parser = Some (vp.Signed (pos 0) (pos 4294967295)) }

-- files, one at least
abbrev pub others_argument : Rule
others_argument = record (place_argument (codes "other")) { action = Some Append }

abbrev pub new_document_shape : Shape
new_document_shape = record (new_shape (codes "new")) { rules = place_argument (codes "file") ∷ rule_option ∷ [] }

-- the number of whoever draws in a document: 65 to 65535, since 1 to 64 are seats of boards
abbrev pub replica_option : Rule
replica_option = record (option (codes "replica")) { parser = Some (vp.Signed (pos 65) (pos 65535)) }

abbrev pub draw_shape : Shape
draw_shape = record (new_shape (codes "draw")) { rules = place_argument (codes "file") ∷ replica_option ∷ [] }

-- the number by which edits are taken that clash, if one is given: 65 to 65535
abbrev pub renumber_option : Rule
renumber_option = record (optional (codes "renumber")) { parser = Some (vp.Signed (pos 65) (pos 65535)) }

abbrev pub merge_shape : Shape
merge_shape = record (new_shape (codes "merge")) { rules = place_argument (codes "file") ∷ others_argument ∷ renumber_option ∷ [] }

abbrev pub diff_shape : Shape
diff_shape = record (new_shape (codes "diff")) { rules = place_argument (codes "file") ∷ place_argument (codes "other") ∷ [] }

abbrev pub log_shape : Shape
log_shape = record (new_shape (codes "log")) { rules = place_argument (codes "file") ∷ edits_option ∷ [] }

abbrev pub export_shape : Shape
export_shape = record (new_shape (codes "export")) { rules = place_argument (codes "file") ∷ generation_place ∷ edits_option ∷ [] }

-- how many records are passed over: any number of 32 bits
abbrev pub from_option : Rule
from_option = record (optional (codes "from")) { parser = Some (vp.Signed (pos 0) (pos 4294967295)) }

abbrev pub follow_shape : Shape
follow_shape = record (new_shape (codes "follow")) { rules = place_argument (codes "file") ∷ from_option ∷ flag (codes "raw") ∷ [] }

abbrev pub feed_shape : Shape
feed_shape = record (new_shape (codes "feed")) { rules = place_argument (codes "file") ∷ [] }

abbrev pub number_shape : Shape
number_shape = record (new_shape (codes "number")) { rules = place_argument (codes "numbers") ∷ place_argument (codes "name") ∷ [] }

abbrev pub join_shape : Shape
join_shape = record (new_shape (codes "join")) { rules = port_option ∷ every_option ∷ flag (codes "follow") ∷ flag (codes "changes") ∷ flag (codes "quiet") ∷ flag (codes "no-rescue") ∷ [] }

-- the command line without its subcommands
abbrev pub top_app : App
top_app = record {
  top = record (new_shape (codes "genedit")) { has_version = true; subcommand_required = true };
  subs = [];
}

-- it with some subcommands
abbrev pub app_with : List Shape → App
app_with subs = record {
  top = record (new_shape (codes "genedit")) {
    is_leaf = false;
    has_version = true;
    subcommand_required = true;
  };
  subs = subs;
}

-- it with the commands for scripts and texts
abbrev pub text_app : App
text_app = app_with (run_shape ∷ check_shape ∷ rle_shape ∷ view_shape ∷ convert_shape ∷ [])

-- and those for boards that are served; for a server the options that it needs have to be given
abbrev pub board_app : Needs → App
board_app needs = app_with (run_shape ∷ check_shape ∷ rle_shape ∷ view_shape ∷ convert_shape ∷ serve_shape needs ∷ join_shape ∷ [])

-- `genedit` has a version and no arguments, and one of its subcommands has to be given; for a server the
-- options that it needs have to be given
abbrev pub app_by : Needs → App
app_by needs = app_with (run_shape ∷ check_shape ∷ rle_shape ∷ view_shape ∷ convert_shape ∷ serve_shape needs ∷ join_shape
    ∷ new_document_shape ∷ draw_shape ∷ merge_shape ∷ diff_shape ∷ log_shape ∷ export_shape ∷ follow_shape ∷ feed_shape ∷ number_shape ∷ [])

-- the words of `genedit` are read so: a server may lack each of these options, since another may stand for it
abbrev pub genedit_app : App
genedit_app = app_by no_needs

-- ---- what words ask for

-- the number that the value of an option spells
abbrev pub number_of : Text → List Row → Option ℕ
number_of id rows = option_map (λ text. digits_value 10 (without_leading_plus text)) (one_of id rows)

-- the file that is named, unless that is `-`, which is standard input
abbrev pub named_file : Text → Option Text
named_file path = if bytes_eq path (codes "-") then None else Some path

-- the file to read, if one is named
abbrev pub file_asked : List Row → Option Text
file_asked rows = option_and_then named_file (first_of (codes "file") rows)

-- a script is run, of a file or of standard input
abbrev pub run_asked : List Row → Option (Result Told Misspelt)
run_asked rows = Some (Ok (Run (file_asked rows)))

abbrev pub rle_task : Option Text → Result GenerationsRule Misspelt → Result Told Misspelt
rle_task file (Ok rule) = Ok (Rle file rule)
rle_task file (Err fault) = Err fault

-- the canonical form under the rule that the option spells
abbrev pub rle_asked : List Row → Option (Result Told Misspelt)
rle_asked rows = option_map (λ text. rle_task (file_asked rows) (rule_asked text)) (first_of (codes "rule") rows)

-- what is wrong with a script, of a file or of standard input
abbrev pub check_asked : List Row → Option (Result Told Misspelt)
check_asked rows = Some (Ok (Check (file_asked rows)))

-- whether a flag was given
abbrev pub is_set : Text → List Row → Bool
is_set id rows = option_map_or (λ text. bytes_eq text (codes "true")) (one_of id rows) false

-- a picture under this rule, if there is one
abbrev pub viewing : List Row → Option GenerationsRule → Viewed
viewing rows rule = record {
  file = file_asked rows;
  rule = rule;
  at = first_of (codes "at") rows;
  size = first_of (codes "size") rows;
  generation = number_of (codes "gen") rows;
  edits = number_of (codes "edits") rows;
  longest_period = number_of (codes "period") rows;
  chart = first_of (codes "chart") rows;
  is_plain = is_set (codes "plain") rows;
  is_svg = is_set (codes "svg") rows;
}

abbrev pub some_rule : Result GenerationsRule Misspelt → Result (Option GenerationsRule) Misspelt
some_rule (Ok rule) = Ok (Some rule)
some_rule (Err fault) = Err fault

-- the rule that an option spells, if it is given
abbrev pub rule_if_given : Option Text → Result (Option GenerationsRule) Misspelt
rule_if_given None = Ok None
rule_if_given (Some text) = some_rule (rule_asked text)

-- an option is given
abbrev pub is_told : Text → List Row → Bool
is_told id rows = is_some (first_of id rows)

-- what the words for a server lack: a rule where they tell neither that nor the file in which its board is kept, a port where they
-- tell neither that nor a web port, and a web port where they tell how links to it begin and not the port
abbrev pub server_needs : List Row → Needs
server_needs rows = record {
  rule = not (is_told (codes "rule") rows || is_told (codes "keep") rows);
  port = not (is_told (codes "port") rows || is_told (codes "web") rows);
  web = is_told (codes "url") rows && not (is_told (codes "web") rows);
}

-- what the words for a subcommand lack: those for a server alone may lack something
abbrev pub needs_of : Text × List Row → Needs
needs_of subcommand = if bytes_eq subcommand.0 (codes "serve") then server_needs subcommand.1 else no_needs

-- the number of a server's first seat: 1 where none is given
abbrev pub first_asked : List Row → ℕ
first_asked rows = unwrap_or (number_of (codes "first") rows) 1

-- the web port that a text spells, and how links to it begin, if that is told; or the text that spells none
abbrev pub web_or_misspelt : Option Text → Text → Option WebPlace → Result (Option WebServed) Misspelt
web_or_misspelt url text (Some place) = Ok (Some (record { address = place.address; port = place.port; url = url }))
web_or_misspelt url text None = Err (NoWeb text)

-- the web port that an option spells, if it is given
abbrev pub web_if_given : Option Text → Option Text → Result (Option WebServed) Misspelt
web_if_given url None = Ok None
web_if_given url (Some text) = web_or_misspelt url text (web_spelled text)

-- the same of the words for a server
abbrev pub web_asked : List Row → Result (Option WebServed) Misspelt
web_asked rows = web_if_given (first_of (codes "url") rows) (first_of (codes "web") rows)

-- a server of so many sessions, under a rule and with a web port if there are such, and what else the words tell of it
abbrev pub served : List Row → ℕ → Option GenerationsRule → Option WebServed → Served
served rows sessions rule web = record {
  rule = rule;
  port = number_of (codes "port") rows;
  sessions = sessions;
  first = first_asked rows;
  keep = first_of (codes "keep") rows;
  until_close = is_set (codes "until-close") rows;
  web = web;
  until_idle = number_of (codes "until-idle") rows;
}

-- the rule is looked at first
abbrev pub serve_task : List Row → Result (Option GenerationsRule) Misspelt → Result (Option WebServed) Misspelt → ℕ → Result Told Misspelt
serve_task rows (Ok rule) (Ok web) sessions = Ok (Serve (served rows sessions rule web))
serve_task rows (Ok rule) (Err wrong) sessions = Err wrong
serve_task rows (Err wrong) web sessions = Err wrong

-- a server under the rule, at the port and at the web port that the options spell, each if it is given, of as many sessions
-- as the option spells, its seats numbered from the first on, of a board that is kept in the file that is named, if one is,
-- which a line may end where that is asked for, and so many minutes without anybody if they are told
abbrev pub server_asked : List Row → Option (Result Told Misspelt)
server_asked rows = option_map (serve_task rows (rule_if_given (first_of (codes "rule") rows)) (web_asked rows)) (number_of (codes "sessions") rows)

-- such a server, of words that lack nothing
abbrev pub serve_asked : List Row → Option (Result Told Misspelt)
serve_asked rows = if needs_some (server_needs rows) then None else server_asked rows

abbrev pub view_task : List Row → Result (Option GenerationsRule) Misspelt → Result Told Misspelt
view_task rows (Ok rule) = Ok (View (viewing rows rule))
view_task rows (Err fault) = Err fault

-- a picture of a pattern, of a state or of a document, under the rule that the option spells if it is given
abbrev pub view_asked : List Row → Option (Result Told Misspelt)
view_asked rows = Some (view_task rows (rule_if_given (first_of (codes "rule") rows)))

-- a conversion of what stands in the one file to the other, under this rule, if there is one
abbrev pub conversion : List Row → Text → Text → Option GenerationsRule → Conversion
conversion rows input output rule = record {
  file = named_file input;
  output = output;
  rule = rule;
  generation = number_of (codes "gen") rows;
  replaces = is_set (codes "replace") rows;
}

abbrev pub convert_task : List Row → Text → Text → Result (Option GenerationsRule) Misspelt → Result Told Misspelt
convert_task rows input output (Ok rule) = Ok (Convert (conversion rows input output rule))
convert_task rows input output (Err fault) = Err fault

-- a conversion, of files that are named at their places, under the rule that the option spells if it is given
abbrev pub convert_asked : List Row → Option (Result Told Misspelt)
convert_asked rows = option_and_then (λ input. option_map (λ output. convert_task rows input output (rule_if_given (first_of (codes "rule") rows)))
    (first_of (codes "out") rows)) (first_of (codes "in") rows)

-- how many milliseconds are let pass between two polls: what the option spells, else 50
abbrev pub interval_asked : List Row → ℕ
interval_asked rows = unwrap_or (number_of (codes "every") rows) 50

-- a client that polls at this port
abbrev pub client_at : List Row → ℕ → JoinTask
client_at rows port = record {
  port = port;
  interval = interval_asked rows;
  is_following = is_set (codes "follow") rows;
  tells_changes = is_set (codes "changes") rows;
  is_quiet = is_set (codes "quiet") rows;
  leaves_no_file = is_set (codes "no-rescue") rows;
}

-- a client at the port that the option spells
abbrev pub join_asked : List Row → Option (Result Told Misspelt)
join_asked rows = option_map (λ port. Ok (Join (client_at rows port))) (number_of (codes "port") rows)

-- a document that is made under the rule that the option spells
abbrev pub new_task : Text → Result GenerationsRule Misspelt → Result Told Misspelt
new_task file (Ok rule) = Ok (New file rule)
new_task file (Err fault) = Err fault

abbrev pub new_asked : List Row → Option (Result Told Misspelt)
new_asked rows = option_and_then (λ file. option_map (λ text. new_task file (rule_asked text)) (first_of (codes "rule") rows)) (first_of (codes "file") rows)

-- a document that is drawn in by whoever has the number that the option spells
abbrev pub draw_asked : List Row → Option (Result Told Misspelt)
draw_asked rows = option_and_then (λ file. option_map (λ replica. Ok (Draw file replica)) (number_of (codes "replica") rows)) (first_of (codes "file") rows)

-- documents that are merged into the first, where edits that clash are taken by the number that the option spells, if it is given
abbrev pub merge_asked : List Row → Option (Result Told Misspelt)
merge_asked rows = option_and_then (λ file. option_map (λ others. Ok (Merge file others (number_of (codes "renumber") rows))) (all_of (codes "other") rows)) (first_of (codes "file") rows)

abbrev pub diff_asked : List Row → Option (Result Told Misspelt)
diff_asked rows = option_and_then (λ file. option_map (λ other. Ok (Diff file (named_file other))) (first_of (codes "other") rows)) (first_of (codes "file") rows)

abbrev pub log_asked : List Row → Option (Result Told Misspelt)
log_asked rows = option_map (λ file. Ok (Log (named_file file) (number_of (codes "edits") rows))) (first_of (codes "file") rows)

abbrev pub export_asked : List Row → Option (Result Told Misspelt)
export_asked rows = option_and_then (λ file. option_map (λ generation. Ok (Export (named_file file) generation (number_of (codes "edits") rows)))
    (number_of (codes "generation") rows)) (first_of (codes "file") rows)

-- a document whose records are told, from behind as many as the option spells
abbrev pub follow_asked : List Row → Option (Result Told Misspelt)
follow_asked rows = option_map (λ file. Ok (Follow file (number_of (codes "from") rows) (is_set (codes "raw") rows))) (first_of (codes "file") rows)

abbrev pub feed_asked : List Row → Option (Result Told Misspelt)
feed_asked rows = option_map (λ file. Ok (Feed file)) (first_of (codes "file") rows)

-- the number of a name, by the file that lists them
abbrev pub number_asked : List Row → Option (Result Told Misspelt)
number_asked rows = option_and_then (λ file. option_map (λ name. Ok (Number file name)) (first_of (codes "name") rows)) (first_of (codes "numbers") rows)

-- what a subcommand asks for, by its rows
abbrev pub asked_by : Subcommand → List Row → Option (Result Told Misspelt)
asked_by subcommand.Run rows = run_asked rows
asked_by subcommand.Check rows = check_asked rows
asked_by subcommand.Rle rows = rle_asked rows
asked_by subcommand.View rows = view_asked rows
asked_by subcommand.Convert rows = convert_asked rows
asked_by subcommand.Serve rows = serve_asked rows
asked_by subcommand.Join rows = join_asked rows
asked_by subcommand.New rows = new_asked rows
asked_by subcommand.Draw rows = draw_asked rows
asked_by subcommand.Merge rows = merge_asked rows
asked_by subcommand.Diff rows = diff_asked rows
asked_by subcommand.Log rows = log_asked rows
asked_by subcommand.Export rows = export_asked rows
asked_by subcommand.Follow rows = follow_asked rows
asked_by subcommand.Feed rows = feed_asked rows
asked_by subcommand.Number rows = number_asked rows

-- the same, by its name
abbrev pub task_of : Text × List Row → Option (Result Told Misspelt)
task_of entered = option_and_then (λ s. asked_by s entered.1) (subcommand_named entered.0)

abbrev pub task_asked : List Text → Option (Result Told Misspelt)
task_asked words = option_and_then task_of (subcommand_of genedit_app words)

-- the words are a command line of `genedit`, and ask for this
abbrev pub Asks : List Text → Result Told Misspelt → Type 0
Asks words task = (fault_of genedit_app words ≡ []) × (task_asked words ≡ Some task)

-- what is asked for is this, or memory is refused
abbrev pub IsAsked : Option (Result Told Misspelt) → Result Task NoTask → Type 0
IsAsked asked (Ok task) = asked ≡ Some (Ok (told_of task))
IsAsked asked (Err (no_task.Rule rule)) = asked ≡ Some (Err (NoRule rule.text.now rule.why))
IsAsked asked (Err (no_task.Web web)) = asked ≡ Some (Err (NoWeb web.text.now))
IsAsked asked (Err no_task.Memory) = ⊤

-- what is told by a task, or by why there is none; nothing where memory is refused
abbrev pub tells : Result Task NoTask → Option (Result Told Misspelt)
tells (Ok task) = Some (Ok (told_of task))
tells (Err (no_task.Rule rule)) = Some (Err (NoRule rule.text.now rule.why))
tells (Err (no_task.Web web)) = Some (Err (NoWeb web.text.now))
tells (Err no_task.Memory) = None

-- the words are a command line of `genedit`, and lack something of the server for which they ask
abbrev pub Lacks : List Text → Needs → Type 0
Lacks words needs = (fault_of genedit_app words ≡ []) × (option_map needs_of (subcommand_of genedit_app words) ≡ Some needs) × (needs_some needs ≡ true)

-- why no task comes of words: they are no command line, they do not spell what they have to or lack something, or memory is refused
abbrev pub EndsWords : List Text → Ending → Type 0
EndsWords words (ending.Words error) = HasKind (fault_of genedit_app words) error
EndsWords words ending.NoText = ⊥
EndsWords words (ending.Rule rule) = Asks words (Err (NoRule rule.text.now rule.why))
EndsWords words (ending.Web web) = Asks words (Err (NoWeb web.text.now))
EndsWords words (ending.Lacking needs) = Lacks words needs
EndsWords words (ending.Run fault) = fault ≡ Memory
