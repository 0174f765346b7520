-- What a client's commands are beside those of a script, and what its lines come to from the first on.
use Rattle.std.specs.Prelude.{◌≡◌, ◌↔◌, ℕ, ◌+◌, ◌<◌, ◌^◌, All, Bool, true, false, ◌&&◌, List, [], ◌∷◌, ◌++◌, length, map, codes, Option, Some, None, Result, Ok, Err}
use Rattle.std.specs.Option.{option_map_or}
use Rattle.std.specs.Str.{bytes_eq}
use Rattle.std.specs.Str.Lines.{strip_carriage_return}
use Rattle.text_scan.specs.Bytes.{◌>=>◌}
use Rattle.text_scan.specs.Words.{words}
use Rattle.replica_events.specs.declared.event.Event.TheVariants as event
use Rattle.command_words.specs.declared.argument.Argument.{Argument}
use Rattle.command_words.specs.declared.argument.Argument.TheVariants.{Replica}
use Rattle.command_words.specs.declared.dialect.Dialect.TheVariants.{Client, Script}
use Rattle.command_words.specs.declared.keyword.Keyword.{Keyword}
use Rattle.command_words.specs.Arguments.{optional_of, script_arguments}
use Rattle.command_words.specs.Keywords.{keyword_spelled}
use Rattle.command_words.specs.Quotes.{client_words}
use Rattle.command_words.specs.Ranges.{range_spelled}
use Rattle.command_words.specs.Spelled.{is_empty}
use Rattle.genedit_script.specs.declared.command.Command.{Command}
use Rattle.genedit_script.specs.declared.command.Command.TheVariants.{Does, Names, Copies, Ors, Turns}
use Rattle.genedit_script.specs.Script.{opening_spelled, command_spelled, numbered_lines, commands_spelled, onto}
use Rattle.genedit_script.specs.Laws.{is_skipped, HaveNoEnd, block_text}
use Rattle.client_commands.specs.declared.command.ClientCommand.{ClientCommand}
use Rattle.client_commands.specs.declared.command.ClientCommand.TheVariants as client
use Rattle.client_commands.specs.declared.dictation.Heard.{Heard}
use Rattle.client_commands.specs.declared.dictation.Heard.TheVariants as heard
use Rattle.client_commands.specs.Commands.{client_command_spelled}
use Rattle.client_commands.specs.Dictation.{lines_heard, all_heard_by}

-- ---- one command

-- the command of a script that asks replica 1 for the same, where scripts have one
abbrev pub at_replica_1 : ClientCommand → Option Command
at_replica_1 (client.Draw drawn) = Some (Does (event.Draw 1 drawn))
at_replica_1 (client.Pattern name text) = Some (Names name text)
at_replica_1 (client.Turn turning) = Some (Turns turning)
at_replica_1 (client.Copy placement) = Some (Copies (record { replica = 1; name = placement.name; x = placement.x; y = placement.y }))
at_replica_1 (client.Or placement) = Some (Ors (record { replica = 1; name = placement.name; x = placement.x; y = placement.y }))
at_replica_1 (client.Show x y) = Some (Does (event.Show 1 x y))
at_replica_1 (client.Export generation None) = Some (Does (event.Export 1 generation))
at_replica_1 (client.Export generation (Some file)) = None
at_replica_1 (client.Film film) = None
at_replica_1 (client.Cut window generation None) = Some (Does (event.Cut 1 window generation))
at_replica_1 (client.Cut window generation (Some file)) = None
at_replica_1 (client.Count generation) = Some (Does (event.Count 1 generation))
at_replica_1 (client.Counts range) = None
at_replica_1 (client.Period search) = None
at_replica_1 client.Undo = None
at_replica_1 client.Redo = None
at_replica_1 client.Poll = None
at_replica_1 (client.Wait wait) = None
at_replica_1 (client.Sleep milliseconds) = None
at_replica_1 (client.Save file) = None
at_replica_1 (client.Open file) = None
at_replica_1 client.Help = None
at_replica_1 client.Bye = None

-- the words of a client's command as those of a script: the replica's number stands behind the name
abbrev pub with_replica_1 : List (List ℕ) → List (List ℕ)
with_replica_1 [] = []
with_replica_1 (name ∷ words) = name ∷ codes "1" ∷ words

-- the arguments begin with a replica
abbrev pub take_replica : List Argument → Bool
take_replica (Replica ∷ arguments) = true
take_replica arguments = false

-- Scripts have the same behind this keyword of a client, but for the replica in front; no word may be left out.
abbrev pub is_shared : Keyword → Bool
is_shared keyword = take_replica (script_arguments keyword) && is_empty (optional_of Client keyword)

-- whether a line of a client begins with such a keyword
abbrev pub is_shared_line : List (List ℕ) → Bool
is_shared_line [] = false
is_shared_line (name ∷ words) = option_map_or is_shared (keyword_spelled Client name) false

-- at such a keyword a client asks for what a script asks of replica 1, and neither for anything where the other does not
abbrev pub SpellTheSame : Type 0
SpellTheSame = (words : List (List ℕ)) → is_shared_line words ≡ true →
    client_command_spelled words >=> at_replica_1 ≡ command_spelled (with_replica_1 words)

-- and so at `export`, where no file is named
abbrev pub ExportTheSame : Type 0
ExportTheSame = (generation : List ℕ) →
    client_command_spelled (codes "export" ∷ generation ∷ []) >=> at_replica_1 ≡ command_spelled (with_replica_1 (codes "export" ∷ generation ∷ []))

-- and at `count`, where no range is named
abbrev pub CountTheSame : Type 0
CountTheSame = (words : List (List ℕ)) → All (λ word. range_spelled word ≡ None) words →
    client_command_spelled (codes "count" ∷ words) >=> at_replica_1 ≡ command_spelled (with_replica_1 (codes "count" ∷ words))

-- and at `cut`
abbrev pub CutTheSame : Type 0
CutTheSame = (x y width height generation : List ℕ) →
    client_command_spelled (codes "cut" ∷ x ∷ y ∷ width ∷ height ∷ generation ∷ []) >=> at_replica_1
    ≡ command_spelled (with_replica_1 (codes "cut" ∷ x ∷ y ∷ width ∷ height ∷ generation ∷ []))

-- and at `turn`, which no replica does
abbrev pub TurnTheSame : Type 0
TurnTheSame = (name new_name how : List ℕ) →
    client_command_spelled (codes "turn" ∷ name ∷ new_name ∷ how ∷ []) >=> at_replica_1 ≡ command_spelled (codes "turn" ∷ name ∷ new_name ∷ how ∷ [])

-- ---- all lines

-- Lines of a client, and lines of a script that ask the same of replica 1. They begin in a block, or in none. Each line of a
-- block, and each that opens one, stands in both. A command that only a client has stands beside a skipped line.
pub data AskTheSame : Bool → List (List ℕ) → List (List ℕ) → Type 0 where
  nothing : {in_block : Bool} → AskTheSame in_block [] []
  skipped : {line : List ℕ} {lines others : List (List ℕ)} → is_skipped line ≡ true →
      AskTheSame false lines others → AskTheSame false (line ∷ lines) (line ∷ others)
  shared : {line other : List ℕ} {lines others : List (List ℕ)} → is_shared_line (client_words line) ≡ true → words other ≡ with_replica_1 (client_words line) →
      AskTheSame false lines others → AskTheSame false (line ∷ lines) (other ∷ others)
  export : {line other generation : List ℕ} {lines others : List (List ℕ)} →
      client_words line ≡ codes "export" ∷ generation ∷ [] → words other ≡ with_replica_1 (client_words line) →
      AskTheSame false lines others → AskTheSame false (line ∷ lines) (other ∷ others)
  count : {line other : List ℕ} {behind lines others : List (List ℕ)} →
      client_words line ≡ codes "count" ∷ behind → All (λ word. range_spelled word ≡ None) behind → words other ≡ with_replica_1 (client_words line) →
      AskTheSame false lines others → AskTheSame false (line ∷ lines) (other ∷ others)
  cut : {line other x y width height generation : List ℕ} {lines others : List (List ℕ)} →
      client_words line ≡ codes "cut" ∷ x ∷ y ∷ width ∷ height ∷ generation ∷ [] → words other ≡ with_replica_1 (client_words line) →
      AskTheSame false lines others → AskTheSame false (line ∷ lines) (other ∷ others)
  turn : {line other name new_name how : List ℕ} {lines others : List (List ℕ)} →
      client_words line ≡ codes "turn" ∷ name ∷ new_name ∷ how ∷ [] → words other ≡ client_words line →
      AskTheSame false lines others → AskTheSame false (line ∷ lines) (other ∷ others)
  own : {line other : List ℕ} {command : ClientCommand} {lines others : List (List ℕ)} →
      client_command_spelled (client_words line) ≡ Some command → at_replica_1 command ≡ None → is_skipped other ≡ true →
      AskTheSame false lines others → AskTheSame false (line ∷ lines) (other ∷ others)
  opening : {line name : List ℕ} {lines others : List (List ℕ)} → opening_spelled (words line) ≡ Some name →
      AskTheSame true lines others → AskTheSame false (line ∷ lines) (line ∷ others)
  inside : {line : List ℕ} {lines others : List (List ℕ)} → bytes_eq line (codes "end") ≡ false →
      AskTheSame true lines others → AskTheSame true (line ∷ lines) (line ∷ others)
  closing : {lines others : List (List ℕ)} → AskTheSame false lines others → AskTheSame true (codes "end" ∷ lines) (codes "end" ∷ others)

-- a command in front of those behind it, where a script has it
abbrev pub onto_found : Option Command → Result (List Command) ℕ → Result (List Command) ℕ
onto_found None commands = commands
onto_found (Some command) commands = onto command commands

-- what a script of all that was heard asks of replica 1, or the line of the first fault
abbrev pub asked_of_replica_1 : List Heard → Result (List Command) ℕ
asked_of_replica_1 [] = Ok []
asked_of_replica_1 (heard.Nothing ∷ more) = asked_of_replica_1 more
asked_of_replica_1 (heard.Command command ∷ more) = onto_found (at_replica_1 command) (asked_of_replica_1 more)
asked_of_replica_1 (heard.Faulty number ∷ more) = Err number

-- such a script asks for just that, and has its first fault at just that line
abbrev pub HearTheSame : Type 0
HearTheSame = (lines others : List (List ℕ)) (number : ℕ) → AskTheSame false lines others →
    asked_of_replica_1 (lines_heard None (numbered_lines number lines)) ≡ commands_spelled None (numbered_lines number others)

-- ---- all lines, piece by piece

-- what lines come to that ask for nothing, a `nothing` for each
abbrev pub nothings : List (List ℕ) → List Heard
nothings lines = map (λ line. heard.Nothing) lines

-- What lines come to, the first of them with some number: a skipped line to nothing, a line that spells a command to that, a
-- whole block to nothing at each line before its first `end`, and there to the pattern of the lines between, and any other line
-- to its fault. The end of all lines comes to a fault where it stands in a block, of the block's first line.
pub data ComeTo : ℕ → List (List ℕ) → List Heard → Type 0 where
  no_line : {number : ℕ} → ComeTo number [] []
  skipped_line : {number : ℕ} {line : List ℕ} {lines : List (List ℕ)} {told : List Heard} → is_skipped line ≡ true →
      ComeTo (number + 1) lines told → ComeTo number (line ∷ lines) (heard.Nothing ∷ told)
  command_line : {number : ℕ} {line : List ℕ} {command : ClientCommand} {lines : List (List ℕ)} {told : List Heard} →
      client_command_spelled (client_words line) ≡ Some command →
      ComeTo (number + 1) lines told → ComeTo number (line ∷ lines) (heard.Command command ∷ told)
  faulty_line : {number : ℕ} {line : List ℕ} {lines : List (List ℕ)} {told : List Heard} →
      is_skipped line ≡ false → opening_spelled (words line) ≡ None → client_command_spelled (client_words line) ≡ None →
      ComeTo (number + 1) lines told → ComeTo number (line ∷ lines) (heard.Faulty number ∷ told)
  whole_block : {number : ℕ} {first name : List ℕ} (between : List (List ℕ)) {lines : List (List ℕ)} {told : List Heard} →
      opening_spelled (words first) ≡ Some name → HaveNoEnd between → ComeTo (((number + 1) + length between) + 1) lines told →
      ComeTo number (first ∷ (between ++ codes "end" ∷ lines))
      (heard.Nothing ∷ (nothings between ++ heard.Command (client.Pattern name (block_text between)) ∷ told))
  open_block : {number : ℕ} {first name : List ℕ} (between : List (List ℕ)) →
      opening_spelled (words first) ≡ Some name → HaveNoEnd between →
      ComeTo number (first ∷ between) (heard.Nothing ∷ (nothings between ++ heard.Faulty number ∷ []))

-- lines come to just that
abbrev pub HearPieces : Type 0
HearPieces = (number : ℕ) (lines : List (List ℕ)) (told : List Heard) →
    (lines_heard None (numbered_lines number lines) ≡ told) ↔ ComeTo number lines told

-- ---- one by one

-- lines that are heard one by one from the first on come to what they come to with their numbers from 1
abbrev pub HearInOrder : Type 0
HearInOrder = (texts : List (List ℕ)) → length texts < 2 ^ 64 →
    all_heard_by (record { lines = 0; block = None }) texts ≡ lines_heard None (numbered_lines 1 (map strip_carriage_return texts))
