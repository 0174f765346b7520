-- What each command of a client does at a board, and what is left to its caller.
use Rattle.std.specs.Prelude.{◌≡◌, ℕ, ℤ, Bool, true, false, List, ◌++◌, codes, Option, Some, None, Result, Ok, Err}
use mathlib.Core.List.{IsPrefix}
use Rattle.std.specs.Global.{Vec}
use Rattle.generations_rule.specs.Place.{at_place}
use Rattle.multistate_rle.specs.Reading.{parsed}
use Rattle.pattern_cells.specs.declared.window.Window.{Window}
use Rattle.drawing_history.specs.declared.way.Way.TheVariants.{Undo, Redo}
use Rattle.replica_core.specs.declared.event.Question.{Question}
use Rattle.replica_core.specs.declared.event.Question.TheVariants as questions
use Rattle.replica_core.specs.declared.event.Reply.TheVariants as reply
use Rattle.stamped_tree.specs.Plane.{map_of}
use Rattle.genedit_lib.specs.Output.{naming_text, reply_line, turned_named, turning_text, with_named, with_text}
use Rattle.genedit_lib.specs.Patterns.{pattern_in}
use Rattle.genedit_script.specs.declared.command.Turning.{Turning}
use Rattle.macrocell_lines.specs.FileNames.{ends_with_mc}
use Rattle.client_commands.specs.declared.command.FileTarget.{FileTarget}
use Rattle.client_commands.specs.declared.command.ClientCommand.{ClientCommand}
use Rattle.client_commands.specs.declared.command.ClientCommand.TheVariants as command
use Rattle.client_session.specs.declared.outcome.Outcome.{Outcome}
use Rattle.client_session.specs.declared.outcome.Outcome.TheVariants as outcome
use Rattle.client_session.specs.declared.fault.CommandFault.{CommandFault}
use Rattle.client_session.specs.declared.fault.CommandFault.TheVariants.{Memory}
use Rattle.client_session.specs.declared.pasting.PasteMode.TheVariants.{Copy, Or}
use Rattle.client_session.specs.Drawing.{DrawsAndEnds, IsDrawCommand, IsPaste}
use Rattle.client_session.specs.Exporting.{GivesTextNow, IsSaveCommand, IsTellCommand, IsTextCommand, SavesNow, TellsNow}
use Rattle.client_session.specs.Moment.{IsPrinted, KeepsAllButNames, Moment}
use Rattle.client_session.specs.Counting.{IsCountsCommand, TellsCountsNow}
use Rattle.client_session.specs.Macrocells.{GivesMacrocellNow, IsMacrocellCommand}
use Rattle.client_session.specs.Searching.{IsPeriodCommand, TellsPeriodNow}
use Rattle.client_session.specs.Waiting.{IsCount, IsWait}
use Rattle.client_tasks.specs.declared.done.Done.{Done}
use Rattle.client_tasks.specs.declared.done.Done.TheVariants.{Told, InDoubt, Write, Film, Open, Sleep, Leave}
use Rattle.client_tasks.specs.Undoing.{IsTakenBack}

-- ---- what is left

abbrev pub behind_drawing : Outcome → Done
behind_drawing outcome.Drawn = Told
behind_drawing outcome.Refused = Told
behind_drawing outcome.InDoubt = InDoubt

-- a text goes to the file; without one, which is refused, nothing is left
abbrev pub to_file : FileTarget → Option (Vec ℕ) → Done
to_file file (Some text) = Write file text
to_file file None = Told

abbrev pub left_behind : {A : Type 0} → (A → Done) → Result A CommandFault → Result Done CommandFault
left_behind left (Ok answer) = Ok (left answer)
left_behind left (Err fault) = Err fault

-- a call of the client was made, which did as P says, and this is left behind it
pub record Comes {A : Type 0} (P : Result A CommandFault → Type 0) (left : A → Done) (result : Result Done CommandFault) : Type 0 where
  pub called : Result A CommandFault
  pub does : P called
  pub behind : result ≡ left_behind left called

-- nothing was done at the board
abbrev pub Leaves : Done → Moment → Moment → Result Done CommandFault → Type 0
Leaves done m n result = (result ≡ Ok done) × (n ≡ m)

-- ---- names and cells

-- memory is wanting for a name: each name stands for what it did, and what was printed before stands
pub record LacksNaming (m n : Moment) : Type 0 where
  pub names : (other : List ℕ) → pattern_in n.workspace.patterns other ≡ pattern_in m.workspace.patterns other
  pub kept : KeepsAllButNames m n
  pub printed : IsPrefix m.out n.out

-- a text was given a name, if it is a pattern's, and its line printed; or memory is wanting
abbrev pub IsNaming : List ℕ → List ℕ → Moment → Moment → Result Done CommandFault → Type 0
IsNaming name text m n (Ok done) =
    (done ≡ Told) × (n.out ≡ m.out ++ (naming_text name (parsed text) ++ codes "\n"))
    × ((other : List ℕ) → pattern_in n.workspace.patterns other ≡ with_text (pattern_in m.workspace.patterns) name (parsed text) other) × KeepsAllButNames m n
IsNaming name text m n (Err fault) = (fault ≡ Memory) × LacksNaming m n

-- a named pattern was turned, if there is one, and given a name, and its line printed; or memory is wanting
abbrev pub IsTurning : Turning → Moment → Moment → Result Done CommandFault → Type 0
IsTurning turning m n (Ok done) =
    let turned = turned_named (pattern_in m.workspace.patterns) turning in
    (done ≡ Told) × (n.out ≡ m.out ++ (turning_text turning.new_name turned ++ codes "\n"))
    × ((other : List ℕ) → pattern_in n.workspace.patterns other ≡ with_named (pattern_in m.workspace.patterns) turning.new_name turned other) × KeepsAllButNames m n
IsTurning turning m n (Err fault) = (fault ≡ Memory) × LacksNaming m n

-- the write at a coordinate was printed; or memory is wanting, and what was printed before stands
abbrev pub IsShowing : ℤ → ℤ → Moment → Moment → Result Done CommandFault → Type 0
IsShowing x y m n result = IsPrinted Told (reply_line (reply.Shown (map_of m.workspace.replica.plane (at_place x y)))) m n result

-- ---- texts that are printed

-- the commands of a client
abbrev pub help_text : List ℕ
help_text =
    codes "cells x y s .., clear x y w h  draw cells, or an area of dead ones\n"
    ++ codes "pattern NAME, lines, end       keeps the pattern of these lines of RLE\n"
    ++ codes "turn NAME NEW left|right|half|mirror|flip  keeps NAME's pattern, turned, as NEW\n"
    ++ codes "copy NAME x y, or NAME x y     draw its whole box there, or its live cells\n"
    ++ codes "show x y, poll                 print a cell, or what others drew\n"
    ++ codes "count G, count G1..G2[/STEP]   print how many cells live G generations later\n"
    ++ codes "period MOST [G]                prints after how many generations they stand again\n"
    ++ codes "export G [FILE], save FILE     write the cells G generations later; the board\n"
    ++ codes "export G1..G2[/STEP] FILE      writes a FILE each; one % in it is the generation\n"
    ++ codes "export! G FILE, save! FILE     also over a file that is there; a FILE - prints\n"
    ++ codes "cut x y w h G [FILE]           writes what a window shows G generations later\n"
    ++ codes "open FILE                      draws what a file holds; a FILE may be \"a b\"\n"
    ++ codes "undo, redo                     take the last drawing back, and the other way\n"
    ++ codes "wait N [MS], sleep MS          wait for N edits of others; wait MS milliseconds\n"
    ++ codes "bye, quit, exit                leave the board\n"
    ++ codes "help, ?                        print this; `genedit join --help` says more\n"

-- the text that a call gave is printed as it is, or memory is wanting for it; where it gave none nothing is done
abbrev pub IsGivenPrinted : Result (Option (Vec ℕ)) CommandFault → Moment → Moment → Result Done CommandFault → Type 0
IsGivenPrinted (Ok (Some text)) m n result = IsPrinted Told text.items m n result
IsGivenPrinted (Ok None) m n result = Leaves Told m n result
IsGivenPrinted (Err fault) m n result = (result ≡ Err fault) × (n ≡ m)

-- a call of the client was made, which did as P says, and the text that it gave is printed
pub record ComesPrinted (P : Moment → Result (Option (Vec ℕ)) CommandFault → Type 0) (n : Moment) (result : Result Done CommandFault) : Type 0 where
  pub middle : Moment
  pub called : Result (Option (Vec ℕ)) CommandFault
  pub does : P middle called
  pub printed : IsGivenPrinted called middle n result

-- ---- commands

-- what is asked for a cut
abbrev pub cut_of : Window → ℕ → Question
cut_of window generation = questions.Cut (record { window = window; generation = generation })

-- an export goes to a file, as a macrocell where its name is that of one, and else as RLE text
abbrev pub IsExported : Bool → ℕ → FileTarget → Moment → Moment → Result Done CommandFault → Type 0
IsExported true generation file m n result = Comes (IsMacrocellCommand (λ (text : Vec ℕ). text.items) generation m n) (to_file file) result
IsExported false generation file m n result = Comes (IsTextCommand (λ (text : Vec ℕ). text.items) (questions.Export generation) m n) (to_file file) result

-- the same of what the replica holds
abbrev pub IsExportedNow : Bool → ℕ → FileTarget → Moment → Moment → Result Done CommandFault → Type 0
IsExportedNow true generation file m n result = Comes (GivesMacrocellNow (λ (text : Vec ℕ). text.items) generation m n) (to_file file) result
IsExportedNow false generation file m n result = Comes (GivesTextNow (λ (text : Vec ℕ). text.items) (questions.Export generation) m n) (to_file file) result

abbrev pub IsCarriedOut : ClientCommand → Moment → Moment → Result Done CommandFault → Type 0
IsCarriedOut (command.Draw drawing) m n result = Comes (DrawsAndEnds (IsDrawCommand 0 drawing) m n) behind_drawing result
IsCarriedOut (command.Pattern name text) m n result = IsNaming name text m n result
IsCarriedOut (command.Turn turning) m n result = IsTurning turning m n result
IsCarriedOut (command.Copy at) m n result = Comes (DrawsAndEnds (IsPaste Copy at.name (record { x = at.x; y = at.y })) m n) behind_drawing result
IsCarriedOut (command.Or at) m n result = Comes (DrawsAndEnds (IsPaste Or at.name (record { x = at.x; y = at.y })) m n) behind_drawing result
IsCarriedOut (command.Show x y) m n result = IsShowing x y m n result
IsCarriedOut (command.Count generation) m n result = Comes (IsTellCommand (questions.Count generation) m n) (λ _. Told) result
IsCarriedOut (command.Counts range) m n result = Comes (IsCountsCommand range m n) (λ _. Told) result
IsCarriedOut (command.Period search) m n result = Comes (IsPeriodCommand search.first search.most m n) (λ _. Told) result
IsCarriedOut (command.Export generation None) m n result = Comes (IsTellCommand (questions.Export generation) m n) (λ _. Told) result
IsCarriedOut (command.Export generation (Some file)) m n result = IsExported (ends_with_mc file.name) generation file m n result
IsCarriedOut (command.Film film) m n result = Leaves (Film film) m n result
IsCarriedOut (command.Cut window generation None) m n result = Comes (IsTellCommand (cut_of window generation) m n) (λ _. Told) result
IsCarriedOut (command.Cut window generation (Some file)) m n result = Comes (IsTextCommand (λ (text : Vec ℕ). text.items) (cut_of window generation) m n) (to_file file) result
IsCarriedOut (command.Undo) m n result = Comes (IsTakenBack Undo m n) behind_drawing result
IsCarriedOut (command.Redo) m n result = Comes (IsTakenBack Redo m n) behind_drawing result
IsCarriedOut (command.Poll) m n result = Comes (IsCount m n) (λ _. Told) result
IsCarriedOut (command.Wait wait) m n result = Comes (IsWait wait.edits m n) (λ _. Told) result
IsCarriedOut (command.Sleep milliseconds) m n result = Leaves (Sleep milliseconds) m n result
IsCarriedOut (command.Save None) m n result = ComesPrinted (IsSaveCommand (λ (text : Vec ℕ). text.items) m) n result
IsCarriedOut (command.Save (Some file)) m n result = Comes (IsSaveCommand (λ (text : Vec ℕ). text.items) m n) (to_file file) result
IsCarriedOut (command.Open file) m n result = Leaves (Open file) m n result
IsCarriedOut (command.Help) m n result = IsPrinted Told help_text m n result
IsCarriedOut (command.Bye) m n result = Leaves Leave m n result

-- ---- commands behind the end of the server, of what the replica holds, without a poll

-- no server is there to carry a command out
abbrev pub no_server_line : List ℕ
no_server_line = codes "no server\n"

abbrev pub IsCarriedOn : ClientCommand → Moment → Moment → Result Done CommandFault → Type 0
IsCarriedOn (command.Pattern name text) m n result = IsNaming name text m n result
IsCarriedOn (command.Turn turning) m n result = IsTurning turning m n result
IsCarriedOn (command.Show x y) m n result = IsShowing x y m n result
IsCarriedOn (command.Count generation) m n result = Comes (TellsNow (questions.Count generation) m n) (λ _. Told) result
IsCarriedOn (command.Counts range) m n result = Comes (TellsCountsNow range m n) (λ _. Told) result
IsCarriedOn (command.Period search) m n result = Comes (TellsPeriodNow search.first search.most m n) (λ _. Told) result
IsCarriedOn (command.Export generation None) m n result = Comes (TellsNow (questions.Export generation) m n) (λ _. Told) result
IsCarriedOn (command.Export generation (Some file)) m n result = IsExportedNow (ends_with_mc file.name) generation file m n result
IsCarriedOn (command.Film film) m n result = Leaves (Film film) m n result
IsCarriedOn (command.Cut window generation None) m n result = Comes (TellsNow (cut_of window generation) m n) (λ _. Told) result
IsCarriedOn (command.Cut window generation (Some file)) m n result = Comes (GivesTextNow (λ (text : Vec ℕ). text.items) (cut_of window generation) m n) (to_file file) result
IsCarriedOn (command.Save None) m n result = ComesPrinted (SavesNow (λ (text : Vec ℕ). text.items) m) n result
IsCarriedOn (command.Save (Some file)) m n result = Comes (SavesNow (λ (text : Vec ℕ). text.items) m n) (to_file file) result
IsCarriedOn (command.Sleep milliseconds) m n result = Leaves (Sleep milliseconds) m n result
IsCarriedOn (command.Help) m n result = IsPrinted Told help_text m n result
IsCarriedOn (command.Bye) m n result = Leaves Leave m n result
IsCarriedOn (command.Draw drawing) m n result = IsPrinted Told no_server_line m n result
IsCarriedOn (command.Copy at) m n result = IsPrinted Told no_server_line m n result
IsCarriedOn (command.Or at) m n result = IsPrinted Told no_server_line m n result
IsCarriedOn (command.Undo) m n result = IsPrinted Told no_server_line m n result
IsCarriedOn (command.Redo) m n result = IsPrinted Told no_server_line m n result
IsCarriedOn (command.Poll) m n result = IsPrinted Told no_server_line m n result
IsCarriedOn (command.Wait wait) m n result = IsPrinted Told no_server_line m n result
IsCarriedOn (command.Open file) m n result = IsPrinted Told no_server_line m n result
