-- What each command does in a document, and what is left to its caller.
use Rattle.std.specs.Prelude.{◌≡◌, ℕ, Bool, true, false, List, ◌++◌, codes, Option, Some, None, Result, Ok, Err}
use Rattle.std.specs.Global.{Vec}
use Rattle.generations_rule.specs.Place.{at_place}
use Rattle.multistate_rle.specs.Reading.{parsed}
use Rattle.stamped_tree.specs.Plane.{map_of}
use Rattle.pattern_cells.specs.declared.window.Window.{Window}
use Rattle.drawing_history.specs.declared.way.Way.TheVariants.{Undo, Redo}
use Rattle.replica_core.specs.declared.event.Question.{Question}
use Rattle.replica_core.specs.declared.event.Question.TheVariants as questions
use Rattle.replica_core.specs.declared.event.Reply.TheVariants as reply
use Rattle.genedit_lib.specs.Output.{naming_text, reply_line, turned_named, turning_text, with_named, with_text}
use Rattle.genedit_lib.specs.Patterns.{pattern_in}
use Rattle.genedit_script.specs.declared.command.Turning.{Turning}
use Rattle.macrocell_lines.specs.FileNames.{ends_with_mc}
use Rattle.client_commands.specs.declared.command.FileTarget.{FileTarget}
use Rattle.client_commands.specs.declared.command.ClientCommand.{ClientCommand}
use Rattle.client_commands.specs.declared.command.ClientCommand.TheVariants as command
use Rattle.document_pen.specs.declared.done.Done.{Done}
use Rattle.document_pen.specs.declared.done.Done.TheVariants.{Told, Write, Film, Open, Sleep, Leave, OfBoards}
use Rattle.document_pen.specs.declared.naming.PasteMode.TheVariants as mode
use Rattle.document_pen.specs.declared.pen.Outcome.{Outcome}
use Rattle.document_pen.specs.declared.fault.PenFault.{PenFault}
use Rattle.document_pen.specs.declared.fault.PenFault.TheVariants.{Memory}
use Rattle.document_pen.specs.Counting.{AreCountsTold}
use Rattle.document_pen.specs.Drawing.{DrawsAndEnds, IsDrawn, IsPaste, pasted}
use Rattle.document_pen.specs.Exporting.{IsTextGiven, IsTold}
use Rattle.document_pen.specs.Macrocells.{IsMacrocellTold}
use Rattle.document_pen.specs.Pen.{IsPrinted, PenState}
use Rattle.document_pen.specs.Searching.{IsPeriodTold}
use Rattle.document_pen.specs.Undoing.{IsTakenBack}

-- ---- what is left

-- a text goes to the file; without one, which is refused, nothing is left
abbrev pub to_file : FileTarget → Option (Vec ℕ) → Done
to_file file (Some text) = Write file text
to_file file None = Told

abbrev pub left_behind : {A : Type 0} → (A → Done) → Result A PenFault → Result Done PenFault
left_behind left (Ok answer) = Ok (left answer)
left_behind left (Err fault) = Err fault

-- a call of the pen was made, which did as P says, and this is left behind it
pub record Comes {A : Type 0} (P : Result A PenFault → Type 0) (left : A → Done) (result : Result Done PenFault) : Type 0 where
  pub called : Result A PenFault
  pub does : P called
  pub behind : result ≡ left_behind left called

-- nothing was done
abbrev pub Leaves : Done → PenState → PenState → Result Done PenFault → Type 0
Leaves done m n result = (result ≡ Ok done) × (n ≡ m)

-- ---- names

-- of what a pen has the names alone may stand for others, and more may be printed
abbrev pub KeepsAllButNames : PenState → PenState → Type 0
KeepsAllButNames m n = n ≡ record m { patterns = n.patterns; out = n.out }

-- a text was given a name, if it is a pattern's, and its line printed; or memory is wanting, and each name stands for what it did
abbrev pub IsNaming : {A : Type 0} → List ℕ → List ℕ → PenState → PenState → Result A PenFault → Type 0
IsNaming name text m n (Ok done) =
    (n.out ≡ m.out ++ (naming_text name (parsed text) ++ codes "\n"))
    × ((other : List ℕ) → pattern_in n.patterns other ≡ with_text (pattern_in m.patterns) name (parsed text) other) × KeepsAllButNames m n
IsNaming name text m n (Err fault) =
    (fault ≡ Memory) × (n.out ≡ m.out) × ((other : List ℕ) → pattern_in n.patterns other ≡ pattern_in m.patterns other) × KeepsAllButNames m n

-- a named pattern was turned, if there is one, and given a name, and its line printed; or memory is wanting, and each name stands for what it did
abbrev pub IsTurning : {A : Type 0} → Turning → PenState → PenState → Result A PenFault → Type 0
IsTurning turning m n (Ok done) =
    let turned = turned_named (pattern_in m.patterns) turning in
    (n.out ≡ m.out ++ (turning_text turning.new_name turned ++ codes "\n"))
    × ((other : List ℕ) → pattern_in n.patterns other ≡ with_named (pattern_in m.patterns) turning.new_name turned other) × KeepsAllButNames m n
IsTurning turning m n (Err fault) =
    (fault ≡ Memory) × (n.out ≡ m.out) × ((other : List ℕ) → pattern_in n.patterns other ≡ pattern_in m.patterns other) × KeepsAllButNames m n

-- ---- commands

-- the commands that draw in a document
abbrev pub help_text : List ℕ
help_text =
    codes "cells x y s .., clear x y w h  draw cells, or an area of dead ones\n"
    ++ codes "pattern NAME, lines, end       keeps the pattern of these lines of RLE\n"
    ++ codes "turn NAME NEW left|right|half|mirror|flip  keeps NAME's pattern, turned, as NEW\n"
    ++ codes "copy NAME x y, or NAME x y     draw its whole box there, or its live cells\n"
    ++ codes "show x y                       prints a cell\n"
    ++ codes "count G, count G1..G2[/STEP]   print how many cells live G generations later\n"
    ++ codes "period MOST [G]                prints after how many generations they stand again\n"
    ++ codes "export G [FILE]                writes the cells G generations later\n"
    ++ codes "export G1..G2[/STEP] FILE      writes a FILE each; one % in it is the generation\n"
    ++ codes "export! G FILE                 also over a file that is there; a FILE - prints\n"
    ++ codes "cut x y w h G [FILE]           writes what a window shows G generations later\n"
    ++ codes "open FILE                      draws what a file holds; a FILE may be \"a b\"\n"
    ++ codes "undo, redo                     take the last drawing back, and the other way\n"
    ++ codes "sleep MS                       waits MS milliseconds\n"
    ++ codes "bye, quit, exit                end\n"
    ++ codes "help, ?                        print this; `genedit draw --help` says more\n"

-- what is asked for a cut
abbrev pub cut_of : Window → ℕ → Question
cut_of window generation = questions.Cut (record { window = window; generation = generation })

-- an export goes to a file, as a macrocell where its name is that of one, and else as RLE text
abbrev pub IsExported : Bool → ℕ → FileTarget → PenState → PenState → Result Done PenFault → Type 0
IsExported true generation file m n result = Comes (IsMacrocellTold (λ (text : Vec ℕ). text.items) generation m n) (to_file file) result
IsExported false generation file m n result = Comes (IsTextGiven (λ (text : Vec ℕ). text.items) (questions.Export generation) m n) (to_file file) result

abbrev pub IsCarriedOut : ClientCommand → PenState → PenState → Result Done PenFault → Type 0
IsCarriedOut (command.Draw drawing) m n result = Comes (DrawsAndEnds (IsDrawn 0 drawing) m n) (λ (_ : Outcome). Told) result
IsCarriedOut (command.Pattern name text) m n result = Comes {A = Unit {0}} (IsNaming name text m n) (λ _. Told) result
IsCarriedOut (command.Turn turning) m n result = Comes {A = Unit {0}} (IsTurning turning m n) (λ _. Told) result
IsCarriedOut (command.Copy at) m n result = Comes (IsPaste (pasted mode.Copy at m) m n) (λ (_ : Outcome). Told) result
IsCarriedOut (command.Or at) m n result = Comes (IsPaste (pasted mode.Or at m) m n) (λ (_ : Outcome). Told) result
IsCarriedOut (command.Show x y) m n result = Comes {A = Unit {0}} (IsPrinted tt (reply_line (reply.Shown (map_of m.replica.plane (at_place x y)))) m n) (λ _. Told) result
IsCarriedOut (command.Count generation) m n result = Comes {A = Unit {0}} (IsTold (questions.Count generation) m n) (λ _. Told) result
IsCarriedOut (command.Counts range) m n result = Comes {A = Unit {0}} (AreCountsTold range m n) (λ _. Told) result
IsCarriedOut (command.Period search) m n result = Comes {A = Unit {0}} (IsPeriodTold search.first search.most m n) (λ _. Told) result
IsCarriedOut (command.Export generation None) m n result = Comes {A = Unit {0}} (IsTold (questions.Export generation) m n) (λ _. Told) result
IsCarriedOut (command.Export generation (Some file)) m n result = IsExported (ends_with_mc file.name) generation file m n result
IsCarriedOut (command.Film film) m n result = Leaves (Film film) m n result
IsCarriedOut (command.Cut window generation None) m n result = Comes {A = Unit {0}} (IsTold (cut_of window generation) m n) (λ _. Told) result
IsCarriedOut (command.Cut window generation (Some file)) m n result = Comes (IsTextGiven (λ (text : Vec ℕ). text.items) (cut_of window generation) m n) (to_file file) result
IsCarriedOut (command.Undo) m n result = Comes (IsTakenBack Undo m n) (λ (_ : Outcome). Told) result
IsCarriedOut (command.Redo) m n result = Comes (IsTakenBack Redo m n) (λ (_ : Outcome). Told) result
IsCarriedOut (command.Open file) m n result = Leaves (Open file) m n result
IsCarriedOut (command.Sleep milliseconds) m n result = Leaves (Sleep milliseconds) m n result
IsCarriedOut (command.Help) m n result = Comes {A = Unit {0}} (IsPrinted tt help_text m n) (λ _. Told) result
IsCarriedOut (command.Bye) m n result = Leaves Leave m n result
IsCarriedOut (command.Poll) m n result = Leaves OfBoards m n result
IsCarriedOut (command.Wait wait) m n result = Leaves OfBoards m n result
IsCarriedOut (command.Save file) m n result = Leaves OfBoards m n result
