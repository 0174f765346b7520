-- What the faulty lines obey, for all texts.
use Rattle.std.specs.Prelude.{◌≡◌, ℕ, List, [], ◌∷◌, Option, Some, None, Result, Ok, Err, length, ⊤}
use Rattle.std.specs.List.Sorted.{IsStrictlyIncreasing}
use Rattle.genedit_script.specs.Script.{ScriptValue, script_of}
use Rattle.script_faults.specs.Faults.{command_lines, faulty_lines}

abbrev pub first_of_lines : List ℕ → Option ℕ
first_of_lines [] = None
first_of_lines (line ∷ lines) = Some line

-- the first of some lines is that of the first fault of what was read, and there is none where it was read without a fault
abbrev pub Begin : {A : Type 0} → List ℕ → Result A ℕ → Type 0
Begin lines (Ok read) = lines ≡ []
Begin lines (Err line) = first_of_lines lines ≡ Some line

-- A script has a faulty line exactly where it has a fault, and the first is the line of its first fault.
abbrev pub BeginWithFirstFault : Type 0
BeginWithFirstFault = (text : List ℕ) → Begin (faulty_lines text) (script_of text)

-- they are told in their order, each once
abbrev pub AreInOrder : Type 0
AreInOrder = (text : List ℕ) → IsStrictlyIncreasing (faulty_lines text)

-- as many lines of commands as the script has commands, where it was read
abbrev pub HaveCommandsAt : List ℕ → Result ScriptValue ℕ → Type 0
HaveCommandsAt lines (Ok script) = length lines ≡ length script.commands
HaveCommandsAt lines (Err line) = ⊤

-- a script has as many lines of commands as commands
abbrev pub AreAsMany : Type 0
AreAsMany = (text : List ℕ) → HaveCommandsAt (command_lines text) (script_of text)
