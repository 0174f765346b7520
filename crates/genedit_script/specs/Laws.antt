-- What scripts are, by the lines of a text and what each of them spells.
use Rattle.std.specs.Prelude.{◌≡◌, ◌↔◌, ℕ, ◌+◌, Bool, true, false, not, List, [], ◌∷◌, ◌++◌, length, codes, Some, None, Ok, Err}
use Rattle.std.specs.List.{list_all}
use Rattle.std.specs.Str.{bytes_eq}
use Rattle.std.specs.Str.Lines.{lines}
use Rattle.generations_rule.specs.Rule.{GenerationsRule}
use Rattle.text_scan.specs.Words.{words}
use Rattle.genedit_script.specs.declared.command.Command.{Command}
use Rattle.genedit_script.specs.declared.command.Command.TheVariants.{Names}
use Rattle.genedit_script.specs.Script.{ScriptValue, is_spoken, rule_spelled, replicas_spelled, opening_spelled, command_spelled, head_of, script_of}

-- ---- lines

-- no word stands there, or the first one begins with `#`
abbrev pub is_skipped : List ℕ → Bool
is_skipped line = not (is_spoken (words line))

-- all of some lines are skipped
abbrev pub AreSkipped : List (List ℕ) → Type 0
AreSkipped lines = list_all is_skipped lines ≡ true

-- none of some lines is exactly `end`
abbrev pub HaveNoEnd : List (List ℕ) → Type 0
HaveNoEnd lines = list_all (λ line. not (bytes_eq line (codes "end"))) lines ≡ true

-- each line with one line feed behind it
abbrev pub block_text : List (List ℕ) → List ℕ
block_text [] = []
block_text (line ∷ lines) = line ++ 10 ∷ block_text lines

-- ---- what lines ask for

-- Lines that ask for commands, piece by piece: a skipped line asks for none, a line that spells a command for that, and a
-- whole block, from `pattern NAME` to the first line that is exactly `end`, that NAME stands for the text between.
pub data AskFor : List (List ℕ) → List Command → Type 0 where
  nothing : AskFor [] []
  skipped : {line : List ℕ} {lines : List (List ℕ)} {commands : List Command} →
      is_skipped line ≡ true → AskFor lines commands → AskFor (line ∷ lines) commands
  spelt : {line : List ℕ} {command : Command} {lines : List (List ℕ)} {commands : List Command} →
      command_spelled (words line) ≡ Some command → AskFor lines commands → AskFor (line ∷ lines) (command ∷ commands)
  block : {opening name : List ℕ} (inside : List (List ℕ)) {lines : List (List ℕ)} {commands : List Command} →
      opening_spelled (words opening) ≡ Some name → HaveNoEnd inside → AskFor lines commands →
      AskFor (opening ∷ (inside ++ codes "end" ∷ lines)) (Names name (block_text inside) ∷ commands)

-- skipped lines, and a line `rule TEXT` that names a rule
pub data NameRule : List (List ℕ) → GenerationsRule → Type 0 where
  rule_line : (before : List (List ℕ)) (line : List ℕ) {rule : GenerationsRule} →
      AreSkipped before → rule_spelled (words line) ≡ Some rule → NameRule (before ++ line ∷ []) rule

-- Lines that are a script, whole: lines that name its rule, skipped lines, a line `replicas N`, and lines that ask for
-- its commands.
pub data AreScript : List (List ℕ) → ScriptValue → Type 0 where
  whole : (front between : List (List ℕ)) (line : List ℕ) (behind : List (List ℕ)) {script : ScriptValue} →
      NameRule front (script.rule) → AreSkipped between → replicas_spelled (words line) ≡ Some (script.replicas) → AskFor behind (script.commands) →
      AreScript (front ++ (between ++ line ∷ behind)) script

-- ---- where the first fault is

-- The line of a fault in the two lines that a script begins with: one of them says something else, or the lines end before
-- it. Lines are counted from 1.
pub data HaveHeadFaultAt : List (List ℕ) → ℕ → Type 0 where
  no_rule_line : (before : List (List ℕ)) → AreSkipped before → HaveHeadFaultAt before (length before + 1)
  faulty_rule_line : (before : List (List ℕ)) (line : List ℕ) (more : List (List ℕ)) →
      AreSkipped before → is_skipped line ≡ false → rule_spelled (words line) ≡ None →
      HaveHeadFaultAt (before ++ line ∷ more) (length before + 1)
  no_replicas_line : (front between : List (List ℕ)) (rule : GenerationsRule) → NameRule front rule → AreSkipped between →
      HaveHeadFaultAt (front ++ between) (length (front ++ between) + 1)
  faulty_replicas_line : (front between : List (List ℕ)) (line : List ℕ) (more : List (List ℕ)) (rule : GenerationsRule) →
      NameRule front rule → AreSkipped between → is_skipped line ≡ false → replicas_spelled (words line) ≡ None →
      HaveHeadFaultAt (front ++ (between ++ line ∷ more)) (length (front ++ between) + 1)

-- The line of the first fault of all: in those two lines; or behind lines that are a script a line that is not skipped, no
-- command and no `pattern NAME`, whatever follows it; or there the `pattern` line of a block without its `end`.
pub data HaveFaultAt : List (List ℕ) → ℕ → Type 0 where
  head_fault : {lines : List (List ℕ)} {number : ℕ} → HaveHeadFaultAt lines number → HaveFaultAt lines number
  no_command : (front : List (List ℕ)) (line : List ℕ) (more : List (List ℕ)) (script : ScriptValue) → AreScript front script →
      is_skipped line ≡ false → opening_spelled (words line) ≡ None → command_spelled (words line) ≡ None →
      HaveFaultAt (front ++ line ∷ more) (length front + 1)
  open_block : (front : List (List ℕ)) (opening name : List ℕ) (inside : List (List ℕ)) (script : ScriptValue) → AreScript front script →
      opening_spelled (words opening) ≡ Some name → HaveNoEnd inside →
      HaveFaultAt (front ++ opening ∷ inside) (length front + 1)

-- ---- the laws

-- a text is accepted exactly if its lines are a script, whole, and it is that script
abbrev pub AcceptsScripts : Type 0
AcceptsScripts = (text : List ℕ) (script : ScriptValue) → (script_of text ≡ Ok script) ↔ AreScript (lines text) script

-- a text is refused at a line exactly if its lines have their first fault there
abbrev pub RefusesFaults : Type 0
RefusesFaults = (text : List ℕ) (number : ℕ) → (script_of text ≡ Err number) ↔ HaveFaultAt (lines text) number

-- it is refused before any command is read exactly if the fault is in the two lines that a script begins with
abbrev pub RefusesHeadFaults : Type 0
RefusesHeadFaults = (text : List ℕ) (number : ℕ) → (head_of text ≡ Err number) ↔ HaveHeadFaultAt (lines text) number
