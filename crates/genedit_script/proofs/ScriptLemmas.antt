-- Commands one after another.
use Rattle.std.proofs.Common.{◌≡◌, ℕ, List, [], ◌∷◌, ◌++◌, refl, sym, ◌∙◌, ap, subst, append_assoc}
use Rattle.std.specs.Prelude.{Bool, true, false, Result, Ok, Err, Option, Some, None}
use Rattle.std.specs.Option.{ok_or}
use Rattle.generations_rule.specs.Refusal.{◌>>=◌}
use Rattle.text_scan.specs.Words.{words}
use Rattle.std.proofs.lemmas.List.{append-nil}
use Rattle.genedit_script.specs.declared.command.Command.{Command}
use Rattle.genedit_script.specs.declared.fault.ScriptFault.{ScriptFault}
use Rattle.genedit_script.specs.declared.fault.ScriptFault.TheVariants.{Line, Memory}
use Rattle.genedit_script.specs.ScriptFault.{IsFaultOf}
use Rattle.genedit_script.specs.Script.{NumberedLine, onto, is_spoken, past_skipped, opening_spelled, command_spelled, commands_spelled}

-- the commands, with others in front
abbrev pub with_front : List Command → Result (List Command) ℕ → Result (List Command) ℕ
with_front front commands = commands >>= λ more. Ok (front ++ more)

-- a command at the end of those so far stands in front of those to come
pub command_between : (front : List Command) (command : Command) (more : Result (List Command) ℕ) →
    with_front (front ++ command ∷ []) more ≡ with_front front (onto command more)
command_between front command (Ok more) = ap Ok (append_assoc front (command ∷ []) more)
command_between front command (Err n) = refl

pub front_of_nothing : (commands : Result (List Command) ℕ) → with_front [] commands ≡ commands
front_of_nothing (Ok commands) = refl
front_of_nothing (Err n) = refl

kept : (line : NumberedLine) (lines : List NumberedLine) → is_spoken (words line.text) ≡ true → past_skipped (line ∷ lines) ≡ line ∷ lines
kept line lines is = rw is refl

skipped : (line : NumberedLine) (lines : List NumberedLine) → is_spoken (words line.text) ≡ false → past_skipped (line ∷ lines) ≡ past_skipped lines
skipped line lines is = rw is refl

skips : (line : NumberedLine) (lines : List NumberedLine) → commands_spelled None lines ≡ commands_spelled None (past_skipped lines) →
    (b : Bool) → is_spoken (words line.text) ≡ b → commands_spelled None (line ∷ lines) ≡ commands_spelled None (past_skipped (line ∷ lines))
skips line lines more true is = ap (commands_spelled None) (sym (kept line lines is))
skips line lines more false is =
    let here : commands_spelled None (line ∷ lines) ≡ commands_spelled None lines = rw is refl in
    here ∙ more ∙ ap (commands_spelled None) (sym (skipped line lines is))

-- skipped lines are no commands
pub skipped_ask_nothing : (lines : List NumberedLine) → commands_spelled None lines ≡ commands_spelled None (past_skipped lines)
skipped_ask_nothing [] = refl
skipped_ask_nothing (line ∷ lines) = skips line lines (skipped_ask_nothing lines) (is_spoken (words line.text)) refl

first_says : (first : NumberedLine) (lines : List NumberedLine) (line : NumberedLine) (more : List NumberedLine) →
    (past_skipped lines ≡ line ∷ more → is_spoken (words line.text) ≡ true) →
    (b : Bool) → is_spoken (words first.text) ≡ b → past_skipped (first ∷ lines) ≡ line ∷ more → is_spoken (words line.text) ≡ true
first_says first lines line more later true b is =
    let same : first ∷ lines ≡ line ∷ more = sym (kept first lines b) ∙ is in
    let same_line : first ≡ line = cc in
    ap (λ (l : NumberedLine). is_spoken (words l.text)) (sym same_line) ∙ b
first_says first lines line more later false b is = later (sym (skipped first lines b) ∙ is)

-- a line behind the skipped ones says something
pub says : (lines : List NumberedLine) (line : NumberedLine) (more : List NumberedLine) → past_skipped lines ≡ line ∷ more →
    is_spoken (words line.text) ≡ true
says [] line more is = absurd (cc)
says (first ∷ lines) line more is = first_says first lines line more (says lines line more) (is_spoken (words first.text)) refl is

-- a line that opens a block
pub opens : (lines : List NumberedLine) (line : NumberedLine) (more : List NumberedLine) (name : List ℕ) → past_skipped lines ≡ line ∷ more →
    opening_spelled (words line.text) ≡ Some name →
    commands_spelled None lines ≡ commands_spelled (Some (record { line = line.number; name = name; text = [] })) more
opens lines line more name is opened = skipped_ask_nothing lines ∙ ap (commands_spelled None) is ∙ rw (says lines line more is, opened) refl

-- a line that opens none
pub asks : (lines : List NumberedLine) (line : NumberedLine) (more : List NumberedLine) → past_skipped lines ≡ line ∷ more →
    opening_spelled (words line.text) ≡ None →
    commands_spelled None lines ≡ (ok_or (command_spelled (words line.text)) line.number >>= λ command. onto command (commands_spelled None more))
asks lines line more is opened = skipped_ask_nothing lines ∙ ap (commands_spelled None) is ∙ rw (says lines line more is, opened) refl

-- where nothing is said, nothing is asked
pub nothing_left : (lines : List NumberedLine) → past_skipped lines ≡ [] → commands_spelled None lines ≡ Ok []
nothing_left lines is = skipped_ask_nothing lines ∙ ap (commands_spelled None) is

-- a command in front of those behind it, with others in front of both
pub goes_on : (front front_after : List Command) (command : Command) (lines more : List NumberedLine) (all : Result (List Command) ℕ) →
    front_after ≡ front ++ command ∷ [] → commands_spelled None lines ≡ onto command (commands_spelled None more) →
    with_front front (commands_spelled None lines) ≡ all → with_front front_after (commands_spelled None more) ≡ all
goes_on front front_after command lines more all after is so_far =
    ap (λ f. with_front f (commands_spelled None more)) after ∙ command_between front command (commands_spelled None more)
    ∙ ap (with_front front) (sym is) ∙ so_far

-- the commands so far are all where none is left
pub ends_here : (front : List Command) (lines : List NumberedLine) (all : Result (List Command) ℕ) → past_skipped lines ≡ [] →
    with_front front (commands_spelled None lines) ≡ all → all ≡ Ok front
ends_here front lines all none so_far =
    sym so_far ∙ ap (with_front front) (nothing_left lines none) ∙ ap Ok (append-nil front)

-- a fault among the commands that are left is the fault of all
pub fault_behind : (front : List Command) (fault : ScriptFault) (left all : Result (List Command) ℕ) →
    with_front front left ≡ all → IsFaultOf fault left → IsFaultOf fault all
fault_behind front (Line n) left all is at = sym is ∙ ap (with_front front) at
fault_behind front Memory left all is at = at

-- a line that is no command has its fault
pub faulty : (found : Option Command) (n : ℕ) (fault : ScriptFault) (more : Result (List Command) ℕ) → Err fault ≡ ok_or found (Line n) →
    IsFaultOf fault (ok_or found n >>= λ command. onto command more)
faulty (Some command) n fault more is = absurd (cc)
faulty None n fault more is =
    let same : fault ≡ Line n = cc in
    subst (λ f. IsFaultOf {A = List Command} f (Err n)) (sym same) refl

-- a line that is a command asks for it
pub found : (asked : Option Command) (command : Command) (n : ℕ) (more : Result (List Command) ℕ) → Ok command ≡ ok_or asked (Line n) →
    (ok_or asked n >>= λ command. onto command more) ≡ onto command more
found None command n more is = absurd (cc)
found (Some other) command n more is =
    let same : other ≡ command = cc in
    ap (λ c. onto c more) same

-- a fault of what is read first is the fault of all
pub first_fault : {A B : Type 0} (fault : ScriptFault) (first : Result A ℕ) (rest : A → Result B ℕ) → IsFaultOf fault first → IsFaultOf fault (first >>= rest)
first_fault (Line n) first rest is = ap (λ f. f >>= rest) is
first_fault Memory first rest is = tt

-- a fault of what is read behind it is the fault of all
pub later_fault : {A B : Type 0} (fault : ScriptFault) (first : Result A ℕ) (rest : A → Result B ℕ) (read : A) → first ≡ Ok read →
    IsFaultOf fault (rest read) → IsFaultOf fault (first >>= rest)
later_fault (Line n) first rest read is told = ap (λ f. f >>= rest) is ∙ told
later_fault Memory first rest read is told = tt
