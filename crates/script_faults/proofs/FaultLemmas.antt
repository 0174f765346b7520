-- The faulty lines begin with the first fault, and stand in order.
use Rattle.std.proofs.Common.{◌≡◌, ℕ, zero, suc, ◌+◌, ◌<◌, ◌≤◌, List, [], ◌∷◌, ◌++◌, refl, sym, ◌∙◌, ap, subst, arith, length, add-one, append_assoc}
use Rattle.std.specs.Prelude.{⊤, ◌&&◌, ◌||◌, Bool, true, false, codes, Option, Some, None, option_map, Result, Ok, Err, slice_index}
use Rattle.std.specs.Option.{ok_or, is_none, is_some}
use Rattle.std.specs.Str.Lines.{lines}
use Rattle.std.proofs.lemmas.Slice.Eq.{bytes_eq-Decides}
use Rattle.generations_rule.specs.Refusal.{◌>>=◌}
use Rattle.generations_rule.specs.Rule.{GenerationsRule}
use Rattle.text_scan.specs.Words.{words}
use Rattle.genedit_script.specs.declared.command.Command.{Command}
use Rattle.genedit_script.specs.declared.command.Command.TheVariants.{Names}
use Rattle.genedit_script.specs.Script.{NumberedLine, ScriptValue, Head, PatternBlock, numbered_lines, lines_from, is_spoken, past_skipped, first_line, onto, rule_spelled, replicas_spelled, opening_spelled, command_spelled, commands_spelled, head_spelled, script_of}
use Rattle.genedit_script.proofs.WordLaws as word
use Rattle.genedit_script.proofs.WordLaws.{rule_words, replicas_words}
use Rattle.script_faults.specs.declared.due.Closing.TheVariants.{Exact}
use Rattle.script_faults.specs.declared.due.Due.{Due}
use Rattle.script_faults.specs.declared.due.Due.TheVariants as due
use Rattle.script_faults.specs.Faults.{begins_with, closes, has_end, is_passed, is_faulty, due_after, due_behind, opens, faulty_end, if_faulty, onto_faulty, faulty_from, faulty_lines, fault_lines}
use Rattle.script_faults.specs.declared.note.Note.{Note}
use Rattle.script_faults.specs.declared.note.Note.TheVariants.{Fault, Warning}
use Rattle.script_faults.specs.Laws.{Begin, AreInOrder, BeginWithFirstFault}

-- ---- in order

-- numbers from one on, each above the one before
abbrev pub Ascend : ℕ → List ℕ → Type 0
Ascend n [] = ⊤
Ascend n (x ∷ xs) = (n ≤ x) × Ascend (x + 1) xs

ascend_from : (m n : ℕ) (xs : List ℕ) → m ≤ n → Ascend n xs → Ascend m xs
ascend_from m n [] h up = tt
ascend_from m n (x ∷ xs) h up = (omega arith, up.1)

ascending : (n : ℕ) (xs : List ℕ) (k : ℕ) → Ascend n xs → k + 1 < length xs → slice_index xs k < slice_index xs (k + 1)
ascending n [] k up within = absurd (omega arith)
ascending n (x ∷ []) k up within = absurd (omega arith)
ascending n (x ∷ y ∷ xs) zero up within = omega (arith, up.1.0)
ascending n (x ∷ y ∷ xs) (suc k) up within =
    let later : slice_index (y ∷ xs) k < slice_index (y ∷ xs) (k + 1) = ascending (x + 1) (y ∷ xs) k up.1 (omega arith) in
    rw add-one (rw add-one at later)

faulty_or_not : (faulty : Bool) (n : ℕ) (rest : List ℕ) → Ascend (n + 1) rest → Ascend n (onto_faulty faulty n rest)
faulty_or_not true n rest up = (omega arith, up)
faulty_or_not false n rest up = ascend_from n (n + 1) rest (omega arith) up

line_ascends : (d : Due) (line : List ℕ) (more : List (List ℕ)) (n end : ℕ) (passed : Bool) → is_passed d line ≡ passed →
    ((d : Due) → Ascend (n + 1) (faulty_from d end (numbered_lines (n + 1) more))) → Ascend n (faulty_from d end (numbered_lines n (line ∷ more)))
line_ascends d line more n end true is rest = rw is (ascend_from n (n + 1) (faulty_from d end (numbered_lines (n + 1) more)) (omega arith) (rest d))
line_ascends d line more n end false is rest =
    rw is (faulty_or_not (is_faulty d line (numbered_lines (n + 1) more)) n (faulty_from (due_behind d line (numbered_lines (n + 1) more)) end (numbered_lines (n + 1) more))
    (rest (due_behind d line (numbered_lines (n + 1) more))))

end_ascends : (d : Due) (n end : ℕ) → n ≤ end → Ascend n (faulty_end d end)
end_ascends due.Rule n end h = (h, tt)
end_ascends due.Replicas n end h = (h, tt)
end_ascends due.Command n end h = tt
end_ascends (due.End closing) n end h = tt

ascends : (lines : List (List ℕ)) (d : Due) (n end : ℕ) → n + length lines ≤ end → Ascend n (faulty_from d end (numbered_lines n lines))
ascends [] d n end h = end_ascends d n end (omega arith)
ascends (line ∷ more) d n end h =
    line_ascends d line more n end (is_passed d line) refl (λ d. ascends more d (n + 1) end (omega arith))

pub are_in_order : AreInOrder
are_in_order text k within = ascending 1 (faulty_lines text) k (ascends (lines text) due.Rule 1 (length (lines text) + 1) (omega arith)) within

-- ---- words

-- a line whose first word is `pattern` is no command
pub pattern_is_none : (ws : List (List ℕ)) → begins_with (codes "pattern") ws ≡ true → command_spelled ws ≡ None
pattern_is_none [] is = absurd (cc)
pattern_is_none (w ∷ ws) is =
    let same : w ≡ codes "pattern" = (bytes_eq-Decides w (codes "pattern")).0 is in
    ap (λ (v : List ℕ). command_spelled (v ∷ ws)) same ∙ word.pattern_is_none ws

-- a line that opens a block begins with `pattern`
pub no_opening : (ws : List (List ℕ)) → begins_with (codes "pattern") ws ≡ false → opening_spelled ws ≡ None
no_opening [] is = refl
no_opening (w ∷ ws) is = word.opens_no_block w ws is

-- ---- commands

onto_begin : (lines : List ℕ) (command : Command) (commands : Result (List Command) ℕ) → Begin lines commands → Begin lines (onto command commands)
onto_begin lines command (Ok commands) first = first
onto_begin lines command (Err n) first = first

-- the line's command, or its fault, and what follows
asked_begins : (n : ℕ) (rest : List ℕ) (asked : Option Command) (commands : Result (List Command) ℕ) → Begin rest commands →
    Begin (onto_faulty (is_none asked) n rest) (ok_or asked n >>= λ command. onto command commands)
asked_begins n rest None commands first = refl
asked_begins n rest (Some command) commands first = onto_begin rest command commands first

-- ---- blocks

-- a block without its `end` has its fault at its first line
open_step : (line : NumberedLine) (lines : List NumberedLine) (block : PatternBlock) (here : Bool) → closes Exact line.text ≡ here → has_end (line ∷ lines) ≡ false →
    ((block : PatternBlock) → has_end lines ≡ false → commands_spelled (Some block) lines ≡ Err block.line) → commands_spelled (Some block) (line ∷ lines) ≡ Err block.line
open_step line lines block true is none rest =
    let ends : true ≡ false = rw is at none in absurd (cc)
open_step line lines block false is none rest =
    let later : has_end lines ≡ false = rw is at none in
    rw is (rest (record { line = block.line; name = block.name; text = (block.text ++ line.text) ++ 10 ∷ [] }) later)

pub open_block : (lines : List NumberedLine) (block : PatternBlock) → has_end lines ≡ false → commands_spelled (Some block) lines ≡ Err block.line
open_block [] block none = refl
open_block (line ∷ lines) block none = open_step line lines block (closes Exact line.text) refl none (λ block none. open_block lines block none)

-- ---- commands and blocks, one after another

abbrev BeginOutside : ℕ → List NumberedLine → Type 0
BeginOutside end lines = Begin (faulty_from due.Command end lines) (commands_spelled None lines)

abbrev BeginInside : ℕ → List NumberedLine → Type 0
BeginInside end lines = (block : PatternBlock) → has_end lines ≡ true → Begin (faulty_from (due.End Exact) end lines) (commands_spelled (Some block) lines)

inside_step : (end : ℕ) (line : NumberedLine) (more : List NumberedLine) (here : Bool) → closes Exact line.text ≡ here → BeginOutside end more → BeginInside end more → BeginInside end (line ∷ more)
inside_step end line more true is outside inside block ends = rw is (onto_begin (faulty_from due.Command end more) (Names block.name block.text) (commands_spelled None more) outside)
inside_step end line more false is outside inside block ends =
    let later : has_end more ≡ true = rw is at ends in
    rw is (inside (record { line = block.line; name = block.name; text = (block.text ++ line.text) ++ 10 ∷ [] }) later)

-- a line that opens a block
opening_step : (end : ℕ) (line : NumberedLine) (more : List NumberedLine) (opened : Option (List ℕ)) (ends : Bool) →
    is_spoken (words line.text) ≡ true → begins_with (codes "pattern") (words line.text) ≡ true → opening_spelled (words line.text) ≡ opened → has_end more ≡ ends →
    BeginInside end more → BeginOutside end (line ∷ more)
opening_step end line more None ends says begins opened has inside =
    rw (says, begins, opened, pattern_is_none (words line.text) begins) refl
opening_step end line more (Some name) true says begins opened has inside =
    rw (says, begins, opened, has) (inside (record { line = line.number; name = name; text = [] }) has)
opening_step end line more (Some name) false says begins opened has inside =
    rw (says, begins, opened, has, open_block more (record { line = line.number; name = name; text = [] }) has) refl

outside_step : (end : ℕ) (line : NumberedLine) (more : List NumberedLine) (says begins : Bool) → is_spoken (words line.text) ≡ says → begins_with (codes "pattern") (words line.text) ≡ begins →
    BeginOutside end more → BeginInside end more → BeginOutside end (line ∷ more)
outside_step end line more false begins says_is begins_is outside inside = rw says_is outside
outside_step end line more true true says_is begins_is outside inside =
    opening_step end line more (opening_spelled (words line.text)) (has_end more) says_is begins_is refl refl inside
outside_step end line more true false says_is begins_is outside inside =
    rw (says_is, begins_is, no_opening (words line.text) begins_is)
    (asked_begins line.number (faulty_from due.Command end more) (command_spelled (words line.text)) (commands_spelled None more) outside)

both_begin : (end : ℕ) (more : List NumberedLine) → BeginOutside end more × BeginInside end more
both_begin end [] = (refl, λ block ends. absurd (cc))
both_begin end (line ∷ more) =
    let rest : BeginOutside end more × BeginInside end more = both_begin end more in (
      outside_step end line more (is_spoken (words line.text)) (begins_with (codes "pattern") (words line.text)) refl refl rest.0 rest.1,
      inside_step end line more (closes Exact line.text) refl rest.0 rest.1,
    )

-- ---- the two lines that a script begins with

abbrev with_commands : Head → Result ScriptValue ℕ
with_commands head = commands_spelled None head.behind >>= λ commands. Ok (record { rule = head.rule; replicas = head.replicas; commands = commands })

abbrev second_read : GenerationsRule → ℕ → List NumberedLine → Result Head ℕ
second_read rule end more =
    first_line end (past_skipped more) >>= λ second. ok_or (replicas_spelled (words second.0.text)) second.0.number >>= λ replicas.
    Ok (record { rule = rule; replicas = replicas; behind = second.1 })

whole_begins : (rule : GenerationsRule) (replicas : ℕ) (numbers : List ℕ) (commands : Result (List Command) ℕ) → Begin numbers commands →
    Begin {A = ScriptValue} numbers (commands >>= λ commands. Ok (record { rule = rule; replicas = replicas; commands = commands }))
whole_begins rule replicas numbers (Ok commands) first = first
whole_begins rule replicas numbers (Err n) first = first

replicas_step : (rule : GenerationsRule) (end : ℕ) (line : NumberedLine) (more : List NumberedLine) (says : Bool) (found : Option ℕ) →
    is_spoken (words line.text) ≡ says → replicas_spelled (words line.text) ≡ found →
    Begin (faulty_from due.Replicas end more) (second_read rule end more >>= with_commands) →
    Begin (faulty_from due.Replicas end (line ∷ more)) (second_read rule end (line ∷ more) >>= with_commands)
replicas_step rule end line more false found says_is found_is rest = rw says_is rest
replicas_step rule end line more true None says_is found_is rest = rw (says_is, found_is) refl
replicas_step rule end line more true (Some n) says_is found_is rest =
    let named = replicas_words (words line.text) n found_is in
    let no_pattern : begins_with (codes "pattern") (words line.text) ≡ false = ap (begins_with (codes "pattern")) named.1 in
    let no_rule : begins_with (codes "rule") (words line.text) ≡ false = ap (begins_with (codes "rule")) named.1 in
    rw (says_is, found_is, no_pattern, no_rule) (whole_begins rule n (faulty_from due.Command end more) (commands_spelled None more) (both_begin end more).0)

replicas_begin : (rule : GenerationsRule) (end : ℕ) (more : List NumberedLine) → Begin (faulty_from due.Replicas end more) (second_read rule end more >>= with_commands)
replicas_begin rule end [] = refl
replicas_begin rule end (line ∷ more) =
    replicas_step rule end line more (is_spoken (words line.text)) (replicas_spelled (words line.text)) refl refl (replicas_begin rule end more)

rule_step : (end : ℕ) (line : NumberedLine) (more : List NumberedLine) (says : Bool) (found : Option GenerationsRule) →
    is_spoken (words line.text) ≡ says → rule_spelled (words line.text) ≡ found →
    Begin (faulty_from due.Rule end more) (head_spelled end more >>= with_commands) →
    Begin (faulty_from due.Rule end (line ∷ more)) (head_spelled end (line ∷ more) >>= with_commands)
rule_step end line more false found says_is found_is rest = rw says_is rest
rule_step end line more true None says_is found_is rest = rw (says_is, found_is) refl
rule_step end line more true (Some rule) says_is found_is rest =
    let named = rule_words (words line.text) rule found_is in
    let no_pattern : begins_with (codes "pattern") (words line.text) ≡ false = ap (begins_with (codes "pattern")) named.1 in
    let no_replicas : begins_with (codes "replicas") (words line.text) ≡ false = ap (begins_with (codes "replicas")) named.1 in
    rw (says_is, found_is, no_pattern, no_replicas) (replicas_begin rule end more)

rule_begins : (end : ℕ) (more : List NumberedLine) → Begin (faulty_from due.Rule end more) (head_spelled end more >>= with_commands)
rule_begins end [] = refl
rule_begins end (line ∷ more) = rule_step end line more (is_spoken (words line.text)) (rule_spelled (words line.text)) refl refl (rule_begins end more)

pub begin_with_first_fault : BeginWithFirstFault
begin_with_first_fault text = rule_begins (length (lines text) + 1) (lines_from 1 text)

-- ---- one line after another

if_onto : (faulty : Bool) (n : ℕ) (rest : List ℕ) → if_faulty faulty n ++ rest ≡ onto_faulty faulty n rest
if_onto true n rest = refl
if_onto false n rest = refl

-- what is told behind one line more
pub told_on : (told more added : List ℕ) (d next : Due) (end : ℕ) (line : NumberedLine) (before behind : List NumberedLine) (all : List ℕ) → before ≡ line ∷ behind →
    is_passed d line.text ≡ false → more ≡ told ++ added → added ≡ if_faulty (is_faulty d line.text behind) line.number → next ≡ due_behind d line.text behind →
    told ++ faulty_from d end before ≡ all → more ++ faulty_from next end behind ≡ all
told_on told more added d next end line before behind all is passed more_is added_is next_is so_far =
    let left : faulty_from d end before ≡ onto_faulty (is_faulty d line.text behind) line.number (faulty_from (due_behind d line.text behind) end behind) =
    ap (faulty_from d end) is ∙ rw passed refl in
    (λ i. more_is i ++ faulty_from (next_is i) end behind) ∙ append_assoc told added (faulty_from (due_behind d line.text behind) end behind)
    ∙ ap (λ a. told ++ (a ++ faulty_from (due_behind d line.text behind) end behind)) added_is
    ∙ ap (λ l. told ++ l) (if_onto (is_faulty d line.text behind) line.number (faulty_from (due_behind d line.text behind) end behind) ∙ sym left) ∙ so_far

-- and behind one that is skipped
pub told_past : (told : List ℕ) (d : Due) (end : ℕ) (line : NumberedLine) (before behind : List NumberedLine) (all : List ℕ) → before ≡ line ∷ behind →
    is_passed d line.text ≡ true → told ++ faulty_from d end before ≡ all → told ++ faulty_from d end behind ≡ all
told_past told d end line before behind all is passed so_far =
    let left : faulty_from d end before ≡ faulty_from d end behind = ap (faulty_from d end) is ∙ rw passed refl in
    ap (λ l. told ++ l) (sym left) ∙ so_far

-- and at the end
pub told_whole : (told more : List ℕ) (d : Due) (end number : ℕ) (before : List NumberedLine) (all : List ℕ) → before ≡ [] → number ≡ end → more ≡ told ++ faulty_end d number →
    told ++ faulty_from d end before ≡ all → more ≡ all
told_whole told more d end number before all is at more_is so_far =
    more_is ∙ (λ i. told ++ faulty_end d (at i)) ∙ ap (λ l. told ++ faulty_from d end l) (sym is) ∙ so_far

pub fault_lines-append : (some others : List Note) → fault_lines (some ++ others) ≡ fault_lines some ++ fault_lines others
fault_lines-append [] others = refl
fault_lines-append (Fault place reason ∷ notes) others = ap (λ l. place.line ∷ l) (fault_lines-append notes others)
fault_lines-append (Warning place warning ∷ notes) others = fault_lines-append notes others

-- the lines of the faults begin with the first
pub told_begin : (text : List ℕ) (told : List ℕ) → told ≡ faulty_lines text → Begin told (script_of text)
told_begin text told is = subst (λ (l : List ℕ). Begin l (script_of text)) (sym is) (begin_with_first_fault text)

-- ---- what is known of the lines behind

-- where no line of some is `end`, none of those behind the first is
pub later_none : (line : NumberedLine) (more before : List NumberedLine) → before ≡ line ∷ more → has_end before ≡ false → has_end more ≡ false
later_none line more before is none = later (closes Exact line.text) (has_end more) (ap has_end (sym is) ∙ none) where
  later : (here there : Bool) → (here || there) ≡ false → there ≡ false
  later true there no_end = absurd (cc)
  later false there no_end = no_end

same_after : (d : Due) (line : List ℕ) (begins ends : Bool) → begins_with (codes "pattern") (words line) ≡ begins → due_after d line (opens d line && ends) ≡ due_after d line ends
same_after due.Rule line true ends is = rw is refl
same_after due.Rule line false ends is = rw is refl
same_after due.Replicas line true ends is = rw is refl
same_after due.Replicas line false ends is = rw is refl
same_after due.Command line true ends is = rw is refl
same_after due.Command line false ends is = rw is refl
same_after (due.End closing) line begins ends is = refl

-- what is due behind a line, where it is known whether a block that it opens has its `end`
pub due_is : (d next : Due) (line : List ℕ) (behind : List NumberedLine) (closed : Bool) → closed ≡ (opens d line && has_end behind) → next ≡ due_after d line closed → next ≡ due_behind d line behind
due_is d next line behind closed closed_is next_is =
    next_is ∙ ap (due_after d line) closed_is ∙ same_after d line (begins_with (codes "pattern") (words line)) (has_end behind) refl

-- where nothing was found, nothing was meant
pub none_meant : {A B : Type 0} (f : A → B) (found : Option A) (meant : Option B) → option_map f found ≡ meant → is_some found ≡ false → is_none meant ≡ true
none_meant f None meant is none = ap is_none (sym is)
none_meant f (Some a) meant is none = absurd (cc)
