-- There are as many lines of commands as commands.
use Rattle.std.proofs.Common.{◌≡◌, ℕ, ◌+◌, List, [], ◌∷◌, ◌++◌, refl, ap, arith, length}
use Rattle.std.specs.Prelude.{⊤, Bool, true, false, codes, Option, Some, None, Result, Ok, Err}
use Rattle.std.specs.Option.{ok_or}
use Rattle.std.specs.Str.Lines.{lines}
use Rattle.generations_rule.specs.Refusal.{◌>>=◌}
use Rattle.generations_rule.specs.Rule.{GenerationsRule}
use Rattle.text_scan.specs.Words.{words}
use Rattle.genedit_script.specs.declared.command.Command.{Command}
use Rattle.genedit_script.specs.declared.command.Command.TheVariants.{Names}
use Rattle.genedit_script.specs.Script.{NumberedLine, ScriptValue, Head, PatternBlock, lines_from, is_spoken, past_skipped, first_line, onto, rule_spelled, replicas_spelled, opening_spelled, command_spelled, commands_spelled, head_spelled}
use Rattle.genedit_script.proofs.WordLaws.{rule_words, replicas_words}
use Rattle.script_faults.specs.declared.due.Closing.TheVariants.{Exact}
use Rattle.script_faults.specs.declared.due.Due.TheVariants as due
use Rattle.script_faults.specs.Faults.{begins_with, closes, has_end, command_lines_from}
use Rattle.script_faults.specs.Laws.{HaveCommandsAt, AreAsMany}
use Rattle.script_faults.proofs.FaultLemmas.{pattern_is_none, no_opening, open_block}

-- as many numbers as commands, and one less
abbrev Counts : List ℕ → Result (List Command) ℕ → Type 0
Counts numbers (Ok commands) = length numbers ≡ length commands
Counts numbers (Err n) = ⊤

abbrev CountsLess : List ℕ → Result (List Command) ℕ → Type 0
CountsLess numbers (Ok commands) = length numbers + 1 ≡ length commands
CountsLess numbers (Err n) = ⊤

one_less : (numbers : List ℕ) (command : Command) (commands : Result (List Command) ℕ) → Counts numbers commands → CountsLess numbers (onto command commands)
one_less numbers command (Ok commands) so = omega arith
one_less numbers command (Err n) so = tt

one_more : (numbers : List ℕ) (number : ℕ) (commands : Result (List Command) ℕ) → CountsLess numbers commands → Counts (number ∷ numbers) commands
one_more numbers number (Ok commands) so = omega arith
one_more numbers number (Err n) so = tt

both_more : (numbers : List ℕ) (number : ℕ) (asked : Option Command) (n : ℕ) (commands : Result (List Command) ℕ) → Counts numbers commands →
    Counts (number ∷ numbers) (ok_or asked n >>= λ command. onto command commands)
both_more numbers number None n commands so = tt
both_more numbers number (Some command) n commands so = one_more numbers number (onto command commands) (one_less numbers command commands so)

abbrev CountsOutside : List NumberedLine → Type 0
CountsOutside more = Counts (command_lines_from due.Command more) (commands_spelled None more)

abbrev CountsInside : List NumberedLine → Type 0
CountsInside more = (block : PatternBlock) → has_end more ≡ true → CountsLess (command_lines_from (due.End Exact) more) (commands_spelled (Some block) more)

inside_step : (line : NumberedLine) (more : List NumberedLine) (here : Bool) → closes Exact line.text ≡ here → CountsOutside more → CountsInside more → CountsInside (line ∷ more)
inside_step line more true is outside inside block ends =
    rw is (one_less (command_lines_from due.Command more) (Names block.name block.text) (commands_spelled None more) outside)
inside_step line more false is outside inside block ends =
    let later : has_end more ≡ true = rw is at ends in
    rw is (inside (record { line = block.line; name = block.name; text = (block.text ++ line.text) ++ 10 ∷ [] }) later)

opening_step : (line : NumberedLine) (more : List NumberedLine) (opened : Option (List ℕ)) (ends : Bool) →
    is_spoken (words line.text) ≡ true → begins_with (codes "pattern") (words line.text) ≡ true → opening_spelled (words line.text) ≡ opened → has_end more ≡ ends →
    CountsInside more → CountsOutside (line ∷ more)
opening_step line more None ends says begins opened has inside =
    rw (says, begins, opened, pattern_is_none (words line.text) begins) tt
opening_step line more (Some name) true says begins opened has inside =
    rw (says, begins, opened, has)
    (one_more (command_lines_from (due.End Exact) more) line.number (commands_spelled (Some (record { line = line.number; name = name; text = [] })) more)
    (inside (record { line = line.number; name = name; text = [] }) has))
opening_step line more (Some name) false says begins opened has inside =
    rw (says, begins, opened, has, open_block more (record { line = line.number; name = name; text = [] }) has) tt

outside_step : (line : NumberedLine) (more : List NumberedLine) (says begins : Bool) → is_spoken (words line.text) ≡ says → begins_with (codes "pattern") (words line.text) ≡ begins →
    CountsOutside more → CountsInside more → CountsOutside (line ∷ more)
outside_step line more false begins says_is begins_is outside inside = rw says_is outside
outside_step line more true true says_is begins_is outside inside =
    opening_step line more (opening_spelled (words line.text)) (has_end more) says_is begins_is refl refl inside
outside_step line more true false says_is begins_is outside inside =
    rw (says_is, begins_is, no_opening (words line.text) begins_is)
    (both_more (command_lines_from due.Command more) line.number (command_spelled (words line.text)) line.number (commands_spelled None more) outside)

both_count : (more : List NumberedLine) → CountsOutside more × CountsInside more
both_count [] = (refl, λ block ends. absurd (cc))
both_count (line ∷ more) =
    let rest : CountsOutside more × CountsInside more = both_count more in (
      outside_step line more (is_spoken (words line.text)) (begins_with (codes "pattern") (words line.text)) refl refl rest.0 rest.1,
      inside_step line more (closes Exact line.text) refl rest.0 rest.1,
    )

-- ---- behind the two lines that a script begins with

abbrev with_commands : Head → Result ScriptValue ℕ
with_commands head = commands_spelled None head.behind >>= λ commands. Ok (record { rule = head.rule; replicas = head.replicas; commands = commands })

abbrev second_read : GenerationsRule → ℕ → List NumberedLine → Result Head ℕ
second_read rule end more =
    first_line end (past_skipped more) >>= λ second. ok_or (replicas_spelled (words second.0.text)) second.0.number >>= λ replicas.
    Ok (record { rule = rule; replicas = replicas; behind = second.1 })

whole_counts : (rule : GenerationsRule) (replicas : ℕ) (numbers : List ℕ) (commands : Result (List Command) ℕ) → Counts numbers commands →
    HaveCommandsAt numbers (commands >>= λ commands. Ok (record { rule = rule; replicas = replicas; commands = commands }))
whole_counts rule replicas numbers (Ok commands) so = so
whole_counts rule replicas numbers (Err n) so = tt

replicas_step : (rule : GenerationsRule) (end : ℕ) (line : NumberedLine) (more : List NumberedLine) (says : Bool) (found : Option ℕ) →
    is_spoken (words line.text) ≡ says → replicas_spelled (words line.text) ≡ found →
    HaveCommandsAt (command_lines_from due.Replicas more) (second_read rule end more >>= with_commands) →
    HaveCommandsAt (command_lines_from due.Replicas (line ∷ more)) (second_read rule end (line ∷ more) >>= with_commands)
replicas_step rule end line more false found says_is found_is rest = rw says_is rest
replicas_step rule end line more true None says_is found_is rest = rw (says_is, found_is) tt
replicas_step rule end line more true (Some n) says_is found_is rest =
    let named = replicas_words (words line.text) n found_is in
    let no_pattern : begins_with (codes "pattern") (words line.text) ≡ false = ap (begins_with (codes "pattern")) named.1 in
    let no_rule : begins_with (codes "rule") (words line.text) ≡ false = ap (begins_with (codes "rule")) named.1 in
    rw (says_is, found_is, no_pattern, no_rule) (whole_counts rule n (command_lines_from due.Command more) (commands_spelled None more) (both_count more).0)

replicas_count : (rule : GenerationsRule) (end : ℕ) (more : List NumberedLine) → HaveCommandsAt (command_lines_from due.Replicas more) (second_read rule end more >>= with_commands)
replicas_count rule end [] = tt
replicas_count rule end (line ∷ more) =
    replicas_step rule end line more (is_spoken (words line.text)) (replicas_spelled (words line.text)) refl refl (replicas_count rule end more)

rule_step : (end : ℕ) (line : NumberedLine) (more : List NumberedLine) (says : Bool) (found : Option GenerationsRule) →
    is_spoken (words line.text) ≡ says → rule_spelled (words line.text) ≡ found →
    HaveCommandsAt (command_lines_from due.Rule more) (head_spelled end more >>= with_commands) →
    HaveCommandsAt (command_lines_from due.Rule (line ∷ more)) (head_spelled end (line ∷ more) >>= with_commands)
rule_step end line more false found says_is found_is rest = rw says_is rest
rule_step end line more true None says_is found_is rest = rw (says_is, found_is) tt
rule_step end line more true (Some rule) says_is found_is rest =
    let named = rule_words (words line.text) rule found_is in
    let no_pattern : begins_with (codes "pattern") (words line.text) ≡ false = ap (begins_with (codes "pattern")) named.1 in
    let no_replicas : begins_with (codes "replicas") (words line.text) ≡ false = ap (begins_with (codes "replicas")) named.1 in
    rw (says_is, found_is, no_pattern, no_replicas) (replicas_count rule end more)

rule_counts : (end : ℕ) (more : List NumberedLine) → HaveCommandsAt (command_lines_from due.Rule more) (head_spelled end more >>= with_commands)
rule_counts end [] = tt
rule_counts end (line ∷ more) = rule_step end line more (is_spoken (words line.text)) (rule_spelled (words line.text)) refl refl (rule_counts end more)

pub are_as_many : AreAsMany
are_as_many text = rule_counts (length (lines text) + 1) (lines_from 1 text)
