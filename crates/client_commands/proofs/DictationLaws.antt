-- What a client's lines come to: beside a script's, and one by one.
use Rattle.std.proofs.Common.{◌≡◌, ℕ, ◌+◌, ◌<◌, ◌^◌, List, [], ◌∷◌, ◌++◌, length, map, refl, sym, ◌∙◌, ap, subst, arith}
use Rattle.std.specs.Prelude.{Bool, true, false, codes, Option, Some, None, Result}
use Rattle.std.specs.Str.{bytes_eq}
use Rattle.std.specs.Str.Lines.{strip_carriage_return}
use Rattle.std.specs.Option.{ok_or}
use Rattle.std.proofs.lemmas.Bool.{not-true}
use Rattle.generations_rule.specs.Refusal.{◌>>=◌}
use Rattle.text_scan.specs.Words.{words}
use Rattle.command_words.specs.Quotes.{client_words}
use Rattle.genedit_script.specs.declared.command.Command.{Command}
use Rattle.genedit_script.specs.declared.command.Command.TheVariants.{Names}
use Rattle.genedit_script.specs.Script.{PatternBlock, numbered_lines, is_spoken, opening_spelled, command_spelled, commands_spelled, onto}
use Rattle.genedit_script.specs.Laws.{is_skipped}
use Rattle.genedit_script.proofs.PieceLaws.{skips_one, opens_one}
use Rattle.genedit_script.proofs.WordLaws.{opened_says}
use Rattle.client_commands.specs.declared.command.ClientCommand.{ClientCommand}
use Rattle.client_commands.specs.declared.dictation.Heard.{Heard}
use Rattle.client_commands.specs.declared.dictation.Heard.TheVariants as heard
use Rattle.client_commands.specs.Commands.{client_command_spelled}
use Rattle.client_commands.specs.Dictation.{command_or_fault, line_heard, lines_heard, next_number, all_heard_by}
use Rattle.client_commands.specs.Laws.{at_replica_1, with_replica_1, SpellTheSame, ExportTheSame, CountTheSame, CutTheSame, TurnTheSame, AskTheSame, nothing, skipped, shared, export, count, cut, turn, own, opening, inside, closing, onto_found, asked_of_replica_1, HearTheSame, HearInOrder}
use Rattle.client_commands.proofs.SpellingLaws.{Agree, neither, both, equal, AreCommandLines, IsCommandLine, line_says, line_opens_none, shared_line, export_line, count_line, cut_line, turn_line, command_begins}

-- ---- one command

pub spell_the_same : SpellTheSame
spell_the_same ws is = equal (shared_line ws is).agrees

pub export_the_same : ExportTheSame
export_the_same generation = equal (export_line generation).agrees

pub count_the_same : CountTheSame
count_the_same words none = equal (count_line words none).agrees

pub cut_the_same : CutTheSame
cut_the_same x y width height generation = equal (cut_line x y width height generation).agrees

pub turn_the_same : TurnTheSame
turn_the_same name new_name how = equal (turn_line name new_name how).agrees

-- ---- one line of a client

pub skips : (n : ℕ) (line : List ℕ) (lines : List (List ℕ)) → is_skipped line ≡ true →
    lines_heard None (numbered_lines n (line ∷ lines)) ≡ heard.Nothing ∷ lines_heard None (numbered_lines (n + 1) lines)
skips n line lines is = rw (not-true (is_spoken (words line)) is) refl

pub asks : (n : ℕ) (line : List ℕ) (lines : List (List ℕ)) → is_spoken (words line) ≡ true → opening_spelled (words line) ≡ None →
    lines_heard None (numbered_lines n (line ∷ lines)) ≡ command_or_fault (client_command_spelled (client_words line)) n ∷ lines_heard None (numbered_lines (n + 1) lines)
asks n line lines says none = rw (says, none) refl

pub opens : (n : ℕ) (line : List ℕ) (lines : List (List ℕ)) (name : List ℕ) → opening_spelled (words line) ≡ Some name →
    lines_heard None (numbered_lines n (line ∷ lines)) ≡ heard.Nothing ∷ lines_heard (Some (record { line = n; name = name; text = [] })) (numbered_lines (n + 1) lines)
opens n line lines name is = rw (opened_says (words line) name is, is) refl

-- a block and a line more
abbrev pub longer : PatternBlock → List ℕ → PatternBlock
longer block line = record { line = block.line; name = block.name; text = (block.text ++ line) ++ 10 ∷ [] }

pub goes_on : (n : ℕ) (block : PatternBlock) (line : List ℕ) (lines : List (List ℕ)) → bytes_eq line (codes "end") ≡ false →
    lines_heard (Some block) (numbered_lines n (line ∷ lines)) ≡ heard.Nothing ∷ lines_heard (Some (longer block line)) (numbered_lines (n + 1) lines)
goes_on n block line lines is = rw is refl

-- ---- one line of a script

script_asks : (n : ℕ) (line : List ℕ) (lines : List (List ℕ)) → is_spoken (words line) ≡ true → opening_spelled (words line) ≡ None →
    commands_spelled None (numbered_lines n (line ∷ lines)) ≡ (ok_or (command_spelled (words line)) n >>= λ command. onto command (commands_spelled None (numbered_lines (n + 1) lines)))
script_asks n line lines says none = rw (says, none) refl

script_goes_on : (n : ℕ) (block : PatternBlock) (line : List ℕ) (lines : List (List ℕ)) → bytes_eq line (codes "end") ≡ false →
    commands_spelled (Some block) (numbered_lines n (line ∷ lines)) ≡ commands_spelled (Some (longer block line)) (numbered_lines (n + 1) lines)
script_goes_on n block line lines is = rw is refl

-- ---- a line beside a line

agreed : {asked : Option ClientCommand} {command : Option Command} → Agree asked command → (n : ℕ) (more : List Heard) (rest : Result (List Command) ℕ) →
    asked_of_replica_1 more ≡ rest → asked_of_replica_1 (command_or_fault asked n ∷ more) ≡ (ok_or command n >>= λ command. onto command rest)
agreed neither n more rest same = refl
agreed (both is) n more rest same = λ i. onto_found (is i) (same i)

-- what all lines ask of replica 1, beside what the script asks
abbrev Same : Option PatternBlock → ℕ → List (List ℕ) → List (List ℕ) → Type 0
Same block n lines others = asked_of_replica_1 (lines_heard block (numbered_lines n lines)) ≡ commands_spelled block (numbered_lines n others)

both_ask : (n : ℕ) (line other : List ℕ) (lines others ws : List (List ℕ)) → AreCommandLines (client_words line) ws → words other ≡ ws →
    Same None (n + 1) lines others → Same None n (line ∷ lines) (other ∷ others)
both_ask n line other lines others ws known beside more =
    ap asked_of_replica_1 (asks n line lines (line_says line known.begins) (line_opens_none line known.begins))
    ∙ agreed known.agrees n (lines_heard None (numbered_lines (n + 1) lines)) (commands_spelled None (numbered_lines (n + 1) others)) more
    ∙ ap (λ ws. ok_or (command_spelled ws) n >>= λ command. onto command (commands_spelled None (numbered_lines (n + 1) others))) (sym beside)
    ∙ sym (script_asks n other others (ap is_spoken beside ∙ known.other_says) (ap opening_spelled beside ∙ known.other_opens_none))

one_asks : (n : ℕ) (line other : List ℕ) (lines others : List (List ℕ)) (command : ClientCommand) → client_command_spelled (client_words line) ≡ Some command →
    at_replica_1 command ≡ None → is_skipped other ≡ true → Same None (n + 1) lines others → Same None n (line ∷ lines) (other ∷ others)
one_asks n line other lines others command spelt none skip more =
    let rest = lines_heard None (numbered_lines (n + 1) lines) in
    let begins = command_begins (client_words line) command spelt in
    ap asked_of_replica_1 (asks n line lines (line_says line begins) (line_opens_none line begins))
    ∙ ap (λ (asked : Option ClientCommand). asked_of_replica_1 (command_or_fault asked n ∷ rest)) spelt
    ∙ ap (λ (found : Option Command). onto_found found (asked_of_replica_1 rest)) none
    ∙ more ∙ sym (skips_one n other others skip)

-- ---- all lines

abbrev is_open : Option PatternBlock → Bool
is_open None = false
is_open (Some block) = true

hears : {in_block : Bool} {lines others : List (List ℕ)} → AskTheSame in_block lines others →
    (block : Option PatternBlock) → is_open block ≡ in_block → (n : ℕ) → Same block n lines others
hears nothing None is n = refl
hears nothing (Some block) is n = refl
hears (skipped skip more) (Some block) is n = absurd (cc)
hears (skipped {line = line} {lines = lines} {others = others} skip more) None is n =
    ap asked_of_replica_1 (skips n line lines skip) ∙ hears more None refl (n + 1) ∙ sym (skips_one n line others skip)
hears (shared known beside more) (Some block) is n = absurd (cc)
hears (shared {line = line} {other = other} {lines = lines} {others = others} known beside more) None is n =
    both_ask n line other lines others (with_replica_1 (client_words line)) (shared_line (client_words line) known) beside (hears more None refl (n + 1))
hears (export ws beside more) (Some block) is n = absurd (cc)
hears (export {line = line} {other = other} {generation = generation} {lines = lines} {others = others} ws beside more) None is n =
    both_ask n line other lines others (with_replica_1 (client_words line)) (subst IsCommandLine (sym ws) (export_line generation)) beside (hears more None refl (n + 1))
hears (count ws none beside more) (Some block) is n = absurd (cc)
hears (count {line = line} {other = other} {behind = behind} {lines = lines} {others = others} ws none beside more) None is n =
    both_ask n line other lines others (with_replica_1 (client_words line)) (subst IsCommandLine (sym ws) (count_line behind none)) beside (hears more None refl (n + 1))
hears (cut ws beside more) (Some block) is n = absurd (cc)
hears (cut {line = line} {other = other} {x = x} {y = y} {width = width} {height = height} {generation = generation} {lines = lines} {others = others} ws beside more) None is n =
    both_ask n line other lines others (with_replica_1 (client_words line)) (subst IsCommandLine (sym ws) (cut_line x y width height generation)) beside (hears more None refl (n + 1))
hears (turn ws beside more) (Some block) is n = absurd (cc)
hears (turn {line = line} {other = other} {name = name} {new_name = new_name} {how = how} {lines = lines} {others = others} ws beside more) None is n =
    both_ask n line other lines others (client_words line) (subst (λ (words : List (List ℕ)). AreCommandLines words words) (sym ws) (turn_line name new_name how)) beside (hears more None refl (n + 1))
hears (own spelt none skip more) (Some block) is n = absurd (cc)
hears (own {line = line} {other = other} {command = command} {lines = lines} {others = others} spelt none skip more) None is n =
    one_asks n line other lines others command spelt none skip (hears more None refl (n + 1))
hears (opening names more) (Some block) is n = absurd (cc)
hears (opening {line = line} {name = name} {lines = lines} {others = others} names more) None is n =
    ap asked_of_replica_1 (opens n line lines name names) ∙ hears more (Some (record { line = n; name = name; text = [] })) refl (n + 1)
    ∙ sym (opens_one n line others name names)
hears (inside goes more) None is n = absurd (cc)
hears (inside {line = line} {lines = lines} {others = others} goes more) (Some block) is n =
    ap asked_of_replica_1 (goes_on n block line lines goes) ∙ hears more (Some (longer block line)) refl (n + 1)
    ∙ sym (script_goes_on n block line others goes)
hears (closing more) None is n = absurd (cc)
hears (closing more) (Some block) is n = ap (onto (Names block.name block.text)) (hears more None refl (n + 1))

pub hear_the_same : HearTheSame
hear_the_same lines others number alike = hears alike None refl number

-- ---- one by one

in_order : (texts : List (List ℕ)) (n : ℕ) (block : Option PatternBlock) → n + length texts < 2 ^ 64 →
    all_heard_by (record { lines = n; block = block }) texts ≡ lines_heard block (numbered_lines (n + 1) (map strip_carriage_return texts))
in_order [] n block few = refl
in_order (text ∷ texts) n block few =
    let place : next_number n ≡ n + 1 = omega arith in
    let first = line_heard block (record { number = n + 1; text = strip_carriage_return text }) in
    ap (λ (k : ℕ). let step = line_heard block (record { number = k; text = strip_carriage_return text }) in step.0 ∷ all_heard_by (record { lines = k; block = step.1 }) texts) place
    ∙ ap (λ (more : List Heard). first.0 ∷ more) (in_order texts (n + 1) first.1 (omega arith))

pub hear_in_order : HearInOrder
hear_in_order texts few = in_order texts 0 None (omega arith)
