-- What is read of a text, by its lines.
use Rattle.std.proofs.Common.{◌≡◌, ℕ, ◌+◌, List, [], ◌∷◌, ◌++◌, length, refl, sym, ◌∙◌, ap, subst, arith, append_assoc, length-append}
use Rattle.std.specs.Prelude.{true, Some, None, Result, Ok, Err}
use Rattle.std.specs.Str.Lines.{lines}
use Rattle.std.proofs.lemmas.Bool.{not-false}
use Rattle.std.proofs.lemmas.List.{append-nil}
use Rattle.generations_rule.specs.Refusal.{◌>>=◌}
use Rattle.text_scan.specs.Words.{words}
use Rattle.genedit_script.specs.declared.command.Command.{Command}
use Rattle.genedit_script.specs.Script.{ScriptValue, numbered_lines, is_spoken, opening_spelled, command_spelled, commands_spelled, Head, head_spelled}
use Rattle.genedit_script.specs.Laws.{HaveNoEnd, AreScript, whole, HaveHeadFaultAt, HaveFaultAt, head_fault, no_command, open_block, AcceptsScripts, RefusesFaults, RefusesHeadFaults}
use Rattle.genedit_script.proofs.ScriptLemmas.{with_front}
use Rattle.genedit_script.proofs.PieceLaws.{opens_one, block_goes_on, asked}
use Rattle.genedit_script.proofs.HeadLaws.{rule_named, replicas_named, head_refused}
use Rattle.genedit_script.proofs.SortLaws.{HeadSorted, right, wrong, head_sorted, ScriptSorted, accepted, refused, script_sorted}

-- a head, and what is read of the lines behind it
abbrev script_by : Result Head ℕ → Result ScriptValue ℕ
script_by head = head >>= λ head. commands_spelled None head.behind >>= λ commands. Ok (record { rule = head.rule; replicas = head.replicas; commands = commands })

-- the script of lines that are numbered from 1
abbrev read_of : ℕ → List (List ℕ) → Result ScriptValue ℕ
read_of end lines = script_by (head_spelled end (numbered_lines 1 lines))

-- a script, and what is read of lines behind it
abbrev with_more : ScriptValue → Result (List Command) ℕ → Result ScriptValue ℕ
with_more s more = with_front s.commands more >>= λ commands. Ok (record { rule = s.rule; replicas = s.replicas; commands = commands })

script_read : {front : List (List ℕ)} {script : ScriptValue} → AreScript front script → (end : ℕ) (rest : List (List ℕ)) →
    read_of end (front ++ rest) ≡ with_more script (commands_spelled None (numbered_lines (length front + 1) rest))
script_read (whole front between line behind {script = s} named all is asks) end rest =
    let regroup : (front ++ (between ++ line ∷ behind)) ++ rest ≡ front ++ (between ++ line ∷ (behind ++ rest)) = simp append_assoc in
    let start : ℕ = ((1 + length front) + length between) + 1 in
    let place : start + length behind ≡ length (front ++ (between ++ line ∷ behind)) + 1 =
    omega (arith, length-append front (between ++ line ∷ behind), length-append between (line ∷ behind)) in
    ap (read_of end) regroup
    ∙ ap script_by (rule_named named end 1 (between ++ line ∷ (behind ++ rest)))
    ∙ ap script_by (replicas_named end (1 + length front) s.rule between line (behind ++ rest) s.replicas all is)
    ∙ ap (λ (more : Result (List Command) ℕ). more >>= λ commands. Ok (record { rule = s.rule; replicas = s.replicas; commands = commands })) (asked asks start rest)
    ∙ ap (λ k. with_more s (commands_spelled None (numbered_lines k rest))) place

-- ---- from lines to what is read

reads_script : (lines : List (List ℕ)) (script : ScriptValue) → AreScript lines script → read_of (length lines + 1) lines ≡ Ok script
reads_script lines s is =
    ap (read_of (length lines + 1)) (sym (append-nil lines)) ∙ script_read is (length lines + 1) []
    ∙ ap (λ (commands : List Command). Ok (record { rule = s.rule; replicas = s.replicas; commands = commands })) (append-nil s.commands)

refuses_line : (n : ℕ) (line : List ℕ) (more : List (List ℕ)) → is_spoken (words line) ≡ true → opening_spelled (words line) ≡ None → command_spelled (words line) ≡ None →
    commands_spelled None (numbered_lines n (line ∷ more)) ≡ Err n
refuses_line n line more says opens spells = rw (says, opens, spells) refl

refuses_block : (n : ℕ) (opening name : List ℕ) (inside : List (List ℕ)) → opening_spelled (words opening) ≡ Some name → HaveNoEnd inside →
    commands_spelled None (numbered_lines n (opening ∷ inside)) ≡ Err n
refuses_block n opening name inside is none =
    opens_one n opening inside name is
    ∙ ap (λ (ls : List (List ℕ)). commands_spelled (Some (record { line = n; name = name; text = [] })) (numbered_lines (n + 1) ls)) (sym (append-nil inside))
    ∙ block_goes_on inside [] (n + 1) n name [] none

refuses : {lines : List (List ℕ)} {number : ℕ} → HaveFaultAt lines number → read_of (length lines + 1) lines ≡ Err number
refuses (head_fault fault) = ap script_by (head_refused fault)
refuses (no_command front line more s is says opens spells) =
    script_read is (length (front ++ line ∷ more) + 1) (line ∷ more)
    ∙ ap (with_more s) (refuses_line (length front + 1) line more (not-false (is_spoken (words line)) says) opens spells)
refuses (open_block front opening name inside s is opens none) =
    script_read is (length (front ++ opening ∷ inside) + 1) (opening ∷ inside)
    ∙ ap (with_more s) (refuses_block (length front + 1) opening name inside opens none)

-- ---- and back, since all lines are a script or have a fault

script_back : {lines : List (List ℕ)} (s : ScriptValue) → ScriptSorted lines → read_of (length lines + 1) lines ≡ Ok s → AreScript lines s
script_back s (accepted {lines = lines} other is) read =
    let told : read_of (length lines + 1) lines ≡ Ok other = reads_script lines other is in
    let same : other ≡ s = cc in
    subst (AreScript lines) same is
script_back s (refused {lines = lines} number fault) read =
    let told : read_of (length lines + 1) lines ≡ Err number = refuses fault in
    absurd (cc)

fault_back : {lines : List (List ℕ)} (number : ℕ) → ScriptSorted lines → read_of (length lines + 1) lines ≡ Err number → HaveFaultAt lines number
fault_back number (refused {lines = lines} other fault) read =
    let told : read_of (length lines + 1) lines ≡ Err other = refuses fault in
    let same : other ≡ number = cc in
    subst (HaveFaultAt lines) same fault
fault_back number (accepted {lines = lines} s is) read =
    let told : read_of (length lines + 1) lines ≡ Ok s = reads_script lines s is in
    absurd (cc)

head_back : {lines : List (List ℕ)} (number : ℕ) → HeadSorted lines → head_spelled (length lines + 1) (numbered_lines 1 lines) ≡ Err number → HaveHeadFaultAt lines number
head_back number (wrong {lines = lines} other fault) read =
    let told : head_spelled (length lines + 1) (numbered_lines 1 lines) ≡ Err other = head_refused fault in
    let same : other ≡ number = cc in
    subst (HaveHeadFaultAt lines) same fault
head_back number (right front between line behind rule replicas named all is) read =
    let end : ℕ = length (front ++ (between ++ line ∷ behind)) + 1 in
    let told = rule_named named end 1 (between ++ line ∷ behind) ∙ replicas_named end (1 + length front) rule between line behind replicas all is in
    absurd (cc told)

-- ---- the laws

pub accepts_scripts : AcceptsScripts
accepts_scripts text s = (λ read. script_back s (script_sorted (lines text)) read, λ is. reads_script (lines text) s is)

pub refuses_faults : RefusesFaults
refuses_faults text number = (λ read. fault_back number (script_sorted (lines text)) read, λ fault. refuses fault)

pub refuses_head_faults : RefusesHeadFaults
refuses_head_faults text number = (λ read. head_back number (head_sorted (lines text)) read, λ fault. head_refused fault)
