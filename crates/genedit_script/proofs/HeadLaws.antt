-- The two lines that a script begins with, behind skipped ones.
use Rattle.std.proofs.Common.{◌≡◌, ℕ, ◌+◌, List, [], ◌∷◌, ◌++◌, length, refl, sym, ◌∙◌, ap, arith, append_assoc, add-zero, length-append}
use Rattle.std.specs.Prelude.{true, Some, None, Result, Ok, Err}
use Rattle.std.specs.Option.{ok_or}
use Rattle.std.specs.List.{list_all}
use Rattle.std.proofs.lemmas.Bool.{not-true, not-false, and_parts}
use Rattle.std.proofs.lemmas.List.{append-nil}
use Rattle.generations_rule.specs.Refusal.{◌>>=◌}
use Rattle.generations_rule.specs.Rule.{GenerationsRule}
use Rattle.text_scan.specs.Words.{words}
use Rattle.genedit_script.specs.Script.{NumberedLine, numbered_lines, is_spoken, past_skipped, first_line, rule_spelled, replicas_spelled, Head, head_spelled}
use Rattle.genedit_script.specs.Laws.{is_skipped, AreSkipped, NameRule, rule_line, HaveHeadFaultAt, no_rule_line, faulty_rule_line, no_replicas_line, faulty_replicas_line}
use Rattle.genedit_script.proofs.WordLaws.{rule_says, replicas_say}

-- ---- skipped lines

skips_first : (n : ℕ) (line : List ℕ) (lines : List (List ℕ)) → is_skipped line ≡ true →
    past_skipped (numbered_lines n (line ∷ lines)) ≡ past_skipped (numbered_lines (n + 1) lines)
skips_first n line lines is = rw (not-true (is_spoken (words line)) is) refl

skips : (before rest : List (List ℕ)) (n : ℕ) → AreSkipped before →
    past_skipped (numbered_lines n (before ++ rest)) ≡ past_skipped (numbered_lines (n + length before) rest)
skips [] rest n all = rw add-zero refl
skips (line ∷ before) rest n all =
    let parts = and_parts (is_skipped line) (list_all is_skipped before) all in
    let place : (n + 1) + length before ≡ n + length (line ∷ before) = omega arith in
    skips_first n line (before ++ rest) parts.0 ∙ skips before rest (n + 1) parts.1 ∙ ap (λ k. past_skipped (numbered_lines k rest)) place

skips_all : (lines : List (List ℕ)) (n : ℕ) → AreSkipped lines → past_skipped (numbered_lines n lines) ≡ []
skips_all lines n all = ap (λ (ls : List (List ℕ)). past_skipped (numbered_lines n ls)) (sym (append-nil lines)) ∙ skips lines [] n all

here : (n : ℕ) (line : List ℕ) (more : List (List ℕ)) → is_spoken (words line) ≡ true →
    past_skipped (numbered_lines n (line ∷ more)) ≡ numbered_lines n (line ∷ more)
here n line more is = rw is refl

-- the first line that says something, behind skipped ones
reaches : (before : List (List ℕ)) (line : List ℕ) (more : List (List ℕ)) (n : ℕ) → AreSkipped before → is_spoken (words line) ≡ true →
    past_skipped (numbered_lines n (before ++ line ∷ more)) ≡ numbered_lines (n + length before) (line ∷ more)
reaches before line more n all is = skips before (line ∷ more) n all ∙ here (n + length before) line more is

-- ---- the two lines

-- what is read from the line on that should name the replicas
abbrev pub second_of : ℕ → GenerationsRule → List NumberedLine → Result Head ℕ
second_of end rule lines =
    first_line end lines >>= λ second. ok_or (replicas_spelled (words second.0.text)) second.0.number >>= λ replicas.
    Ok (record { rule = rule; replicas = replicas; behind = second.1 })

-- what is read from the line on that should name the rule
abbrev first_of : ℕ → List NumberedLine → Result Head ℕ
first_of end lines =
    first_line end lines >>= λ first. ok_or (rule_spelled (words first.0.text)) first.0.number >>= λ rule.
    second_of end rule (past_skipped first.1)

reads_rule : (end n : ℕ) (line : List ℕ) (more : List (List ℕ)) (rule : GenerationsRule) → rule_spelled (words line) ≡ Some rule →
    first_of end (numbered_lines n (line ∷ more)) ≡ second_of end rule (past_skipped (numbered_lines (n + 1) more))
reads_rule end n line more rule is = rw is refl

refuses_rule : (end n : ℕ) (line : List ℕ) (more : List (List ℕ)) → rule_spelled (words line) ≡ None → first_of end (numbered_lines n (line ∷ more)) ≡ Err n
refuses_rule end n line more is = rw is refl

reads_replicas : (end n : ℕ) (line : List ℕ) (more : List (List ℕ)) (rule : GenerationsRule) (replicas : ℕ) → replicas_spelled (words line) ≡ Some replicas →
    second_of end rule (numbered_lines n (line ∷ more)) ≡ Ok (record { rule = rule; replicas = replicas; behind = numbered_lines (n + 1) more })
reads_replicas end n line more rule replicas is = rw is refl

refuses_replicas : (end n : ℕ) (line : List ℕ) (more : List (List ℕ)) (rule : GenerationsRule) → replicas_spelled (words line) ≡ None →
    second_of end rule (numbered_lines n (line ∷ more)) ≡ Err n
refuses_replicas end n line more rule is = rw is refl

-- behind lines that name a rule the replicas are read
pub rule_named : {front : List (List ℕ)} {rule : GenerationsRule} → NameRule front rule → (end n : ℕ) (rest : List (List ℕ)) →
    head_spelled end (numbered_lines n (front ++ rest)) ≡ second_of end rule (past_skipped (numbered_lines (n + length front) rest))
rule_named (rule_line before line {rule = rule} all is) end n rest =
    let place : (n + length before) + 1 ≡ n + length (before ++ line ∷ []) = omega (arith, length-append before (line ∷ [])) in
    ap (λ (ls : List (List ℕ)). head_spelled end (numbered_lines n ls)) (append_assoc before (line ∷ []) rest)
    ∙ ap (first_of end) (reaches before line rest n all (rule_says (words line) rule is))
    ∙ reads_rule end (n + length before) line rest rule is
    ∙ ap (λ k. second_of end rule (past_skipped (numbered_lines k rest))) place

-- behind skipped lines a line names the replicas
pub replicas_named : (end n : ℕ) (rule : GenerationsRule) (between : List (List ℕ)) (line : List ℕ) (behind : List (List ℕ)) (replicas : ℕ) →
    AreSkipped between → replicas_spelled (words line) ≡ Some replicas →
    second_of end rule (past_skipped (numbered_lines n (between ++ line ∷ behind)))
    ≡ Ok (record { rule = rule; replicas = replicas; behind = numbered_lines ((n + length between) + 1) behind })
replicas_named end n rule between line behind replicas all is =
    ap (second_of end rule) (reaches between line behind n all (replicas_say (words line) replicas is))
    ∙ reads_replicas end (n + length between) line behind rule replicas is

-- ---- their faults

-- the line of a fault of these two is told
pub head_refused : {lines : List (List ℕ)} {number : ℕ} → HaveHeadFaultAt lines number → head_spelled (length lines + 1) (numbered_lines 1 lines) ≡ Err number
head_refused (no_rule_line before all) = ap (first_of (length before + 1)) (skips_all before 1 all)
head_refused (faulty_rule_line before line more all says none) =
    let place : 1 + length before ≡ length before + 1 = omega arith in
    let end = length (before ++ line ∷ more) + 1 in
    ap (first_of end) (reaches before line more 1 all (not-false (is_spoken (words line)) says))
    ∙ refuses_rule end (1 + length before) line more none ∙ ap Err place
head_refused (no_replicas_line front between rule named all) =
    let end = length (front ++ between) + 1 in
    rule_named named end 1 between ∙ ap (second_of end rule) (skips_all between (1 + length front) all)
head_refused (faulty_replicas_line front between line more rule named all says none) =
    let place : (1 + length front) + length between ≡ length (front ++ between) + 1 = omega (arith, length-append front between) in
    let end = length (front ++ (between ++ line ∷ more)) + 1 in
    rule_named named end 1 (between ++ line ∷ more)
    ∙ ap (second_of end rule) (reaches between line more (1 + length front) all (not-false (is_spoken (words line)) says))
    ∙ refuses_replicas end ((1 + length front) + length between) line more rule none ∙ ap Err place
