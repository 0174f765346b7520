use Rattle.std.proofs.Common.{◌≡◌, ◌∙◌, List, Some, None, codes, ap, sym, ℕ}
use Rattle.std.specs.Borrow.{Bor}
use Rattle.std.specs.Prelude.{Result, option_map}
use Rattle.clap.proofs.WalkLemmas.{first_value-rows}
use Rattle.clap.specs.Matches.{found_of}
use Rattle.clap.specs.Walk.{first_of, rows_of}
use Rattle.generations_rule.specs.Rule.{GenerationsRule}
use Rattle.genedit_words.specs.Told.{or_misspelt}
use Rattle.genedit_words.specs.declared.misspelt.MisspeltRule.{MisspeltRule}
use Rattle.genedit_words.specs.Words.{rule_if_given, some_rule}
use Rattle.genedit_words.proofs.words.rule_if_given.Goals as goal

pub returns-in-None : goal.returns-in-None
returns-in-None c =
    let read : option_map (λ (s : Bor (List ℕ)). s.now) c.get_str.result ≡ first_of (codes "rule") (rows_of (found_of c.args.words.now)) = c.get_str.ensures ∙ first_value-rows (found_of c.args.words.now) (codes "rule") in
    let none : None ≡ first_of (codes "rule") (rows_of (found_of c.args.words.now)) = ap (option_map (λ (s : Bor (List ℕ)). s.now)) (sym c.in-None.is) ∙ read in
    ap rule_if_given none

pub returns-in-Ok : goal.returns-in-Ok
returns-in-Ok c =
    let read : option_map (λ (s : Bor (List ℕ)). s.now) c.get_str.result ≡ first_of (codes "rule") (rows_of (found_of c.args.words.now)) = c.get_str.ensures ∙ first_value-rows (found_of c.args.words.now) (codes "rule") in
    let some : Some c.in-Some.text.now ≡ first_of (codes "rule") (rows_of (found_of c.args.words.now)) = ap (option_map (λ (s : Bor (List ℕ)). s.now)) (sym c.in-Some.is) ∙ read in
    ap (λ (r : Result GenerationsRule MisspeltRule). some_rule (or_misspelt r)) (sym c.in-Ok.is) ∙ (ap some_rule c.rule_of.ensures ∙ ap rule_if_given some)

pub returns-in-Err : goal.returns-in-Err
returns-in-Err c =
    let read : option_map (λ (s : Bor (List ℕ)). s.now) c.get_str.result ≡ first_of (codes "rule") (rows_of (found_of c.args.words.now)) = c.get_str.ensures ∙ first_value-rows (found_of c.args.words.now) (codes "rule") in
    let some : Some c.in-Some.text.now ≡ first_of (codes "rule") (rows_of (found_of c.args.words.now)) = ap (option_map (λ (s : Bor (List ℕ)). s.now)) (sym c.in-Some.is) ∙ read in
    ap (λ (r : Result GenerationsRule MisspeltRule). some_rule (or_misspelt r)) (sym c.in-Err.is) ∙ (ap some_rule c.rule_of.ensures ∙ ap rule_if_given some)
