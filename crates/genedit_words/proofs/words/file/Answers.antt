use Rattle.std.proofs.Common.{◌≡◌, ◌∙◌, List, Some, None, codes, ap, sym, ℕ}
use Rattle.std.specs.Borrow.{Bor}
use Rattle.std.specs.Prelude.{option_and_then, option_map}
use Rattle.clap.proofs.WalkLemmas.{first_value-rows}
use Rattle.clap.specs.Matches.{found_of}
use Rattle.clap.specs.Walk.{first_of, rows_of}
use Rattle.genedit_words.specs.Words.{named_file}
use Rattle.genedit_words.proofs.words.file.Goals as goal

pub returns-in-None : goal.returns-in-None
returns-in-None c =
    let read : option_map (λ (s : Bor (List ℕ)). s.now) c.get_str.result ≡ first_of (codes "file") (rows_of (found_of c.args.words.now)) = c.get_str.ensures ∙ first_value-rows (found_of c.args.words.now) (codes "file") in
    let none : None ≡ first_of (codes "file") (rows_of (found_of c.args.words.now)) = ap (option_map (λ (s : Bor (List ℕ)). s.now)) (sym c.in-None.is) ∙ read in
    ap (option_and_then named_file) none

pub returns-in-Some : goal.returns-in-Some
returns-in-Some c =
    let read : option_map (λ (s : Bor (List ℕ)). s.now) c.get_str.result ≡ first_of (codes "file") (rows_of (found_of c.args.words.now)) = c.get_str.ensures ∙ first_value-rows (found_of c.args.words.now) (codes "file") in
    let some : Some c.in-Some.path.now ≡ first_of (codes "file") (rows_of (found_of c.args.words.now)) = ap (option_map (λ (s : Bor (List ℕ)). s.now)) (sym c.in-Some.is) ∙ read in
    c.named_file.ensures ∙ ap (option_and_then named_file) some
