use Rattle.std.proofs.Common.{◌≡◌, ◌∙◌, List, Option, Some, None, codes, ap, sym, refl, ℕ}
use Rattle.std.specs.Borrow.{Bor}
use Rattle.std.specs.Prelude.{option_map}
use Rattle.clap.proofs.WalkLemmas.{first_value-rows}
use Rattle.clap.specs.Matches.{found_of}
use Rattle.clap.specs.Walk.{first_of, rows_of}
use Rattle.genedit_words.specs.WebWords.{WebPlace, web_spelled}
use Rattle.genedit_words.specs.Words.{web_if_given}
use Rattle.genedit_words.proofs.TextLaws.{is_web}
use Rattle.genedit_words.proofs.words.web_if_given.Goals as goal

pub returns-in-None : goal.returns-in-None
returns-in-None c =
    let rows = rows_of (found_of c.args.words.now) in
    let none : None ≡ first_of (codes "web") rows = ap (option_map (λ (s : Bor (List ℕ)). s.now)) (sym c.in-None.is) ∙ (c.get_str.ensures ∙ first_value-rows (found_of c.args.words.now) (codes "web")) in
    ap (web_if_given (first_of (codes "url") rows)) none

pub returns-in-Some-web_place : goal.returns-in-Some-web_place
returns-in-Some-web_place c =
    let rows = rows_of (found_of c.args.words.now) in
    let some : Some c.in-Some.text.now ≡ first_of (codes "web") rows = ap (option_map (λ (s : Bor (List ℕ)). s.now)) (sym c.in-Some.is) ∙ (c.get_str.ensures ∙ first_value-rows (found_of c.args.words.now) (codes "web")) in
    let place : Option (Bor (List ℕ)) × ℕ → WebPlace = λ p. record { address = option_map (λ s. s.now) p.0; port = p.1 } in
    let spelled : Some (place (c.in-Some-web_place.address, c.in-Some-web_place.port)) ≡ web_spelled c.in-Some.text.now = ap (option_map place) (sym c.in-Some-web_place.is) ∙ c.web_place.ensures in
    is_web rows c.in-Some.text.now (option_map (λ s. s.now) c.get_str-in-Some-web_place.result) (Some (place (c.in-Some-web_place.address, c.in-Some-web_place.port))) some
    (c.get_str-in-Some-web_place.ensures ∙ first_value-rows (found_of c.args.words.now) (codes "url")) spelled

pub returns-in-None-web_place : goal.returns-in-None-web_place
returns-in-None-web_place c =
    let rows = rows_of (found_of c.args.words.now) in
    let some : Some c.in-Some.text.now ≡ first_of (codes "web") rows = ap (option_map (λ (s : Bor (List ℕ)). s.now)) (sym c.in-Some.is) ∙ (c.get_str.ensures ∙ first_value-rows (found_of c.args.words.now) (codes "web")) in
    let place : Option (Bor (List ℕ)) × ℕ → WebPlace = λ p. record { address = option_map (λ s. s.now) p.0; port = p.1 } in
    is_web rows c.in-Some.text.now (first_of (codes "url") rows) None some refl (ap (option_map place) (sym c.in-None-web_place.is) ∙ c.web_place.ensures)
