use Rattle.std.proofs.Common.{◌≡◌, ◌∙◌, List, ℕ, Some, None, ap, sym}
use Rattle.std.specs.Borrow.{Bor}
use Rattle.std.specs.Prelude.{option_map}
use Rattle.genedit_words.specs.WebWords.{WebPlace, cut_at_last_colon, web_by}
use Rattle.genedit_words.proofs.WebLaws.{is_cut}
use Rattle.genedit_words.proofs.web_words.web_place.Goals as goal

pub returns-in-Some : goal.returns-in-Some
returns-in-Some c =
    let text = c.args.text.now in
    let some : Some (c.in-Some.address.now, c.in-Some.digits.now) ≡ cut_at_last_colon text =
    ap (option_map (λ (x : Bor (List ℕ) × Bor (List ℕ)). (x.0.now, x.1.now))) (sym c.in-Some.is) ∙ is_cut text c.rsplit_once.result c.rsplit_once.ensures.cases in
    c.place_at.ensures ∙ ap (web_by text) some

pub returns-in_ok-port-in-None : goal.returns-in_ok-port-in-None
returns-in_ok-port-in-None c =
    let text = c.args.text.now in
    let none : None ≡ cut_at_last_colon text =
    ap (option_map (λ (x : Bor (List ℕ) × Bor (List ℕ)). (x.0.now, x.1.now))) (sym c.in-None.is) ∙ is_cut text c.rsplit_once.result c.rsplit_once.ensures.cases in
    let place : ℕ → WebPlace = λ q. record { address = None; port = q } in
    ap (option_map place) (sym c.in_ok-port-in-None.was ∙ c.port_spelled.ensures) ∙ ap (web_by text) none

pub returns-in_err-port-in-None : goal.returns-in_err-port-in-None
returns-in_err-port-in-None c =
    let text = c.args.text.now in
    let none : None ≡ cut_at_last_colon text =
    ap (option_map (λ (x : Bor (List ℕ) × Bor (List ℕ)). (x.0.now, x.1.now))) (sym c.in-None.is) ∙ is_cut text c.rsplit_once.result c.rsplit_once.ensures.cases in
    let place : ℕ → WebPlace = λ q. record { address = None; port = q } in
    rw c.from_residual.ensures (ap (option_map place) (sym c.in_err-port-in-None.was ∙ c.port_spelled.ensures) ∙ ap (web_by text) none)
