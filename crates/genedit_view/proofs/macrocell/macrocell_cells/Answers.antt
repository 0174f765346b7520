use Rattle.std.proofs.Common.{◌≡◌, ◌∙◌, ℕ, Bool, List, sym, ap, subst, inl, inr, Ok, Err}
use Rattle.std.specs.Prelude.{◌⊎◌, Option, Some}
use Rattle.generations_rule.specs.Refusal.{unless}
use Rattle.generations_rule.specs.Rule.{GenerationsRule}
use Rattle.cell_files.specs.Files.{header_bounds}
use Rattle.header_rules.specs.declared.header.HeaderRule.{HeaderRule}
use Rattle.macrocell_text.specs.Macrocells.{MacrocellTold}
use Rattle.macrocell_text.specs.Readings.{macrocell_told}
use Rattle.macrocell_text.specs.Texts.{macrocell_read}
use Rattle.genedit_view.specs.declared.fault.ViewFault.{ViewFault}
use Rattle.genedit_view.specs.Fault.{memory_wanted}
use Rattle.genedit_view.specs.Macrocells.{bounds_of_macrocell, generation_of_macrocell, macrocell_seen, rule_at_place, squares_fault}
use Rattle.genedit_view.specs.Reading.IsReadAs.{Macrocell}
use Rattle.genedit_view.specs.Rules.{given_or_told}
use Rattle.genedit_view.proofs.MacrocellLaws.{listed_are, read_whole, seen_is, unread_for, unread_refused, unruled}
use Rattle.genedit_view.proofs.SeenLaws.{at_end}
use Rattle.genedit_view.proofs.macrocell.macrocell_cells.Goals as goal

pub returns-in_err-macrocell-clause-fault : goal.returns-in_err-macrocell-clause-fault
returns-in_err-macrocell-clause-fault c =
    let text = c.args.text.now in
    let e0 = c.in_err-macrocell.field-0.0 in
    at_end c.from_residual.result _ _ c.from_residual.ensures.1
    (λ e told. subst (λ (x : ViewFault). (macrocell_seen c.args.is_run c.args.given text ≡ Err x) ⊎ (x ≡ memory_wanted)) (sym told)
    (unread_refused c.args.is_run c.args.given text e0 (unread_for e0 (macrocell_read text) c.in_err-macrocell.ensures)))

pub returns-in_err-rule-clause-fault : goal.returns-in_err-rule-clause-fault
returns-in_err-rule-clause-fault c =
    let text = c.args.text.now in
    let m = c.in_ok-macrocell.macrocell in
    let read : macrocell_read text ≡ Ok (macrocell_told m) = read_whole m (macrocell_read text) c.in_ok-macrocell.ensures in
    let rule : given_or_told c.args.given (rule_at_place text (macrocell_told m).rule) ≡ given_or_told c.args.given c.rule_at_place.result =
    ap (given_or_told c.args.given) (sym (c.rule_at_place.ensures ∙ ap (rule_at_place text) c.rule-place.ensures)) in
    at_end c.from_residual-in_err-rule.result _ _ c.from_residual-in_err-rule.ensures.1
    (λ e told. subst (λ (x : ViewFault). (macrocell_seen c.args.is_run c.args.given text ≡ Err x) ⊎ (x ≡ memory_wanted)) (sym told)
    (inl (unruled c.args.is_run c.args.given text (macrocell_told m) c.in_err-rule.field-0.0 read (rule ∙ sym c.in_err-rule.ensures))))

-- what is seen of a text under a rule that is told
under : (is_run : Bool) (given : Option GenerationsRule) (text : List ℕ) (told : MacrocellTold) (r : GenerationsRule) (place : Option HeaderRule) → macrocell_read text ≡ Ok told → place ≡ rule_at_place text told.rule →
    Ok r ≡ given_or_told given place → macrocell_seen is_run given text ≡ unless (squares_fault is_run r.states told.squares) (r, told.squares)
under is_run given text told r place read at is = seen_is is_run given text told r read (ap (given_or_told given) (sym at) ∙ sym is)

-- and what is refused of its squares
refused_under : (is_run : Bool) (given : Option GenerationsRule) (text : List ℕ) (told : MacrocellTold) (r : GenerationsRule) (e : ViewFault) →
    macrocell_seen is_run given text ≡ unless (squares_fault is_run r.states told.squares) (r, told.squares) → (squares_fault is_run r.states told.squares ≡ Some e) ⊎ (e ≡ memory_wanted) →
    (macrocell_seen is_run given text ≡ Err e) ⊎ (e ≡ memory_wanted)
refused_under is_run given text told r e seen (inl refused) = inl (seen ∙ (λ i. unless (refused i) (r, told.squares)))
refused_under is_run given text told r e seen (inr want) = inr want

pub returns-in_err-cells-clause-fault : goal.returns-in_err-cells-clause-fault
returns-in_err-cells-clause-fault c =
    let text = c.args.text.now in
    let m = c.in_ok-macrocell.macrocell in
    let told = macrocell_told m in
    let r = c.in_ok-rule.rule in
    let e0 = c.in_err-cells.field-0.0 in
    let read : macrocell_read text ≡ Ok told = read_whole m (macrocell_read text) c.in_ok-macrocell.ensures in
    let seen = under c.args.is_run c.args.given text told r c.rule_at_place.result read (c.rule_at_place.ensures ∙ ap (rule_at_place text) c.rule-place.ensures) c.in_ok-rule.ensures in
    at_end c.from_residual-in_err-cells.result _ _ c.from_residual-in_err-cells.ensures.1
    (λ e is. subst (λ (x : ViewFault). (macrocell_seen c.args.is_run c.args.given text ≡ Err x) ⊎ (x ≡ memory_wanted)) (sym is)
    (refused_under c.args.is_run c.args.given text told r e0 seen c.in_err-cells.ensures.fault))

pub returns-clause-read : goal.returns-clause-read
returns-clause-read c =
    let text = c.args.text.now in
    let m = c.in_ok-macrocell.macrocell in
    let told = macrocell_told m in
    let r = c.in_ok-rule.rule in
    let cells = c.in_ok-cells.cells.items in
    let read : macrocell_read text ≡ Ok told = read_whole m (macrocell_read text) c.in_ok-macrocell.ensures in
    let seen = under c.args.is_run c.args.given text told r c.rule_at_place.result read (c.rule_at_place.ensures ∙ ap (rule_at_place text) c.rule-place.ensures) c.in_ok-rule.ensures in
    let are = listed_are c.map_laws.ensures.only c.map_laws.ensures.whole c.map_laws.ensures.no_place_twice text told c.args.is_run r cells read c.in_ok-cells.ensures.rule c.in_ok-cells.ensures.listed c.in_ok-cells.ensures.allowed in
    Macrocell told.squares c.requires.no_state c.requires.macrocell (seen ∙ (λ i. unless (c.in_ok-cells.ensures.allowed i) (r, told.squares))) are.states_are

pub returns-clause-cells : goal.returns-clause-cells
returns-clause-cells c =
    let text = c.args.text.now in
    let m = c.in_ok-macrocell.macrocell in
    let told = macrocell_told m in
    let read : macrocell_read text ≡ Ok told = read_whole m (macrocell_read text) c.in_ok-macrocell.ensures in
    (listed_are c.map_laws.ensures.only c.map_laws.ensures.whole c.map_laws.ensures.no_place_twice text told c.args.is_run c.in_ok-rule.rule c.in_ok-cells.cells.items read
    c.in_ok-cells.ensures.rule c.in_ok-cells.ensures.listed c.in_ok-cells.ensures.allowed).cells_are

pub returns-clause-generation : goal.returns-clause-generation
returns-clause-generation c =
    let m = c.in_ok-macrocell.macrocell in
    c.generation.ensures ∙ ap generation_of_macrocell (sym (read_whole m (macrocell_read c.args.text.now) c.in_ok-macrocell.ensures))

pub returns-clause-bounds : goal.returns-clause-bounds
returns-clause-bounds c =
    let text = c.args.text.now in
    let m = c.in_ok-macrocell.macrocell in
    c.in_ok-bounds.ensures ∙ ap (header_bounds text) (c.rule_at_place-2.ensures ∙ ap (rule_at_place text) c.rule-place.ensures)
    ∙ ap (bounds_of_macrocell text) (sym (read_whole m (macrocell_read text) c.in_ok-macrocell.ensures))
