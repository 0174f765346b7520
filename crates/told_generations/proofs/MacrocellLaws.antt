-- The macrocell of a universe that was run.
use Rattle.std.proofs.Common.{◌≡◌, ◌∙◌, ℕ, List, ap, subst}
use Rattle.generations_rule.specs.Place.{Place}
use Rattle.generations_rule.specs.Rule.{GenerationsRule}
use Rattle.generations_rule.specs.Evolution.{at}
use Rattle.generation_engine.specs.Universe.{EngineValue, states_of}
use Rattle.export.specs.Kept.{IsRunOf}
use Rattle.export.proofs.ExportLaws.{one_map}
use Rattle.macrocell_lines.specs.Macrocell.{IsMacrocell}

-- what is written of it is the macrocell of what the rule makes of the map
pub macrocell_of_run : (r s : GenerationsRule) (f seen : Place → ℕ) (g n : ℕ) (e : EngineValue) (text : List ℕ) → s ≡ r → seen ≡ f → n ≡ g → IsRunOf s seen e → e.generation ≡ g → IsMacrocell s n (states_of e) text
    → IsMacrocell r g (at r f g) text
macrocell_of_run r s f seen g n e text rule same is run here told =
    let shows : states_of e ≡ at s seen g = one_map (states_of e) (at e.rule seen e.generation) run.shows ∙ ap (λ (t : GenerationsRule). at t seen e.generation) run.rule ∙ ap (λ (m : ℕ). at s seen m) here in
    subst (λ (h : Place → ℕ). IsMacrocell r g (at r h g) text) same
    (subst (λ (t : GenerationsRule). IsMacrocell t g (at t seen g) text) rule
    (subst (λ (m : ℕ). IsMacrocell s m (at s seen g) text) is
    (subst (λ (h : Place → ℕ). IsMacrocell s n h text) shows told)))
