use Rattle.std.proofs.Common.{◌≡◌, ◌∙◌, ◌+◌, ℕ, sym, ap, rules, List, [], ◌∷◌, length}
use Rattle.std.specs.Prelude.{Option, Some, None, Err, Bool, ◌==◌, not, count_by}
use Rattle.generations_rule.specs.Refusal.{when, first_of, unless}
use Rattle.generations_rule.specs.RuleText.{is_slash, misfit_at, is_number_of_states, survival_part, birth_part, states_part, rule_of_text, parsed}
use Rattle.generations_rule.specs.declared.fault.RuleFault.{RuleFault}
use Rattle.generations_rule.specs.declared.fault.RuleFault.TheVariants.{Slashes, States}
use Rattle.generations_rule.proofs.TextLaws.{rule_of_parts, unless-Ok}
use Rattle.generations_rule.proofs.rule.Rule.parse.Goals as goal

-- what was answered as an error was refused
refused : {A F : Type 0} (check : Option F) (a : A) (fault : F) → unless check a ≡ Err fault → check ≡ Some fault
refused None a fault e = absurd (cc)
refused (Some f) a fault e = cc

-- the birth part is the third check
birth_told : (text survival birth : List ℕ) (count : ℕ) (counts : List Bool) (fault : RuleFault) →
    count ≡ count_by is_slash text → count ≡ 2 → survival ≡ survival_part text → birth ≡ birth_part text →
    misfit_at 0 0 8 survival ≡ None → Err fault ≡ unless (misfit_at (length survival + 1) 1 8 birth) counts → Err fault ≡ parsed text
birth_told text survival birth count counts fault counted two survival_is birth_is fits told =
    let slashes : when (not (count_by is_slash text == 2)) Slashes ≡ None = (λ i. when (not ((sym counted ∙ two) i == 2)) Slashes) in
    let first : misfit_at 0 0 8 (survival_part text) ≡ None = ap (misfit_at 0 0 8) (sym survival_is) ∙ fits in
    let second : misfit_at (length (survival_part text) + 1) 1 8 (birth_part text) ≡ Some fault =
    (λ i. misfit_at (length (sym survival_is i) + 1) 1 8 (sym birth_is i)) ∙ refused _ counts fault (sym told) in
    sym (λ i. unless (first_of (slashes i ∷ first i ∷ second i
    ∷ misfit_at (length (survival_part text) + length (birth_part text) + 2) 0 9 (states_part text)
    ∷ when (not (is_number_of_states (states_part text))) States
    ∷ [])) (rule_of_text text))

pub returns-in_err-counts_in-2 : goal.returns-in_err-counts_in-2
returns-in_err-counts_in-2 c =
    let is : c.from_residual-in_err-counts_in-2.result ≡ Err c.in_err-counts_in-2.field-0.0 = search rules in
    is ∙ birth_told c.args.text.now c.parts_of-parts.result.survival.now c.parts_of-parts.result.birth.now c.slashes_in.result _ _
    c.slashes_in.ensures c.if-slashes_in-ne2.false c.parts_of-parts.ensures.survival c.parts_of-parts.ensures.birth
    (unless-Ok _ _ _ (sym c.in_ok-counts_in.ensures)).0 c.in_err-counts_in-2.ensures

pub invariant_of-result : goal.invariant_of-result
invariant_of-result c =
    rule_of_parts c.parts_of-parts.result.survival.now c.parts_of-parts.result.birth.now c.parts_of-parts.result.states.now _ _ _ _ _
    c.in_ok-counts_in.ensures c.in_ok-counts_in-2.ensures c.in_ok-states_in.ensures
