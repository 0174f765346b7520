use Rattle.std.proofs.Common.{◌≡◌, ◌∙◌, ap, sym, false}
use Rattle.std.specs.Option.{option_or, is_some}
use Rattle.header_rules.specs.declared.family.OtherFamily.TheVariants as family
use Rattle.header_rules.specs.Families.{rule_in_family, unbounded, family_by_spelling, family_by_front, family_by_name}
use Rattle.header_rules.proofs.FamilyLemmas.{first_later}
use Rattle.header_rules.proofs.family_forms.other_family.Goals as goal

pub returns : goal.returns
returns c =
    let text = unbounded c.args.text.now in
    let none : is_some (rule_in_family text) ≡ false = ap (λ t. is_some (rule_in_family t)) (sym c.unbounded-text.ensures.front) ∙ sym c.is_in_family.ensures ∙ c.if-is_in_family.false in
    let spelling = c.family_by_spelling.ensures ∙ ap family_by_spelling c.unbounded-text.ensures.front in
    let front = c.family_by_front.ensures ∙ ap family_by_front c.unbounded-text.ensures.front in
    let name = c.family_by_name.ensures ∙ ap family_by_name c.unbounded-text.ensures.front in
    let two = c.or.ensures ∙ (λ i. option_or (spelling i) (front i)) in
    c.or-2.ensures ∙ (λ i. option_or (two i) (name i))
    ∙ first_later (is_some (rule_in_family text)) family.Bounded (family_by_spelling text) (family_by_front text) (family_by_name text) none
