use Rattle.std.proofs.Common.{◌≡◌, ◌∙◌, ap, sym, arith, true, false, List, [], ◌∷◌, ◌++◌, ◌≤◌, ℕ, length}
use Rattle.std.specs.Prelude.{decimal}
use Rattle.std.specs.List.{list_any}
use Rattle.std.specs.Result.{result_ok}
use Rattle.generations_rule.specs.RuleText.{is_misfit, parsed, text_of_set, set_of}
use Rattle.header_rules.proofs.CountLemmas.{reads_digits, few_digits, counted, went_well}
use Rattle.header_rules.proofs.rule_text.RuleParts.rule.Goals as goal

pub returns-in_err-ok : goal.returns-in_err-ok
returns-in_err-ok c =
    let few : length (decimal c.in_ok-states.states) ≤ 3 = few_digits c.in_ok-states.states c.in_ok-states.ensures.bounds.1 in
    let text : c.as_bytes.result.now ≡ decimal c.in_ok-states.states = c.as_bytes.ensures.value ∙ c.format.ensures.text in
    let ok = c.try_extend_from_slice.ensures.variant.1
    (omega (arith, ap length text, few, ap length c.new-text.ensures, c.push-2.ensures.len, c.push_counts-2.ensures.few, c.push.ensures.len, c.push_counts.ensures.few)) in
    absurd (let e : false ≡ true = c.in_err-ok.ensures.variant ∙ ok in cc)

pub returns : goal.returns
returns c =
    let survives : list_any (is_misfit 0 8) c.args.self.now.survival.now ≡ false = counted _ (sym c.are_counts.ensures ∙ c.if-not-are_counts.false) in
    let fits : list_any (is_misfit 1 8) c.args.self.now.birth.now ≡ false = counted _ (sym c.are_counts-else-not-are_counts.ensures ∙ c.if-not-are_counts-2.false) in
    let first : c.push_counts.new.text.items ≡ text_of_set (set_of c.args.self.now.survival.now) =
    c.push_counts.ensures.pushed ∙ ap (λ (t : List ℕ). t ++ text_of_set (set_of c.args.self.now.survival.now)) c.new-text.ensures in
    let few : length (decimal c.in_ok-states.states) ≤ 3 = few_digits c.in_ok-states.states c.in_ok-states.ensures.bounds.1 in
    let digits : c.as_bytes.result.now ≡ decimal c.in_ok-states.states = c.as_bytes.ensures.value ∙ c.format.ensures.text in
    let extended = went_well c.try_extend_from_slice.result _ (c.try_extend_from_slice.ensures.variant.1
    (omega (arith, ap length digits, few, ap length c.new-text.ensures, c.push-2.ensures.len, c.push_counts-2.ensures.few, c.push.ensures.len, c.push_counts.ensures.few)))
    c.try_extend_from_slice.ensures.ok in
    let text : c.deref.result.now ≡ text_of_set (set_of c.args.self.now.survival.now) ++ 47 ∷ [] ++ text_of_set (set_of c.args.self.now.birth.now) ++ 47 ∷ [] ++ decimal c.in_ok-states.states =
    cc (c.deref.ensures.0, extended, digits, c.push-2.ensures.items, c.push_counts-2.ensures.pushed, c.push.ensures.items, first) in
    let states = sym c.in_ok-states.ensures.value in
    rw (states, survives, fits) (c.ok-2.ensures.value
    ∙ ap result_ok (c.parse.ensures ∙ ap parsed text
    ∙ reads_digits c.args.self.now.survival.now c.args.self.now.birth.now c.in_ok-states.states fits c.in_ok-states.ensures.bounds.0 c.in_ok-states.ensures.bounds.1))
