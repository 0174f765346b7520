use Rattle.std.proofs.Common.{◌≡◌, ◌∙◌, ap, sym, ◌++◌, ◌<◌, arith, append-nil, refl}
use Rattle.generations_rule.specs.RuleText.{set_of}
use Rattle.generations_rule.proofs.SetLaws.{text_below, text_none, text_whole}
use Rattle.header_rules.proofs.CountLemmas.{count_pushed, count_passed}
use Rattle.header_rules.proofs.rule_text.push_counts.Goals as goal
use Rattle.header_rules.proofs.rule_text.push_counts.Goals.{then-contains, else-contains}

pub loop-count-init : goal.loop-count-init
loop-count-init c = record { pushed = rw (text_none (set_of c.args.digits.now), append-nil) refl; few = omega arith }

pub loop-count-preserved : goal.loop-count-preserved
loop-count-preserved c =
    let within : c.loop-count.count < 9 = omega arith in
    elim c.if-contains.branch [
      | then-contains w ↦ record {
        pushed = ap (λ v. v.items) w.text-is
            ∙ count_pushed c.args.text.now.items c.loop-count.text.items w.push.new.self.items c.args.digits.now c.loop-count.count within
            (sym c.contains.ensures.value ∙ w.if-contains.true) c.loop-count.invariant.pushed w.push.ensures.items;
        few = rw w.text-is (omega (arith, w.push.ensures.len, c.loop-count.invariant.few));
      }
      | else-contains w ↦ record {
        pushed = ap (λ v. v.items) w.text-is
            ∙ count_passed c.args.text.now.items c.loop-count.text.items c.args.digits.now c.loop-count.count within
            (sym c.contains.ensures.value ∙ w.if-contains.false) c.loop-count.invariant.pushed;
        few = rw w.text-is (omega (arith, c.loop-count.invariant.few));
      }
    ]

pub returns-clause-pushed : goal.returns-clause-pushed
returns-clause-pushed c =
    let all : c.loop-count.count ≡ 9 = omega arith in
    c.loop-count.invariant.pushed ∙ ap (λ n. c.args.text.now.items ++ text_below (set_of c.args.digits.now) n) all
    ∙ ap (λ t. c.args.text.now.items ++ t) (sym (text_whole (set_of c.args.digits.now)))
