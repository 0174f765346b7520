use Rattle.std.proofs.Common.{rules, ◌≡◌, ◌++◌, length, map, ℕ, List, [], ◌∷◌, ap, ◌∙◌, refl, arith}
use Rattle.std.proofs.lemmas.List.{map_push, length-append}
use Rattle.kept_records.specs.Records.{records_text}
use Rattle.kept_records.proofs.Steps.{none_yet, one_more, gets_shorter, all_read}
use Rattle.kept_records.proofs.reading.read_records.Goals as goal

pub loop-body-init : goal.loop-body-init
loop-body-init c = none_yet c.args.bytes.now _ (ap (λ l. map (λ v. v.items) l) c.new-bodies.ensures.items)

pub loop-body-smaller : goal.loop-body-smaller
loop-body-smaller c = gets_shorter c.loop-body.rest.now c.in-Some.body.now c.in-Some.behind.now c.in-Some.ensures.some.1

pub loop-body-preserved : goal.loop-body-preserved
loop-body-preserved c =
    let same : c.in_ok-to_vec.field-0.items ≡ c.in-Some.body.now = search rules in
    one_more c.args.bytes.now _ _ c.loop-body.rest.now c.in-Some.body.now c.in-Some.behind.now c.loop-body.invariant c.in-Some.ensures.some.0 c.in-Some.ensures.some.1
    (ap (λ l. map (λ v. v.items) l) c.in_ok-push.ensures.items ∙ map_push (λ v. v.items) c.loop-body.bodies.items c.in_ok-to_vec.field-0 ∙ ap (λ (b : List ℕ). map (λ v. v.items) c.loop-body.bodies.items ++ b ∷ []) same)

pub overflow_sub-result : goal.overflow_sub-result
overflow_sub-result c = omega (arith, ap length c.loop-body.invariant.spelt, length-append (records_text (map (λ v. v.items) c.loop-body.bodies.items)) c.loop-body.rest.now)

pub returns-clause-read : goal.returns-clause-read
returns-clause-read c = (all_read c.args.bytes.now _ c.loop-body.rest.now _ c.loop-body.invariant (c.in_default.ensures.none refl) refl).0

pub returns-clause-whole : goal.returns-clause-whole
returns-clause-whole c =
    let p = all_read c.args.bytes.now _ c.loop-body.rest.now _ c.loop-body.invariant (c.in_default.ensures.none refl) refl in
    (p.1, p.2)
