use Rattle.std.proofs.Common.{List, ℕ, sym, subst, ◌∙◌, arith}
use Rattle.kept_records.specs.Records.{BeginsNone}
use Rattle.kept_records.proofs.Steps.{found_within, next_found, none_at_one_more, none_from}
use Rattle.kept_records.proofs.reading.next_whole.Goals as goal

pub loop-start-init : goal.loop-start-init
loop-start-init c n behind before = absurd (omega (arith, behind, before))

pub loop-start-preserved : goal.loop-start-preserved
loop-start-preserved c =
    none_at_one_more c.args.bytes.now c.args.from c.loop-start.start c.loop-start.invariant
    (subst (λ (l : List ℕ). BeginsNone l) c.split_at.ensures.back (c.next_record.ensures.none (search)))

pub returns-in-Some-clause-some : goal.returns-in-Some-clause-some
returns-in-Some-clause-some c = next_found c.args.bytes.now c.args.from c.loop-start.start c.in-Some.body.now _ (omega arith) c.loop-start.invariant c.in-Some.ensures.some.0 (sym c.split_at.ensures.back ∙ c.in-Some.ensures.some.1)

pub returns-in-Some-clause-within : goal.returns-in-Some-clause-within
returns-in-Some-clause-within c = found_within c.args.bytes.now c.loop-start.start c.in-Some.body.now _ (omega arith) (sym c.split_at.ensures.back ∙ c.in-Some.ensures.some.1)

pub returns-clause-none : goal.returns-clause-none
returns-clause-none c none = none_from c.args.bytes.now c.args.from _ c.loop-start.invariant (omega arith)
