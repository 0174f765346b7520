use Rattle.std.proofs.Common.{refl, sym, subst}
use Rattle.multistate_rle.specs.declared.reading.Front.{Front}
use Rattle.multistate_rle.proofs.FrontLemmas.{ReadsPattern, reads_pattern, IsRefused, has_header, other_fault}
use Rattle.multistate_rle.proofs.HeaderlessLaws.{refuses_without_header}
use Rattle.multistate_rle.proofs.reading.parse.Goals as goal

pub new-requires : goal.new-requires
new-requires c =
    let drawn = c.in_ok-drawn.drawn in
    (subst (λ (front : Front). ReadsPattern c.args.text.now drawn c.max.result c.max-2.result front) (sym c.front.view_is)
    (reads_pattern c.args.text.now drawn c.max.result c.max-2.result c.in-Some.front drawn.wide drawn.high c.in-Some.ensures) c.max.ensures c.max-2.ensures c.in_ok-drawn.ensures).0

pub returns-clause-answers : goal.returns-clause-answers
returns-clause-answers c =
    let drawn = c.in_ok-drawn.drawn in
    rw c.new.ensures ((subst (λ (front : Front). ReadsPattern c.args.text.now drawn c.max.result c.max-2.result front) (sym c.front.view_is)
    (reads_pattern c.args.text.now drawn c.max.result c.max-2.result c.in-Some.front drawn.wide drawn.high c.in-Some.ensures) c.max.ensures c.max-2.ensures c.in_ok-drawn.ensures).1)

pub returns-in_default-clause-no_header : goal.returns-in_default-clause-no_header
returns-in_default-clause-no_header c = (λ none. refl, λ told. (refuses_without_header c.args.text.now).1 c.in_default.ensures)

pub returns-in_err-drawn-clause-no_header : goal.returns-in_err-drawn-clause-no_header
returns-in_err-drawn-clause-no_header c = (
  λ none. absurd (has_header c.args.text.now c.in-Some.front c.in-Some.ensures none),
  λ told. absurd (subst (λ (front : Front). IsRefused c.args.text.now c.in_err-drawn.field-0.0 front) (sym c.front.view_is) (other_fault c.args.text.now c.in_err-drawn.field-0.0 c.in-Some.front) c.in_err-drawn.ensures (sym (rw told at c.from_residual.ensures.1))),
)

pub returns-clause-no_header : goal.returns-clause-no_header
returns-clause-no_header c = (λ none. absurd (has_header c.args.text.now c.in-Some.front c.in-Some.ensures none), λ told. absurd (cc))
