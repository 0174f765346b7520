use Rattle.std.proofs.Common.{◌≡◌, Some, option_map, ap, sym, ◌∙◌}
use Rattle.document_bodies.specs.Bodies.{head_body}
use Rattle.board_keeper.proofs.opening.rule_of.Goals as goal

pub returns-then-not-same-clause-fault : goal.returns-then-not-same-clause-fault
returns-then-not-same-clause-fault c =
    let told = c.in-Ok-Some.told in
    let some = rw c.in-Ok-Some.field-0-is at c.in-Ok-Some.ensures.some in
    let head : option_map (λ v. v.items) c.args.parts.now.head ≡ Some (head_body told) = ap (option_map (λ v. v.items)) c.in-Some.is ∙ ap Some (sym c.deref.ensures.value ∙ some.1) in
    (c.in-Some-asked.asked, told, c.in-Some-asked.is, head, λ e. let same = c.same.ensures.1 e in cc)
