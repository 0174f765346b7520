use Rattle.std.proofs.Common.{refl}
use Rattle.documents.proofs.Bodies.{no_head}
use Rattle.documents.proofs.ReadLaws.{IsHeaded, listed_as, rule_found}
use Rattle.documents.proofs.reading.read_edits.Goals as goal

pub returns-in_default-2-clause-told : goal.returns-in_default-2-clause-told
returns-in_default-2-clause-told c = no_head c.args.bytes.now c.in-Some.head.now c.in-Some.behind.now c.in-Some.ensures.some.0 c.in-Some.ensures.some.1 (c.in_ok-rule.ensures.none c.in_default-2.is)

pub returns-clause-told : goal.returns-clause-told
returns-clause-told c =
    let found = rule_found c.in_ok-rule.field-0 c.in-Some-2.rule c.in-Some.head.now c.in-Some-2.is c.in_ok-rule.ensures.some in
    let head : IsHeaded c.in-Some-2.rule c.args.bytes.now c.in-Some.head.now c.in-Some.behind.now = record { is_rule = found.0; is_head = found.1; is = c.in-Some.ensures.some.0; spelt = c.in-Some.ensures.some.1 } in
    listed_as c.args.bytes.now c.in-Some.head.now c.in-Some.behind.now c.in_ok-edits.rest.now _ head c.in_ok-edits.ensures.told refl
