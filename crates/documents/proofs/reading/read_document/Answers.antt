use Rattle.std.proofs.Common.{arith}
use Rattle.std.proofs.lemmas.Result.{err_from_is_err_and}
use Rattle.documents.proofs.Made.{made_is}
use Rattle.documents.proofs.ReadLaws.{clashes, list_refused, read_as}
use Rattle.documents.proofs.reading.read_document.Goals as goal

pub returns-in_err-listed : goal.returns-in_err-listed
returns-in_err-listed c =
    let p = err_from_is_err_and c.from_residual.result c.from_residual.ensures.1 in
    rw (p.1, p.2) (list_refused c.args.bytes.now c.in_err-listed.field-0.0 c.in_err-listed.ensures.told)

pub of_parts-requires : goal.of_parts-requires
of_parts-requires c = made_is c.in_ok-listed.listed.rule c.in_ok-listed.listed.edits.items c.in-Ok.set.items c.in_ok-listed.ensures.told.has.is_rule c.in_ok-listed.ensures.under c.in-Ok.ensures

pub returns-in-Ok : goal.returns-in-Ok
returns-in-Ok c = rw c.of_parts.ensures (read_as c.args.bytes.now _ c.in-Ok.set.items c.len-count.result c.in_ok-listed.ensures.told c.in_ok-listed.ensures.under c.in-Ok.ensures (grind arith))

pub returns-in-Err : goal.returns-in-Err
returns-in-Err c = clashes c.args.bytes.now _ c.in-Err.stamp c.in_ok-listed.ensures.told c.in-Err.ensures
