use Rattle.std.proofs.Common.{arith, ◌<◌, sym}
use Rattle.std.proofs.lemmas.Bool.Decides.{nat_tests}
use Rattle.documents.proofs.Places.{behind_all}
use Rattle.documents.proofs.put.is_above_all.Goals as goal

pub returns-in-Some : goal.returns-in-Some
returns-in-Some c lower =
    let less : c.in-Some.last.now.stamp < c.args.stamp = grind (arith, nat_tests) in
    behind_all c.args.edits.now c.in-Some.last.now c.args.stamp c.requires (sym c.in-Some.ensures.value) less
