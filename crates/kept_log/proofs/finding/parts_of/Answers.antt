use Rattle.std.proofs.Common.{◌≡◌, refl, rules}
use Rattle.kept_log.proofs.FoundLaws.{parts_are}
use Rattle.kept_log.proofs.finding.parts_of.Goals as goal

pub returns-clause-read : goal.returns-clause-read
returns-clause-read c =
    let same : c.in_ok-head.head.items ≡ c.in-Some.head.now = search rules in
    parts_are c.args.bytes.now c.in-Some.head.now c.in-Some.behind.now c.in_ok-head.head c.in_ok-bodies.bodies.items c.in_ok-bodies.whole _ same c.in-Some.ensures.some.0 c.in-Some.ensures.some.1 c.in_ok-bodies.ensures.read c.in_ok-bodies.ensures.whole refl
