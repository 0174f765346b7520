use Rattle.std.proofs.Common.{◌≡◌, length, ap, arith}
use Rattle.replica_sessions.proofs.PollLaws.{nothing_kept_has}
use Rattle.replica_sessions.proofs.kept.KeptNews.is_empty.Goals as goal

pub returns-else-is_empty : goal.returns-else-is_empty
returns-else-is_empty c =
    let kept = c.args.self.now in (
      λ empty. grind (arith, empty, c.if-is_empty.false),
      λ none.
          let edits : length kept.edits.items ≡ 0 = ap length (nothing_kept_has kept.edits.items kept.late.items kept.plane none).0 in
          grind (arith, edits, c.is_empty.ensures, c.if-is_empty.false),
    )
