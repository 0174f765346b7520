use Rattle.std.proofs.Common.{◌≡◌, ◌+◌, suc, length, arith, sym, subst}
use Rattle.std.proofs.Math.ListN.{replicate}
use Rattle.std.proofs.lemmas.List.{length-replicate}
use Rattle.replica_core.specs.World.{HaveRoom, StandSideBySide, StandsFor, beginner}
use Rattle.replica_core.proofs.RunLaws.{one_more_stands, room_push}
use Rattle.replica_core.proofs.world.beginners.Goals as goal

pub loop-index-preserved : goal.loop-index-preserved
loop-index-preserved c =
    let next : c.loop-index.index + 1 ≡ suc (length (replicate c.loop-index.index beginner)) = omega (arith, length-replicate c.loop-index.index beginner) in
    let made = c.in_ok-beginner.field-0 in (
      subst (StandSideBySide (StandsFor c.args.rule) (replicate (c.loop-index.index + 1) beginner)) (sym c.in_ok-push.ensures.items)
          (one_more_stands c.args.rule c.loop-index.index (c.loop-index.index + 1) c.args.nodes c.loop-index.replicas.items made next c.in_ok-beginner.ensures.new c.loop-index.invariant.0),
      subst (HaveRoom c.args.nodes) (sym c.in_ok-push.ensures.items)
          (room_push c.args.nodes c.loop-index.replicas.items made c.in_ok-beginner.ensures.new.room c.loop-index.invariant.1),
    )
