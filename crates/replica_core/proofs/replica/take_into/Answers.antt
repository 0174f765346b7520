use Rattle.std.proofs.Common.{◌≡◌, sym, subst}
use Rattle.std.specs.Prelude.{IfErr}
use Rattle.stamped_tree.specs.Plane.{map_of}
use Rattle.held_plane.specs.Wanted.{IsJoinedSoFar}
use Rattle.replica_core.specs.declared.fault.Fault.TheVariants.{StoreFull}
use Rattle.replica_core.specs.Room.{IsFullOf, IsWantedJoining}
use Rattle.replica_core.proofs.replica.take_into.Goals as goal

pub returns-in-Edits-clause-full : goal.returns-in-Edits-clause-full
returns-in-Edits-clause-full c =
    subst (λ content. IfErr c.take_edits.result (λ fault. fault ≡ StoreFull → IsFullOf c.args.plane.now c.take_edits.new.plane (IsWantedJoining (map_of c.args.plane.now) content))) (sym c.in-Edits.is)
    (subst (λ edits. IfErr c.take_edits.result (λ fault. fault ≡ StoreFull → IsFullOf c.args.plane.now c.take_edits.new.plane (IsJoinedSoFar (map_of c.args.plane.now) edits)))
    c.as_slice.ensures c.take_edits.ensures.full)

pub returns-in-State-clause-full : goal.returns-in-State-clause-full
returns-in-State-clause-full c =
    subst (λ content. IfErr c.take_map.result (λ fault. fault ≡ StoreFull → IsFullOf c.args.plane.now c.take_map.new.plane (IsWantedJoining (map_of c.args.plane.now) content))) (sym c.in-State.is)
    c.take_map.ensures.full
