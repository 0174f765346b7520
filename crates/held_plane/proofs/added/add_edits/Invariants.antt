use Rattle.std.specs.Prelude.{take}
use Rattle.edit_stamps.specs.Edit.{greatest}
use Rattle.stamped_writes.specs.Write.{AreSame, joined}
use Rattle.stamped_tree.specs.Plane.{HasGrown, IsPart, map_of, rooted}
use Rattle.held_plane.specs.Wanted.{AddsPiecesOfSome, IsJoinedSoFar}
use Rattle.held_plane.proofs.added.add_edits.Given as goal

abbrev pub invariant-loop-edit : goal.invariant-loop-edit
invariant-loop-edit l =
    IsPart l.plane.store 31 l.part
    × HasGrown l.fn.plane l.plane
    × AreSame (map_of (rooted l.plane l.part)) (joined (map_of (rooted l.fn.plane l.fn.root)) (greatest (take l.edit-index l.edits)))
    × AddsPiecesOfSome l.fn.plane l.plane (IsJoinedSoFar (map_of (rooted l.fn.plane l.fn.root)) l.edits)
