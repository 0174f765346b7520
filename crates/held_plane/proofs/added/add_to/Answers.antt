use Rattle.std.proofs.Common.{◌∙◌, ap, refl, subst, sym}
use Rattle.stamped_writes.specs.Write.{joined}
use Rattle.stamped_tree.specs.MapPieces.{AddsPiecesOfMap, IsFullForMap}
use Rattle.stamped_tree.specs.Plane.{map_of, rooted}
use Rattle.held_plane.specs.declared.added.Added.{Added}
use Rattle.held_plane.specs.declared.added.Added.TheVariants.{Map}
use Rattle.held_plane.specs.Wanted.{AddsPiecesOfSome, IsFullForSome, IsJoinedSoFar, IsWantedOf}
use Rattle.held_plane.proofs.WantedLaws.{some_one}
use Rattle.held_plane.proofs.added.add_to.Goals as goal

pub returns-in-Edits-clause-pieces : goal.returns-in-Edits-clause-pieces
returns-in-Edits-clause-pieces c =
    let plane = c.args.plane.now in
    let is = c.part-root.ensures ∙ ap (λ square. square.part) c.root.ensures.square in
    let edits = c.in-Edits.edits in
    let new = c.add_edits.new.plane in
    subst (λ (a : Added). AddsPiecesOfSome plane new (IsWantedOf (map_of plane) a)) (sym c.in-Edits.is)
    (subst (λ r. AddsPiecesOfSome plane new (IsJoinedSoFar (map_of (rooted plane r)) edits.now)) is c.add_edits.ensures.pieces)

pub returns-in-Edits-clause-full : goal.returns-in-Edits-clause-full
returns-in-Edits-clause-full c =
    let plane = c.args.plane.now in
    let is = c.part-root.ensures ∙ ap (λ square. square.part) c.root.ensures.square in
    let edits = c.in-Edits.edits in
    let new = c.add_edits.new.plane in
    λ e. subst (λ (a : Added). IsFullForSome new (IsWantedOf (map_of plane) a)) (sym c.in-Edits.is)
    (subst (λ r. IsFullForSome new (IsJoinedSoFar (map_of (rooted plane r)) edits.now)) is (c.add_edits.ensures.full e))

pub returns-in-Map-clause-pieces : goal.returns-in-Map-clause-pieces
returns-in-Map-clause-pieces c =
    let plane = c.args.plane.now in
    let is = c.part-root.ensures ∙ ap (λ square. square.part) c.root.ensures.square in
    let map = c.in-Map.map in
    let new = c.add_joined.new.plane in
    let m = joined (map_of plane) (map_of map.now) in
    subst (λ (a : Added). AddsPiecesOfSome plane new (IsWantedOf (map_of plane) a)) (sym c.in-Map.is)
    (some_one (IsWantedOf (map_of plane) (Map map)) plane new m (λ at. refl) (subst (λ r. AddsPiecesOfMap plane new (joined (map_of (rooted plane r)) (map_of map.now))) is c.add_joined.ensures.pieces))

pub returns-in-Map-clause-full : goal.returns-in-Map-clause-full
returns-in-Map-clause-full c =
    let plane = c.args.plane.now in
    let is = c.part-root.ensures ∙ ap (λ square. square.part) c.root.ensures.square in
    let map = c.in-Map.map in
    let new = c.add_joined.new.plane in
    let m = joined (map_of plane) (map_of map.now) in
    λ e. subst (λ (a : Added). IsFullForSome new (IsWantedOf (map_of plane) a)) (sym c.in-Map.is)
    (m, ((λ at. refl), subst (λ r. IsFullForMap new (joined (map_of (rooted plane r)) (map_of map.now))) is (c.add_joined.ensures.full e)))
