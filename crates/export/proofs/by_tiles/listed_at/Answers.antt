use Rattle.std.proofs.Common.{ℕ, arith, subst}
use Rattle.generations_rule.specs.Evolution.{at}
use Rattle.generations_rule.specs.Place.{Place}
use Rattle.generation_engine.specs.Universe.{states_in_writes}
use Rattle.generation_engine.specs.Walk.{AreCellsOf}
use Rattle.stamped_tree.specs.Plane.{map_of}
use Rattle.export.proofs.CountLaws.{population_is}
use Rattle.export.proofs.by_tiles.listed_at.Goals as goal

pub returns-then-are_in_middle-clause-counted : goal.returns-then-are_in_middle-clause-counted
returns-then-are_in_middle-clause-counted c =
    let r = c.args.rule.now in
    let f : Place → ℕ = states_in_writes (map_of c.args.plane.now) in
    let cells : AreCellsOf (at r f c.args.generation) c.in_ok-later.later.cells.items =
    subst (λ (g : ℕ). AreCellsOf (at r f g) c.in_ok-later.later.cells.items) c.in_ok-later.ensures.at c.in_ok-later.ensures.listed in
    record {
      are_cells = cells;
      count = population_is (at r f c.args.generation) c.in_ok-later.later.cells.items cells (let inside = c.if-are_in_middle.ensures in grind (arith, inside));
    }
