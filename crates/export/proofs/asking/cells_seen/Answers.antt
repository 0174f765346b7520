use Rattle.std.proofs.Common.{ℕ, ap, subst, arith, inr}
use Rattle.generations_rule.specs.Place.{Place}
use Rattle.generations_rule.specs.Evolution.{at}
use Rattle.generations_rule.proofs.EvolutionLaws.{stays_in_range}
use Rattle.pattern_cells.specs.Window.{is_in_window}
use Rattle.generation_engine.specs.Universe.{states_in_writes}
use Rattle.generation_engine.specs.Walk.{AreCellsOf}
use Rattle.stamped_tree.specs.Plane.{map_of}
use Rattle.export.specs.Asking.{seen_at}
use Rattle.export.specs.Export.{population_in_universe}
use Rattle.export.proofs.AskingLaws.{seen_shown}
use Rattle.export.proofs.ExportLaws.{listed_below, seen_below}
use Rattle.export.proofs.asking.cells_seen.Goals as goal

pub returns-then-population_in-from-clause-err : goal.returns-then-population_in-from-clause-err
returns-then-population_in-from-clause-err c =
    let f : Place → ℕ = states_in_writes (map_of c.args.plane.now) in
    let count = ap population_in_universe (seen_shown c.args.rule.now f c.args.cut.window c.args.cut.generation c.args.engine.now c.requires.run c.requires.at) in
    inr (c.requires.generation, omega (arith, c.if-population_in-from.true, c.population_in.ensures, c.from.ensures, count))

pub returns-clause-cells : goal.returns-clause-cells
returns-clause-cells c =
    let f : Place → ℕ = states_in_writes (map_of c.args.plane.now) in
    let seen = seen_shown c.args.rule.now f c.args.cut.window c.args.cut.generation c.args.engine.now c.requires.run c.requires.at in
    let count = ap population_in_universe seen in
    let cells : AreCellsOf (seen_at c.args.rule.now f c.args.cut.window c.args.cut.generation) c.in_ok-cells.cells.items = subst (λ (h : Place → ℕ). AreCellsOf h c.in_ok-cells.cells.items) seen c.in_ok-cells.ensures.cells in
    record {
      few = omega (arith, c.if-population_in-from.false, c.population_in.ensures, c.from.ensures, count);
      are_cells = cells;
      below = listed_below c.args.rule.now.states (seen_at c.args.rule.now f c.args.cut.window c.args.cut.generation) c.in_ok-cells.cells.items
          (seen_below c.args.rule.now.states (is_in_window c.args.cut.window) (at c.args.rule.now f c.args.cut.generation) (λ p. stays_in_range c.args.rule.now f c.args.cut.generation p c.states-states.ensures.rule c.requires.states)) cells;
    }
