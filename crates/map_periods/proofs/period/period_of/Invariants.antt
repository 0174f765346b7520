use Rattle.std.proofs.Common.{◌≡◌, ℕ, ◌+◌, ◌≤◌}
use Rattle.generations_rule.specs.Evolution.{at}
use Rattle.generation_engine.specs.Walk.{AreCellsOf}
use Rattle.map_periods.specs.Moves.{IsNotMoved}
use Rattle.map_periods.specs.Periods.{RefusesNoMore}
use Rattle.map_periods.proofs.period.period_of.Given as goal

abbrev pub invariant-loop-passed : goal.invariant-loop-passed
invariant-loop-passed g l =
    let rule = g.G.Generations.rule_of l.fn.generations in
    let map = g.G.Generations.map_of l.fn.generations in
    record {
      cells : AreCellsOf (at rule map l.first) l.before.items;
      same_rule : g.G.Generations.rule_of l.generations ≡ rule;
      same_map : g.G.Generations.map_of l.generations ≡ map;
      refusals : RefusesNoMore (g.G.Generations.refuses l.fn.generations) (g.G.Generations.refuses l.generations);
      none : (p : ℕ) → 1 ≤ p → p ≤ l.passed → IsNotMoved (at rule map l.first) (at rule map (l.first + p));
    }
