use Rattle.std.proofs.Common.{◌≡◌, ℕ, [], ◌∷◌, ap, arith, length, sym, ◌∙◌}
use Rattle.std.specs.Prelude.{true}
use Rattle.std.specs.List.{list_all}
use Rattle.generations_rule.specs.Place.{Place}
use Rattle.generations_rule.specs.Evolution.{at}
use Rattle.generations_rule.proofs.EvolutionLaws.{stays_in_range}
use Rattle.pattern_cells.specs.Cells.{place_of}
use Rattle.pattern_cells.specs.Window.{is_in_window}
use Rattle.generation_engine.specs.Universe.{states_in_writes}
use Rattle.generation_engine.specs.Walk.{AreCellsOf, is_in_middle}
use Rattle.stamped_tree.specs.Plane.{map_of}
use Rattle.export.specs.Asking.{seen_at}
use Rattle.export.specs.Export.{population_in_universe}
use Rattle.export.proofs.CountLaws.{population_is}
use Rattle.export.proofs.ExportLaws.{listed_below, seen_below}
use Rattle.export.proofs.TileLaws.{now_seen}
use Rattle.export.proofs.asking.seen_now.Goals as goal

pub returns-then-are_in_middle : goal.returns-then-are_in_middle
returns-then-are_in_middle c =
    let r = c.args.rule.now in
    let f : Place → ℕ = states_in_writes (map_of c.args.plane.now) in
    let cells = c.in-Ok.cells.items in
    let are : AreCellsOf (seen_at r f c.args.window 0) cells = now_seen r c.args.plane.now c.args.window _ cells (ap (λ area. area ∷ []) c.area_of.ensures) c.in-Ok.ensures in
    let inside : list_all (λ cell. is_in_middle (place_of cell)) cells ≡ true = ap (list_all (λ cell. is_in_middle (place_of cell))) (sym c.deref.ensures.value) ∙ sym c.are_in_middle.ensures ∙ c.if-are_in_middle.true in
    let count : length cells ≡ population_in_universe (seen_at r f c.args.window 0) = population_is (seen_at r f c.args.window 0) cells are inside in
    record {
      few = (let few = c.if-len-le-MOST_CELLS.true in let long = c.len.ensures in omega (arith, few, long, count, c.in-Ok.cells.ok));
      are_cells = are;
      below = listed_below r.states (seen_at r f c.args.window 0) cells
          (seen_below r.states (is_in_window c.args.window) (at r f 0) (λ p. stays_in_range r f 0 p c.states-states.ensures.rule c.requires)) are;
    }
