use Rattle.std.proofs.Common.{ap, arith, inr, length, refl, sym, ◌∙◌, ℕ, List}
use Rattle.std.specs.Prelude.{filter}
use Rattle.generations_rule.specs.Place.{Place}
use Rattle.generations_rule.specs.Evolution.{at}
use Rattle.generations_rule.proofs.EvolutionLaws.{stays_in_range}
use Rattle.pattern_cells.specs.declared.cell.Cell.{Cell}
use Rattle.pattern_cells.specs.Cells.{place_of}
use Rattle.pattern_cells.specs.Window.{is_in_window}
use Rattle.generation_engine.specs.Universe.{states_in_writes}
use Rattle.stamped_tree.specs.Plane.{map_of}
use Rattle.export.specs.Asking.{seen_at}
use Rattle.export.proofs.ExportLaws.{listed_below, seen_below}
use Rattle.export.proofs.TileLaws.{seen_listed}
use Rattle.export.proofs.asking.listed_seen.Goals as goal

pub returns-then-count-gt-MOST_CELLS-clause-err : goal.returns-then-count-gt-MOST_CELLS-clause-err
returns-then-count-gt-MOST_CELLS-clause-err c =
    let h : Place → ℕ = at c.args.rule.now (states_in_writes (map_of c.args.plane.now)) c.args.listed.now.generation in
    let in_window : List Cell → List Cell = filter (λ cell. is_in_window c.args.window (place_of cell)) in
    let seen = seen_listed h c.args.window c.args.listed.now.cells.items (in_window c.args.listed.now.cells.items) c.requires.listed c.requires.inside refl in
    let count = c.count_in_window-count.ensures ∙ ap (λ cells. length (in_window cells)) c.deref.ensures.value in
    inr (c.requires.generation, omega (arith, c.if-count-gt-MOST_CELLS.true, count, seen.1))

pub returns-clause-cells : goal.returns-clause-cells
returns-clause-cells c =
    let f : Place → ℕ = states_in_writes (map_of c.args.plane.now) in
    let g = c.args.listed.now.generation in
    let in_window : List Cell → List Cell = filter (λ cell. is_in_window c.args.window (place_of cell)) in
    let seen = seen_listed (at c.args.rule.now f g) c.args.window c.args.listed.now.cells.items c.in_ok-seen.seen.items c.requires.listed c.requires.inside
    (c.in_ok-seen.ensures ∙ ap in_window c.deref-2.ensures.value) in
    let count = c.count_in_window-count.ensures ∙ ap (λ cells. length (in_window cells)) c.deref.ensures.value ∙ sym (ap length (c.in_ok-seen.ensures ∙ ap in_window c.deref-2.ensures.value)) in
    record {
      few = omega (arith, c.if-count-gt-MOST_CELLS.false, count, seen.1);
      are_cells = seen.0;
      below = listed_below c.args.rule.now.states (seen_at c.args.rule.now f c.args.window g) c.in_ok-seen.seen.items
          (seen_below c.args.rule.now.states (is_in_window c.args.window) (at c.args.rule.now f g) (λ p. stays_in_range c.args.rule.now f g p c.states-states.ensures.rule c.requires.states)) seen.0;
    }
