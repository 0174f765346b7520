use Rattle.std.proofs.Common.{◌∙◌, ◌+◌, ◌≡◌, ℕ, List, ap, arith, subst, sym}
use Rattle.generations_rule.specs.Evolution.{at}
use Rattle.generations_rule.specs.Place.{Place}
use Rattle.pattern_cells.specs.declared.cell.Cell.{Cell}
use Rattle.pattern_cells.specs.Cells.{are_states_below}
use Rattle.stamped_tree.specs.Plane.{map_of}
use Rattle.tile_cells.specs.Listing.{IsListOf, states_in}
use Rattle.generation_engine.specs.Universe.{states_in_writes}
use Rattle.generation_engine.specs.Walk.{AreCellsOf}
use Rattle.export.proofs.ExportLaws.{cells_below}
use Rattle.export.proofs.TileLaws.{later_cells}
use Rattle.map_periods.proofs.plane.PlaneGenerations.later.Goals as goal

pub cells_later-requires : goal.cells_later-requires
cells_later-requires c =
    let s = c.args.self.now in
    let told = c.in_ok-told.told.now in
    ap (are_states_below s.rule.now.states) c.deref.ensures.value
    ∙ cells_below s.rule.now (states_in_writes (map_of s.plane.now)) told.generation told.cells.items c.states-states.ensures.rule s.states (s.right told (sym c.in_ok-told.ensures.value))

pub returns : goal.returns
returns c =
    let s = c.args.self.now in
    let told = c.in_ok-told.told.now in
    let r = s.rule.now in
    let f : Place → ℕ = states_in_writes (map_of s.plane.now) in
    let all : told.generation + c.in_ok-steps.steps ≡ c.args.generation = omega (arith, c.in_ok-steps.ensures.0, c.in_ok-steps.ensures.1) in
    subst (λ (g : ℕ). AreCellsOf (at r f g) c.in-Ok.cells.items) all
    (later_cells r f told.generation c.in_ok-steps.steps told.cells.items c.in-Ok.cells.items (s.right told (sym c.in_ok-told.ensures.value))
    (subst (λ (cells : List Cell). IsListOf (at r (states_in cells) c.in_ok-steps.steps) c.in-Ok.cells.items) c.deref.ensures.value c.in-Ok.ensures.list))
