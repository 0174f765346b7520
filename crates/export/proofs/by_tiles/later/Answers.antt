use Rattle.std.proofs.Common.{◌∙◌, ◌+◌, ◌≡◌, ℕ, List, ap, subst, arith}
use Rattle.std.specs.Prelude.{◌-◌}
use Rattle.generations_rule.specs.Evolution.{at}
use Rattle.generations_rule.specs.Place.{Place}
use Rattle.pattern_cells.specs.declared.cell.Cell.{Cell}
use Rattle.pattern_cells.specs.Cells.{are_states_below}
use Rattle.stamped_tree.specs.Plane.{map_of}
use Rattle.tile_cells.specs.Listing.{IsListOf, states_in}
use Rattle.generation_engine.specs.Universe.{states_in_writes}
use Rattle.generation_engine.specs.Walk.{AreCellsOf}
use Rattle.export.proofs.ExportLaws.{cells_below}
use Rattle.export.proofs.TileLaws.{later_cells}
use Rattle.export.proofs.by_tiles.later.Goals as goal

pub cells_later-requires : goal.cells_later-requires
cells_later-requires c =
    ap (are_states_below c.args.rule.now.states) c.deref.ensures.value
    ∙ cells_below c.args.rule.now (states_in_writes (map_of c.args.plane.now)) c.args.listed.generation c.args.listed.cells.items c.states-states.ensures.rule c.requires.states c.requires.listed

pub returns-in-Ok-clause-listed : goal.returns-in-Ok-clause-listed
returns-in-Ok-clause-listed c =
    let r = c.args.rule.now in
    let f : Place → ℕ = states_in_writes (map_of c.args.plane.now) in
    let steps = c.args.generation - c.args.listed.generation in
    let all : (c.args.listed.generation + steps) ≡ c.args.generation = omega (arith, c.requires.before) in
    subst (λ (g : ℕ). AreCellsOf (at r f g) c.in-Ok.cells.items) all
    (later_cells r f c.args.listed.generation steps c.args.listed.cells.items c.in-Ok.cells.items c.requires.listed
    (subst (λ (cells : List Cell). IsListOf (at r (states_in cells) steps) c.in-Ok.cells.items) c.deref.ensures.value c.in-Ok.ensures.list))
