use Rattle.std.proofs.Common.{inl, refl, arith}
use Rattle.tile_steps.proofs.RoomLemmas.{told}
use Rattle.tile_cells.specs.Listing.{states_in}
use Rattle.tile_cells.proofs.FillLemmas.{not_filled, not_run, states_below}
use Rattle.tile_cells.proofs.later.listed_later.Goals as goal

pub returns-in-Ok-clause-states : goal.returns-in-Ok-clause-states
returns-in-Ok-clause-states N c = c.in-Ok.ensures _ (c.in_ok-later.ensures.evolved (states_in c.args.cells.now)
    (λ place. states_below c.args.rule.now.states c.args.cells.now place (let least = c.states.ensures.rule.least in omega (arith, least)) c.requires.below)
    (record { origin = 0; is = inl refl; shows = c.in_ok-tiles.ensures.shows }))

pub returns-in_err-tiles-clause-cause : goal.returns-in_err-tiles-clause-cause
returns-in_err-tiles-clause-cause N c = told _ _ _ c.from_residual.ensures.1 (not_filled c.args.rule.now c.args.cells.now c.args.generation c.args.means.windows _ c.in_err-tiles.ensures.cause)

pub returns-in_err-later-clause-cause : goal.returns-in_err-later-clause-cause
returns-in_err-later-clause-cause N c =
    told _ _ _ c.from_residual-in_err-later.ensures.1
    (not_run N.row.N c.args.rule.now c.args.cells.now c.args.generation c.args.means.windows c.in_ok-tiles.tiles.map.entries _ c.requires.enough
    (λ place. states_below c.args.rule.now.states c.args.cells.now place (let least = c.states.ensures.rule.least in omega (arith, least)) c.requires.below)
    c.in_ok-tiles.ensures.shows c.in_ok-tiles.ensures.of c.in_ok-tiles.ensures.once c.in_err-later.ensures.cause)
