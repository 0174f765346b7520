use Rattle.std.proofs.Common.{◌∙◌, sym}
use Rattle.tile_steps.proofs.RoomLemmas.{step_refused, told}
use Rattle.tile_steps.proofs.MapLemmas.{none_there, way_put, settled_put, keeps_put}
use Rattle.tile_steps.proofs.step.settle.Goals as goal

pub returns-clause-way : goal.returns-clause-way
returns-clause-way N c =
    way_put N.row.N c.args.step.now.rule.now c.args.step.now.generations c.args.step.now.tiles.now.map.entries c.args.step.now.room c.args.new.now.map.entries c.put_tile.new.tiles.map.entries c.args.corner c.made-tile.result
    c.in_ok-put_tile.ensures.put c.made-tile.ensures c.requires.grid (c.is_dead.ensures.alive c.if-is_dead.false) c.in_ok-put_tile.ensures.once c.in_ok-put_tile.ensures.room c.in_ok-put_tile.ensures.inside c.requires.way

pub returns-clause-settled : goal.returns-clause-settled
returns-clause-settled N c =
    settled_put N.row.N c.args.step.now.rule.now c.args.step.now.generations c.args.step.now.tiles.now.map.entries c.args.new.now.map.entries c.put_tile.new.tiles.map.entries c.args.corner c.made-tile.result
    c.in_ok-put_tile.ensures.put c.made-tile.ensures

pub returns-clause-kept : goal.returns-clause-kept
returns-clause-kept N c =
    keeps_put N.row.N c.args.step.now.rule.now c.args.step.now.generations c.args.step.now.tiles.now.map.entries c.args.new.now.map.entries c.put_tile.new.tiles.map.entries c.args.corner c.made-tile.result
    c.in_ok-put_tile.ensures.put c.made-tile.ensures

pub returns-in_err-put_tile-clause-cause : goal.returns-in_err-put_tile-clause-cause
returns-in_err-put_tile-clause-cause N c =
    let none = none_there N.row.N c.args.step.now.rule.now c.args.step.now.generations c.args.step.now.tiles.now.map.entries c.args.new.now.map.entries c.args.corner (sym c.is_there.ensures ∙ c.if-is_there.false) in
    told _ _ _ c.from_residual.ensures.1
    (step_refused N.row.N c.args.step.now.rule.now c.args.step.now.generations c.args.step.now.tiles.now.map.entries c.args.step.now.room c.args.new.now.map.entries c.args.corner c.made-tile.result _
    c.in_err-put_tile.ensures.cause c.requires.way none c.made-tile.ensures (c.is_dead.ensures.alive c.if-is_dead.false) c.requires.grid)
