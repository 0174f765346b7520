use Rattle.tile_steps.proofs.MapLemmas.{made_right}
use Rattle.tile_steps.proofs.step.made.Goals as goal

pub returns : goal.returns
returns N c =
    made_right N.row.N c.args.step.now.rule.now c.args.step.now.generations c.args.step.now.tiles.now.map.entries c.args.corner
    c.tile_at-north_west.result.now c.tile_at-north_east.result.now c.tile_at-south_west.result.now c.tile_at-south_east.result.now
    c.beside.result c.beside-2.result c.beside-3.result c.beside-4.result
    c.load.new.window c.advance.new.window c.middle.result
    c.requires.generations
    c.beside.ensures c.beside-2.ensures c.beside-3.ensures c.beside-4.ensures
    c.tile_at-north_west.ensures c.tile_at-north_east.ensures c.tile_at-south_west.ensures c.tile_at-south_east.ensures
    c.load.ensures c.advance.ensures c.middle.ensures
