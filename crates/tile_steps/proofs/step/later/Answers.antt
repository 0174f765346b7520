use Rattle.std.proofs.Common.{◌<◌, arith, length}
use Rattle.std.proofs.lemmas.Option.{slice_get_within}
use Rattle.tile_steps.proofs.MapLemmas.{all_at, all_later, settled_more, there_at}
use Rattle.tile_steps.proofs.RoomLemmas.{fewest, told}
use Rattle.tile_steps.proofs.step.later.Goals as goal

pub settle_around-requires : goal.settle_around-requires
settle_around-requires N c =
    let near = all_at N.row.N c.args.tiles.now.map.entries c.loop-index.index c.corner_at-corner.result c.corner_at-corner.ensures.0 c.requires.inside c.corner_at-corner.ensures.1 in
    let there = there_at N.row.N c.args.tiles.now.map.entries c.loop-index.index c.corner_at-corner.result c.corner_at-corner.ensures.0 c.corner_at-corner.ensures.1 in
    (omega arith, (omega (arith, c.requires.few.1), (omega (arith, c.requires.few.1), (c.requires.few, (c.requires.enough, (c.requires.generations, (near, (there, c.loop-index.invariant.way))))))))

pub loop-index-preserved : goal.loop-index-preserved
loop-index-preserved N c =
    settled_more N.row.N c.args.rule.now c.args.generations c.args.tiles.now.map.entries c.args.room c.loop-index.index c.loop-index.new.map.entries c.settle_around.new.new.map.entries
    c.corner_at-corner.result c.corner_at-corner.ensures.0 c.corner_at-corner.ensures.1 c.loop-index.invariant
    c.in_ok-settle_around.ensures.way c.in_ok-settle_around.ensures.around c.in_ok-settle_around.ensures.kept

pub returns-clause-later : goal.returns-clause-later
returns-clause-later N c =
    let tiles = c.args.tiles.now.map.entries in
    all_later N.row.N c.args.rule.now c.args.generations tiles c.loop-index.new.map.entries c.loop-index.invariant.way.right
    (λ i q tile is. c.loop-index.invariant.around i q tile
    (let within : i < length tiles = slice_get_within tiles i (q, tile) is in omega (arith, within, c.loop-index-test.false, c.len-index-end.ensures.len)) is)
    c.loop-index.invariant.way.grid c.states-states.ensures.rule c.requires.generations

pub returns-clause-fewest : goal.returns-clause-fewest
returns-clause-fewest N c = fewest N.row.N c.args.rule.now c.args.generations c.args.tiles.now.map.entries c.args.room c.loop-index.new.map.entries c.loop-index.invariant.way

pub returns-in_err-settle_around-clause-cause : goal.returns-in_err-settle_around-clause-cause
returns-in_err-settle_around-clause-cause N c = told _ _ _ c.from_residual.ensures.1 c.in_err-settle_around.ensures.cause
