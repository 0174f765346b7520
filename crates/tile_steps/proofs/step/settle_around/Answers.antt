use Rattle.std.proofs.Common.{subst, arith, pos, negsuc}
use Rattle.std.proofs.lemmas.Int.{ints}
use Rattle.tile_steps.specs.Tiles.{IsSettled}
use Rattle.tile_steps.proofs.MapLemmas.{inside_beside, north_west_grid, north_east_grid, south_west_grid, south_east_grid}
use Rattle.tile_steps.proofs.RoomLemmas.{told}
use Rattle.tile_steps.proofs.step.settle_around.Goals as goal

pub settle-requires : goal.settle-requires
settle-requires N c =
    let near = inside_beside c.args.corner c.beside-north_west.result (negsuc 15) (negsuc 15) c.beside-north_west.ensures (omega (arith, ints)) (omega (arith, ints)) (omega (arith, ints)) (omega (arith, ints)) c.requires.corner in
    let grid = north_west_grid N.row.N c.args.step.now.tiles.now.map.entries c.args.corner c.requires.there c.beside-north_west.result c.beside-north_west.ensures in
    (omega arith, (omega (arith, c.requires.few.1), (omega (arith, c.requires.few.1), (c.requires.few, (c.requires.enough, (c.requires.generations, (near, (grid, c.requires.way))))))))

pub settle-requires-2 : goal.settle-requires-2
settle-requires-2 N c =
    let near = inside_beside c.args.corner c.beside-north_east.result (pos 16) (negsuc 15) c.beside-north_east.ensures (omega (arith, ints)) (omega (arith, ints)) (omega (arith, ints)) (omega (arith, ints)) c.requires.corner in
    let grid = north_east_grid N.row.N c.args.step.now.tiles.now.map.entries c.args.corner c.requires.there c.beside-north_east.result c.beside-north_east.ensures in
    (omega arith, (omega (arith, c.requires.few.1), (omega (arith, c.requires.few.1), (c.requires.few, (c.requires.enough, (c.requires.generations, (near, (grid, c.in_ok-settle.ensures.way))))))))

pub settle-requires-3 : goal.settle-requires-3
settle-requires-3 N c =
    let near = inside_beside c.args.corner c.beside-south_west.result (negsuc 15) (pos 16) c.beside-south_west.ensures (omega (arith, ints)) (omega (arith, ints)) (omega (arith, ints)) (omega (arith, ints)) c.requires.corner in
    let grid = south_west_grid N.row.N c.args.step.now.tiles.now.map.entries c.args.corner c.requires.there c.beside-south_west.result c.beside-south_west.ensures in
    (omega arith, (omega (arith, c.requires.few.1), (omega (arith, c.requires.few.1), (c.requires.few, (c.requires.enough, (c.requires.generations, (near, (grid, c.in_ok-settle-2.ensures.way))))))))

pub settle-requires-4 : goal.settle-requires-4
settle-requires-4 N c =
    let near = inside_beside c.args.corner c.beside-south_east.result (pos 16) (pos 16) c.beside-south_east.ensures (omega (arith, ints)) (omega (arith, ints)) (omega (arith, ints)) (omega (arith, ints)) c.requires.corner in
    let grid = south_east_grid N.row.N c.args.step.now.tiles.now.map.entries c.args.corner c.requires.there c.beside-south_east.result c.beside-south_east.ensures in
    (omega arith, (omega (arith, c.requires.few.1), (omega (arith, c.requires.few.1), (c.requires.few, (c.requires.enough, (c.requires.generations, (near, (grid, c.in_ok-settle-3.ensures.way))))))))

pub returns-clause-around : goal.returns-clause-around
returns-clause-around N c =
    let settled = IsSettled N.row.N c.args.step.now.rule.now c.args.step.now.generations c.args.step.now.tiles.now.map.entries c.settle-4.new.new.map.entries in
    record {
      north_west = subst settled c.beside-north_west.ensures (c.in_ok-settle-4.ensures.kept _ (c.in_ok-settle-3.ensures.kept _ (c.in_ok-settle-2.ensures.kept _ c.in_ok-settle.ensures.settled)));
      north_east = subst settled c.beside-north_east.ensures (c.in_ok-settle-4.ensures.kept _ (c.in_ok-settle-3.ensures.kept _ c.in_ok-settle-2.ensures.settled));
      south_west = subst settled c.beside-south_west.ensures (c.in_ok-settle-4.ensures.kept _ c.in_ok-settle-3.ensures.settled);
      south_east = subst settled c.beside-south_east.ensures c.in_ok-settle-4.ensures.settled;
    }

pub returns-clause-kept : goal.returns-clause-kept
returns-clause-kept N c = λ q h. c.in_ok-settle-4.ensures.kept q (c.in_ok-settle-3.ensures.kept q (c.in_ok-settle-2.ensures.kept q (c.in_ok-settle.ensures.kept q h)))

pub returns-in_err-settle-clause-cause : goal.returns-in_err-settle-clause-cause
returns-in_err-settle-clause-cause N c = told _ _ _ c.from_residual.ensures.1 c.in_err-settle.ensures.cause

pub returns-in_err-settle-2-clause-cause : goal.returns-in_err-settle-2-clause-cause
returns-in_err-settle-2-clause-cause N c = told _ _ _ c.from_residual-in_err-settle-2.ensures.1 c.in_err-settle-2.ensures.cause

pub returns-in_err-settle-3-clause-cause : goal.returns-in_err-settle-3-clause-cause
returns-in_err-settle-3-clause-cause N c = told _ _ _ c.from_residual-in_err-settle-3.ensures.1 c.in_err-settle-3.ensures.cause

pub returns-in_err-settle-4-clause-cause : goal.returns-in_err-settle-4-clause-cause
returns-in_err-settle-4-clause-cause N c = told _ _ _ c.from_residual-in_err-settle-4.ensures.1 c.in_err-settle-4.ensures.cause
