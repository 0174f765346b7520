-- Worked values of the definitions, over leaves of one write.
use Rattle.std.specs.Prelude.{◌≡◌, None, [], ◌∷◌, refl}
use Rattle.stamped_writes.specs.declared.write.Write.{Write}
use Rattle.stamped_writes.specs.Write.{unwritten}
use Rattle.square_store.specs.declared.node.Node.TheVariants.{Blank, Leaf, Four}
use Rattle.square_store.specs.Grid.{Grid}
use Rattle.square_store.specs.Squares.{Held, side_at, IsAt, grid_at, four_grid}
use Rattle.square_store.specs.Store.{nothing_held}

-- a leaf of one write
abbrev one_write : Write → Grid
one_write w u v = w

abbrev live : Write
live = record { stamp = 65537; state = 1 }

-- a blank of stamp 0, a live leaf, and two squares that differ in their level alone
abbrev four_squares : Held Write
four_squares = record { leaves = live ∷ []; squares = Blank 0 ∷ Leaf 0 ∷ Four 1 0 1 0 0 ∷ Four 2 0 2 2 0 ∷ []; firsts = None ∷ None ∷ None ∷ None ∷ []; room = 4 }

-- leaves of 8 columns: level 28 has 2^31
pub plane_side : side_at 8 28 ≡ 2147483648
plane_side = refl

-- the leaf stands NE in the square of level 1
pub north_east : grid_at one_write 1 four_squares 1 2 1 0 ≡ live
unfolding grid_at
north_east = refl

pub north_west : grid_at one_write 1 four_squares 1 2 0 0 ≡ unwritten
unfolding grid_at
north_west = refl

-- and so in NE and SW of the square of level 2
pub two_deep : grid_at one_write 1 four_squares 2 3 3 0 ≡ live
unfolding grid_at
two_deep = refl

pub south_west : grid_at one_write 1 four_squares 2 3 1 2 ≡ live
unfolding grid_at
south_west = refl

pub south_east : grid_at one_write 1 four_squares 2 3 2 2 ≡ unwritten
unfolding grid_at
south_east = refl

-- a blank stands for every level
pub blank_of_level_30 : IsAt four_squares 30 0
unfolding IsAt
blank_of_level_30 = tt

-- a square of four for its own
pub own_level : IsAt four_squares 2 3
unfolding IsAt
own_level = refl

-- parts are NW, NE, SW, SE
pub corners : four_grid one_write 1 four_squares 0 (0 ∷ 1 ∷ 0 ∷ 0 ∷ []) 1 0 ≡ live
unfolding grid_at
corners = refl

pub no_squares : (nothing_held {L = Write} 3).room ≡ 3
no_squares = refl
