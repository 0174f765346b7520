-- Worked values of the definitions.
use Rattle.std.specs.Prelude.{◌≡◌, ℕ, ◌+◌, ◌*◌, pos, negsuc, true, false, None, refl}
use Rattle.generations_rule.specs.Place.{at_place}
use Rattle.bitplane_kernel.specs.Population.{population, sum_from}
use Rattle.square_store.specs.Grid.{Grid}
use Rattle.generation_engine.specs.EngineLeaf.{unstamped}
use Rattle.generation_engine.specs.Extent.{is_live_on}
use Rattle.generation_engine.specs.Loading.{centred}
use Rattle.generation_engine.specs.Region.{is_in_region, has_region, middle_coordinate, seen_grid}
use Rattle.generation_engine.specs.declared.region.Region.{Region}
use Rattle.generation_engine.specs.Universe.{from_universe_edge, is_in_reach, is_in_universe}
use Rattle.generation_engine.specs.Walk.{from_middle_edge}
use Rattle.generation_engine.specs.Window.{IsExtent}

-- the origin is in the middle
pub origin_column : from_universe_edge (pos 0) ≡ 4294967296
origin_column = refl

pub origin_in_middle : from_middle_edge (pos 0) ≡ 2147483648
origin_in_middle = refl

pub corner : is_in_universe (at_place (negsuc 4294967295) (pos 4294967295)) ≡ true
corner = refl

pub past_the_edge : is_in_universe (at_place (pos 4294967296) (pos 0)) ≡ false
past_the_edge = refl

-- after 7 generations a cell may be 7 columns out of the plane
pub seven_out : is_in_reach 7 (at_place (pos 1073741830) (negsuc 1073741830)) ≡ true
seven_out = refl

pub eight_out : is_in_reach 7 (at_place (pos 1073741831) (pos 0)) ≡ false
eight_out = refl

-- two dying cells and a live one in a square of side 2, row by row 0 2, 1 3
abbrev three : ℕ → ℕ → ℕ
three u v = v + 2 * u

pub three_cells : population 2 three ≡ 3
unfolding sum_from
three_cells = refl

abbrev by_column : Grid
by_column u v = unstamped (u + 1)

-- a square of side 2 in the middle of one of side 4
pub first_of_middle : (centred 1 by_column 1 1).state ≡ 1
first_of_middle = refl

pub last_of_middle : (centred 1 by_column 2 2).state ≡ 2
last_of_middle = refl

pub beside_middle : (centred 1 by_column 3 1).state ≡ 0
beside_middle = refl

-- columns 3 and 4 of rows 5 to 7
abbrev six_places : Region
six_places = record { left = 3; right = 5; top = 5; bottom = 8 }

pub last_place : is_in_region six_places 4 7 ≡ true
last_place = refl

pub past_the_last_row : is_in_region six_places 4 8 ≡ false
past_the_last_row = refl

pub has_its_lower_half : has_region six_places (record { left = 3; right = 5; top = 6; bottom = 8 }) ≡ true
has_its_lower_half = refl

pub lacks_a_column : has_region six_places (record { left = 3; right = 6; top = 6; bottom = 8 }) ≡ false
lacks_a_column = refl

-- a square of side 2 whose corner is in column 4 and row 4: its lower left cell alone is seen there
pub seen_cell : (seen_grid six_places 4 4 by_column 0 1).state ≡ 1
seen_cell = refl

pub unseen_cell : (seen_grid six_places 4 4 by_column 1 1).state ≡ 0
unseen_cell = refl

pub live_in_its_place : is_live_on 2 by_column 4 4 5 5 ≡ true
live_in_its_place = refl

pub nothing_beside_it : is_live_on 2 by_column 4 4 6 5 ≡ false
nothing_beside_it = refl

-- the origin is in the column and the row in the middle of 2^32
pub middle_of_the_middle : middle_coordinate 2147483648 ≡ pos 0
middle_of_the_middle = refl

-- where all is dead there is no extent
pub no_extent : IsExtent (λ c. 0) None
no_extent c = refl
