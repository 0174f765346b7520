-- Worked values.
use Rattle.std.specs.Fmt.{digits}
use Rattle.std.specs.Prelude.{◌≡◌, codes, refl, pos, negsuc, None, Some}
use Rattle.map_periods.specs.Moves.{moved_cell}
use Rattle.map_periods.specs.Told.{period_text}

-- one to the right and two up
pub cell_is_moved : moved_cell (pos 1) (negsuc 1) (record { x = negsuc 0; y = pos 5; state = 3 }) ≡ record { x = pos 0; y = pos 3; state = 3 }
cell_is_moved = refl

-- a glider that flies to the right and up
pub glider_told : period_text 100 (Some (record { generations = 4; by = record { x = pos 1; y = negsuc 0 } })) ≡ codes "period 4 moves 1 -1"
unfolding digits
glider_told = refl

pub none_told : period_text 65535 None ≡ codes "none to 65535"
unfolding digits
none_told = refl
