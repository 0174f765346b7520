-- Worked values of the definitions.
use Rattle.std.specs.Prelude.{◌≡◌, [], ◌∷◌, refl, List, replicate, ◌^◌, ◌++◌}
use Rattle.std.specs.Int.{bit_at}
use Rattle.std.specs.List.{range_with_len}
use Rattle.bitplane_kernel.specs.declared.planes.BitPlane.{BitPlane}
use Rattle.bitplane_kernel.specs.Planes.{number, bit, state_in, leaf_states}
use Rattle.bitplane_kernel.specs.Square.{state_at}

-- 1 + 4 + 8
pub thirteen : number 4 (bit_at 13) ≡ 13
unfolding number
thirteen = refl

-- the third row is a lane, the second column a bit
pub one_cell : bit (0 ∷ 0 ∷ 2 ∷ []) 1 2 ≡ 1
unfolding bit
one_cell = refl

pub no_cell : bit (0 ∷ 0 ∷ 2 ∷ []) 2 1 ≡ 0
unfolding bit
no_cell = refl

-- a dying cell of state 3 beside a live one
pub two_planes : List BitPlane
two_planes = record { rows = 3 ∷ [] } ∷ record { rows = 1 ∷ [] } ∷ []

pub dying_and_live : state_in 2 two_planes 0 0 ∷ state_in 2 two_planes 1 0 ∷ state_in 2 two_planes 2 0 ∷ [] ≡ 3 ∷ 1 ∷ 0 ∷ []
unfolding number bit two_planes
dying_and_live = refl

-- row by row
pub third_of_second_row : state_at 16 (range_with_len 0 256) 2 1 ≡ 18
third_of_second_row = refl

-- cell 0 of a leaf in state 1, cell 9 in state 2
pub leaf_of_two : leaf_states (1 ∷ 2 ^ 9 ∷ []) ≡ 1 ∷ replicate 8 0 ++ 2 ∷ replicate 54 0
unfolding number leaf_states
leaf_of_two = refl
