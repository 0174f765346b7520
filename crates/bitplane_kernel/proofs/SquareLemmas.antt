-- Blocks and leaves as lists of states.
use Rattle.std.proofs.Common.{◌≡◌, ℕ, ◌+◌, ◌*◌, ◌/◌, ◌%◌, ◌<◌, List, length, arith, ◌∙◌, ap, get_or, zero-add, map}
use Rattle.std.specs.List.{range_with_len}
use Rattle.std.proofs.lemmas.List.{get_or-map, length-map}
use Rattle.std.proofs.lemmas.List.FromFn.{get_or-range_with_len, length-range_with_len}
use Rattle.bitplane_kernel.specs.declared.planes.BitPlane.{BitPlane}
use Rattle.bitplane_kernel.specs.Planes.{state_in, state_at_bit, block_states, leaf_states}
use Rattle.bitplane_kernel.specs.Square.{state_at}
use Rattle.bitplane_kernel.specs.Digits.{tabled, table_length}

pub block_read : (planes : List BitPlane) (x y : ℕ) → x < 16 → y < 16 → state_at 16 (block_states planes) x y ≡ state_in 8 planes x y
unfolding block_states
block_read planes x y hx hy =
    let column : (16 * y + x) % 16 ≡ x = omega arith in
    let row : (16 * y + x) / 16 ≡ y = omega arith in
    tabled (λ i. state_in 8 planes (i % 16) (i / 16)) 256 (16 * y + x) (omega arith)
    ∙ ap (λ u. state_in 8 planes u ((16 * y + x) / 16)) column ∙ ap (state_in 8 planes x) row

pub block_length : (planes : List BitPlane) → length (block_states planes) ≡ 256
unfolding block_states
block_length planes = table_length (λ i. state_in 8 planes (i % 16) (i / 16)) 256
