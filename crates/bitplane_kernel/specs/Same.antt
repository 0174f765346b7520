-- When two leaves are one, what a leaf feeds a hasher, and its planes from its states.
use Rattle.std.specs.Prelude.{◌≡◌, ℕ, ◌<◌, ◌^◌, List, length, map, slice_index, refl, Bool, true}
use Rattle.std.specs.Int.{bit_at}
use Rattle.std.specs.List.{range_with_len}
use Rattle.std.specs.Bool.{Decides}
use Rattle.std.specs.Cmp.{IsEquivalence, decided}
use Rattle.std.specs.Hash.{HashWrites, Alike, same_Alike}
use Rattle.std.specs.Hash as fed
use Rattle.std.proofs.Common.{get_or, arith, ap, ◌∙◌, sym}
use Rattle.std.proofs.Math.Nat.{mod-eq_of_lt}
use Rattle.std.proofs.lemmas.List.{ext_get_or}
use Rattle.std.proofs.lemmas.Nat.Bits.{bit_at-lt}
use lib.Pointwise.{pointwise, bytes_decides}
use lib.Dec.{eqb}
use Rattle.bitplane_kernel.specs.declared.leaf.BitLeaf.TheInside.{Inside}
use Rattle.bitplane_kernel.specs.Planes.{number, leaf_states}
use Rattle.bitplane_kernel.specs.Digits.{digit_of_number, number_same, number_of_digits, tabled, table_length, leaf_read}

-- eight numbers of 64 bits
pub record ArePlanes (planes : List ℕ) : Type 0 where
  pub count : length planes ≡ 8
  pub fits : (p : ℕ) → p < 8 → slice_index planes p < 2 ^ 64

-- the plane of worth 2 ^ p of 64 states, cell i in bit i
abbrev pub plane_of : List ℕ → ℕ → ℕ
plane_of states p = number 64 (λ i. bit_at (slice_index states i) p)

-- the eight planes of 64 states
unfoldable pub planes_of : List ℕ → List ℕ
planes_of states = map (plane_of states) (range_with_len 0 8)

-- the same states, cell by cell
abbrev pub is_same : List ℕ → List ℕ → Bool
is_same a b = pointwise eqb a b

-- what a leaf feeds a hasher: its planes
abbrev pub hash_planes : List ℕ → HashWrites
hash_planes states = fed.slice fed.u64 (planes_of states)

abbrev pub inside : List ℕ → Inside
inside planes = record { planes = planes }

leaf_digit : (planes : List ℕ) (p i : ℕ) → p < 8 → i < 64 → bit_at (get_or (leaf_states planes) i 0) p ≡ bit_at (get_or planes p 0) i
leaf_digit planes p i hp hi = ap (λ s. bit_at s p) (leaf_read planes i hi) ∙ digit_of_number 8 p (λ q. bit_at (get_or planes q 0) i) hp (λ q k. bit_at-lt _ _)

-- planes that were made states come back
pub planes_back : (planes : List ℕ) → ArePlanes planes → planes_of (leaf_states planes) ≡ planes
unfolding planes_of
planes_back planes are = ext_get_or 0 (planes_of (leaf_states planes)) planes (table_length (plane_of (leaf_states planes)) 8 ∙ sym are.count) (λ p h.
    let within : p < 8 = omega (arith, table_length (plane_of (leaf_states planes)) 8, h) in
    tabled (plane_of (leaf_states planes)) 8 p within
    ∙ number_same 64 (λ i. bit_at (get_or (leaf_states planes) i 0) p) (bit_at (get_or planes p 0)) (λ i k. leaf_digit planes p i within k)
    ∙ number_of_digits 64 (get_or planes p 0) ∙ mod-eq_of_lt (are.fits p within))

pub inside_back : (planes : List ℕ) → ArePlanes planes → inside (planes_of (leaf_states planes)) ≡ inside planes
inside_back planes are = ap inside (planes_back planes are)

-- the test tells whether all states are equal
pub same_Decides : (a b : List ℕ) → Decides (is_same a b) (a ≡ b)
same_Decides a b = bytes_decides a b

pub laws : IsEquivalence is_same
laws = decided is_same same_Decides

-- equal leaves feed a hasher alike
pub alike : Alike is_same hash_planes
alike = same_Alike hash_planes same_Decides
