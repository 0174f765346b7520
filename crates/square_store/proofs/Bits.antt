-- Bits that name the slots with a tag.
use Rattle.std.proofs.Common.{◌≡◌, ℕ, ◌<◌, ◌%◌, ◌^◌, List, length, replicate, true, false, true≢false, get_or, arith, sym, ◌∙◌}
use Rattle.std.specs.Prelude.{bit_and}
use native.Mathlib.Decide.{dec_lt}
use lib.ListN.{get_or-replicate, get_or-eq_default}
use lib.Lanes.{mask_l}
use Rattle.indexmap.specs.IndexTable.Group.{IsBitSet}
use Rattle.indexmap.proofs.IndexTableLemmas.Bits.{bits_from_and, bit_and_lem, lane_from_bit, bit_mask, twelve_set, compared, tag_from_match, match_from_tag}

below_eleven : (k : ℕ) → IsBitSet 2047 k → k < 11
below_eleven k h =
    elim (dec_lt k 11) [ yes p ↦ p | no p ↦ absurd (true≢false (sym (lane_from_bit (replicate 11 true) k h) ∙ get_or-eq_default (replicate 11 true) false (omega (arith, p)))) ]

eleven_set : (k : ℕ) → k < 11 → IsBitSet 2047 k
eleven_set k p = bit_mask (replicate 11 true) k (get_or-replicate 11 k true false p)

pub slot_tagged : (xs : List ℕ) (tag : ℕ) → length xs ≡ 16 → (k : ℕ) → IsBitSet (bit_and (mask_l (compared xs 16 tag) % 2 ^ 64) 2047) k → (k < 11) × (get_or xs k 0 ≡ tag)
slot_tagged xs tag l k h =
    let both = bits_from_and _ 2047 k h in
    let p = below_eleven k both.1 in
    (p, (tag_from_match xs tag l k (bit_and_lem _ 4095 k both.0 (twelve_set k (omega (arith, p))))).1)

pub tagged_slot : (xs : List ℕ) (tag : ℕ) → length xs ≡ 16 → (k : ℕ) → k < 11 → get_or xs k 0 ≡ tag → IsBitSet (bit_and (mask_l (compared xs 16 tag) % 2 ^ 64) 2047) k
tagged_slot xs tag l k p e =
    let both = bits_from_and _ 4095 k (match_from_tag xs tag l k (omega (arith, p)) e) in
    bit_and_lem _ 2047 k both.0 (eleven_set k p)
