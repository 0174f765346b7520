-- One tree for a map, and one map for a tree.
use Rattle.std.proofs.Common.{◌≡◌, ℕ, zero, suc, ◌+◌, ◌*◌, ◌/◌, ◌%◌, ◌<◌, ◌≤◌, true, List, sym, ◌∙◌, ap, subst, arith, ℤ, pos, ◌+ℤ◌, ◌-ℤ◌, ◌≤ℤ◌}
use Rattle.std.specs.Prelude.{IsTrue, ◌&&◌, int_le, int_lt, slice_index_or, ◌<ℤ◌, nat_abs}
use Rattle.std.proofs.lemmas.Int.{ints, by_lt_z}
use Rattle.std.proofs.lemmas.Bool.{and_parts}
use Rattle.std.proofs.Math.Pow.{pow_pos}
use Rattle.std.proofs.Math.Nat.{div-add-mod, mod-lt, pow-succ'}
use Rattle.std.proofs.lemmas.List.{ext_get_or}
use Rattle.generations_rule.specs.Place.{Place, moved}
use Rattle.stamped_writes.specs.declared.write.Write.{Write}
use Rattle.stamped_writes.specs.Write.{Writes}
use Rattle.edit_stamps.specs.Plane.{is_in}
use Rattle.edit_stamps.specs.PlaneMap.{square}
use Rattle.stamped_tree.specs.Tree.{Blank, Leaf, Four, side, IsBlank, IsMixed, east, south, south_east, AreLeafWrites, AreSameIn, OneTree, OneMap}

-- a place in a square, as orders of numbers
pub record Inside (corner : Place) (n : ℕ) (c : Place) : Type 0 where
  pub left : corner.x ≤ℤ c.x
  pub right : c.x <ℤ (corner.x +ℤ pos n)
  pub above : corner.y ≤ℤ c.y
  pub below : c.y <ℤ (corner.y +ℤ pos n)

pub inside : (corner : Place) (n : ℕ) (c : Place) → IsTrue (is_in (square corner n) c) → Inside corner n c
inside corner n c h =
    let d : (int_le corner.x c.x && int_lt c.x (corner.x +ℤ pos n) && int_le corner.y c.y ≡ true) × (int_lt c.y (corner.y +ℤ pos n) ≡ true) = and_parts _ _ h in
    let b : (int_le corner.x c.x && int_lt c.x (corner.x +ℤ pos n) ≡ true) × (int_le corner.y c.y ≡ true) = and_parts _ _ d.0 in
    let a : (int_le corner.x c.x ≡ true) × (int_lt c.x (corner.x +ℤ pos n) ≡ true) = and_parts _ _ b.0 in
    record {
      left = grind (arith, ints, a.0);
      right = grind (arith, ints, a.1);
      above = grind (arith, ints, b.1);
      below = grind (arith, ints, d.1);
    }

pub is_inside : (corner : Place) (n : ℕ) (c : Place) → Inside corner n c → IsTrue (is_in (square corner n) c)
is_inside corner n c h = grind (arith, ints, h.left, h.right, h.above, h.below)

pub side_pos : (above : ℕ) → 0 < side above
side_pos above = omega (arith, pow_pos above)

pub double : (above : ℕ) → side (suc above) ≡ side above + side above
double above = omega (arith, pow-succ' 2 above)

-- the corner is in its square
corner_inside : (above : ℕ) (corner : Place) → IsTrue (is_in (square corner (side above)) corner)
corner_inside above corner = is_inside corner (side above) corner (record {
  left = omega (arith, ints);
  right = omega (arith, ints, side_pos above);
  above = omega (arith, ints);
  below = omega (arith, ints, side_pos above);
})

-- a place so far from the corner
pub reached : (corner : Place) (n column row : ℕ) → column < n → row < n → IsTrue (is_in (square corner n) (moved corner (pos column) (pos row)))
reached corner n column row h k = is_inside corner n (moved corner (pos column) (pos row)) (record {
  left = omega (arith, ints);
  right = omega (arith, ints, h);
  above = omega (arith, ints);
  below = omega (arith, ints, k);
})

-- a quarter's place is in the whole
in_whole : (above dx dy : ℕ) (corner c : Place) → dx ≤ side above → dy ≤ side above
    → IsTrue (is_in (square (moved corner (pos dx) (pos dy)) (side above)) c) → IsTrue (is_in (square corner (side (suc above))) c)
in_whole above dx dy corner c hx hy h =
    let i : Inside (moved corner (pos dx) (pos dy)) (side above) c = inside _ _ c h in
    is_inside corner (side (suc above)) c (record {
      left = omega (arith, ints, i.left);
      right = omega (arith, ints, i.right, double above, hx);
      above = omega (arith, ints, i.above);
      below = omega (arith, ints, i.below, double above, hy);
    })

part : (above dx dy : ℕ) (corner : Place) (p q : Writes) → dx ≤ side above → dy ≤ side above → AreSameIn corner (side (suc above)) p q → AreSameIn (moved corner (pos dx) (pos dy)) (side above) p q
part above dx dy corner p q hx hy same c h = same c (in_whole above dx dy corner c hx hy h)

nw_in_whole : (above : ℕ) (corner c : Place) → IsTrue (is_in (square corner (side above)) c) → IsTrue (is_in (square corner (side (suc above))) c)
nw_in_whole above corner c h =
    let i : Inside corner (side above) c = inside _ _ c h in
    is_inside corner (side (suc above)) c (record {
      left = omega (arith, ints, i.left);
      right = omega (arith, ints, i.right, double above);
      above = omega (arith, ints, i.above);
      below = omega (arith, ints, i.below, double above);
    })

-- ---- one tree

blank_and_mixed : (above : ℕ) (corner : Place) (p q : Writes) (t : ℕ) → IsBlank p corner (side above) t → IsMixed q corner (side above) → AreSameIn corner (side above) p q → ⊥
blank_and_mixed above corner p q t blank mixed same = mixed t (λ c h. sym (same c h) ∙ blank c h)

flipped : (above : ℕ) (corner : Place) (p q : Writes) → AreSameIn corner (side above) p q → AreSameIn corner (side above) q p
flipped above corner p q same c h = sym (same c h)

same_leaf : (corner : Place) (p q : Writes) (a b : List Write) → AreLeafWrites p corner a → AreLeafWrites q corner b → AreSameIn corner (side 0) p q
    → (n : ℕ) (d : Write) → n < 64 → slice_index_or a n d ≡ slice_index_or b n d
same_leaf corner p q a b l m same n d h =
    let split : 8 * (n / 8) + n % 8 ≡ n = div-add-mod n 8 in
    let column : n % 8 < 8 = mod-lt n {m = 8} (omega arith) in
    let row : n / 8 < 8 = omega (arith, split, h, column) in
    ap (λ k. slice_index_or a k d) (sym split)
    ∙ l.each (n % 8) (n / 8) column row d
    ∙ same (moved corner (pos (n % 8)) (pos (n / 8))) (reached corner (side 0) (n % 8) (n / 8) column row)
    ∙ sym (m.each (n % 8) (n / 8) column row d)
    ∙ ap (λ k. slice_index_or b k d) split

pub one_tree : OneTree
one_tree p q above corner (Blank s) (Blank t) h k same =
    ap (λ (w : Write). Blank w.stamp) (sym (h corner (corner_inside above corner)) ∙ same corner (corner_inside above corner) ∙ k corner (corner_inside above corner))
one_tree p q zero corner (Blank s) (Leaf b) h k same = absurd (blank_and_mixed 0 corner p q s h k.0 same)
one_tree p q (suc above) corner (Blank s) (Four a b c d) h k same = absurd (blank_and_mixed (suc above) corner p q s h k.0 same)
one_tree p q zero corner (Leaf a) (Blank t) h k same = absurd (blank_and_mixed 0 corner q p t k h.0 (flipped 0 corner p q same))
one_tree p q (suc above) corner (Four a b c d) (Blank t) h k same = absurd (blank_and_mixed (suc above) corner q p t k h.0 (flipped (suc above) corner p q same))
one_tree p q zero corner (Blank s) (Four a b c d) h k same = absurd k
one_tree p q (suc above) corner (Blank s) (Leaf b) h k same = absurd k
one_tree p q zero corner (Leaf a) (Four b c d e) h k same = absurd k
one_tree p q (suc above) corner (Leaf a) b h k same = absurd h
one_tree p q zero corner (Four a b c d) e h k same = absurd h
one_tree p q (suc above) corner (Four a b c d) (Leaf e) h k same = absurd k
one_tree p q zero corner (Leaf a) (Leaf b) h k same =
    let la : AreLeafWrites p corner a = h.1 in
    let lb : AreLeafWrites q corner b = k.1 in
    ap Leaf (ext_get_or (p corner) a b (la.count ∙ sym lb.count) (λ i in_a. same_leaf corner p q a b la lb same i (p corner) (subst (λ m. i < m) la.count in_a)))
one_tree p q (suc above) corner (Four a b c d) (Four e f g i) h k same = λ j. Four
    (one_tree p q above corner a e h.1 k.1 (λ c in_nw. same c (nw_in_whole above corner c in_nw)) j)
    (one_tree p q above (east (side above) corner) b f h.2 k.2 (part above (side above) 0 corner p q (omega arith) (omega arith) same) j)
    (one_tree p q above (south (side above) corner) c g h.3 k.3 (part above 0 (side above) corner p q (omega arith) (omega arith) same) j)
    (one_tree p q above (south_east (side above) corner) d i h.4 k.4 (part above (side above) (side above) corner p q (omega arith) (omega arith) same) j)

-- ---- one map

pub distance : (a c : ℤ) (n : ℕ) → a ≤ℤ c → c <ℤ (a +ℤ pos n) → (k : ℕ) × (k < n) × (a +ℤ pos k ≡ c)
distance a c n h k = (nat_abs (c -ℤ a), omega (arith, ints, h, k), omega (arith, ints, h))

leaf_reads : (p q : Writes) (corner c : Place) (a : List Write) → AreLeafWrites p corner a → AreLeafWrites q corner a → Inside corner 8 c → p c ≡ q c
leaf_reads p q corner c a l m i =
    let x : (k : ℕ) × (k < 8) × (corner.x +ℤ pos k ≡ c.x) = distance corner.x c.x 8 i.left i.right in
    let y : (k : ℕ) × (k < 8) × (corner.y +ℤ pos k ≡ c.y) = distance corner.y c.y 8 i.above i.below in
    let here : moved corner (pos x.0) (pos y.0) ≡ c = λ j. record { x = x.2 j; y = y.2 j } in
    ap p (sym here) ∙ sym (l.each x.0 y.0 x.1 y.1 (p c)) ∙ m.each x.0 y.0 x.1 y.1 (p c) ∙ ap q here

-- a place of the whole is in one of the quarters
pub in_quarter : (above : ℕ) (corner c : Place) (P : Type 0) → Inside corner (side (suc above)) c
    → (Inside corner (side above) c → P) → (Inside (east (side above) corner) (side above) c → P)
    → (Inside (south (side above) corner) (side above) c → P) → (Inside (south_east (side above) corner) (side above) c → P) → P
in_quarter above corner c P i nw ne sw se =
    by_lt_z c.x (corner.x +ℤ pos (side above))
    (λ west. by_lt_z c.y (corner.y +ℤ pos (side above))
    (λ north. nw (record { left = i.left; right = west; above = i.above; below = north }))
    (λ south. sw (record { left = omega (arith, ints, i.left); right = omega (arith, ints, west); above = south; below = omega (arith, ints, i.below, double above) })))
    (λ east_of. by_lt_z c.y (corner.y +ℤ pos (side above))
    (λ north. ne (record { left = east_of; right = omega (arith, ints, i.right, double above); above = omega (arith, ints, i.above); below = omega (arith, ints, north) }))
    (λ south. se (record { left = east_of; right = omega (arith, ints, i.right, double above); above = south; below = omega (arith, ints, i.below, double above) })))

pub one_map : OneMap
one_map p q above corner (Blank t) h k c i = h c i ∙ sym (k c i)
one_map p q zero corner (Leaf a) h k c i = leaf_reads p q corner c a h.1 k.1 (inside corner (side 0) c i)
one_map p q (suc above) corner (Leaf a) h k c i = absurd h
one_map p q zero corner (Four a b d e) h k c i = absurd h
one_map p q (suc above) corner (Four a b d e) h k c i = in_quarter above corner c (p c ≡ q c) (inside corner (side (suc above)) c i)
    (λ w. one_map p q above corner a h.1 k.1 c (is_inside corner (side above) c w))
    (λ w. one_map p q above (east (side above) corner) b h.2 k.2 c (is_inside (east (side above) corner) (side above) c w))
    (λ w. one_map p q above (south (side above) corner) d h.3 k.3 c (is_inside (south (side above) corner) (side above) c w))
    (λ w. one_map p q above (south_east (side above) corner) e h.4 k.4 c (is_inside (south_east (side above) corner) (side above) c w))
