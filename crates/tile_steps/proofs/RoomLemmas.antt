-- How many tiles it takes to show a map.
use Rattle.std.proofs.Common.{rules, ◌≡◌, ◌≢◌, ℕ, zero, suc, ◌-◌, ◌/◌, ◌%◌, ◌^◌, ◌<◌, ◌≤◌, ◌⊎◌, List, [], ◌∷◌, length, get_or, refl, inl, inr, sym, ◌∙◌, ap, subst, arith, true, false}
use Rattle.std.specs.Prelude.{cond, replicate, pos, Option, Some, None, Result, Ok, Err, IfErr, IsErrAnd}
use Rattle.std.specs.Cmp.{IsEquivalence}
use Rattle.std.specs.Int.{bit_at}
use Rattle.std.specs.List.{AllByRecursion, IsDistinct, list_any}
use Rattle.std.specs.Map.{keys_of}
use Rattle.std.specs.Option.{IsSome}
use Rattle.std.proofs.Math.Nat.{pow-suc}
use Rattle.std.proofs.lemmas.Bool.{cases_Bool}
use Rattle.std.proofs.lemmas.Map.{NonePasses, none_passes_from_lookup}
use Rattle.std.proofs.lemmas.Map.Entries.{place_from_lookup}
use Rattle.std.proofs.lemmas.Map.Keys.{IsDistinct-cons}
use Rattle.std.proofs.lemmas.Map.Steps.{length-le_from_keys}
use Rattle.std.proofs.lemmas.Nat.Bits.{bit_at_lowest, bit_at-suc, bit_at-zero}
use Rattle.generations_rule.specs.Place.{Place, moved}
use Rattle.generations_rule.specs.Rule.{GenerationsRule}
use Rattle.generations_rule.specs.Evolution.{at}
use Rattle.bitplane_kernel.specs.Planes.{bit}
use Rattle.bitplane_kernel.specs.Digits.{digit_of_number}
use Rattle.bitplane_kernel.proofs.ReadLemmas.{bit_is}
use Rattle.tile_steps.specs.declared.fault.TileFault.{TileFault}
use Rattle.tile_steps.specs.declared.fault.TileFault.TheVariants.{Far, Full, Long, Memory}
use Rattle.tile_steps.specs.declared.tile.Tile.{Tile}
use Rattle.tile_steps.specs.declared.tiles.Corner.{Corner}
use Rattle.tile_steps.specs.Causes.{AreFewest, IsNotPut, IsRefusedStep, IsRoomWanted, IsTooFar}
use Rattle.tile_steps.specs.Tiles.{Entries, IsAlive, IsInside, IsOnOtherGrid, IsRight, IsUnderWay, Shows, is_corner, state_of, tile_of, tile_plane, tile_state}
use Rattle.tile_steps.proofs.AdderLemmas.{bit_lt}
use Rattle.tile_steps.proofs.MapLemmas.{all_at, around_shows, corner_itself, corner_same, there_is}
use Rattle.tile_steps.proofs.PutLemmas.{flipped}

-- ---- a tile that is not dead

-- a number that is not 0 has a digit that is 1
some_bit : (k n : ℕ) → n < 2 ^ k → n ≢ 0 → (x : ℕ) × (x < k) × (bit_at n x ≡ 1)
some_bit zero n low some = absurd (some (omega (arith, low)))
some_bit (suc k) n low some = elim (half_of n) [
  | inl odd ↦ (0, omega arith, bit_at_lowest n ∙ odd)
  | inr even ↦
      let worth = pow-suc 2 k in
      let rest = some_bit k (n / 2) (omega (arith, low, worth)) (λ none. some (omega (arith, none, even))) in
      (suc rest.0, (let h = rest.1 in omega (arith, h)), bit_at-suc n rest.0 ∙ rest.2)
]
  where
    half_of : (m : ℕ) → (m % 2 ≡ 1) ⊎ (m % 2 ≡ 0)
    half_of m = go (m % 2) refl (omega arith)
      where
        go : (d : ℕ) → m % 2 ≡ d → d < 2 → (m % 2 ≡ 1) ⊎ (m % 2 ≡ 0)
        go zero e h = inr e
        go (suc zero) e h = inl e
        go (suc (suc d)) e h = absurd (omega (arith, h))

-- rows are all 0, or one is not
some_row : (rows : List ℕ) → (rows ≡ replicate (length rows) 0) ⊎ ((y : ℕ) × (y < length rows) × (get_or rows y 0 ≢ 0))
some_row [] = inl refl
some_row (zero ∷ rows) = elim (some_row rows) [
  | inl none ↦ inl (ap (λ rs. 0 ∷ rs) none)
  | inr one ↦ inr (suc one.0, (let h = one.1 in omega (arith, h)), one.2)
]
some_row (suc n ∷ rows) = inr (0, omega arith, λ e. omega (arith, e))

-- a row that is not 0 has a cell that is not dead
row_alive : (n p row : ℕ) (tile : Tile n) → p < n → get_or (tile_plane tile.planes p) row 0 < 4294967296 → get_or (tile_plane tile.planes p) row 0 ≢ 0
    → (column : ℕ) × (column < 32) × (tile_state n tile column row ≢ 0)
row_alive n p row tile within fits some =
    let column = some_bit 32 (get_or (tile_plane tile.planes p) row 0) fits some in (
      column.0,
      column.1,
      λ dead.
          let digit : bit_at (tile_state n tile column.0 row) p ≡ bit (tile_plane tile.planes p) column.0 row =
          digit_of_number n p (λ q. bit (tile_plane tile.planes q) column.0 row) within (λ q h. bit_lt (tile_plane tile.planes q) column.0 row) in
          let set : bit (tile_plane tile.planes p) column.0 row ≡ 1 = bit_is (tile_plane tile.planes p) column.0 row ∙ column.2 in
          let none : bit_at (tile_state n tile column.0 row) p ≡ 0 = ap (λ s. bit_at s p) dead ∙ bit_at-zero p in
          omega (arith, digit, set, none),
    )

pub row_not_dead : (n p row : ℕ) (tile : Tile n) → p < n → get_or (tile_plane tile.planes p) row 0 < 4294967296 → get_or (tile_plane tile.planes p) row 0 ≢ 0
    → ((x : ℕ) → x < 32 → tile_state n tile x row ≡ 0) → ⊥
row_not_dead n p row tile within fits some dead = let cell = row_alive n p row tile within fits some in cell.2 (dead cell.0 cell.1)

-- a plane that is not all 0 makes its tile alive
pub alive_by_plane : (n p : ℕ) (tile : Tile n) → p < n → length (tile_plane tile.planes p) ≡ 32 → ((y : ℕ) → get_or (tile_plane tile.planes p) y 0 < 4294967296)
    → (tile_plane tile.planes p ≡ replicate 32 0 → ⊥) → IsAlive n tile
alive_by_plane n p tile within len fits some = elim (some_row (tile_plane tile.planes p)) [
  | inl none ↦ absurd (some (none ∙ ap (λ k. replicate k 0) len))
  | inr row ↦
      let column = row_alive n p row.0 tile within (fits row.0) row.2 in
      record {
        column = column.0;
        row = row.0;
        in_columns = column.1;
        in_rows = (let h = row.1 in omega (arith, h, len));
        alive = column.2;
      }
]

-- ---- corners that are not one

pub corners_equiv : IsEquivalence is_corner
corners_equiv = record {
  refl = corner_itself;
  symm = flipped;
  congr = λ a b c h. ap (λ k. is_corner k c) (corner_same a b h);
}

keys_apart : (n : ℕ) (c : Corner) (es : Entries n) → NonePasses (is_corner c) es → AllByRecursion (λ q. is_corner c q ≡ false) (keys_of es)
keys_apart n c [] none = none
keys_apart n c (e ∷ es) none = (none.0, keys_apart n c es none.1)

keys_length : (n : ℕ) (es : Entries n) → length (keys_of es) ≡ length es
keys_length n [] = refl
keys_length n (e ∷ es) = ap suc (keys_length n es)

-- a key among these has a tile
key_found : (n : ℕ) (q : Corner) (es : Entries n) → list_any (is_corner q) (keys_of es) ≡ true → (tile : Tile n) × (tile_of n es q ≡ Some tile)
key_found n q [] h = absurd (cc)
key_found n q (e ∷ es) h = elim (cases_Bool (is_corner q e.0)) [
  | inl here ↦ (e.1, ap (λ b. cond b (Some e.1) (tile_of n es q)) here)
  | inr there ↦
      let rest = key_found n q es (rw there at h) in
      (rest.0, ap (λ b. cond b (Some e.1) (tile_of n es q)) there ∙ rest.1)
]

some_is : {A : Type 0} (o : Option A) (x : A) → o ≡ Some x → IsSome o
some_is o x e = rw e search rules

-- ---- room

module _ (n : ℕ) (r : GenerationsRule) (g : ℕ) (tiles : Entries n) where
  -- a map that is not dead on a tile has a tile there
  shown_there : (origin : ℕ) (f : Place → ℕ) → (origin ≡ 0) ⊎ (origin ≡ 16) → ((c : Place) → f c < r.states) → Shows n origin tiles f → (others : Entries n) → Shows n (16 - origin) others (at r f g)
      → (q : Corner) (tile : Tile n) → IsRight n r g tiles (Some tile) q → IsAlive n tile → IsOnOtherGrid n tiles q → IsSome (tile_of n others q)
  shown_there origin f is below shows others shown q tile right alive grid =
      let on = grid origin is shows.on in
      let own = (right f below (around_shows n r g tiles origin f q is shows on.column on.row)).shows alive.column alive.row alive.in_columns alive.in_rows in
      let other = (shown.each q on.column on.row).shows alive.column alive.row alive.in_columns alive.in_rows in
      go own other (tile_of n others q) refl
    where
      go : tile_state n tile alive.column alive.row ≡ at r f g (moved (record { x = q.x; y = q.y }) (pos alive.column) (pos alive.row))
          → state_of n (tile_of n others q) alive.column alive.row ≡ at r f g (moved (record { x = q.x; y = q.y }) (pos alive.column) (pos alive.row)) → (o : Option (Tile n)) → tile_of n others q ≡ o → IsSome (tile_of n others q)
      go own other (Some t) e = some_is (tile_of n others q) t e
      go own other None e = absurd (alive.alive (own ∙ sym other ∙ ap (λ o. state_of n o alive.column alive.row) e))

  -- so it takes as many tiles to show it as are not dead
  pub fewest : (room : ℕ) (new : Entries n) → IsUnderWay n r g room tiles new → AreFewest n r g 1 tiles new
  fewest room new way origin f is below shows others shown =
      let there : (q : Corner) → list_any (is_corner q) (keys_of new) ≡ true → IsSome (tile_of n others q) = λ q member.
      (let found = key_found n q new member in
      shown_there origin f is below shows others shown q found.0 (way.right q found.0 found.1) (way.alive q found.0 found.1) (way.grid q found.0 found.1)) in
      let more = length-le_from_keys corners_equiv (keys_of new) others way.once there in
      omega (arith, more, keys_length n new)

  -- a tile that is not dead lies too far out
  pub too_far : (corner : Corner) (tile : Tile n) → (IsInside 128 corner → ⊥) → IsRight n r g tiles (Some tile) corner → IsAlive n tile → IsOnOtherGrid n tiles corner → IsTooFar n r g tiles
  too_far corner tile out right alive grid origin f is below shows others shown all =
      let some = there_is (tile_of n others corner) (shown_there origin f is below shows others shown corner tile right alive grid) in
      let p = place_from_lookup (is_corner corner) others some.0 some.1 in
      out (subst (IsInside 128) (sym (corner_same corner p.1 p.3)) (all_at n others p.0 p.1 some.0 all p.2))

  -- all room is taken, and one tile more is not dead
  pub room_wanted : (room : ℕ) (new : Entries n) (corner : Corner) (tile : Tile n) → IsUnderWay n r g room tiles new → room ≤ length new → IsDistinct is_corner (keys_of new)
      → tile_of n new corner ≡ None → IsRight n r g tiles (Some tile) corner → IsAlive n tile → IsOnOtherGrid n tiles corner → IsRoomWanted n r g room tiles
  room_wanted room new corner tile way full once none right alive grid origin f is below shows others shown =
      let distinct : IsDistinct is_corner (corner ∷ keys_of new) = IsDistinct-cons is_corner corner (keys_of new) (keys_apart n corner new (none_passes_from_lookup (is_corner corner) new none)) once in
      let there : (q : Corner) → list_any (is_corner q) (corner ∷ keys_of new) ≡ true → IsSome (tile_of n others q) = λ q member. elim (cases_Bool (is_corner q corner)) [
        | inl same ↦ subst (λ c. IsSome (tile_of n others c)) (sym (corner_same q corner same)) (shown_there origin f is below shows others shown corner tile right alive grid)
        | inr other ↦
            let found = key_found n q new (rw other at member) in
            shown_there origin f is below shows others shown q found.0 (way.right q found.0 found.1) (way.alive q found.0 found.1) (way.grid q found.0 found.1)
      ] in
      let more = length-le_from_keys corners_equiv (corner ∷ keys_of new) others distinct there in
      omega (arith, more, full, keys_length n new)

  pub step_refused : (room : ℕ) (new : Entries n) (corner : Corner) (tile : Tile n) (fault : TileFault) → IsNotPut n room new corner fault → IsUnderWay n r g room tiles new
      → tile_of n new corner ≡ None → IsRight n r g tiles (Some tile) corner → IsAlive n tile → IsOnOtherGrid n tiles corner → IsRefusedStep n r g room tiles fault
  step_refused room new corner tile Full not way none right alive grid = room_wanted room new corner tile way not.0 not.1 none right alive grid
  step_refused room new corner tile Far not way none right alive grid = too_far corner tile not right alive grid
  step_refused room new corner tile Long not way none right alive grid = not
  step_refused room new corner tile Memory not way none right alive grid = tt

-- the refusal that a call answers is the one that it was told
pub told : {A F : Type 0} (r : Result A F) (x : F) (P : F → Type 0) → IsErrAnd r (λ e. e ≡ x) → P x → IfErr r P
told (Ok a) x P h p = tt
told (Err e) x P h p = subst P (sym h) p
