-- Four squares side by side.
use Rattle.std.proofs.Common.{◌≡◌, ℕ, zero, suc, ◌+◌, ◌-◌, ◌<◌, ◌≤◌, List, refl, sym, ap, ◌∙◌, subst, arith}
use Rattle.square_store.specs.Grid.{Grid, quartered, AreSameWithin}
use Rattle.square_store.specs.Squares.{Held, side_at, IsAt, grid_at, four_grid}
use Rattle.square_store.specs.Seen.{AreAt, IsFourAt}
use Rattle.square_store.proofs.Drawn.{twice_below}
use Rattle.square_store.proofs.Quarters.{twice}
use Rattle.generation_engine.specs.declared.leaf_kind.EngineLeaf.{EngineLeaf}
use Rattle.generation_engine.specs.declared.placed.PlacedSquare.{PlacedSquare}
use Rattle.generation_engine.specs.declared.placed.PlacedQuarters.{PlacedQuarters}
use Rattle.generation_engine.specs.EngineLeaf.{leaf_grid}
use Rattle.generation_engine.specs.Placed.{ArePlacedParts, AreSideBySide, IsPlaced, IsPlacedIn, grid_of, placed_at}
use Rattle.generation_engine.specs.Walk.{AreMiddleParts, middle_grid}

-- what is so of a placed square is so by its level, column and row
pub along : (s : Held EngineLeaf) (k left top : ℕ) (q : PlacedSquare) (P : ℕ → ℕ → ℕ → Type 0) → IsPlacedIn s k left top q → P (side_at 8 q.level) q.corner.left q.corner.top → P (side_at 8 k) left top
along s k left top q P is h = subst (λ j. P (side_at 8 j) left top) is.level (subst (λ x. P (side_at 8 q.level) x top) is.column (subst (λ y. P (side_at 8 q.level) q.corner.left y) is.row h))

placed_in : (s : Held EngineLeaf) (k p left top : ℕ) (q : PlacedSquare) → q ≡ placed_at k p left top → k ≤ 28 → IsAt s k p → left + side_at 8 k ≤ 4294967296 → top + side_at 8 k ≤ 4294967296 → IsPlacedIn s k left top q
placed_in s k p left top q e level stands hl ht = subst (IsPlacedIn s k left top) (sym e) (record { placed = record { level = level; stands = stands; left = hl; top = ht }; level = refl; column = refl; row = refl })

-- four parts that are put side by side, where they fit into the middle and have these writes together
pub beside : (s : Held EngineLeaf) (k left top : ℕ) (parts : List ℕ) (f : Grid) (q : PlacedQuarters) → k ≤ 28 → AreAt s k parts → left + (side_at 8 k + side_at 8 k) ≤ 4294967296 → top + (side_at 8 k + side_at 8 k) ≤ 4294967296
    → AreSameWithin (side_at 8 k + side_at 8 k) f (four_grid leaf_grid 8 s k parts) → ArePlacedParts k parts left top q → AreSideBySide s k f left top q
beside s k left top parts f q level stand hl ht same put = record {
  nw = placed_in s k _ left top q.nw put.nw level (stand 0 (omega arith)) (omega (arith, hl)) (omega (arith, ht));
  ne = placed_in s k _ (left + side_at 8 k) top q.ne put.ne level (stand 1 (omega arith)) (omega (arith, hl)) (omega (arith, ht));
  sw = placed_in s k _ left (top + side_at 8 k) q.sw put.sw level (stand 2 (omega arith)) (omega (arith, hl)) (omega (arith, ht));
  se = placed_in s k _ (left + side_at 8 k) (top + side_at 8 k) q.se put.se level (stand 3 (omega arith)) (omega (arith, hl)) (omega (arith, ht));
  same = λ u v hu hv. same u v hu hv ∙ sym (drawn u v);
}
  where
    drawn : (u v : ℕ) → quartered (side_at 8 k) (grid_of s q.nw) (grid_of s q.ne) (grid_of s q.sw) (grid_of s q.se) u v ≡ four_grid leaf_grid 8 s k parts u v
    drawn u v =
        let a = ap (grid_of s) put.nw in let b = ap (grid_of s) put.ne in let c = ap (grid_of s) put.sw in let d = ap (grid_of s) put.se in
        λ i. quartered (side_at 8 k) (a i) (b i) (c i) (d i) u v

side_some : (k : ℕ) → 0 < side_at 8 k
side_some zero = omega arith
side_some (suc k) = let rest = side_some k in let e = twice 8 k in omega (arith, rest, e)

-- the parts of a placed square of four
module _ (s : Held EngineLeaf) (q : PlacedSquare) (j : ℕ) (parts : List ℕ) (placed : IsPlaced s q) (four : IsFourAt leaf_grid 8 s j parts q.part) where
  same_level : q.level ≡ j
  same_level = four.level q.level placed.stands

  pub is_positive : 0 < q.level
  is_positive = let h = four.positive in let e = same_level in omega (arith, h, e)

  pub half : side_at 8 q.level ≡ side_at 8 (q.level - 1) + side_at 8 (q.level - 1)
  half = twice_below 8 q.level is_positive

  pub fits : (x : ℕ) → x + side_at 8 q.level ≤ 4294967296 → x + side_at 8 (q.level - 1) < 4294967296
  fits x h = let e = half in let some = side_some (q.level - 1) in omega (arith, h, e, some)

  pub four_beside : (quarters : PlacedQuarters) → ArePlacedParts (q.level - 1) parts q.corner.left q.corner.top quarters → AreSideBySide s (q.level - 1) (grid_of s q) q.corner.left q.corner.top quarters
  four_beside quarters put =
      let e = half in let level = placed.level in let left = placed.left in let top = placed.top in
      let stand : AreAt s (q.level - 1) parts = subst (λ k. AreAt s (k - 1) parts) (sym same_level) four.parts_stand in
      let drawn : AreSameWithin (side_at 8 q.level) (grid_of s q) (four_grid leaf_grid 8 s (q.level - 1) parts) = subst (λ k. AreSameWithin (side_at 8 k) (grid_at leaf_grid 8 s k q.part) (four_grid leaf_grid 8 s (k - 1) parts)) (sym same_level) four.draws.same in
      beside s (q.level - 1) q.corner.left q.corner.top parts (grid_of s q) quarters (omega (arith, level)) stand (omega (arith, left, e)) (omega (arith, top, e)) (λ u v hu hv. drawn u v (omega (arith, hu, e)) (omega (arith, hv, e))) put

pub middle_beside : (s : Held EngineLeaf) (root : ℕ) (parts : List ℕ) (q : PlacedQuarters) → AreMiddleParts s 30 root parts → ArePlacedParts 28 parts 0 0 q → AreSideBySide s 28 (middle_grid s root) 0 0 q
middle_beside s root parts q mid put = beside s 28 0 0 parts (middle_grid s root) q (omega arith) mid.stand (omega arith) (omega arith) mid.same put
