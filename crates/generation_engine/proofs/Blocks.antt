-- Squares of 16 by 16 cells.
use Rattle.std.proofs.Common.{◌≡◌, ℕ, zero, suc, ◌+◌, ◌-◌, ◌*◌, ◌%◌, ◌<◌, ◌≤◌, ◌^◌, ◌⊎◌, List, inl, inr, refl, sym, ◌∙◌, ap, arith, get_or, pos}
use Rattle.std.specs.Prelude.{replicate}
use Rattle.generations_rule.specs.Place.{moved}
use Rattle.generations_rule.specs.Rule.{GenerationsRule}
use Rattle.generations_rule.specs.Evolution.{at}
use Rattle.stamped_writes.specs.declared.write.Write.{Write}
use Rattle.bitplane_kernel.specs.Square.{state_at, IsCentre}
use Rattle.bitplane_kernel.specs.Advance.{Advances}
use Rattle.square_store.specs.Grid.{Grid}
use Rattle.square_store.specs.Squares.{Held, grid_at, four_grid, Draws}
use Rattle.square_store.specs.Seen.{IsBlankAt}
use Rattle.generation_engine.specs.declared.leaf_kind.EngineLeaf.{EngineLeaf}
use Rattle.generation_engine.specs.EngineLeaf.{leaf_grid}
use Rattle.generation_engine.specs.Kept.{IsLater}
use Rattle.generation_engine.specs.Results.{part_from}
use Rattle.generation_engine.specs.Walk.{AreMiddleParts}
use Rattle.generation_engine.proofs.ResultLaws.{centre_is_result, moves_grouped}
use Rattle.square_store.proofs.Drawn.{twice_below}
use Rattle.generation_engine.proofs.Passes.{result_same}

all_of : (z n i : ℕ) → get_or (replicate n z) i z ≡ z
all_of z zero i = refl
all_of z (suc n) zero = refl
all_of z (suc n) (suc i) = all_of z n i

pub dead_leaf : (s : Held EngineLeaf) (t p : ℕ) → IsBlankAt leaf_grid 8 s t p → (u v : ℕ) → u < 8 → v < 8 → state_at 8 (replicate {A = ℕ} 64 0) u v ≡ (grid_at leaf_grid 8 s 0 p u v).state
dead_leaf s t p blank u v hu hv = all_of 0 64 (8 * v + u) ∙ sym (ap (λ (w : Write). w.state) ((blank 0).same u v (omega (arith, hu)) (omega (arith, hv))))

-- a block of the states of a square
abbrev pub IsBlockOf : List ℕ → Grid → Type 0
IsBlockOf block f = (u v : ℕ) → u < 16 → v < 16 → state_at 16 block u v ≡ (f u v).state

-- the number of generations of a block
pub is_worth : (j : ℕ) → j ≤ 2 → ((1 * 2 ^ j % 256 ≡ 1) ⊎ ((1 * 2 ^ j % 256 ≡ 2) ⊎ (1 * 2 ^ j % 256 ≡ 4))) × (1 * 2 ^ j % 256 ≡ 2 ^ j) × (2 ^ j ≤ 4)
is_worth zero h = (inl refl, refl, omega arith)
is_worth (suc zero) h = (inr (inl refl), refl, omega arith)
is_worth (suc (suc zero)) h = (inr (inr refl), refl, omega arith)
is_worth (suc (suc (suc j))) h = absurd (omega (arith, h))

module _ (r : GenerationsRule) (s0 s1 : Held EngineLeaf) (p q : ℕ) (old new leaf : List ℕ) (is : IsBlockOf old (grid_at leaf_grid 8 s0 1 p)) (middle : IsCentre new leaf)
    (drawn : Draws leaf_grid 8 s1 0 (leaf_grid (record { leaf = leaf })) q) where
  row : (u v : ℕ) → u < 8 → v < 8 → (grid_at leaf_grid 8 s1 0 q u v).state ≡ state_at 16 new (u + 4) (v + 4)
  row u v hu hv = ap (λ (w : Write). w.state) (drawn.same u v (omega (arith, hu)) (omega (arith, hv))) ∙ middle.middle u v hu hv

  pub block_later : (t : ℕ) → t ≤ 4 → Advances r t old new → IsLater r s0 s1 1 t p q
  block_later t few advances = record {
    stands = drawn.stands;
    result = record {
      later = λ f corner below lies u v hu hv.
          (let a = advances f corner below (λ x y hx kx hy ky. is x y (omega (arith, kx)) (omega (arith, ky)) ∙ sym (lies x y (omega (arith, kx)) (omega (arith, ky)))) in
          let wu : u < 8 = omega (arith, hu) in let wv : v < 8 = omega (arith, hv) in
          let eu : 4 + u ≡ u + 4 = omega arith in let ev : 4 + v ≡ v + 4 = omega arith in
          ap (at r f t) (moves_grouped corner 4 4 u v) ∙ ap (λ x. at r f t (moved corner (pos x) (pos (4 + v)))) eu ∙ ap (λ y. at r f t (moved corner (pos (u + 4)) (pos y))) ev
          ∙ sym (a (u + 4) (v + 4) (omega (arith, few)) (omega (arith, few, wu)) (omega (arith, few)) (omega (arith, few, wv))) ∙ sym (row u v wu wv));
    };
  }

-- the middle of a block
pub block_centre : (r : GenerationsRule) (s0 s1 : Held EngineLeaf) (p q : ℕ) (block leaf : List ℕ) → IsBlockOf block (grid_at leaf_grid 8 s0 1 p) → IsCentre block leaf
    → Draws leaf_grid 8 s1 0 (leaf_grid (record { leaf = leaf })) q → IsLater r s0 s1 1 0 p q
block_centre r s0 s1 p q block leaf is middle drawn = record {
  stands = drawn.stands;
  result = record {
    later = λ f corner below lies u v hu hv.
        (let wu : u < 8 = omega (arith, hu) in let wv : v < 8 = omega (arith, hv) in
        let eu : 4 + u ≡ u + 4 = omega arith in let ev : 4 + v ≡ v + 4 = omega arith in
        ap f (moves_grouped corner 4 4 u v) ∙ ap (λ x. f (moved corner (pos x) (pos (4 + v)))) eu ∙ ap (λ y. f (moved corner (pos (u + 4)) (pos y))) ev
        ∙ lies (u + 4) (v + 4) (omega (arith, wu)) (omega (arith, wv)) ∙ sym (is (u + 4) (v + 4) (omega (arith, wu)) (omega (arith, wv))) ∙ sym (middle.middle u v wu wv)
        ∙ sym (ap (λ (w : Write). w.state) (drawn.same u v wu wv)));
  };
}

-- the middle of a larger square
pub middle_later : (r : GenerationsRule) (s0 s1 : Held EngineLeaf) (k p q : ℕ) (parts : List ℕ) → 1 < k → AreMiddleParts s0 k p parts → Draws leaf_grid 8 s1 (k - 1) (four_grid leaf_grid 8 s0 (k - 1 - 1) parts) q → IsLater r s0 s1 k 0 p q
middle_later r s0 s1 k p q parts more mid drawn = record {
  stands = drawn.stands;
  result =
      (let x = 2 ^ (k - 1 - 1) in let x' = 2 ^ (k - 1) in
      let w : 8 * x' ≡ 8 * x + 8 * x = twice_below 8 (k - 1) (omega (arith, more)) in
      let n : 8 * x ≡ 4 * x' = omega (arith, w) in
      let m : 2 * (8 * x) ≡ 8 * x' = omega (arith, w) in
      result_same r (8 * x) (4 * x') 0 (grid_at leaf_grid 8 s0 k p) (part_from (grid_at leaf_grid 8 s0 k p) (8 * x) (8 * x)) (grid_at leaf_grid 8 s0 k p) (grid_at leaf_grid 8 s1 (k - 1) q) n (λ u v hu hv. refl)
      (λ u v hu hv. mid.same u v (omega (arith, m, hu)) (omega (arith, m, hv)) ∙ sym (drawn.same u v (omega (arith, m, hu)) (omega (arith, m, hv))))
      (centre_is_result r (8 * x) (grid_at leaf_grid 8 s0 k p)));
}
