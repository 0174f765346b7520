-- As many cells are gathered as are not dead.
use Rattle.std.proofs.Common.{◌≡◌, ◌≢◌, ℕ, zero, suc, ◌+◌, ◌-◌, ◌<◌, List, [], ◌∷◌, ◌++◌, length, inl, refl, sym, ◌∙◌, ap, subst, arith}
use Rattle.std.specs.Prelude.{slice_index, slice_index_or}
use Rattle.std.proofs.lemmas.Bool.Decides.{nat_tests}
use Rattle.stamped_writes.specs.declared.write.Write.{Write}
use Rattle.bitplane_kernel.specs.Population.{sum_from, one_unless_dead, population}
use Rattle.bitplane_kernel.proofs.KeyLemmas.{sum_of_rows}
use Rattle.square_store.specs.Grid.{Grid, quartered, blank_grid, AreSameWithin}
use Rattle.square_store.specs.Squares.{Held, side_at, IsAt, grid_at, four_grid}
use Rattle.square_store.specs.Seen.{IsBlankAt, IsLeafAt, IsFourAt}
use Rattle.square_store.proofs.Growth.{longer}
use Rattle.stamped_tree.specs.declared.cells.ListedCell.{ListedCell}
use Rattle.stamped_tree.specs.Walk.{IsNonzeroCell}
use Rattle.stamped_tree.proofs.Gathering.{gathers_parts}
use Rattle.stamped_tree.proofs.Parts.{same_default}
use Rattle.generation_engine.specs.declared.leaf_kind.EngineLeaf.{EngineLeaf}
use Rattle.generation_engine.specs.EngineLeaf.{leaf_grid}
use Rattle.generation_engine.specs.Walk.{AreMiddleParts, GathersSquare, middle_grid}
use Rattle.generation_engine.proofs.Counting.{sum_split, population_same, population_none, population_four}
use Rattle.generation_engine.proofs.Gathering.{gathers_middle}
use Rattle.square_store.proofs.Drawn.{twice_below}

states : Grid → ℕ → ℕ → ℕ
states f u v = (f u v).state

count : ℕ → Grid → ℕ
count n f = population n (λ u v. (f u v).state)

count_same : (n : ℕ) (f g : Grid) → AreSameWithin n f g → count n f ≡ count n g
unfolding count
count_same n f g same = population_same n _ _ (λ u v hu hv. ap (λ (w : Write). w.state) (same u v hu hv))

-- ---- a cell

pub counted_live : (cell : ListedCell) (old new : List ListedCell) → new ≡ old ++ cell ∷ [] → cell.state ≢ 0 → length new ≡ length old + one_unless_dead cell.state
counted_live cell old new e live = let more = ap length e ∙ longer old cell in let one = alive cell.state live in omega (arith, more, one)
  where
    alive : (s : ℕ) → s ≢ 0 → one_unless_dead s ≡ 1
    alive zero h = absurd (h refl)
    alive (suc s) h = grind (arith, nat_tests)

-- ---- a leaf

-- how many of the first places are not dead
pub first_count : EngineLeaf → ℕ → ℕ
first_count l i = sum_from 0 i (λ j. one_unless_dead (slice_index l.leaf j))

pub first_none : (l : EngineLeaf) → first_count l 0 ≡ 0
unfolding first_count sum_from
first_none l = refl

pub first_more : (l : EngineLeaf) (i : ℕ) → first_count l (i + 1) ≡ first_count l i + one_unless_dead (slice_index l.leaf i)
unfolding first_count sum_from
first_more l i = sum_split 0 i 1 (λ j. one_unless_dead (slice_index l.leaf j)) ∙ last (one_unless_dead (slice_index l.leaf (0 + i))) (one_unless_dead (slice_index l.leaf i)) (ap (λ j. one_unless_dead (slice_index l.leaf j)) start)
  where
    start : 0 + i ≡ i
    start = omega arith

    last : (x y : ℕ) → x ≡ y → sum_from 0 i (λ j. one_unless_dead (slice_index l.leaf j)) + (x + 0) ≡ sum_from 0 i (λ j. one_unless_dead (slice_index l.leaf j)) + y
    last x y e = omega (arith, e)

pub first_all : (l : EngineLeaf) → first_count l 64 ≡ population 8 (λ u v. (leaf_grid l u v).state)
unfolding first_count
first_all l = sum_of_rows (λ j. one_unless_dead (slice_index l.leaf j))

-- ---- squares

pub blank_counted : (s : Held EngineLeaf) (k p t left top : ℕ) (old : List ListedCell) → IsBlankAt leaf_grid 8 s t p → length old ≡ length old + population (side_at 8 k) (λ u v. (grid_at leaf_grid 8 s k p u v).state)
unfolding count
blank_counted s k p t left top old blank =
    let none : population (side_at 8 k) (λ u v. (grid_at leaf_grid 8 s k p u v).state) ≡ 0 = count_same (side_at 8 k) _ (blank_grid t) (blank k).same ∙ population_none (side_at 8 k) in
    omega (arith, none)

pub leaf_counted : (s : Held EngineLeaf) (k p : ℕ) (l : EngineLeaf) → IsLeafAt leaf_grid 8 s l p → IsAt s k p → population 8 (λ u v. (leaf_grid l u v).state) ≡ population (side_at 8 k) (λ u v. (grid_at leaf_grid 8 s k p u v).state)
unfolding count
leaf_counted s k p l seen at =
    let level = seen.level k at in
    sym (count_same 8 (grid_at leaf_grid 8 s 0 p) (leaf_grid l) (λ u v hu hv. seen.draws.same u v (omega (arith, hu)) (omega (arith, hv))))
    ∙ sym (ap (λ j. population (side_at 8 j) (λ u v. (grid_at leaf_grid 8 s j p u v).state)) level)

four_sums : (n : ℕ) (f a b c d : Grid) (l0 l1 l2 l3 l4 : List ListedCell) → AreSameWithin (n + n) f (quartered n a b c d)
    → length l1 ≡ length l0 + count n a → length l2 ≡ length l1 + count n b → length l3 ≡ length l2 + count n c → length l4 ≡ length l3 + count n d → length l4 ≡ length l0 + count (n + n) f
unfolding count
four_sums n f a b c d l0 l1 l2 l3 l4 same ha hb hc hd =
    let whole = count_same (n + n) f (quartered n a b c d) same ∙ population_four n a b c d in
    omega (arith, whole, ha, hb, hc, hd)

pub parts_counted : (s : Held EngineLeaf) (k j p left top n : ℕ) (parts : List ℕ) (ra rb rc rd : ℕ) (l0 l1 l2 l3 l4 : List ListedCell) → IsFourAt leaf_grid 8 s j parts p → IsAt s k p → n ≡ side_at 8 (k - 1)
    → GathersSquare (side_at 8 (k - 1)) (grid_at leaf_grid 8 s (k - 1) (slice_index_or parts 0 ra)) left top l0 l1 → GathersSquare (side_at 8 (k - 1)) (grid_at leaf_grid 8 s (k - 1) (slice_index_or parts 1 rb)) (left + n) top l1 l2
    → GathersSquare (side_at 8 (k - 1)) (grid_at leaf_grid 8 s (k - 1) (slice_index_or parts 2 rc)) left (top + n) l2 l3 → GathersSquare (side_at 8 (k - 1)) (grid_at leaf_grid 8 s (k - 1) (slice_index_or parts 3 rd)) (left + n) (top + n) l3 l4
    → GathersSquare (side_at 8 k) (grid_at leaf_grid 8 s k p) left top l0 l4
unfolding count
parts_counted s k j p left top n parts ra rb rc rd l0 l1 l2 l3 l4 four stands is ga gb gc gd = record {
  gathers = gathers_parts leaf_grid s k j p left top n parts ra rb rc rd l0 l1 l2 l3 l4 four stands is ga.gathers gb.gathers gc.gathers gd.gathers;
  count =
      (let level : k ≡ j = four.level k stands in
      let listed = λ (i r : ℕ) (l : i < 4). same_default parts i r 0 (let h = four.four in omega (arith, l, h)) in
      let m = side_at 8 (k - 1) in
      let at = λ (q : ℕ). grid_at leaf_grid 8 s (k - 1) q in
      let e = twice_below 8 k (let h = four.positive in omega (arith, h, level)) in
      let drawn : AreSameWithin (side_at 8 k) (grid_at leaf_grid 8 s k p) (four_grid leaf_grid 8 s (k - 1) parts) = subst (λ i. AreSameWithin (side_at 8 i) (grid_at leaf_grid 8 s i p) (four_grid leaf_grid 8 s (i - 1) parts)) (sym level) four.draws.same in
      let same : AreSameWithin (m + m) (grid_at leaf_grid 8 s k p) (quartered m (at (slice_index_or parts 0 ra)) (at (slice_index_or parts 1 rb)) (at (slice_index_or parts 2 rc)) (at (slice_index_or parts 3 rd))) = λ u v hu hv.
      rw (listed 0 ra (omega arith), listed 1 rb (omega arith), listed 2 rc (omega arith), listed 3 rd (omega arith)) (drawn u v (omega (arith, hu, e)) (omega (arith, hv, e))) in
      subst (λ z. length l4 ≡ length l0 + population z (λ u v. (grid_at leaf_grid 8 s k p u v).state)) (sym e)
      (four_sums m (grid_at leaf_grid 8 s k p) (at (slice_index_or parts 0 ra)) (at (slice_index_or parts 1 rb)) (at (slice_index_or parts 2 rc)) (at (slice_index_or parts 3 rd)) l0 l1 l2 l3 l4 same ga.count gb.count gc.count gd.count));
}

-- the middle of a root
pub middle_counted : (s : Held EngineLeaf) (root : ℕ) (parts : List ℕ) (ra rb rc rd : ℕ) (l0 l1 l2 l3 l4 : List ListedCell) → AreMiddleParts s 30 root parts
    → GathersSquare 2147483648 (grid_at leaf_grid 8 s 28 (slice_index_or parts 0 ra)) 0 0 l0 l1 → GathersSquare 2147483648 (grid_at leaf_grid 8 s 28 (slice_index_or parts 1 rb)) 2147483648 0 l1 l2
    → GathersSquare 2147483648 (grid_at leaf_grid 8 s 28 (slice_index_or parts 2 rc)) 0 2147483648 l2 l3 → GathersSquare 2147483648 (grid_at leaf_grid 8 s 28 (slice_index_or parts 3 rd)) 2147483648 2147483648 l3 l4
    → GathersSquare 4294967296 (middle_grid s root) 0 0 l0 l4
unfolding count
middle_counted s root parts ra rb rc rd l0 l1 l2 l3 l4 mid ga gb gc gd = record {
  gathers = gathers_middle s root parts ra rb rc rd l0 l1 l2 l3 l4 mid ga.gathers gb.gathers gc.gathers gd.gathers;
  count =
      (let listed = λ (i r : ℕ) (l : i < 4). same_default parts i r 0 (let h = mid.four in omega (arith, l, h)) in
      let at = λ (q : ℕ). grid_at leaf_grid 8 s 28 q in
      four_sums 2147483648 (middle_grid s root) (at (slice_index_or parts 0 ra)) (at (slice_index_or parts 1 rb)) (at (slice_index_or parts 2 rc)) (at (slice_index_or parts 3 rd)) l0 l1 l2 l3 l4
      (λ u v hu hv. rw (listed 0 ra (omega arith), listed 1 rb (omega arith), listed 2 rc (omega arith), listed 3 rd (omega arith)) (mid.same u v (omega (arith, hu)) (omega (arith, hv)))) ga.count gb.count gc.count gd.count);
}

-- nothing is gathered of a blank
pub square_blank : (s : Held EngineLeaf) (k p t left top : ℕ) (old : List ListedCell) → IsBlankAt leaf_grid 8 s t p → GathersSquare (side_at 8 k) (grid_at leaf_grid 8 s k p) left top old old
square_blank s k p t left top old blank = record {
  gathers = record {
    kept = λ c h. h;
    got = λ c i. absurd (none c i);
    only = λ c h. inl h;
    once = λ distinct apart. distinct;
  };
  count = blank_counted s k p t left top old blank;
}
  where
    none : (c : ListedCell) → IsNonzeroCell (side_at 8 k) (grid_at leaf_grid 8 s k p) left top c → ⊥
    none c i =
        let h = i.from_left in let h' = i.from_top in let w = i.column in let w' = i.row in
        i.nonzero (sym i.state ∙ ap (λ (w : Write). w.state) ((blank k).same (c.column - left) (c.row - top) (omega (arith, h, w)) (omega (arith, h', w'))))
