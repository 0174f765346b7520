-- Cells that are put in order are the same cells, in order.
use Rattle.std.proofs.Common.{◌≡◌, ℕ, zero, suc, ◌+◌, ◌<◌, Bool, true, false, List, [], ◌∷◌, map, refl, subst, arith, get_or}
use Rattle.std.specs.List.Sorted.{IsPermutation, IsSortedBy}
use Rattle.std.proofs.lemmas.List.Sorted.{IsPermutation-cons, IsPermutation-middle, IsPermutation-refl, IsPermutation-trans}
use Rattle.pattern_cells.specs.declared.pattern.PatternCell.{PatternCell}
use Rattle.pattern_cells.specs.Pattern.{RlePattern, IsPattern, precedes}
use Rattle.pattern_turns.specs.declared.turn.Turn.{Turn}
use Rattle.pattern_turns.specs.Turning.{IsTurned, in_order, put_in_order, turned_cell, turned_pattern}
use Rattle.pattern_turns.specs.Laws.{IsTurnedPattern}
use Rattle.pattern_turns.proofs.TurningLaws.{ArePartsTurned, has_one_turn, is_pattern, is_turned}

-- ---- the same cells

put_permutes : (cell : PatternCell) (cells : List PatternCell) → IsPermutation (cell ∷ cells) (put_in_order cell cells)
put_permutes cell [] = IsPermutation-refl (cell ∷ [])
put_permutes cell (other ∷ cells) = by_order (precedes cell other) refl (put_permutes cell cells)
  where
    by_order : (b : Bool) → precedes cell other ≡ b → IsPermutation (cell ∷ cells) (put_in_order cell cells) → IsPermutation (cell ∷ other ∷ cells) (put_in_order cell (other ∷ cells))
    by_order true is rest = rw is (IsPermutation-refl (cell ∷ other ∷ cells))
    by_order false is rest =
        rw is (IsPermutation-trans (cell ∷ other ∷ cells) (other ∷ cell ∷ cells) (other ∷ put_in_order cell cells)
        (IsPermutation-middle (cell ∷ []) other cells) (IsPermutation-cons other (cell ∷ cells) (put_in_order cell cells) rest))

in_order_permutes : (cells : List PatternCell) → IsPermutation cells (in_order cells)
in_order_permutes [] = IsPermutation-refl []
in_order_permutes (cell ∷ cells) =
    IsPermutation-trans (cell ∷ cells) (cell ∷ in_order cells) (put_in_order cell (in_order cells))
    (IsPermutation-cons cell cells (in_order cells) (in_order_permutes cells)) (put_permutes cell (in_order cells))

-- ---- in order

one_sorted : (cell : PatternCell) → IsSortedBy precedes (cell ∷ [])
one_sorted cell k d low high = absurd (omega (arith, high))

sorted_behind : (a : PatternCell) (cells : List PatternCell) → IsSortedBy precedes (a ∷ cells) → IsSortedBy precedes cells
sorted_behind a cells sorted k d low high =
    let next : suc k + 1 ≡ suc (k + 1) = omega arith in
    subst (λ n. precedes (get_or (a ∷ cells) n d) (get_or cells k d) ≡ false) next (sorted (suc k) d (omega arith) (omega (arith, high)))

sorted_before : (a b : PatternCell) (cells : List PatternCell) → precedes b a ≡ false → IsSortedBy precedes (b ∷ cells) → IsSortedBy precedes (a ∷ b ∷ cells)
sorted_before a b cells is sorted zero d low high = is
sorted_before a b cells is sorted (suc k) d low high =
    let next : suc (k + 1) ≡ suc k + 1 = omega arith in
    subst (λ n. precedes (get_or (a ∷ b ∷ cells) n d) (get_or (b ∷ cells) k d) ≡ false) next (sorted k d (omega arith) (omega (arith, high)))

not_after : (a b : PatternCell) → precedes a b ≡ true → precedes b a ≡ false
not_after a b h = grind arith

-- behind a first cell, which the put one does not precede
put_behind : (first cell : PatternCell) (cells : List PatternCell) → precedes cell first ≡ false → IsSortedBy precedes (first ∷ cells) → IsSortedBy precedes (put_in_order cell cells) →
    IsSortedBy precedes (first ∷ put_in_order cell cells)
put_behind first cell [] is sorted put = sorted_before first cell [] is put
put_behind first cell (next ∷ cells) is sorted put = by_order (precedes cell next) refl put
  where
    by_order : (b : Bool) → precedes cell next ≡ b → IsSortedBy precedes (put_in_order cell (next ∷ cells)) → IsSortedBy precedes (first ∷ put_in_order cell (next ∷ cells))
    by_order true before = rw before (λ put. sorted_before first cell (next ∷ cells) is put)
    by_order false before = rw before (λ put. sorted_before first next (put_in_order cell cells) (sorted 0 first (omega arith) (omega arith)) put)

put_sorted : (cell : PatternCell) (cells : List PatternCell) → IsSortedBy precedes cells → IsSortedBy precedes (put_in_order cell cells)
put_sorted cell [] sorted = one_sorted cell
put_sorted cell (other ∷ cells) sorted = by_order (precedes cell other) refl (put_sorted cell cells (sorted_behind other cells sorted))
  where
    by_order : (b : Bool) → precedes cell other ≡ b → IsSortedBy precedes (put_in_order cell cells) → IsSortedBy precedes (put_in_order cell (other ∷ cells))
    by_order true is rest = rw is (sorted_before cell other cells (not_after cell other is) sorted)
    by_order false is rest = rw is (put_behind other cell cells is sorted rest)

in_order_sorted : (cells : List PatternCell) → IsSortedBy precedes (in_order cells)
in_order_sorted [] = λ k d low high. absurd (omega (arith, high))
in_order_sorted (cell ∷ cells) = put_sorted cell (in_order cells) (in_order_sorted cells)

-- ---- the turned pattern

parts_are_turned : (turn : Turn) (old : RlePattern) → ArePartsTurned turn old (turned_pattern turn old)
unfolding turned_pattern
parts_are_turned turn old =
    let cells = map (turned_cell turn old.width old.height) old.cells in
    record { width = refl; height = refl; pos = refl; generation = refl; moved = in_order_permutes cells; sorted = in_order_sorted cells }

pub is_turned_pattern : IsTurnedPattern
is_turned_pattern turn old is = (is_pattern turn old (turned_pattern turn old) is (parts_are_turned turn old), is_turned turn old (turned_pattern turn old) (parts_are_turned turn old))

-- a pattern that is another one, turned, is that
pub told_pattern : (turn : Turn) (old new : RlePattern) → IsPattern old → ArePartsTurned turn old new → new ≡ turned_pattern turn old
told_pattern turn old new is are =
    let told = is_turned_pattern turn old is in
    has_one_turn turn old new (turned_pattern turn old) (is_pattern turn old new is are) told.0 (is_turned turn old new are) told.1
