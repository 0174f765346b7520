-- Blocks of states, by their quarters.
use Rattle.std.proofs.Common.{◌≡◌, ℕ, suc, ◌+◌, ◌-◌, ◌*◌, ◌^◌, ◌≤◌, arith, false, List, refl, sym, ap, subst, ◌∙◌}
use Rattle.std.specs.Prelude.{slice_index}
use Rattle.bitplane_kernel.specs.Square.{state_at}
use Rattle.macrocell_lines.specs.declared.line.Line.TheVariants as lines
use Rattle.macrocell_lines.specs.declared.lines.Pair.{Pair}
use Rattle.macrocell_lines.specs.declared.lines.Lines.{Lines}
use Rattle.macrocell_lines.specs.Squares.{StateSquare, Four, seen_from, square_of}
use Rattle.macrocell_lines.specs.Listing.{IsWalked}
use Rattle.macrocell_lines.proofs.States.{is_square, same_square}
use Rattle.macrocell_lines.proofs.Walked.{IsPut, cell_walked, four_walked}

-- squares from equal corners are one
from_same : (k c r c' r' : ℕ) (f : ℕ → ℕ → ℕ) → c ≡ c' → r ≡ r' → square_of k (seen_from c r f) ≡ square_of k (seen_from c' r' f)
from_same k c r c' r' f e g = λ i. square_of k (seen_from (e i) (g i) f)

from_twice : (k a b c r : ℕ) (f : ℕ → ℕ → ℕ) → square_of k (seen_from a b (seen_from c r f)) ≡ square_of k (seen_from (c + a) (r + b) f)
from_twice k a b c r f = same_square k _ _ (λ u v hu hv. let x : c + (a + u) ≡ c + a + u = omega arith in let y : r + (b + v) ≡ r + b + v = omega arith in λ i. f (x i) (y i))

-- a block by its quarters
pub block_parts : (k level c r : ℕ) (f : ℕ → ℕ → ℕ) → level ≡ suc k
    → square_of level (seen_from c r f) ≡ Four (square_of k (seen_from c r f)) (square_of k (seen_from (c + 2 ^ k) (r + 0) f)) (square_of k (seen_from (c + 0) (r + 2 ^ k) f)) (square_of k (seen_from (c + 2 ^ k) (r + 2 ^ k) f))
unfolding square_of
block_parts k level c r f e =
    let b = from_twice k (2 ^ k) 0 c r f in
    let d = from_twice k 0 (2 ^ k) c r f in
    let g = from_twice k (2 ^ k) (2 ^ k) c r f in
    ap (λ j. square_of j (seen_from c r f)) e ∙ (λ i. Four (square_of k (seen_from c r f)) (b i) (d i) (g i))

pub block_cell : (meaning : Pair → StateSquare) (s : Lines) (states : List ℕ) (level c r n : ℕ) → level ≡ 0 → n ≡ slice_index states (8 * r + c) → IsWalked false meaning s s (square_of level (seen_from c r (state_at 8 states))) n
unfolding square_of
block_cell meaning s states level c r n e is =
    let place : 8 * (r + 0) + (c + 0) ≡ 8 * r + c = omega arith in
    subst (λ j. IsWalked false meaning s s (square_of j (seen_from c r (state_at 8 states))) n) (sym e) (cell_walked false meaning s _ n (is ∙ ap (slice_index states) (sym place)))

-- where a quarter of a block is
pub record IsQuarter (level c r column row l c' r' : ℕ) : Type 0 where
  pub level_is : l + 1 ≡ level
  pub column_is : c' ≡ c + column
  pub row_is : r' ≡ r + row

pub block_walked : (meaning : Pair → StateSquare) (s0 s1 s2 s3 s4 s5 : Lines) (f : ℕ → ℕ → ℕ) (level c r half : ℕ) (l1 c1 r1 l2 c2 r2 l3 c3 r3 l4 c4 r4 na nb nc nd n : ℕ)
    → 1 ≤ level → half ≡ 2 ^ (level - 1) → IsQuarter level c r 0 0 l1 c1 r1 → IsQuarter level c r half 0 l2 c2 r2 → IsQuarter level c r 0 half l3 c3 r3 → IsQuarter level c r half half l4 c4 r4
    → IsWalked false meaning s0 s1 (square_of l1 (seen_from c1 r1 f)) na → IsWalked false meaning s1 s2 (square_of l2 (seen_from c2 r2 f)) nb
    → IsWalked false meaning s2 s3 (square_of l3 (seen_from c3 r3 f)) nc → IsWalked false meaning s3 s4 (square_of l4 (seen_from c4 r4 f)) nd
    → IsPut s4 s5 (lines.Four level na nb nc nd) n → IsWalked false meaning s0 s5 (square_of level (seen_from c r f)) n
block_walked meaning s0 s1 s2 s3 s4 s5 f level c r half l1 c1 r1 l2 c2 r2 l3 c3 r3 l4 c4 r4 na nb nc nd n some two q1 q2 q3 q4 wa wb wc wd put =
    let k = level - 1 in
    let up : level ≡ suc k = omega (arith, some) in
    let e1 : l1 ≡ k = omega (arith, q1.level_is) in
    let e2 : l2 ≡ k = omega (arith, q2.level_is) in
    let e3 : l3 ≡ k = omega (arith, q3.level_is) in
    let e4 : l4 ≡ k = omega (arith, q4.level_is) in
    let x1 : c1 ≡ c = omega (arith, q1.column_is) in
    let y1 : r1 ≡ r = omega (arith, q1.row_is) in
    let a : square_of l1 (seen_from c1 r1 f) ≡ square_of k (seen_from c r f) = λ i. square_of (e1 i) (seen_from (x1 i) (y1 i) f) in
    let x2 = q2.column_is ∙ ap (λ m. c + m) two in
    let y2 = q2.row_is in
    let b : square_of l2 (seen_from c2 r2 f) ≡ square_of k (seen_from (c + 2 ^ k) (r + 0) f) = λ i. square_of (e2 i) (seen_from (x2 i) (y2 i) f) in
    let x3 = q3.column_is in
    let y3 = q3.row_is ∙ ap (λ m. r + m) two in
    let d : square_of l3 (seen_from c3 r3 f) ≡ square_of k (seen_from (c + 0) (r + 2 ^ k) f) = λ i. square_of (e3 i) (seen_from (x3 i) (y3 i) f) in
    let x4 = q4.column_is ∙ ap (λ m. c + m) two in
    let y4 = q4.row_is ∙ ap (λ m. r + m) two in
    let g : square_of l4 (seen_from c4 r4 f) ≡ square_of k (seen_from (c + 2 ^ k) (r + 2 ^ k) f) = λ i. square_of (e4 i) (seen_from (x4 i) (y4 i) f) in
    subst (λ q. IsWalked false meaning s0 s5 q n) (sym (block_parts k level c r f up))
    (four_walked false meaning s0 s1 s2 s3 s4 s5 k level na nb nc nd n _ _ _ _ (is_square k _) (is_square k _) (is_square k _) (is_square k _) refl up
    (subst (λ q. IsWalked false meaning s0 s1 q na) a wa) (subst (λ q. IsWalked false meaning s1 s2 q nb) b wb) (subst (λ q. IsWalked false meaning s2 s3 q nc) d wc) (subst (λ q. IsWalked false meaning s3 s4 q nd) g wd) put)
