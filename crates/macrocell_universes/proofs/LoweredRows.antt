-- Squares one row further down, quarter by quarter.
use Rattle.std.proofs.Common.{◌≡◌, ℕ, zero, suc, ◌+◌, ◌-◌, ◌*◌, ◌^◌, ◌<◌, ◌≤◌, Bool, true, false, List, refl, sym, ◌∙◌, ap, subst, arith}
use Rattle.std.specs.Prelude.{nat_lt, if◌then◌else◌}
use Rattle.stamped_writes.specs.declared.write.Write.{Write}
use Rattle.square_store.specs.Grid.{Grid, quartered, AreSameWithin}
use Rattle.square_store.specs.Pieces.{grid_from}
use Rattle.square_store.specs.Squares.{side_at}
use Rattle.square_store.proofs.Counting.{AreItsQuarters, moved_grid}
use Rattle.square_store.proofs.Drawn.{twice_below}
use Rattle.square_store.proofs.Quarters.{quarter_nw, quarter_ne, quarter_sw, quarter_se}
use Rattle.generation_engine.specs.EngineLeaf.{unstamped}
use Rattle.macrocell_lines.specs.Squares.{StateSquare, Four, level_of, state_in}
use Rattle.macrocell_lines.proofs.States.{level_is, put}
use Rattle.macrocell_lines.proofs.PairSquares.{side_is}
use Rattle.macrocell_text.specs.declared.entry.Entry.{Entry}
use Rattle.macrocell_universes.specs.declared.lowering.Pair.{Pair}
use Rattle.macrocell_universes.specs.declared.quarters.Numbered.{Numbered}
use Rattle.macrocell_universes.specs.declared.quarters.Quarters.{Quarters}
use Rattle.macrocell_universes.specs.Lowered.{grid_of, lowered, lowered_pair, numbered_above}
use Rattle.macrocell_universes.specs.Numbered.{AreQuarters, IsNumbered, square_at, square_of}

-- squares with the same writes are the same one row further down
pub lowered_same : (n : ℕ) (f f' g g' : Grid) → AreSameWithin n f f' → AreSameWithin n g g' → AreSameWithin n (lowered n f g) (lowered n f' g')
lowered_same n f f' g g' hf hg u zero hu hv = hf u (n - 1) hu (omega (arith, hv))
lowered_same n f f' g g' hf hg u (suc v) hu hv = hg u v hu (omega (arith, hv))

module _ (n : ℕ) (a b c d e f g h : Grid) where
  abbrev upper : Grid
  upper = quartered n a b c d

  abbrev lower : Grid
  lower = quartered n e f g h

  abbrev pub whole : Grid
  whole = lowered (n + n) upper lower

  nw_lowered : (u v : ℕ) → u < n → v < n → lowered n c e u v ≡ whole u v
  nw_lowered u zero hu hv = (let row : n + (n - 1) ≡ n + n - 1 = omega (arith, hv) in sym (quarter_sw n a b c d u (n - 1) hu) ∙ ap (upper u) row)
  nw_lowered u (suc v) hu hv = sym (quarter_nw n e f g h u v hu (omega (arith, hv)))

  ne_lowered : (u v : ℕ) → u < n → v < n → lowered n d f u v ≡ whole (n + u) v
  ne_lowered u zero hu hv = (let row : n + (n - 1) ≡ n + n - 1 = omega (arith, hv) in sym (quarter_se n a b c d u (n - 1)) ∙ ap (upper (n + u)) row)
  ne_lowered u (suc v) hu hv = sym (quarter_ne n e f g h u v (omega (arith, hv)))

  sw_lowered : (u v : ℕ) → u < n → v < n → lowered n e g u v ≡ whole u (n + v)
  sw_lowered u zero hu hv = (let row : suc (n - 1) ≡ n + 0 = omega (arith, hv) in sym (quarter_nw n e f g h u (n - 1) hu (omega (arith, hv))) ∙ ap (whole u) row)
  sw_lowered u (suc v) hu hv = (let row : suc (n + v) ≡ n + suc v = omega arith in sym (quarter_sw n e f g h u v hu) ∙ ap (whole u) row)

  se_lowered : (u v : ℕ) → u < n → v < n → lowered n f h u v ≡ whole (n + u) (n + v)
  se_lowered u zero hu hv = (let row : suc (n - 1) ≡ n + 0 = omega (arith, hv) in sym (quarter_ne n e f g h u (n - 1) (omega (arith, hv))) ∙ ap (whole (n + u)) row)
  se_lowered u (suc v) hu hv = (let row : suc (n + v) ≡ n + suc v = omega arith in sym (quarter_se n e f g h u v) ∙ ap (whole (n + u)) row)

  -- a square one row further down has these quarters
  pub lowered_quarters : AreItsQuarters n whole (lowered n c e) (lowered n d f) (lowered n e g) (lowered n f h)
  lowered_quarters = record {
    nw = λ u v hu hv. nw_lowered u v hu hv ∙ moved_grid whole u v (0 + u) (0 + v) (omega arith) (omega arith);
    ne = λ u v hu hv. ne_lowered u v hu hv ∙ moved_grid whole (n + u) v (n + u) (0 + v) (omega arith) (omega arith);
    sw = λ u v hu hv. sw_lowered u v hu hv ∙ moved_grid whole u (n + v) (0 + u) (n + v) (omega arith) (omega arith);
    se = λ u v hu hv. se_lowered u v hu hv;
  }

-- the states of four squares put together
pub four_grids : (n : ℕ) (a b c d : StateSquare) (u v : ℕ) → unstamped (put n (state_in a) (state_in b) (state_in c) (state_in d) u v) ≡ quartered n (grid_of a) (grid_of b) (grid_of c) (grid_of d) u v
four_grids n a b c d u v = by (nat_lt v n) (nat_lt u n)
  where
    by : (x y : Bool) → unstamped (if x then (if y then state_in a u v else state_in b (u - n) v) else (if y then state_in c u (v - n) else state_in d (u - n) (v - n)))
        ≡ (if x then (if y then grid_of a u v else grid_of b (u - n) v) else (if y then grid_of c u (v - n) else grid_of d (u - n) (v - n)))
    by true true = refl
    by true false = refl
    by false true = refl
    by false false = refl

abbrev pub pair_at : ℕ → ℕ → ℕ → Pair
pair_at level upper lower = record { level = level; upper = upper; lower = lower }

-- a square of entries by its quarters
square_grid : (es : List Entry) (level n : ℕ) (four : Quarters) → 0 < level → AreQuarters es (numbered_above level n) four → (u v : ℕ)
    → grid_of (square_of es (numbered_above level n)) u v ≡ quartered (side_at 8 (level - 1)) (grid_of (square_at es (level - 1 + 3) four.nw)) (grid_of (square_at es (level - 1 + 3) four.ne)) (grid_of (square_at es (level - 1 + 3) four.sw)) (grid_of (square_at es (level - 1 + 3) four.se)) u v
square_grid es level n four above are u v =
    let k : ℕ = level - 1 + 3 in
    let down : level + 3 - 1 ≡ k = omega (arith, above) in
    let a = λ (l : ℕ). square_at es l four.nw in let b = λ (l : ℕ). square_at es l four.ne in let c = λ (l : ℕ). square_at es l four.sw in let d = λ (l : ℕ). square_at es l four.se in
    let side : 2 ^ level_of (a (level + 3 - 1)) ≡ side_at 8 (level - 1) = ap (λ m. 2 ^ m) (level_is (level + 3 - 1) (a (level + 3 - 1)) are.nw.is.square ∙ down) ∙ side_is (level - 1) in
    ap (λ q. unstamped (state_in q u v)) are.four_is
    ∙ (λ i. unstamped (put (side i) (state_in (a (level + 3 - 1))) (state_in (b (level + 3 - 1))) (state_in (c (level + 3 - 1))) (state_in (d (level + 3 - 1))) u v))
    ∙ four_grids (side_at 8 (level - 1)) (a (level + 3 - 1)) (b (level + 3 - 1)) (c (level + 3 - 1)) (d (level + 3 - 1)) u v
    ∙ (λ i. quartered (side_at 8 (level - 1)) (grid_of (a (down i))) (grid_of (b (down i))) (grid_of (c (down i))) (grid_of (d (down i))) u v)

-- a pair one row further down, by the quarters of its squares
pub pair_quarters : (es : List Entry) (level upper lower : ℕ) (x y : Quarters) → 0 < level → AreQuarters es (numbered_above level upper) x → AreQuarters es (numbered_above level lower) y
    → AreItsQuarters (side_at 8 (level - 1)) (lowered_pair es (pair_at level upper lower)) (lowered_pair es (pair_at (level - 1) x.sw y.nw)) (lowered_pair es (pair_at (level - 1) x.se y.ne)) (lowered_pair es (pair_at (level - 1) y.nw y.sw)) (lowered_pair es (pair_at (level - 1) y.ne y.se))
pair_quarters es level upper lower x y above hx hy =
    let n : ℕ = side_at 8 (level - 1) in
    let two : side_at 8 level ≡ n + n = twice_below 8 level above in
    let g = λ (m : ℕ). grid_of (square_at es (level - 1 + 3) m) in
    let F : Grid = lowered_pair es (pair_at level upper lower) in
    let W : Grid = whole n (g x.nw) (g x.ne) (g x.sw) (g x.se) (g y.nw) (g y.ne) (g y.sw) (g y.se) in
    let four = lowered_quarters n (g x.nw) (g x.ne) (g x.sw) (g x.se) (g y.nw) (g y.ne) (g y.sw) (g y.se) in
    let same : AreSameWithin (n + n) W F = λ u v hu hv.
    sym (ap (λ m. lowered m (grid_of (square_of es (numbered_above level upper))) (grid_of (square_of es (numbered_above level lower))) u v) two
    ∙ lowered_same (n + n) _ _ _ _ (λ w z hw hz. square_grid es level upper x above hx w z) (λ w z hw hz. square_grid es level lower y above hy w z) u v hu hv) in
    record {
      nw = λ u v hu hv. four.nw u v hu hv ∙ same (0 + u) (0 + v) (omega (arith, hu)) (omega (arith, hv));
      ne = λ u v hu hv. four.ne u v hu hv ∙ same (n + u) (0 + v) (omega (arith, hu)) (omega (arith, hv));
      sw = λ u v hu hv. four.sw u v hu hv ∙ same (0 + u) (n + v) (omega (arith, hu)) (omega (arith, hv));
      se = λ u v hu hv. four.se u v hu hv ∙ same (n + u) (n + v) (omega (arith, hu)) (omega (arith, hv));
    }
