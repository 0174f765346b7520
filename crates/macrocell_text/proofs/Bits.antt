-- The states of a square of level 3, a bit each.
use Rattle.std.proofs.Common.{◌≡◌, ℕ, zero, suc, ◌+◌, ◌-◌, ◌*◌, ◌%◌, ◌^◌, ◌<◌, ◌≤◌, arith, Bool, true, false, List, [], ◌∷◌, refl, sym, ap, ◌∙◌, max, pow-suc, drop, drop-cons, add-one, length, get_or, w64}
use Rattle.std.specs.Prelude.{if◌then◌else◌, nat_lt, ◌&&◌, ◌==◌, Option, Some, None, Ok, Err, bit_or}
use Rattle.std.specs.Int.{bit_at}
use Rattle.std.proofs.lemmas.Nat.Bits.{bit_at_set_same, bit_at_set_other, bit_at-lt}
use Rattle.std.proofs.lemmas.Bool.{and_parts, and_from, eqb-true, eq-eqb}
use Rattle.std.proofs.lemmas.Bool.Decides.{nat_tests}
use Rattle.std.proofs.lemmas.List.{drop_all}
use Rattle.macrocell_text.specs.declared.fault.MacrocellFault.TheVariants.{Tag}
use Rattle.macrocell_text.specs.declared.marks.Spot.{Spot}
use Rattle.macrocell_lines.specs.Squares.{StateSquare, Cell, Four, seen_from, square_of}
use Rattle.macrocell_lines.proofs.States.{same_square}
use Rattle.macrocell_text.specs.Marks.{first_spot, is_in_square, is_live_at, may_stand, misplaced, rows_told, spot_behind, square_marked, state_marked}
use Rattle.macrocell_text.specs.Macrocells.{square_of_bits}

same_bit : (rows column row u v : ℕ) → 8 * row + column < 64 → column ≡ u → row ≡ v → bit_at (bit_or rows (1 * 2 ^ (8 * row + column) % 2 ^ 64)) (8 * v + u) ≡ max (bit_at rows (8 * v + u)) 1
same_bit rows column row u v within e f =
    let at : 8 * row + column ≡ 8 * v + u = (λ i. 8 * f i + e i) in
    let set = bit_at_set_same w64 rows (8 * row + column) within in
    ap (bit_at (bit_or rows (1 * 2 ^ (8 * row + column) % 2 ^ 64))) (sym at) ∙ set ∙ omega (arith, bit_at-lt rows (8 * v + u))

bit_by : (rows column row u v : ℕ) (b : Bool) → (column == u && row == v) ≡ b → column < 8 → row < 8 → u < 8 → v < 8 →
    bit_at (bit_or rows (1 * 2 ^ (8 * row + column) % 2 ^ 64)) (8 * v + u) ≡ max (bit_at rows (8 * v + u)) (if b then 1 else 0)
bit_by rows column row u v true e hc hr hu hv =
    let both = and_parts (column == u) (row == v) e in
    same_bit rows column row u v (omega (arith, hc, hr)) (eqb-true _ _ both.0) (eqb-true _ _ both.1)
bit_by rows column row u v false e hc hr hu hv =
    let other : (8 * v + u ≡ 8 * row + column) → ⊥ = λ same.
    (let a : column ≡ u = omega (arith, same, hc, hr, hu, hv) in let b : row ≡ v = omega (arith, same, hc, hr, hu, hv) in
    let is : (column == u && row == v) ≡ true = and_from _ _ (eq-eqb column u a) (eq-eqb row v b) in cc) in
    bit_at_set_other w64 rows (8 * row + column) (omega (arith, hc, hr)) (8 * v + u) other ∙ omega arith

-- a live mark sets the bit of its spot
pub bit_marked : (rows : ℕ) (spot : Spot) (mark u v : ℕ) → mark ≡ 42 → may_stand spot mark ≡ true → u < 8 → v < 8 →
    bit_at (bit_or rows (1 * 2 ^ (8 * spot.row + spot.column) % 2 ^ 64)) (8 * v + u) ≡ max (bit_at rows (8 * v + u)) (if is_live_at spot mark u v then 1 else 0)
bit_marked rows spot mark u v live stands hu hv =
    let inside : is_in_square spot ≡ true = rw live at stands in
    let both = and_parts (nat_lt spot.column 8) (nat_lt spot.row 8) inside in
    bit_by rows spot.column spot.row u v (spot.column == u && spot.row == v) refl (grind (arith, nat_tests, both.0)) (grind (arith, nat_tests, both.1)) hu hv
    ∙ rw live refl

-- ---- marks that are left

marked_most : (marks : List ℕ) (spot : Spot) (u v : ℕ) → state_marked spot marks u v ≤ 1
marked_most [] spot u v = omega arith
marked_most (mark ∷ marks) spot u v = by (is_live_at spot mark u v) (marked_most marks (spot_behind spot mark) u v)
  where
    by : (b : Bool) → state_marked (spot_behind spot mark) marks u v ≤ 1 → (if b then 1 else state_marked (spot_behind spot mark) marks u v) ≤ 1
    by true h = omega arith
    by false h = h

pub marked_step : (marks : List ℕ) (i : ℕ) (spot : Spot) (old new u v : ℕ) → i < length marks →
    new ≡ max old (if is_live_at spot (get_or marks i 0) u v then 1 else 0) →
    max new (state_marked (spot_behind spot (get_or marks i 0)) (drop (i + 1) marks) u v) ≡ max old (state_marked spot (drop i marks) u v)
marked_step marks i spot old new u v within is =
    rw (drop-cons marks i 0 within, add-one) (by (is_live_at spot (get_or marks i 0) u v) is)
  where
    rest : ℕ
    rest = state_marked (spot_behind spot (get_or marks i 0)) (drop (suc i) marks) u v

    by : (b : Bool) → new ≡ max old (if b then 1 else 0) → max new rest ≡ max old (if b then 1 else rest)
    by true e = omega (arith, e, marked_most (drop (suc i) marks) (spot_behind spot (get_or marks i 0)) u v)
    by false e = omega (arith, e)

pub misplaced_step : (marks : List ℕ) (i place : ℕ) (spot : Spot) (whole : Option ℕ) → i < length marks → may_stand spot (get_or marks i 0) ≡ true →
    misplaced (place + i) spot (drop i marks) ≡ whole → misplaced (place + (i + 1)) (spot_behind spot (get_or marks i 0)) (drop (i + 1) marks) ≡ whole
misplaced_step marks i place spot whole within stands is =
    let next : place + suc i ≡ suc (place + i) = omega arith in
    let here : misplaced (suc (place + i)) (spot_behind spot (get_or marks i 0)) (drop (suc i) marks) ≡ whole = rw (drop-cons marks i 0 within, stands) at is in
    rw (add-one, next) here

pub misplaced_here : (marks : List ℕ) (i place : ℕ) (spot : Spot) (whole : Option ℕ) → i < length marks → may_stand spot (get_or marks i 0) ≡ false →
    misplaced (place + i) spot (drop i marks) ≡ whole → whole ≡ Some (place + i)
misplaced_here marks i place spot whole within stands is =
    let here : Some (place + i) ≡ whole = rw (drop-cons marks i 0 within, stands) at is in sym here

pub told_misplaced : (place at : ℕ) (marks : List ℕ) → misplaced place first_spot marks ≡ Some at → rows_told place marks ≡ Err (Tag at)
told_misplaced place at marks e = rw e refl

pub told_whole : (place rows i : ℕ) (spot : Spot) (marks : List ℕ) → length marks ≤ i → misplaced (place + i) spot (drop i marks) ≡ misplaced place first_spot marks →
    ((u v : ℕ) → u < 8 → v < 8 → max (bit_at rows (8 * v + u)) (state_marked spot (drop i marks) u v) ≡ state_marked first_spot marks u v) →
    rows_told place marks ≡ Ok (square_of_bits rows)
told_whole place rows i spot marks past well bits =
    let none : None ≡ misplaced place first_spot marks = rw (drop_all i marks past) at well in
    let same : square_marked marks ≡ square_of_bits rows = same_square 3 (state_marked first_spot marks) (λ u v. bit_at rows (8 * v + u))
    (λ u v hu hv. let e = bits u v hu hv in let f : max (bit_at rows (8 * v + u)) 0 ≡ state_marked first_spot marks u v = rw (drop_all i marks past) at e in omega (arith, f)) in
    rw (sym none) (ap Ok same)

-- a spot is no further on than by one
pub column_behind : (spot : Spot) (mark i : ℕ) → spot.column ≤ i → (spot_behind spot mark).column ≤ i + 1
column_behind spot mark i h = by (mark == 36)
  where
    by : (b : Bool) → (let next : Spot = if b then record { column = 0; row = suc spot.row } else record { column = suc spot.column; row = spot.row } in next.column ≤ i + 1)
    by true = omega arith
    by false = omega (arith, h)

pub row_behind : (spot : Spot) (mark i : ℕ) → spot.row ≤ i → (spot_behind spot mark).row ≤ i + 1
row_behind spot mark i h = by (mark == 36)
  where
    by : (b : Bool) → (let next : Spot = if b then record { column = 0; row = suc spot.row } else record { column = suc spot.column; row = spot.row } in next.row ≤ i + 1)
    by true = omega (arith, h)
    by false = omega (arith, h)
