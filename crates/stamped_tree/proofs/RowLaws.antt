-- Lists of cells that rise row by row.
use Rattle.std.proofs.Common.{◌≡◌, ◌≢◌, ℕ, zero, suc, ◌+◌, ◌-◌, ◌*◌, ◌<◌, ◌≤◌, ◌==◌, false, List, [], ◌∷◌, ◌++◌, map, length, get_or, refl, sym, ap, ◌∙◌, subst, inl, inr, arith, append_assoc}
use Rattle.std.specs.Prelude.{Contains}
use Rattle.std.specs.List.{AllByRecursion, IsDistinct}
use Rattle.std.specs.List.Sorted.{IsNonDecreasingBy}
use Rattle.std.proofs.lemmas.Bool.{cases_Bool, cases_lt}
use Rattle.std.proofs.lemmas.Bool.Decides.{nat_tests}
use Rattle.std.proofs.lemmas.List.{map-append}
use Rattle.std.proofs.lemmas.List.Elements.{Contains-append_left, Contains-append_right, Contains-append_cases}
use Rattle.square_store.specs.Grid.{Grid}
use Rattle.stamped_tree.specs.declared.cells.ListedCell.{ListedCell}
use Rattle.stamped_tree.specs.RowOrder.{strung, live_cell, row_cells}
use Rattle.stamped_tree.specs.Walk.{AreGathered, IsNonzeroCell, is_one_spot}
use Rattle.stamped_tree.proofs.Gathering.{contains_head, not_one_spot}

-- ---- lists one behind another

pub strung_same : {X : Type 0} (f g : ℕ → List X) (n : ℕ) → ((i : ℕ) → i < n → f i ≡ g i) → strung f n ≡ strung g n
strung_same f g zero same = refl
strung_same f g (suc n) same = rw (strung_same f g n (λ i h. same i (omega (arith, h))), same n (omega arith)) refl

pub strung_split : {X : Type 0} (f : ℕ → List X) (n m : ℕ) → strung f (n + m) ≡ strung f n ++ strung (λ i. f (n + i)) m
strung_split f n zero = let e : n + 0 ≡ n = omega arith in rw e (append_none (strung f n))
  where
    append_none : {X : Type 0} (xs : List X) → xs ≡ xs ++ []
    append_none [] = refl
    append_none (x ∷ xs) = ap (λ ys. x ∷ ys) (append_none xs)
strung_split f n (suc m) =
    let e : n + suc m ≡ suc (n + m) = omega arith in
    rw e (ap (λ xs. xs ++ f (n + m)) (strung_split f n m) ∙ append_assoc (strung f n) (strung (λ i. f (n + i)) m) (f (n + m)))

pub strung_more : {X : Type 0} (f : ℕ → List X) (n : ℕ) → strung f (n + 1) ≡ strung f n ++ f n
strung_more f n = let e : n + 1 ≡ suc n = omega arith in rw e refl

-- what is listed behind what was listed
pub listed_more : {X Y : Type 0} (c : X → Y) (old mid new : List Y) (xs ys : List X) → mid ≡ old ++ map c xs → new ≡ mid ++ map c ys → new ≡ old ++ map c (xs ++ ys)
listed_more c old mid new xs ys e e' = e' ∙ ap (λ zs. zs ++ map c ys) e ∙ append_assoc old (map c xs) (map c ys) ∙ ap (λ zs. old ++ zs) (sym (map-append c xs ys))

strung_has : {X : Type 0} (f : ℕ → List X) (n i : ℕ) (x : X) → i < n → Contains (f i) x → Contains (strung f n) x
strung_has f zero i x h there = absurd (omega (arith, h))
strung_has f (suc n) i x h there = elim (cases_lt i n) [
  | inl below ↦ Contains-append_left (strung f n) (f n) x (strung_has f n i x below there)
  | inr last ↦ (let e : i ≡ n = omega (arith, h, last) in Contains-append_right (strung f n) (f n) x (subst (λ j. Contains (f j) x) e there))
]

strung_only : {X : Type 0} (f : ℕ → List X) (n : ℕ) (x : X) → Contains (strung f n) x → (i : ℕ) × ((i < n) × Contains (f i) x)
strung_only f zero x there = let l = there.1 in absurd (omega (arith, l))
strung_only f (suc n) x there = elim (Contains-append_cases (strung f n) (f n) x there) [
  | inl before ↦ (let r = strung_only f n x before in let l = r.1.0 in (r.0, (omega (arith, l), r.1.1)))
  | inr last ↦ (n, (omega arith, last))
]

-- ---- cells in the order of rows, where there are so many columns

module _ (width : ℕ) where
  -- a cell's place in the order of rows
  abbrev pub place : ListedCell → ℕ
  place c = c.row * width + c.column

  -- the places of the cells rise, from one on and below another
  abbrev pub IsRising : ℕ → ℕ → List ListedCell → Type 0
  IsRising a b [] = a ≤ b
  IsRising a b (c ∷ cells) = (a ≤ place c) × IsRising (place c + 1) b cells

  rising_from : (a b c : ℕ) (cells : List ListedCell) → a ≤ b → IsRising b c cells → IsRising a c cells
  rising_from a b c [] h rising = omega (arith, h, rising)
  rising_from a b c (d ∷ cells) h rising = (let first = rising.0 in omega (arith, h, first), rising.1)

  rising_to : (a b c : ℕ) (cells : List ListedCell) → b ≤ c → IsRising a b cells → IsRising a c cells
  rising_to a b c [] h rising = omega (arith, h, rising)
  rising_to a b c (d ∷ cells) h rising = (rising.0, rising_to (place d + 1) b c cells h rising.1)

  rising_append : (a b c : ℕ) (xs ys : List ListedCell) → IsRising a b xs → IsRising b c ys → IsRising a c (xs ++ ys)
  rising_append a b c [] ys first second = rising_from a b c ys first second
  rising_append a b c (x ∷ xs) ys first second = (first.0, rising_append (place x + 1) b c xs ys first.1 second)

  rising_strung : (from : ℕ → ℕ) (f : ℕ → List ListedCell) (n : ℕ) → ((i : ℕ) → i < n → IsRising (from i) (from (suc i)) (f i)) → IsRising (from 0) (from n) (strung f n)
  rising_strung from f zero each = omega arith
  rising_strung from f (suc n) each = rising_append (from 0) (from n) (from (suc n)) (strung f n) (f n) (rising_strung from f n (λ i h. each i (omega (arith, h)))) (each n (omega arith))

  rising_live : (c : ListedCell) → IsRising (place c) (place c + 1) (live_cell c)
  rising_live c = elim (cases_Bool (c.state == 0)) [
    | inl dead ↦ rw dead (let h : place c ≤ place c + 1 = omega arith in h)
    | inr live ↦ rw live (let h : place c ≤ place c = omega arith in let h' : place c + 1 ≤ place c + 1 = omega arith in (h, h'))
  ]

  rising_row : (g : ℕ → ℕ) (left row n : ℕ) → IsRising (row * width + left + 0) (row * width + left + n) (row_cells g left row n)
  rising_row g left row n = rising_strung (λ u. row * width + left + u) (λ u. live_cell (record { column = left + u; row = row; state = g u })) n
      (λ u h. (let c : ListedCell = record { column = left + u; row = row; state = g u } in
      let e : row * width + (left + u) ≡ row * width + left + u = omega arith in
      let e' : row * width + (left + u) + 1 ≡ row * width + left + suc u = omega arith in
      subst (λ z. IsRising z (row * width + left + suc u) (live_cell c)) e (subst (λ z. IsRising (place c) z (live_cell c)) e' (rising_live c))))

  -- ---- what rises is sorted, and has each place once

  rising_reads : (a b : ℕ) (cells : List ListedCell) (j : ℕ) (d : ListedCell) → IsRising a b cells → j < length cells → a ≤ place (get_or cells j d)
  rising_reads a b [] j d rising h = absurd (omega (arith, h))
  rising_reads a b (c ∷ cells) zero d rising h = rising.0
  rising_reads a b (c ∷ cells) (suc j) d rising h = let first = rising.0 in let next = rising_reads (place c + 1) b cells j d rising.1 (omega (arith, h)) in omega (arith, first, next)

  pub rising_sorted : (a b : ℕ) (cells : List ListedCell) → IsRising a b cells → IsNonDecreasingBy place cells
  rising_sorted a b [] rising i j d h l = absurd (omega (arith, l))
  rising_sorted a b (c ∷ cells) rising zero zero d h l = omega arith
  rising_sorted a b (c ∷ cells) rising zero (suc j) d h l = let next = rising_reads (place c + 1) b cells j d rising.1 (omega (arith, l)) in omega (arith, next)
  rising_sorted a b (c ∷ cells) rising (suc i) zero d h l = absurd (omega (arith, h))
  rising_sorted a b (c ∷ cells) rising (suc i) (suc j) d h l = rising_sorted (place c + 1) b cells rising.1 i j d (omega (arith, h)) (omega (arith, l))

  apart : (c : ListedCell) (a b : ℕ) (cells : List ListedCell) → place c < a → IsRising a b cells → AllByRecursion (λ d. is_one_spot c d ≡ false) cells
  apart c a b [] h rising = tt
  apart c a b (d ∷ cells) h rising = (
    not_one_spot c d (λ column row. (let e : place c ≡ place d = ap (λ x. c.row * width + x) column ∙ ap (λ y. y * width + d.column) row in let first = rising.0 in omega (arith, e, first, h))),
    apart c (place d + 1) b cells (let first = rising.0 in omega (arith, h, first)) rising.1,
  )

  pub rising_once : (a b : ℕ) (cells : List ListedCell) → IsRising a b cells → IsDistinct is_one_spot cells
  unfolding IsDistinct
  rising_once a b [] rising = tt
  rising_once a b (c ∷ cells) rising = (apart c (place c + 1) b cells (omega arith) rising.1, rising_once (place c + 1) b cells rising.1)

-- ---- the cells of a grid

live_has : (c : ListedCell) → c.state ≢ 0 → Contains (live_cell c) c
live_has c live = elim (cases_Bool (c.state == 0)) [
  | inl dead ↦ absurd (live (grind (arith, nat_tests, dead)))
  | inr alive ↦ rw alive (contains_head c [])
]

live_only : (c d : ListedCell) → Contains (live_cell c) d → (d ≡ c) × (c.state ≢ 0)
live_only c d there = elim (cases_Bool (c.state == 0)) [
  | inl dead ↦ (let l = (rw dead at there).1 in absurd (omega (arith, l)))
  | inr alive ↦ (contains_one c d (rw alive at there), λ e. absurd (grind (arith, nat_tests, alive, e)))
]
  where
    contains_one : (x y : ListedCell) → Contains (x ∷ []) y → y ≡ x
    contains_one x y (zero, l, e) = sym e
    contains_one x y (suc k, l, e) = absurd (omega (arith, l))

module _ (n : ℕ) (f : Grid) where
  -- the cells of the first n columns and rows, row by row
  abbrev pub grid_rows : List ListedCell
  grid_rows = strung (λ v. row_cells (λ u. (f u v).state) 0 v n) n

  pub grid_rising : IsRising n (0 * n) (n * n) grid_rows
  grid_rising = rising_strung n (λ v. v * n) (λ v. row_cells (λ u. (f u v).state) 0 v n) n
      (λ v h. (let e : v * n + 0 + 0 ≡ v * n = omega arith in let e' : v * n + 0 + n ≡ suc v * n = grind arith in
      subst (λ z. IsRising n z (suc v * n) (row_cells (λ u. (f u v).state) 0 v n)) e (subst (λ z. IsRising n (v * n + 0 + 0) z (row_cells (λ u. (f u v).state) 0 v n)) e' (rising_row n (λ u. (f u v).state) 0 v n))))

  pub grid_gathered : AreGathered (IsNonzeroCell n f 0 0) grid_rows
  grid_gathered = record {
    got = λ c i. (let w = i.column in let w' = i.row in
        let eu : c.column - 0 ≡ c.column = omega arith in let ev : c.row - 0 ≡ c.row = omega arith in
        let state : (f c.column c.row).state ≡ c.state = sym (ap (λ z. (f z (c.row - 0)).state) eu ∙ ap (λ z. (f c.column z).state) ev) ∙ i.state in
        let here : record { column = 0 + c.column; row = c.row; state = (f c.column c.row).state } ≡ c = same_cell c state in
        strung_has (λ v. row_cells (λ u. (f u v).state) 0 v n) n c.row c (omega (arith, w'))
        (strung_has (λ u. live_cell (record { column = 0 + u; row = c.row; state = (f u c.row).state })) n c.column c (omega (arith, w))
        (subst (λ (d : ListedCell). Contains (live_cell d) c) (sym here) (live_has c i.nonzero))));
    only = λ c there. (let r = strung_only (λ v. row_cells (λ u. (f u v).state) 0 v n) n c there in
        let q = strung_only (λ u. live_cell (record { column = 0 + u; row = r.0; state = (f u r.0).state })) n c r.1.1 in
        is_nonzero q.0 r.0 c q.1.0 r.1.0 (live_only (record { column = 0 + q.0; row = r.0; state = (f q.0 r.0).state }) c q.1.1));
    once = rising_once n (0 * n) (n * n) grid_rows grid_rising;
  }
    where
      same_cell : (c : ListedCell) → (f c.column c.row).state ≡ c.state → record { column = 0 + c.column; row = c.row; state = (f c.column c.row).state } ≡ c
      same_cell c state = (let e : 0 + c.column ≡ c.column = omega arith in λ i. record { column = e i; row = c.row; state = state i })

      is_nonzero : (u v : ℕ) (c : ListedCell) → u < n → v < n → (c ≡ record { column = 0 + u; row = v; state = (f u v).state }) × ((f u v).state ≢ 0) → IsNonzeroCell n f 0 0 c
      is_nonzero u v c hu hv is =
          let column : c.column ≡ 0 + u = ap (λ (c : ListedCell). c.column) is.0 in
          let row : c.row ≡ v = ap (λ (c : ListedCell). c.row) is.0 in
          let state : c.state ≡ (f u v).state = ap (λ (c : ListedCell). c.state) is.0 in
          let eu : c.column - 0 ≡ u = omega (arith, column) in let ev : c.row - 0 ≡ v = omega (arith, row) in
          record {
            from_left = omega arith;
            from_top = omega arith;
            column = omega (arith, column, hu);
            row = omega (arith, row, hv);
            state = ap (λ z. (f z (c.row - 0)).state) eu ∙ ap (λ z. (f u z).state) ev ∙ sym state;
            nonzero = λ e. is.1 (sym state ∙ e);
          }
