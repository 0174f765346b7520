-- Cells have maximal runs, and only those.
use Rattle.std.proofs.Common.{◌≡◌, inl, inr, ℕ, zero, suc, ◌+◌, ◌≤◌, true, false, List, [], ◌∷◌, ◌++◌, map, refl, sym, ap, subst, ◌∙◌, arith, ℤ, pos, ◌+ℤ◌, append_assoc}
use Rattle.std.proofs.lemmas.Bool.{cases_Bool}
use Rattle.std.proofs.lemmas.Int.{ints}
use Rattle.generations_rule.specs.Place.{Place, at_place}
use Rattle.pattern_cells.specs.Cells.{place_of}
use Rattle.cell_pictures.specs.Laws.{HasOneRunList, HasRuns}
use Rattle.cell_pictures.specs.Runs.{AreMaximal, RunValue, is_behind, longer, places_from, places_of, run_at, runs_behind, runs_in}

run : ℤ → ℤ → ℕ → RunValue
run x y n = record { x = x; y = y; length = n }

-- ---- the places of the runs

-- one place more at the end of a row
places_more : (n : ℕ) (x y : ℤ) → places_from (n + 1) x y ≡ places_from n x y ++ at_place (x +ℤ pos n) y ∷ []
places_more zero x y = let same : x ≡ x +ℤ pos 0 = omega (arith, ints) in λ i. at_place (same i) y ∷ []
places_more (suc n) x y =
    let next : suc n + 1 ≡ suc (n + 1) = omega arith in
    let same : (x +ℤ pos 1) +ℤ pos n ≡ x +ℤ pos (suc n) = omega (arith, ints) in
    rw next (ap (λ rest. at_place x y ∷ rest) (places_more n (x +ℤ pos 1) y ∙ (λ i. places_from n (x +ℤ pos 1) y ++ at_place (same i) y ∷ [])))

behind_x : (r : RunValue) (c : Place) → is_behind r c ≡ true → c.x ≡ r.x +ℤ pos r.length
behind_x r c h = grind (arith, ints)

behind_y : (r : RunValue) (c : Place) → is_behind r c ≡ true → c.y ≡ r.y
behind_y r c h = grind (arith, ints)

behind_is : (r : RunValue) (c : Place) → is_behind r c ≡ true → c ≡ at_place (r.x +ℤ pos r.length) r.y
behind_is r c h = λ i. record { x = behind_x r c h i; y = behind_y r c h i }

pub places_behind : (r : RunValue) (places : List Place) → places_of (runs_behind r places) ≡ places_from r.length r.x r.y ++ places
places_behind r [] = refl
places_behind r (c ∷ places) = elim (cases_Bool (is_behind r c)) [
  | inl behind ↦
      rw behind (places_behind (longer r) places
      ∙ ap (λ front. front ++ places) (places_more r.length r.x r.y)
      ∙ append_assoc (places_from r.length r.x r.y) (at_place (r.x +ℤ pos r.length) r.y ∷ []) places
      ∙ ap (λ d. places_from r.length r.x r.y ++ d ∷ places) (sym (behind_is r c behind)))
  | inr apart ↦ rw apart (ap (λ rest. places_from r.length r.x r.y ++ rest) (places_behind (run_at c) places))
]

pub places_in : (places : List Place) → places_of (runs_in places) ≡ places
places_in [] = refl
places_in (c ∷ places) = places_behind (run_at c) places

-- ---- the runs are maximal

-- the first run begins where the one that was begun does
record BeginsAt (x y : ℤ) (runs : List RunValue) : Type 0 where
  length : ℕ
  rest : List RunValue
  is : runs ≡ run x y length ∷ rest

begins_at : (r : RunValue) (places : List Place) → BeginsAt r.x r.y (runs_behind r places)
unfolding run
begins_at r [] = record { length = r.length; rest = []; is = refl }
begins_at r (c ∷ places) = elim (cases_Bool (is_behind r c)) [
  | inl behind ↦ rw behind (begins_at (longer r) places)
  | inr apart ↦ rw apart (record { length = r.length; rest = runs_behind (run_at c) places; is = refl })
]

apart_maximal : (r : RunValue) (c : Place) (runs : List RunValue) → 1 ≤ r.length → is_behind r c ≡ false → BeginsAt c.x c.y runs → AreMaximal runs → AreMaximal (r ∷ runs)
unfolding run
apart_maximal r c runs some apart begins maximal =
    let whole = subst (λ rs. AreMaximal rs) begins.is maximal in
    subst (λ rs. AreMaximal (r ∷ rs)) (sym begins.is) (some, apart, whole)

behind_maximal : (r : RunValue) (places : List Place) → 1 ≤ r.length → AreMaximal (runs_behind r places)
behind_maximal r [] some = some
behind_maximal r (c ∷ places) some = elim (cases_Bool (is_behind r c)) [
  | inl behind ↦ rw behind (behind_maximal (longer r) places (omega arith))
  | inr apart ↦ rw apart (apart_maximal r c (runs_behind (run_at c) places) some apart (begins_at (run_at c) places) (behind_maximal (run_at c) places (omega arith)))
]

maximal : (places : List Place) → AreMaximal (runs_in places)
maximal [] = tt
maximal (c ∷ places) = behind_maximal (run_at c) places (omega arith)

pub has_runs : HasRuns
has_runs cells = record { maximal = maximal (map place_of cells); places = places_in (map place_of cells) }

-- ---- and they are the only ones

-- the place right behind a run
next_behind : (x y : ℤ) (k : ℕ) → is_behind (run x y k) (at_place (x +ℤ pos k) y) ≡ true
unfolding run
next_behind x y k = grind (arith, ints)

-- a run takes the places that follow it
grows : (n k : ℕ) (x y : ℤ) (places : List Place) → runs_behind (run x y k) (places_from n (x +ℤ pos k) y ++ places) ≡ runs_behind (run x y (k + n)) places
unfolding run
grows zero k x y places = let same : k ≡ k + 0 = omega arith in λ i. runs_behind (record { x = x; y = y; length = same i }) places
grows (suc n) k x y places =
    let at : (x +ℤ pos k) +ℤ pos 1 ≡ x +ℤ pos (k + 1) = omega (arith, ints) in
    let sum : k + 1 + n ≡ k + suc n = omega arith in
    rw (next_behind x y k) ((λ i. runs_behind (run x y (k + 1)) (places_from n (at i) y ++ places)) ∙ grows n (k + 1) x y places ∙ (λ i. runs_behind (record { x = x; y = y; length = sum i }) places))

counted : (r : RunValue) (runs : List RunValue) → AreMaximal (r ∷ runs) → 1 ≤ r.length
counted r [] h = h
counted r (s ∷ runs) h = h.0

-- a run with places begins with its first
first_place : (n : ℕ) (x y : ℤ) (places : List Place) → 1 ≤ n → runs_in (places_from n x y ++ places) ≡ runs_behind (run x y n) places
unfolding run
first_place zero x y places some = absurd (omega arith)
first_place (suc n) x y places some =
    let sum : 1 + n ≡ suc n = omega arith in
    grows n 1 x y places ∙ (λ i. runs_behind (record { x = x; y = y; length = sum i }) places)

-- behind a run, the places of runs that do not begin right behind it begin a run of their own
ends_at : (r : RunValue) (n : ℕ) (x y : ℤ) (places : List Place) → 1 ≤ n → is_behind r (at_place x y) ≡ false →
    runs_behind r (places_from n x y ++ places) ≡ r ∷ runs_in (places_from n x y ++ places)
ends_at r zero x y places some apart = absurd (omega arith)
ends_at r (suc n) x y places some apart = rw apart refl

same_runs : (runs : List RunValue) → AreMaximal runs → runs_in (places_of runs) ≡ runs
unfolding run
same_runs [] h = refl
same_runs (r ∷ []) h = first_place r.length r.x r.y [] h
same_runs (r ∷ s ∷ runs) h =
    first_place r.length r.x r.y (places_of (s ∷ runs)) h.0
    ∙ ends_at r s.length s.x s.y (places_of runs) (counted s runs h.2) h.1
    ∙ ap (λ rest. r ∷ rest) (same_runs (s ∷ runs) h.2)

pub has_one_run_list : HasOneRunList
has_one_run_list cells runs are = sym (same_runs runs are.maximal) ∙ ap runs_in are.places
