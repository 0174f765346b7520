-- All numbers of a chart are written with all their digits.
use Rattle.std.proofs.Common.{◌≡◌, inl, inr, ℕ, ◌-◌, ◌<◌, ◌≤◌, ◌^◌, false, List, [], ◌∷◌, length, get_or, refl, arith}
use Rattle.std.specs.Prelude.{◌==◌, ⊤}
use Rattle.std.specs.List.{All}
use Rattle.std.proofs.lemmas.Bool.{cases_Bool, cases_lt}
use Rattle.std.proofs.lemmas.List.{get_or_past}
use Rattle.std.proofs.lemmas.List.Elements.{All-tail}
use Rattle.population_charts.specs.Laws.{IsSample}
use Rattle.population_charts.specs.Sample.{SampleValue, count_of, has_cells}

-- what holds of each holds of the first
all_head : {X : Type 0} (P : X → Type 0) (x : X) (xs : List X) → All P (x ∷ xs) → P x
all_head P x xs all = all 0 x (omega arith)

-- ---- one sample

item_fits : (ns : List ℕ) (i : ℕ) → All (λ n. n < 2 ^ 64) ns → get_or ns i 0 < 2 ^ 64
item_fits ns i all = elim (cases_lt i (length ns)) [
  | inl within ↦ all i 0 within
  | inr past ↦ rw (get_or_past ns i 0 past) (omega arith)
]

pub count_fits : (states state : ℕ) (s : SampleValue) → IsSample states s → count_of state s < 2 ^ 64
count_fits states state s is = elim (cases_Bool (state == 0)) [
  | inl dead ↦ rw dead (omega arith)
  | inr alive ↦ rw alive (item_fits s.counts (state - 1) is.counts)
]

-- dead cells are not counted, nor those of a state that the rule has not
pub none_dead : (s : SampleValue) → count_of 0 s ≡ 0
none_dead s = refl

pub none_behind : (states state : ℕ) (s : SampleValue) → IsSample states s → states ≤ state → count_of state s ≡ 0
none_behind states state s is behind = elim (cases_Bool (state == 0)) [
  | inl dead ↦ rw dead refl
  | inr alive ↦
      let few = is.below in
      rw alive (get_or_past s.counts (state - 1) 0 (omega arith))
]

-- ---- all samples

-- the generations, and the numbers of cells of a state
unfoldable pub PointsFit : ℕ → List SampleValue → Type 0
PointsFit state [] = ⊤
PointsFit state (s ∷ samples) = (s.generation < 2 ^ 64) × (count_of state s < 2 ^ 64) × PointsFit state samples

pub points_fit : (states state : ℕ) (samples : List SampleValue) → All (IsSample states) samples → PointsFit state samples
unfolding PointsFit
points_fit states state [] all = tt
points_fit states state (s ∷ samples) all =
    let first = all_head (IsSample states) s samples all in
    (first.generation, count_fits states state s first, points_fit states state samples (All-tail (IsSample states) s samples all))

pub no_cells : (states state : ℕ) (samples : List SampleValue) → ((s : SampleValue) → IsSample states s → count_of state s ≡ 0) → All (IsSample states) samples → has_cells state samples ≡ false
no_cells states state [] none all = refl
no_cells states state (s ∷ samples) none all =
    let first : count_of state s ≡ 0 = none s (all_head (IsSample states) s samples all) in
    rw first (no_cells states state samples none (All-tail (IsSample states) s samples all))
