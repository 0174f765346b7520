-- Two lines with the same text have the same points.
use Rattle.std.proofs.Common.{◌≡◌, ℕ, false, List, [], ◌∷◌, ◌++◌, refl, ap, sym, ◌∙◌, append_assoc}
use Rattle.std.specs.Prelude.{decimal}
use Rattle.text_scan.specs.Bytes.{is_decimal_digit}
use Rattle.cell_pictures.proofs.TextLaws.{next_number, tails}
use Rattle.population_charts.specs.Chart.{point_text, points_text}
use Rattle.population_charts.specs.Sample.{SampleValue, count_of, counts_of, generations_of}
use Rattle.population_charts.proofs.FitLaws.{PointsFit}

-- what stands in front of the next point, or behind the last, and then
stop : List SampleValue → ℕ
stop [] = 34
stop (s ∷ samples) = 32

behind : ℕ → List SampleValue → List ℕ → List ℕ
behind state [] t = t
behind state (s ∷ samples) t = decimal s.generation ++ 44 ∷ (decimal (count_of state s) ++ (points_text state samples ++ 34 ∷ t))

stops : (samples : List SampleValue) → is_decimal_digit (stop samples) ≡ false
unfolding stop
stops [] = refl
stops (s ∷ samples) = refl

points_then : (state : ℕ) (samples : List SampleValue) (t : List ℕ) → points_text state samples ++ 34 ∷ t ≡ stop samples ∷ behind state samples t
unfolding stop behind
points_then state [] t = refl
points_then state (s ∷ samples) t =
    append_assoc (point_text state s) (points_text state samples) (34 ∷ t)
    ∙ append_assoc (32 ∷ decimal s.generation) (44 ∷ decimal (count_of state s)) (points_text state samples ++ 34 ∷ t)

more_then : (state : ℕ) (s : SampleValue) (samples : List SampleValue) (t : List ℕ) →
    points_text state (s ∷ samples) ++ 34 ∷ t ≡ 32 ∷ (decimal s.generation ++ 44 ∷ (decimal (count_of state s) ++ (stop samples ∷ behind state samples t)))
unfolding stop behind
more_then state s samples t =
    points_then state (s ∷ samples) t ∙ ap (λ rest. 32 ∷ (decimal s.generation ++ 44 ∷ (decimal (count_of state s) ++ rest))) (points_then state samples t)

pub record SamePoints (state state' : ℕ) (samples samples' : List SampleValue) (t u : List ℕ) : Type 0 where
  pub generations : generations_of samples ≡ generations_of samples'
  pub counts : counts_of state samples ≡ counts_of state' samples'
  pub behind : t ≡ u

none_left : {A : Type 0} (state : ℕ) (s : SampleValue) (samples : List SampleValue) (t u : List ℕ) → 34 ∷ t ≡ points_text state (s ∷ samples) ++ 34 ∷ u → A
none_left state s samples t u e = let whole = e ∙ more_then state s samples u in absurd (cc)

pub same_points : (state state' : ℕ) (samples samples' : List SampleValue) (t u : List ℕ) → PointsFit state samples → PointsFit state' samples' →
    points_text state samples ++ 34 ∷ t ≡ points_text state' samples' ++ 34 ∷ u → SamePoints state state' samples samples' t u
unfolding PointsFit
same_points state state' [] [] t u fits fits' e = record { generations = refl; counts = refl; behind = tails 34 34 t u e }
same_points state state' [] (r ∷ rs) t u fits fits' e = none_left state' r rs t u e
same_points state state' (s ∷ ss) [] t u fits fits' e = none_left state s ss u t (sym e)
same_points state state' (s ∷ ss) (r ∷ rs) t u fits fits' e =
    let whole = tails 32 32 _ _ (sym (more_then state s ss t) ∙ e ∙ more_then state' r rs u) in
    let generation = next_number s.generation r.generation 44 44 _ _ fits.0 fits'.0 refl refl whole in
    let count = next_number (count_of state s) (count_of state' r) (stop ss) (stop rs) _ _ fits.1 fits'.1 (stops ss) (stops rs) (tails 44 44 _ _ generation.1) in
    let rest = same_points state state' ss rs t u fits.2 fits'.2 (points_then state ss t ∙ count.1 ∙ sym (points_then state' rs u)) in
    record {
      generations = λ i. generation.0 i ∷ rest.generations i;
      counts = λ i. count.0 i ∷ rest.counts i;
      behind = rest.behind;
    }
