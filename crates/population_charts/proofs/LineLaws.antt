-- The text of lines, point after point and tick after tick.
use Rattle.std.proofs.Common.{◌≡◌, ℕ, ◌+◌, ◌<◌, ◌≤◌, arith, true, List, [], ◌∷◌, ◌++◌, length, take, get_or, refl, ap, sym, subst, ◌∙◌, append_assoc, append-nil}
use Rattle.std.proofs.lemmas.List.{take_more}
use Rattle.devices.specs.Sink.{KnownSink}
use Rattle.cell_pictures.specs.Drawn.{IsAdded}
use Rattle.cell_pictures.specs.Shown.{texts_below}
use Rattle.cell_pictures.proofs.DrawnLaws.{added_as, added_on}
use Rattle.population_charts.specs.declared.axis.Axes.{Axes}
use Rattle.population_charts.specs.Chart.{curve, curve_begin, curve_end, curve_point, curve_points, line_begin, line_end, point_text, points_text, state_line}
use Rattle.population_charts.specs.Sample.{SampleValue, has_cells}

points-append : (state : ℕ) (samples : List SampleValue) (s : SampleValue) → points_text state (samples ++ s ∷ []) ≡ points_text state samples ++ point_text state s
points-append state [] s = append-nil (point_text state s)
points-append state (t ∷ samples) s =
    ap (λ rest. point_text state t ++ rest) (points-append state samples s) ∙ sym (append_assoc (point_text state t) (points_text state samples) (point_text state s))

-- the points of one sample more
pub point_more : (state : ℕ) (a b c : KnownSink) (samples : List SampleValue) (i : ℕ) (d : SampleValue) → i < length samples → d ≡ get_or samples i d →
    IsAdded a b (points_text state (take i samples)) → IsAdded b c (point_text state d) → IsAdded a c (points_text state (take (i + 1) samples))
point_more state a b c samples i d below is p q =
    let more : points_text state (take i samples) ++ point_text state d ≡ points_text state (take (i + 1) samples) =
    ap (λ (s : SampleValue). points_text state (take i samples) ++ point_text state s) is
    ∙ sym (points-append state (take i samples) (get_or samples i d))
    ∙ ap (points_text state) (sym (take_more samples i d below)) in
    added_as a c _ _ more (added_on a b c (points_text state (take i samples)) (point_text state d) p q)

-- the line of a state that has cells
pub line_is : (samples : List SampleValue) (state : ℕ) → has_cells state samples ≡ true → line_begin state ++ points_text state samples ++ line_end ≡ state_line samples state
line_is samples state has = rw has refl

pub curve_is : (states : ℕ) (axes : Axes) (samples : List SampleValue) (state : ℕ) → has_cells state samples ≡ true →
    curve_begin states state ++ curve_points axes state samples ++ curve_end state ≡ curve states axes samples state
curve_is states axes samples state has = rw has refl

curve_points-append : (axes : Axes) (state : ℕ) (samples : List SampleValue) (s : SampleValue) → curve_points axes state (samples ++ s ∷ []) ≡ curve_points axes state samples ++ curve_point axes state s
curve_points-append axes state [] s = append-nil (curve_point axes state s)
curve_points-append axes state (t ∷ samples) s =
    ap (λ rest. curve_point axes state t ++ rest) (curve_points-append axes state samples s) ∙ sym (append_assoc (curve_point axes state t) (curve_points axes state samples) (curve_point axes state s))

-- the curve of one sample more
pub curve_point_more : (axes : Axes) (state : ℕ) (a b c : KnownSink) (samples : List SampleValue) (i : ℕ) (d : SampleValue) → i < length samples → d ≡ get_or samples i d →
    IsAdded a b (curve_points axes state (take i samples)) → IsAdded b c (curve_point axes state d) → IsAdded a c (curve_points axes state (take (i + 1) samples))
curve_point_more axes state a b c samples i d below is p q =
    let more : curve_points axes state (take i samples) ++ curve_point axes state d ≡ curve_points axes state (take (i + 1) samples) =
    ap (λ (s : SampleValue). curve_points axes state (take i samples) ++ curve_point axes state s) is
    ∙ sym (curve_points-append axes state (take i samples) (get_or samples i d))
    ∙ ap (curve_points axes state) (sym (take_more samples i d below)) in
    added_as a c _ _ more (added_on a b c (curve_points axes state (take i samples)) (curve_point axes state d) p q)

-- all the texts that there are
pub texts_to : (a b : KnownSink) (n count : ℕ) (text : ℕ → List ℕ) → n ≡ count → IsAdded a b (texts_below n text) → IsAdded a b (texts_below count text)
texts_to a b n count text is p = subst (λ m. IsAdded a b (texts_below m text)) is p

pub same_number : (n m : ℕ) → n ≤ m → m ≤ n → n ≡ m
same_number n m low high = omega arith
