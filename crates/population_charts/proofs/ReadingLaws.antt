-- Two charts with the same text have the same numbers.
use Rattle.std.proofs.Common.{◌≡◌, inl, inr, ℕ, zero, suc, ◌+◌, ◌-◌, ◌<◌, ◌≤◌, ◌^◌, Bool, true, false, List, [], ◌∷◌, ◌++◌, map, refl, ap, sym, subst, ◌∙◌, arith, append_assoc, append-nil}
use Rattle.std.specs.Prelude.{◌==◌, ◌||◌, ⊤, codes, decimal, if◌then◌else◌}
use Rattle.std.specs.List.{All, list_any}
use Rattle.std.proofs.lemmas.Bool.{cases_Bool, cases_lt, eqb-true}
use Rattle.std.proofs.lemmas.Bool.Decides.{nat_tests}
use Rattle.std.proofs.lemmas.List.{append_cancel_left}
use Rattle.std.proofs.lemmas.List.Folds.{list_any-append}
use Rattle.cell_pictures.specs.Shown.{texts_below}
use Rattle.cell_pictures.proofs.TextLaws.{next_number, tails}
use Rattle.population_charts.specs.Axis.{axes_of, count_axis, generation_axis}
use Rattle.population_charts.specs.Chart.{chart_begin, chart_text, count_ticks, curves, generation_line, generation_ticks, line_begin, line_end, numbers_begin, numbers_end, points_text, state_line}
use Rattle.population_charts.specs.Laws.{HasOneReading, IsSample}
use Rattle.population_charts.specs.Sample.{SampleValue, count_of, counts_of, generations_of, has_cells}
use Rattle.population_charts.proofs.FitLaws.{PointsFit, no_cells, none_behind, none_dead, points_fit}
use Rattle.population_charts.proofs.PointLaws.{same_points}

-- ---- the lines of the states up to a number

whole_line : List SampleValue → ℕ → List ℕ
whole_line samples state = line_begin state ++ points_text state samples ++ line_end

lines_text : List SampleValue → List ℕ → List ℕ
lines_text samples [] = []
lines_text samples (state ∷ drawn) = whole_line samples state ++ lines_text samples drawn

one_drawn : List SampleValue → ℕ → List ℕ
one_drawn samples state = if has_cells state samples then state ∷ [] else []

drawn_up_to : List SampleValue → ℕ → List ℕ
drawn_up_to samples zero = []
drawn_up_to samples (suc n) = drawn_up_to samples n ++ one_drawn samples (n + 1)

lines_text-append : (samples : List SampleValue) (xs ys : List ℕ) → lines_text samples (xs ++ ys) ≡ lines_text samples xs ++ lines_text samples ys
unfolding lines_text
lines_text-append samples [] ys = refl
lines_text-append samples (x ∷ xs) ys =
    ap (λ rest. whole_line samples x ++ rest) (lines_text-append samples xs ys)
    ∙ sym (append_assoc (whole_line samples x) (lines_text samples xs) (lines_text samples ys))

one_line_text : (samples : List SampleValue) (state : ℕ) → lines_text samples (one_drawn samples state) ≡ state_line samples state
unfolding lines_text one_drawn whole_line
one_line_text samples state = elim (cases_Bool (has_cells state samples)) [
  | inl has ↦ rw has (append-nil _)
  | inr none ↦ rw none refl
]

lines_are : (samples : List SampleValue) (n : ℕ) → lines_text samples (drawn_up_to samples n) ≡ texts_below n (λ n. state_line samples (n + 1))
unfolding drawn_up_to lines_text
lines_are samples zero = refl
lines_are samples (suc n) =
    lines_text-append samples (drawn_up_to samples n) (one_drawn samples (n + 1))
    ∙ (λ i. lines_are samples n i ++ one_line_text samples (n + 1) i)

-- ---- a line

begin_then : (state : ℕ) (rest : List ℕ) → line_begin state ++ rest ≡ codes "<polyline class=\"s" ++ (decimal state ++ 34 ∷ (codes " points=\"" ++ rest))
begin_then state rest = regroup (codes "<polyline class=\"s") (decimal state) (codes "\" points=\"") rest where
  regroup : (a b c rest : List ℕ) → a ++ b ++ c ++ rest ≡ a ++ (b ++ (c ++ rest))
  regroup a b c rest = simp append_assoc

same_begin : (s s' : ℕ) (t u : List ℕ) → s < 2 ^ 64 → s' < 2 ^ 64 → line_begin s ++ t ≡ line_begin s' ++ u → (s ≡ s') × (t ≡ u)
same_begin s s' t u fits fits' e =
    let whole = sym (begin_then s t) ∙ e ∙ begin_then s' u in
    let number = next_number s s' 34 34 _ _ fits fits' refl refl (append_cancel_left (codes "<polyline class=\"s") _ _ whole) in
    (number.0, append_cancel_left (codes " points=\"") _ _ (tails 34 34 _ _ number.1))

line_then : (samples : List SampleValue) (state : ℕ) (rest : List ℕ) →
    whole_line samples state ++ rest ≡ line_begin state ++ (points_text state samples ++ 34 ∷ (47 ∷ 62 ∷ 10 ∷ rest))
unfolding whole_line
line_then samples state rest = regroup (line_begin state) (points_text state samples) line_end rest where
  regroup : (a b c rest : List ℕ) → a ++ b ++ c ++ rest ≡ a ++ (b ++ (c ++ rest))
  regroup a b c rest = simp append_assoc

record SameLine (samples samples' : List SampleValue) (s s' : ℕ) (t u : List ℕ) : Type 0 where
  state : s ≡ s'
  counts : counts_of s samples ≡ counts_of s samples'
  behind : t ≡ u

same_line : (samples samples' : List SampleValue) (s s' : ℕ) (t u : List ℕ) → s < 2 ^ 64 → s' < 2 ^ 64 →
    PointsFit s samples → PointsFit s' samples' → whole_line samples s ++ t ≡ whole_line samples' s' ++ u → SameLine samples samples' s s' t u
same_line samples samples' s s' t u small small' fits fits' e =
    let begun = same_begin s s' _ _ small small' (sym (line_then samples s t) ∙ e ∙ line_then samples' s' u) in
    let points = same_points s s' samples samples' _ _ fits fits' begun.1 in
    record {
      state = begun.0;
      counts = subst (λ n. counts_of s samples ≡ counts_of n samples') (sym begun.0) points.counts;
      behind = tails _ _ _ _ (tails _ _ _ _ (tails _ _ _ _ points.behind));
    }

-- ---- all lines

-- of each of these states two lists of samples have the same numbers
CountAlike : List SampleValue → List SampleValue → List ℕ → Type 0
CountAlike samples samples' [] = ⊤
CountAlike samples samples' (state ∷ drawn) = (counts_of state samples ≡ counts_of state samples') × CountAlike samples samples' drawn

AllSmall : List ℕ → Type 0
AllSmall [] = ⊤
AllSmall (state ∷ drawn) = (state < 2 ^ 64) × AllSmall drawn

record SameLines (samples samples' : List SampleValue) (drawn drawn' : List ℕ) : Type 0 where
  states : drawn ≡ drawn'
  counts : CountAlike samples samples' drawn

-- the lines end where a tag does
ended : List ℕ → List ℕ
ended t = 60 ∷ 47 ∷ t

second : List ℕ → ℕ
second [] = 0
second (a ∷ []) = 0
second (a ∷ b ∷ rest) = b

-- a slash is no p
no_letter : {A : Type 0} (x : ℕ) → x ≡ 47 → x ≡ 112 → A
no_letter x slash letter = absurd (omega arith)

line_not_end : {A : Type 0} (samples : List SampleValue) (state : ℕ) (drawn t u : List ℕ) → ended t ≡ lines_text samples (state ∷ drawn) ++ u → A
unfolding ended lines_text whole_line second
line_not_end samples state drawn t u e = no_letter (second (ended t)) refl (ap second e)

line_on : (samples : List SampleValue) (state : ℕ) (drawn t : List ℕ) →
    lines_text samples (state ∷ drawn) ++ t ≡ whole_line samples state ++ (lines_text samples drawn ++ t)
unfolding lines_text
line_on samples state drawn t = append_assoc (whole_line samples state) (lines_text samples drawn) t

no_line : (samples : List SampleValue) (t : List ℕ) → lines_text samples [] ++ t ≡ t
unfolding lines_text
no_line samples t = refl

same_lines : (samples samples' : List SampleValue) (drawn drawn' : List ℕ) (t u : List ℕ) → AllSmall drawn → AllSmall drawn' →
    ((s : ℕ) → PointsFit s samples) → ((s : ℕ) → PointsFit s samples') → lines_text samples drawn ++ ended t ≡ lines_text samples' drawn' ++ ended u →
    SameLines samples samples' drawn drawn'
unfolding AllSmall CountAlike
same_lines samples samples' [] [] t u small small' fits fits' e = record { states = refl; counts = tt }
same_lines samples samples' [] (s ∷ drawn') t u small small' fits fits' e = line_not_end samples' s drawn' t (ended u) (sym (no_line samples (ended t)) ∙ e)
same_lines samples samples' (s ∷ drawn) [] t u small small' fits fits' e = line_not_end samples s drawn u (ended t) (sym (no_line samples' (ended u)) ∙ sym e)
same_lines samples samples' (s ∷ drawn) (r ∷ drawn') t u small small' fits fits' e =
    let first = same_line samples samples' s r _ _ small.0 small'.0 (fits s) (fits' r)
    (sym (line_on samples s drawn (ended t)) ∙ e ∙ line_on samples' r drawn' (ended u)) in
    let rest = same_lines samples samples' drawn drawn' t u small.1 small'.1 fits fits' first.behind in
    record { states = λ i. first.state i ∷ rest.states i; counts = (first.counts, rest.counts) }

-- ---- which states are drawn

is_drawn : ℕ → List ℕ → Bool
is_drawn state drawn = list_any (λ s. s == state) drawn

alike_at : (samples samples' : List SampleValue) (state : ℕ) (drawn : List ℕ) → is_drawn state drawn ≡ true → CountAlike samples samples' drawn → counts_of state samples ≡ counts_of state samples'
unfolding is_drawn CountAlike
alike_at samples samples' state [] is alike = absurd (cc)
alike_at samples samples' state (s ∷ drawn) is alike = elim (cases_Bool (s == state)) [
  | inl here ↦ subst (λ n. counts_of n samples ≡ counts_of n samples') (eqb-true s state here) alike.0
  | inr later ↦ alike_at samples samples' state drawn (rw later at is) alike.1
]

drawn_more : (state : ℕ) (xs ys : List ℕ) → is_drawn state (xs ++ ys) ≡ (is_drawn state xs || is_drawn state ys)
unfolding is_drawn
drawn_more state xs ys = list_any-append (λ s. s == state) xs ys

drawn_here : (samples : List SampleValue) (state : ℕ) → has_cells state samples ≡ true → is_drawn state (one_drawn samples state) ≡ true
unfolding is_drawn one_drawn
drawn_here samples state has =
    let same : (state == state) ≡ true = grind (arith, nat_tests) in
    rw (has, same) refl

or_right : (b : Bool) → (b || true) ≡ true
or_right true = refl
or_right false = refl

is_drawn_up_to : (samples : List SampleValue) (n state : ℕ) → 0 < state → state ≤ n → has_cells state samples ≡ true → is_drawn state (drawn_up_to samples n) ≡ true
unfolding drawn_up_to
is_drawn_up_to samples zero state some low has = absurd (omega arith)
is_drawn_up_to samples (suc n) state some low has = elim (cases_lt n state) [
  | inl last ↦
      let same : state ≡ n + 1 = omega arith in
      let here : is_drawn state (one_drawn samples (n + 1)) ≡ true = subst (λ m. is_drawn state (one_drawn samples m) ≡ true) same (drawn_here samples state has) in
      drawn_more state (drawn_up_to samples n) (one_drawn samples (n + 1)) ∙ ap (λ b. is_drawn state (drawn_up_to samples n) || b) here ∙ or_right (is_drawn state (drawn_up_to samples n))
  | inr before ↦
      drawn_more state (drawn_up_to samples n) (one_drawn samples (n + 1))
      ∙ ap (λ b. b || is_drawn state (one_drawn samples (n + 1))) (is_drawn_up_to samples n state some before has)
]

-- a state with cells is one of the rule
is_drawn_of : (states : ℕ) (samples : List SampleValue) (state : ℕ) → All (IsSample states) samples → has_cells state samples ≡ true → is_drawn state (drawn_up_to samples (states - 1)) ≡ true
is_drawn_of states samples zero all has = absurd (let none = no_cells states 0 samples (λ s is. none_dead s) all in cc)
is_drawn_of states samples (suc state) all has = elim (cases_lt (suc state) states) [
  | inl within ↦ is_drawn_up_to samples (states - 1) (suc state) (omega arith) (omega arith) has
  | inr behind ↦ absurd (let none = no_cells states (suc state) samples (λ s is. none_behind states (suc state) s is behind) all in cc)
]

small-append : (xs ys : List ℕ) → AllSmall xs → AllSmall ys → AllSmall (xs ++ ys)
unfolding AllSmall
small-append [] ys p q = q
small-append (x ∷ xs) ys p q = (p.0, small-append xs ys p.1 q)

one_small : (samples : List SampleValue) (state : ℕ) → state < 2 ^ 64 → AllSmall (one_drawn samples state)
unfolding AllSmall one_drawn
one_small samples state small = elim (cases_Bool (has_cells state samples)) [
  | inl has ↦ rw has (small, tt)
  | inr none ↦ rw none tt
]

all_small : (samples : List SampleValue) (n : ℕ) → n < 2 ^ 63 → AllSmall (drawn_up_to samples n)
unfolding AllSmall drawn_up_to
all_small samples zero small = tt
all_small samples (suc n) small = small-append (drawn_up_to samples n) (one_drawn samples (n + 1)) (all_small samples n (omega arith)) (one_small samples (n + 1) (omega arith))

-- ---- a state that is not drawn

all_none : (state : ℕ) (samples : List SampleValue) → has_cells state samples ≡ false → counts_of state samples ≡ map (λ g. 0) (generations_of samples)
all_none state [] none = refl
all_none state (s ∷ samples) none = elim (cases_Bool (count_of state s == 0)) [
  | inl zero_here ↦ λ i. eqb-true (count_of state s) 0 zero_here i ∷ all_none state samples (rw zero_here at none) i
  | inr some_here ↦ absurd (let one = rw some_here at none in cc)
]

same_counts : (states states' : ℕ) (samples samples' : List SampleValue) (state : ℕ) → All (IsSample states) samples → All (IsSample states') samples' →
    generations_of samples ≡ generations_of samples' → SameLines samples samples' (drawn_up_to samples (states - 1)) (drawn_up_to samples' (states' - 1)) →
    counts_of state samples ≡ counts_of state samples'
same_counts states states' samples samples' state all all' generations lines = elim (cases_Bool (has_cells state samples)) [
  | inl has ↦ alike_at samples samples' state (drawn_up_to samples (states - 1)) (is_drawn_of states samples state all has) lines.counts
  | inr none ↦ elim (cases_Bool (has_cells state samples')) [
    | inl has' ↦
        let there = is_drawn_of states' samples' state all' has' in
        let here : is_drawn state (drawn_up_to samples (states - 1)) ≡ true = subst (λ drawn. is_drawn state drawn ≡ true) (sym lines.states) there in
        alike_at samples samples' state (drawn_up_to samples (states - 1)) here lines.counts
    | inr none' ↦ all_none state samples none ∙ ap (map (λ g. 0)) generations ∙ sym (all_none state samples' none')
  ]
]

-- ---- the whole

generations_then : (samples : List SampleValue) (rest : List ℕ) → generation_line samples ++ rest
    ≡ codes "<polyline class=\"generations\" points=\"" ++ (points_text 0 samples ++ 34 ∷ (47 ∷ 62 ∷ 10 ∷ rest))
generations_then samples rest = regroup (codes "<polyline class=\"generations\" points=\"") (points_text 0 samples) (codes "\"/>\n") rest where
  regroup : (a b c rest : List ℕ) → a ++ b ++ c ++ rest ≡ a ++ (b ++ (c ++ rest))
  regroup a b c rest = simp append_assoc

-- what is behind the numbers
after_lines : ℕ → List SampleValue → List ℕ
after_lines states samples =
    codes "g>\n</defs>\n" ++ (curves states (axes_of samples) samples ++ (generation_ticks (generation_axis samples) ++ (count_ticks (count_axis samples) ++ codes "</svg>\n")))

chart_then : (states : ℕ) (samples : List SampleValue) → chart_text states samples
    ≡ chart_begin ++ (numbers_begin ++ (generation_line samples ++ (lines_text samples (drawn_up_to samples (states - 1)) ++ ended (after_lines states samples))))
unfolding ended after_lines
chart_then states samples =
    regroup chart_begin numbers_begin (generation_line samples) (texts_below (states - 1) (λ n. state_line samples (n + 1))) numbers_end
    (curves states (axes_of samples) samples) (generation_ticks (generation_axis samples)) (count_ticks (count_axis samples)) (codes "</svg>\n")
    ∙ ap (λ lines. chart_begin ++ (numbers_begin ++ (generation_line samples ++ (lines ++ (numbers_end ++ (curves states (axes_of samples) samples ++ (generation_ticks (generation_axis samples) ++ (count_ticks (count_axis samples) ++ codes "</svg>\n")))))))) (sym (lines_are samples (states - 1))) where
      regroup : (a b c d e f g h k : List ℕ) → a ++ (b ++ c ++ d ++ e) ++ f ++ g ++ h ++ k ≡ a ++ (b ++ (c ++ (d ++ (e ++ (f ++ (g ++ (h ++ k)))))))
      regroup a b c d e f g h k = simp append_assoc

pub has_one_reading : HasOneReading
has_one_reading states states' samples samples' few few' all all' e =
    let whole = append_cancel_left chart_begin _ _ (sym (chart_then states samples) ∙ e ∙ chart_then states' samples') in
    let told = append_cancel_left numbers_begin _ _ whole in
    let axis = append_cancel_left (codes "<polyline class=\"generations\" points=\"") _ _ (sym (generations_then samples _) ∙ told ∙ generations_then samples' _) in
    let points = same_points 0 0 samples samples' _ _ (points_fit states 0 samples all) (points_fit states' 0 samples' all') axis in
    let behind = tails _ _ _ _ (tails _ _ _ _ (tails _ _ _ _ points.behind)) in
    let lines = same_lines samples samples' (drawn_up_to samples (states - 1)) (drawn_up_to samples' (states' - 1)) (after_lines states samples) (after_lines states' samples')
    (all_small samples (states - 1) (omega arith)) (all_small samples' (states' - 1) (omega arith)) (λ s. points_fit states s samples all) (λ s. points_fit states' s samples' all') behind in
    (points.generations, λ state. same_counts states states' samples samples' state all all' points.generations lines)
