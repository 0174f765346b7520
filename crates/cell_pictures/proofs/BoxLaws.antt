-- Two SVGs with the same text show the same window, and the same state at each of its places.
use Rattle.std.proofs.Common.{◌≡◌, inl, inr, ℕ, zero, suc, ◌+◌, ◌-◌, ◌<◌, ◌≤◌, ◌^◌, Bool, true, false, List, [], ◌∷◌, ◌++◌, map, length, refl, sym, ap, subst, ◌∙◌, arith, ℤ, pos, negsuc, ◌+ℤ◌, ◌≤ℤ◌, ◌<ℤ◌, append_assoc, append-nil}
use Rattle.std.specs.Prelude.{◌==◌, int_le, not, nat_le, nat_lt, if◌then◌else◌, codes, decimal, Option, Some, None, option_map, find, unwrap_or, ⊤}
use Rattle.std.specs.List.{list_any}
use Rattle.std.specs.Option.{option_or}
use Rattle.std.specs.Fmt.{signed_decimal}
use Rattle.std.specs.Int.Signed.{mag}
use Rattle.std.proofs.lemmas.Bool.{cases_Bool, and_parts, eqb-true, eqb-false}
use Rattle.std.proofs.lemmas.Bool.Decides.{nat_tests}
use Rattle.std.proofs.lemmas.Int.{ints}
use Rattle.std.proofs.lemmas.List.{append_cancel_left}
use Rattle.std.proofs.lemmas.List.Folds.{find-append}
use Rattle.generations_rule.specs.Place.{Place, is_place}
use Rattle.pattern_cells.specs.declared.cell.Cell.{Cell}
use Rattle.pattern_cells.specs.Cells.{are_nonzero, are_states_below, is_sorted, place_of}
use Rattle.edit_stamps.specs.Edit.{listed}
use Rattle.edit_stamps.specs.Plane.{is_coordinate}
use Rattle.edit_stamps.proofs.PlaceOrder.{one_place}
use Rattle.edit_stamps.proofs.SortedCells.{listed_behind, sorted_tail}
use Rattle.cell_pictures.specs.Laws.{HasOneBox, IsPictured}
use Rattle.cell_pictures.specs.Runs.{RunValue, cells_of_state, is_behind, is_seen, longer, places_of, run_at, runs_behind, runs_in, runs_of}
use Rattle.cell_pictures.specs.Shown.{texts_below}
use Rattle.cell_pictures.specs.Svg.{ground, outline, path_begin, path_end, path_text, state_path, svg_begin, svg_end, svg_text}
use Rattle.cell_pictures.specs.Window.{WindowValue, is_on_side, is_shown, is_window}
use Rattle.cell_pictures.proofs.RunLaws.{places_in}
use Rattle.cell_pictures.proofs.TextLaws.{FitsText, blank_stops, next_number, next_signed, same_outline, tails}
use Rattle.cell_pictures.proofs.SvgLaws.{AllFit, PathValue, PathsFit, paths_text, same_begin, same_paths, whole_path}

-- ---- the paths of the states up to a number

one_path : ℕ → List RunValue → List PathValue
one_path state [] = []
one_path state (r ∷ runs) = record { state = state; runs = r ∷ runs } ∷ []

runs_seen : WindowValue → List Cell → ℕ → List RunValue
runs_seen w cells state = runs_of (cells_of_state w state cells)

paths_up_to : WindowValue → List Cell → ℕ → List PathValue
paths_up_to w cells zero = []
paths_up_to w cells (suc n) = paths_up_to w cells n ++ one_path (n + 1) (runs_seen w cells (n + 1))

paths_text-append : (states : ℕ) (ps qs : List PathValue) → paths_text states (ps ++ qs) ≡ paths_text states ps ++ paths_text states qs
unfolding paths_text
paths_text-append states [] qs = refl
paths_text-append states (p ∷ ps) qs =
    ap (λ rest. whole_path states p ++ rest) (paths_text-append states ps qs) ∙ sym (append_assoc (whole_path states p) (paths_text states ps) (paths_text states qs))

one_path_text : (states state : ℕ) (runs : List RunValue) → paths_text states (one_path state runs) ≡ path_text states state runs
unfolding paths_text one_path whole_path
one_path_text states state [] = refl
one_path_text states state (r ∷ runs) = append-nil _

paths_are : (states : ℕ) (w : WindowValue) (cells : List Cell) (n : ℕ) → paths_text states (paths_up_to w cells n) ≡ texts_below n (λ n. state_path states cells w (n + 1))
unfolding paths_up_to paths_text runs_seen
paths_are states w cells zero = refl
paths_are states w cells (suc n) =
    paths_text-append states (paths_up_to w cells n) (one_path (n + 1) (runs_seen w cells (n + 1)))
    ∙ (λ i. paths_are states w cells n i ++ one_path_text states (n + 1) (runs_seen w cells (n + 1)) i)

-- ---- what they show

has_place : Place → List Place → Bool
has_place c places = list_any (λ d. is_place d c) places

-- the state of the first path that has a place
drawn_in : List PathValue → Place → Option ℕ
drawn_in paths c = option_map (λ p. p.state) (find (λ p. has_place c (places_of p.runs)) paths)

or_map : (o p : Option PathValue) → option_map (λ (p : PathValue). p.state) (option_or o p) ≡ option_or (option_map (λ p. p.state) o) (option_map (λ p. p.state) p)
or_map None p = refl
or_map (Some q) p = refl

drawn-append : (ps qs : List PathValue) (c : Place) → drawn_in (ps ++ qs) c ≡ option_or (drawn_in ps c) (drawn_in qs c)
unfolding drawn_in
drawn-append ps qs c =
    ap (λ o. option_map (λ p. p.state) o) (find-append (λ p. has_place c (places_of p.runs)) ps qs)
    ∙ or_map (find (λ p. has_place c (places_of p.runs)) ps) (find (λ p. has_place c (places_of p.runs)) qs)

one_drawn_at : (has : Bool) (state : ℕ) (runs : List RunValue) (c : Place) → has_place c (places_of runs) ≡ has → drawn_in (one_path state runs) c ≡ (if has then Some state else None)
unfolding drawn_in one_path has_place
one_drawn_at true state [] c h = absurd (cc)
one_drawn_at false state [] c h = refl
one_drawn_at true state (r ∷ runs) c h = rw h refl
one_drawn_at false state (r ∷ runs) c h = rw h refl

-- a state that is listed is this one
is_listed_as : Option ℕ → ℕ → Bool
is_listed_as None state = false
is_listed_as (Some t) state = t == state

seen_is : (w : WindowValue) (state : ℕ) (a : Cell) (c : Place) → is_place (place_of a) c ≡ true → is_shown w c ≡ true → is_seen w state a ≡ (a.state == state)
seen_is w state a c here shown = elim (cases_Bool (a.state == state)) [
  | inl same ↦ rw same (ap (λ d. is_shown w d) (one_place (place_of a) c here) ∙ shown)
  | inr other ↦ rw other refl
]

has_is : (w : WindowValue) (state : ℕ) (cells : List Cell) (c : Place) → is_sorted cells ≡ true → is_shown w c ≡ true →
    has_place c (map place_of (cells_of_state w state cells)) ≡ is_listed_as (listed cells c) state
unfolding has_place is_listed_as
has_is w state [] c sorted shown = refl
has_is w state (a ∷ cells) c sorted shown =
    let rest = has_is w state cells c (sorted_tail a cells sorted) shown in
    elim (cases_Bool (is_place (place_of a) c)) [
      | inl here ↦ elim (cases_Bool (a.state == state)) [
        | inl same ↦ rw (seen_is w state a c here shown ∙ same, here) (sym same)
        | inr other ↦ rw (seen_is w state a c here shown ∙ other, here) (rest ∙ ap (λ o. is_listed_as o state) (listed_behind a cells c sorted here) ∙ sym other)
      ]
      | inr there ↦ elim (cases_Bool (is_seen w state a)) [
        | inl seen ↦ rw (seen, there) rest
        | inr unseen ↦ rw (unseen, there) rest
      ]
    ]

-- ---- all of them show what is listed

-- what is listed, if its state is at most n
up_to : ℕ → Option ℕ → Option ℕ
up_to n None = None
up_to n (Some t) = if nat_le t n then Some t else None

one_more_at : (low this : Bool) (n t : ℕ) → nat_le t n ≡ low → (t == n + 1) ≡ this →
    option_or (if low then Some t else None) (if this then Some (n + 1) else None) ≡ (if nat_le t (suc n) then Some t else None)
one_more_at true this n t le is =
    let more : nat_le t (suc n) ≡ true = grind (arith, nat_tests) in
    rw more refl
one_more_at false true n t le is =
    let same : t ≡ n + 1 = eqb-true t (n + 1) is in
    let more : nat_le t (suc n) ≡ true = grind (arith, nat_tests) in
    rw more (ap (λ k. Some k) (sym same))
one_more_at false false n t le is =
    let other = eqb-false t (n + 1) is in
    let above : nat_le t (suc n) ≡ false = grind (arith, nat_tests, other) in
    rw above refl

one_more : (n : ℕ) (o : Option ℕ) → option_or (up_to n o) (if is_listed_as o (n + 1) then Some (n + 1) else None) ≡ up_to (suc n) o
unfolding up_to is_listed_as
one_more n None = refl
one_more n (Some t) = one_more_at (nat_le t n) (t == n + 1) n t refl refl

none_at_0 : (o : Option ℕ) → is_listed_as o 0 ≡ false → None ≡ up_to 0 o
unfolding up_to is_listed_as
none_at_0 None h = refl
none_at_0 (Some t) h =
    let other = eqb-false t 0 h in
    let above : nat_le t 0 ≡ false = grind (arith, nat_tests, other) in
    rw above refl

nothing : (c : Place) → drawn_in [] c ≡ None
unfolding drawn_in
nothing c = refl

drawn_up_to : (w : WindowValue) (cells : List Cell) (n : ℕ) (c : Place) → is_sorted cells ≡ true → is_shown w c ≡ true → is_listed_as (listed cells c) 0 ≡ false →
    drawn_in (paths_up_to w cells n) c ≡ up_to n (listed cells c)
unfolding paths_up_to runs_seen
drawn_up_to w cells zero c sorted shown alive = nothing c ∙ none_at_0 (listed cells c) alive
drawn_up_to w cells (suc n) c sorted shown alive =
    let has : has_place c (places_of (runs_of (cells_of_state w (n + 1) cells))) ≡ is_listed_as (listed cells c) (n + 1) =
    ap (has_place c) (places_in (map place_of (cells_of_state w (n + 1) cells))) ∙ has_is w (n + 1) cells c sorted shown in
    drawn-append (paths_up_to w cells n) (one_path (n + 1) (runs_of (cells_of_state w (n + 1) cells))) c
    ∙ (λ i. option_or (drawn_up_to w cells n c sorted shown alive i) (one_drawn_at (is_listed_as (listed cells c) (n + 1)) (n + 1) (runs_of (cells_of_state w (n + 1) cells)) c has i))
    ∙ one_more n (listed cells c)

-- no dead cell is listed, and none whose state the rule has not
alive : (cells : List Cell) (c : Place) → are_nonzero cells ≡ true → is_listed_as (listed cells c) 0 ≡ false
unfolding is_listed_as
alive [] c all = refl
alive (a ∷ cells) c all =
    let parts = and_parts (not (a.state == 0)) (are_nonzero cells) all in
    elim (cases_Bool (is_place (place_of a) c)) [
      | inl here ↦ rw here (grind (arith, nat_tests, parts.0))
      | inr there ↦ rw there (alive cells c parts.1)
    ]

all_up_to : (n : ℕ) (cells : List Cell) (c : Place) → are_states_below (n + 1) cells ≡ true → up_to n (listed cells c) ≡ listed cells c
unfolding up_to
all_up_to n [] c all = refl
all_up_to n (a ∷ cells) c all =
    let parts = and_parts (nat_lt a.state (n + 1)) (are_states_below (n + 1) cells) all in
    elim (cases_Bool (is_place (place_of a) c)) [
      | inl here ↦
          let le : nat_le a.state n ≡ true = grind (arith, nat_tests, parts.0) in
          rw (here, le) refl
      | inr there ↦ rw there (all_up_to n cells c parts.1)
    ]

-- ---- all numbers are written with all their digits

between : (z : ℤ) → negsuc (2 ^ 31 - 1) ≤ℤ z → z <ℤ pos (2 ^ 31) → mag z < 2 ^ 63
between (pos n) low high = omega (arith, ints)
between (negsuc n) low high = omega (arith, ints)

corner_fits : (z : ℤ) → is_coordinate z ≡ true → mag z < 2 ^ 63
corner_fits z is = between z (grind (arith, ints)) (grind (arith, ints))

on_side_fits : (start z : ℤ) (side : ℕ) → is_coordinate start ≡ true → int_le (start +ℤ pos side) (pos (2 ^ 31)) ≡ true → is_on_side start side z ≡ true → mag z < 2 ^ 63
on_side_fits start z side is ends on = between z (grind (arith, ints)) (grind (arith, ints))

PlacesFit : List Place → Type 0
PlacesFit [] = ⊤
PlacesFit (c ∷ places) = (mag c.x < 2 ^ 63) × (mag c.y < 2 ^ 63) × PlacesFit places

seen_fit : (w : WindowValue) (state : ℕ) (cells : List Cell) → is_coordinate w.x ≡ true → is_coordinate w.y ≡ true → is_window w ≡ true →
    PlacesFit (map place_of (cells_of_state w state cells))
unfolding PlacesFit
seen_fit w state [] left top is = tt
seen_fit w state (a ∷ cells) left top is = elim (cases_Bool (is_seen w state a)) [
  | inl seen ↦
      let ends = and_parts (int_le (w.x +ℤ pos w.width) (pos (2 ^ 31))) (int_le (w.y +ℤ pos w.height) (pos (2 ^ 31))) is in
      let shown = and_parts (a.state == state) (is_shown w (place_of a)) seen in
      let sides = and_parts (is_on_side w.x w.width a.x) (is_on_side w.y w.height a.y) shown.1 in
      rw seen (on_side_fits w.x a.x w.width left ends.0 sides.0, on_side_fits w.y a.y w.height top ends.1 sides.1, seen_fit w state cells left top is)
  | inr unseen ↦ rw unseen (seen_fit w state cells left top is)
]

seen_few : (w : WindowValue) (state : ℕ) (cells : List Cell) → length (map place_of (cells_of_state w state cells)) ≤ length cells
seen_few w state [] = omega arith
seen_few w state (a ∷ cells) = elim (cases_Bool (is_seen w state a)) [
  | inl seen ↦ rw seen (let rest = seen_few w state cells in omega arith)
  | inr unseen ↦ rw unseen (let rest = seen_few w state cells in omega arith)
]

behind_fit : (r : RunValue) (places : List Place) → mag r.x < 2 ^ 63 → mag r.y < 2 ^ 63 → r.length + length places < 2 ^ 63 + 1 → PlacesFit places → AllFit (runs_behind r places)
unfolding PlacesFit AllFit
behind_fit r [] x y few fits = (record { left = x; top = y; wide = omega arith; high = omega arith }, tt)
behind_fit r (c ∷ places) x y few fits = elim (cases_Bool (is_behind r c)) [
  | inl behind ↦ rw behind (behind_fit (longer r) places x y (omega arith) fits.2)
  | inr apart ↦ rw apart (record { left = x; top = y; wide = omega arith; high = omega arith }, behind_fit (run_at c) places fits.0 fits.1 (omega arith) fits.2)
]

runs_fit : (places : List Place) → length places < 2 ^ 63 → PlacesFit places → AllFit (runs_in places)
unfolding PlacesFit AllFit
runs_fit [] few fits = tt
runs_fit (c ∷ places) few fits = behind_fit (run_at c) places fits.0 fits.1 (omega arith) fits.2

fit-append : (ps qs : List PathValue) → PathsFit ps → PathsFit qs → PathsFit (ps ++ qs)
unfolding PathsFit
fit-append [] qs p q = q
fit-append (x ∷ ps) qs p q = (p.0, p.1, fit-append ps qs p.2 q)

one_fits : (state : ℕ) (runs : List RunValue) → state < 2 ^ 64 → AllFit runs → PathsFit (one_path state runs)
unfolding PathsFit one_path
one_fits state [] small fits = tt
one_fits state (r ∷ runs) small fits = (small, fits, tt)

paths_fit : (states : ℕ) (w : WindowValue) (cells : List Cell) (n : ℕ) → n < 2 ^ 63 → IsPictured states cells w → PathsFit (paths_up_to w cells n)
unfolding paths_up_to runs_seen PathsFit
paths_fit states w cells zero small is = tt
paths_fit states w cells (suc n) small is =
    let few = seen_few w (n + 1) cells in
    let all = is.few in
    fit-append (paths_up_to w cells n) (one_path (n + 1) (runs_of (cells_of_state w (n + 1) cells))) (paths_fit states w cells n (omega arith) is)
    (one_fits (n + 1) (runs_of (cells_of_state w (n + 1) cells)) (omega arith)
    (runs_fit (map place_of (cells_of_state w (n + 1) cells)) (omega (arith, few, all)) (seen_fit w (n + 1) cells is.left is.top is.window)))

-- ---- the whole

regroup : (a b c d e rest : List ℕ) → a ++ b ++ c ++ d ++ e ++ rest ≡ a ++ (b ++ (c ++ (d ++ (e ++ rest))))
regroup a b c d e rest = simp append_assoc

begin_then : (w : WindowValue) (rest : List ℕ) → svg_begin w ++ rest
    ≡ codes "<svg xmlns=\"http://www.w3.org/2000/svg\" viewBox=\"" ++ (signed_decimal w.x ++ 32 ∷ (signed_decimal w.y ++ 32 ∷ (decimal w.width ++ 32 ∷ (decimal w.height ++ 34 ∷ (codes " shape-rendering=\"crispEdges\">\n" ++ rest)))))
begin_then w rest =
    regroup (codes "<svg xmlns=\"http://www.w3.org/2000/svg\" viewBox=\"" ++ signed_decimal w.x) (32 ∷ signed_decimal w.y) (32 ∷ decimal w.width) (32 ∷ decimal w.height) (34 ∷ codes " shape-rendering=\"crispEdges\">\n") rest

side_fits : (start : ℤ) (side : ℕ) → is_coordinate start ≡ true → int_le (start +ℤ pos side) (pos (2 ^ 31)) ≡ true → side < 2 ^ 63
side_fits start side is ends = grind (arith, ints)

same_window : (v w : WindowValue) → v.x ≡ w.x → v.y ≡ w.y → v.width ≡ w.width → v.height ≡ w.height → v ≡ w
same_window v w x y width height = λ i. record { x = x i; y = y i; width = width i; height = height i }

window_fits : (states : ℕ) (cells : List Cell) (w : WindowValue) → IsPictured states cells w → FitsText w.x w.y w.width w.height
window_fits states cells w is =
    let ends = and_parts (int_le (w.x +ℤ pos w.width) (pos (2 ^ 31))) (int_le (w.y +ℤ pos w.height) (pos (2 ^ 31))) is.window in
    let wide = side_fits w.x w.width is.left ends.0 in
    let high = side_fits w.y w.height is.top ends.1 in
    record { left = corner_fits w.x is.left; top = corner_fits w.y is.top; wide = omega arith; high = omega arith }

same_start : (w v : WindowValue) (t u : List ℕ) → FitsText w.x w.y w.width w.height → FitsText v.x v.y v.width v.height → svg_begin w ++ t ≡ svg_begin v ++ u → (w ≡ v) × (t ≡ u)
same_start w v t u fits fits' e =
    let whole = append_cancel_left (codes "<svg xmlns=\"http://www.w3.org/2000/svg\" viewBox=\"") _ _ (sym (begin_then w t) ∙ e ∙ begin_then v u) in
    let left = next_signed w.x v.x 32 32 _ _ fits.left fits'.left blank_stops blank_stops whole in
    let top = next_signed w.y v.y 32 32 _ _ fits.top fits'.top blank_stops blank_stops (tails 32 32 _ _ left.1) in
    let wide = next_number w.width v.width 32 32 _ _ fits.wide fits'.wide refl refl (tails 32 32 _ _ top.1) in
    let high = next_number w.height v.height 34 34 _ _ fits.high fits'.high refl refl (tails 32 32 _ _ wide.1) in
    (same_window w v left.0 top.0 wide.0 high.0, append_cancel_left (codes " shape-rendering=\"crispEdges\">\n") _ _ (tails 34 34 _ _ high.1))

ground_then : (states : ℕ) (w : WindowValue) (rest : List ℕ) → ground states w ++ rest ≡ path_begin states 0 ++ (outline w.x w.y w.width w.height ++ (path_end ++ rest))
ground_then states w rest = grouped (path_begin states 0) (outline w.x w.y w.width w.height) path_end rest where
  grouped : (a b c rest : List ℕ) → a ++ b ++ c ++ rest ≡ a ++ (b ++ (c ++ rest))
  grouped a b c rest = simp append_assoc

same_ground : (states states' : ℕ) (w v : WindowValue) (t u : List ℕ) → FitsText w.x w.y w.width w.height → FitsText v.x v.y v.width v.height → ground states w ++ t ≡ ground states' v ++ u → t ≡ u
same_ground states states' w v t u fits fits' e =
    let begun = same_begin states states' 0 0 _ _ (omega arith) (omega arith) (sym (ground_then states w t) ∙ e ∙ ground_then states' v u) in
    let drawn = same_outline w.x w.y v.x v.y w.width w.height v.width v.height (path_end ++ t) (path_end ++ u) fits fits' begun.1 in
    append_cancel_left path_end t u drawn.behind

-- the paths tell what is listed
listed_by_paths : (states : ℕ) (cells : List Cell) (w : WindowValue) (c : Place) → IsPictured states cells w → is_shown w c ≡ true → drawn_in (paths_up_to w cells (states - 1)) c ≡ listed cells c
listed_by_paths states cells w c is shown =
    let rule = is.rule in
    let some : states - 1 + 1 ≡ states = omega arith in
    drawn_up_to w cells (states - 1) c is.sorted shown (alive cells c is.nonzero)
    ∙ all_up_to (states - 1) cells c (subst (λ n. are_states_below n cells ≡ true) (sym some) is.below)

svg_then : (states : ℕ) (cells : List Cell) (w : WindowValue) → svg_text states cells w ≡ svg_begin w ++ (ground states w ++ (paths_text states (paths_up_to w cells (states - 1)) ++ svg_end))
svg_then states cells w =
    grouped (svg_begin w) (ground states w) (texts_below (states - 1) (λ n. state_path states cells w (n + 1))) svg_end
    ∙ ap (λ paths. svg_begin w ++ (ground states w ++ (paths ++ svg_end))) (sym (paths_are states w cells (states - 1))) where
      grouped : (a b c d : List ℕ) → a ++ b ++ c ++ d ≡ a ++ (b ++ (c ++ d))
      grouped a b c d = simp append_assoc

-- the window, and the paths
record SamePaths (states states' : ℕ) (cells cells' : List Cell) (w w' : WindowValue) : Type 0 where
  window : w ≡ w'
  paths : paths_up_to w cells (states - 1) ≡ paths_up_to w' cells' (states' - 1)

one_text : (states states' : ℕ) (cells cells' : List Cell) (w w' : WindowValue) → IsPictured states cells w → IsPictured states' cells' w' →
    svg_text states cells w ≡ svg_text states' cells' w' → SamePaths states states' cells cells' w w'
one_text states states' cells cells' w w' is is' e =
    let few = is.rule in
    let few' = is'.rule in
    let fits = window_fits states cells w is in
    let fits' = window_fits states' cells' w' is' in
    let start = same_start w w' _ _ fits fits' (sym (svg_then states cells w) ∙ e ∙ svg_then states' cells' w') in
    let body = same_ground states states' w w' _ _ fits fits' start.1 in
    record {
      window = start.0;
      paths = same_paths states states' (paths_up_to w cells (states - 1)) (paths_up_to w' cells' (states' - 1))
          (paths_fit states w cells (states - 1) (omega arith) is) (paths_fit states' w' cells' (states' - 1) (omega arith) is') body;
    }

pub has_one_box : HasOneBox
has_one_box states states' cells cells' w w' is is' e =
    let same = one_text states states' cells cells' w w' is is' e in (
      same.window,
      λ c shown.
          let told : listed cells c ≡ listed cells' c =
          sym (listed_by_paths states cells w c is shown)
          ∙ ap (λ paths. drawn_in paths c) same.paths
          ∙ listed_by_paths states' cells' w' c is' (subst (λ v. is_shown v c ≡ true) same.window shown) in
          ap (λ o. unwrap_or o 0) told,
    )
