-- Cells in their bounding box.
use Rattle.std.proofs.Common.{◌≡◌, ℕ, ◌+◌, ◌≤◌, ◌<◌, Bool, true, false, List, [], ◌∷◌, ◌++◌, refl, sym, ap, arith, subst, map, ℤ, pos, ◌≤ℤ◌, ◌<ℤ◌, ◌-ℤ◌, eq-eqb}
use Rattle.std.specs.Prelude.{◌==◌, ◌&&◌, ◌||◌, not, nat_lt, nat_le, int_lt, nat_abs, if◌then◌else◌, filter, decimal, ⊤, cond}
use Rattle.std.specs.Ordering.{int_eq}
use Rattle.std.specs.Int.{int_min, int_max}
use Rattle.std.specs.List.{list_all}
use Rattle.std.proofs.lemmas.List.{length-map}
use Rattle.std.proofs.lemmas.Int.{ints, int_min_is, int_max_is}
use Rattle.std.proofs.lemmas.Bool.Decides.{nat_tests, Decides-int_eq}
use Rattle.std.proofs.lemmas.Bool.{eqb-true}
use Rattle.std.specs.Int.Signed.{lt_z_yes, pos-nat_abs, yes_non_neg}
use Rattle.std.proofs.Math.Dec.{T}
use Rattle.generations_rule.specs.Rule.{GenerationsRule, IsRule, has}
use Rattle.generations_rule.specs.RuleText.{text_of, text_of_set, slash, glyph, counts}
use Rattle.text_scan.specs.Bytes.{ends_line}
use Rattle.multistate_rle.specs.Laws.{ReadsBack}
use Rattle.multistate_rle.proofs.HeadLaws.{both_pass, digits_pass, digit_no_end, printed}
use Rattle.multistate_rle.proofs.TextBackLaws.{text_back}
use Rattle.pattern_cells.specs.declared.cell.Cell.{Cell}
use Rattle.pattern_cells.specs.Cells.{is_sorted, are_nonzero, are_states_below}
use Rattle.pattern_cells.specs.Pattern.{precedes, are_sorted, are_alive, are_within}
use Rattle.multistate_rle.specs.Bounds.{least_coordinate, greatest_coordinate, span_of, bounds_of, seen_from, in_box}
use Rattle.multistate_rle.proofs.PatternLaws.{and_parts}

-- each cell's coordinate lies between the two
pub AllBetween : (Cell → ℤ) → ℤ → ℤ → List Cell → Type 0
AllBetween f low high [] = ⊤
AllBetween f low high (c ∷ cells) = (low ≤ℤ f c) × ((f c ≤ℤ high) × AllBetween f low high cells)

min_left : (a b : ℤ) → int_min a b ≤ℤ a
min_left a b = omega (arith, ints, int_min_is a b)

min_right : (a b : ℤ) → int_min a b ≤ℤ b
min_right a b = omega (arith, ints, int_min_is a b)

max_left : (a b : ℤ) → a ≤ℤ int_max a b
max_left a b = omega (arith, ints, int_max_is a b)

max_right : (a b : ℤ) → b ≤ℤ int_max a b
max_right a b = omega (arith, ints, int_max_is a b)

least_first : (f : Cell → ℤ) (a : ℤ) (cells : List Cell) → least_coordinate f a cells ≤ℤ a
least_first f a [] = omega (arith, ints)
least_first f a (c ∷ cells) = let next = least_first f (int_min a (f c)) cells in let left = min_left a (f c) in omega (arith, ints, next, left)

greatest_first : (f : Cell → ℤ) (a : ℤ) (cells : List Cell) → a ≤ℤ greatest_coordinate f a cells
greatest_first f a [] = omega (arith, ints)
greatest_first f a (c ∷ cells) = let next = greatest_first f (int_max a (f c)) cells in let left = max_left a (f c) in omega (arith, ints, next, left)

between : (f : Cell → ℤ) (a b low high : ℤ) (cells : List Cell) → low ≤ℤ least_coordinate f a cells → greatest_coordinate f b cells ≤ℤ high → AllBetween f low high cells
unfolding AllBetween
between f a b low high [] le ge = tt
between f a b low high (c ∷ cells) le ge =
    let first = least_first f (int_min a (f c)) cells in
    let last = greatest_first f (int_max b (f c)) cells in
    let right = min_right a (f c) in
    let more = max_right b (f c) in
    (omega (arith, ints, le, first, right), (omega (arith, ints, ge, last, more), between f (int_min a (f c)) (int_max b (f c)) low high cells le ge))

round : (f : Cell → ℤ) (c : Cell) (cells : List Cell) → AllBetween f (least_coordinate f (f c) cells) (greatest_coordinate f (f c) cells) (c ∷ cells)
unfolding AllBetween
round f c cells =
    let low = least_first f (f c) cells in
    let high = greatest_first f (f c) cells in
    (low, (high, between f (f c) (f c) (least_coordinate f (f c) cells) (greatest_coordinate f (f c) cells) cells (omega (arith, ints)) (omega (arith, ints))))

-- ---- in the box

abs_is : (x a : ℤ) → x ≤ℤ a → pos (nat_abs (a -ℤ x)) ≡ a -ℤ x
abs_is x a le = pos-nat_abs (a -ℤ x) (yes_non_neg (omega (arith, ints)))

abs_below : (x a far : ℤ) → x ≤ℤ a → a ≤ℤ far → nat_abs (a -ℤ x) ≤ nat_abs (far -ℤ x)
abs_below x a far le ge =
    let near = abs_is x a le in
    let all = abs_is x far (omega (arith, ints)) in
    omega (arith, ints, near, all)

abs_less : (x a b : ℤ) → x ≤ℤ a → a <ℤ b → nat_abs (a -ℤ x) < nat_abs (b -ℤ x)
abs_less x a b le lt =
    let near = abs_is x a le in
    let all = abs_is x b (omega (arith, ints)) in
    omega (arith, ints, near, all)

less_is : (a b : ℤ) → int_lt a b ≡ true → a <ℤ b
less_is a b h = lt_z_yes (subst T (sym h) tt)

seen_within : (x y far low : ℤ) (cells : List Cell) → AllBetween (λ c. c.x) x far cells → AllBetween (λ c. c.y) y low cells →
    are_within (span_of x far) (span_of y low) (map (seen_from x y) cells) ≡ true
unfolding AllBetween
seen_within x y far low [] columns rows = refl
seen_within x y far low (c ∷ cells) columns rows =
    let right = abs_below x c.x far columns.0 columns.1.0 in
    let down = abs_below y c.y low rows.0 rows.1.0 in
    let column : nat_lt (nat_abs (c.x -ℤ x)) (nat_abs (far -ℤ x) + 1) ≡ true = grind (arith, nat_tests, right) in
    let row : nat_lt (nat_abs (c.y -ℤ y)) (nat_abs (low -ℤ y) + 1) ≡ true = grind (arith, nat_tests, down) in
    rw (column, row, seen_within x y far low cells columns.1.1 rows.1.1) refl

seen_alive : (x y : ℤ) (cells : List Cell) → are_nonzero cells ≡ true → are_alive (map (seen_from x y) cells) ≡ true
seen_alive x y [] alive = refl
seen_alive x y (c ∷ cells) alive =
    let parts = and_parts (not (c.state == 0)) (are_nonzero cells) alive in
    rw (parts.0, seen_alive x y cells parts.1) refl

or-true : (b : Bool) → (b || true) ≡ true
or-true true = refl
or-true false = refl

or_right : (a b : Bool) → a ≡ false → (a || b) ≡ true → b ≡ true
or_right true b e h = absurd (cc)
or_right false b e h = h

seen_order : (x y : ℤ) (a b : Cell) (below : Bool) → x ≤ℤ a.x → y ≤ℤ a.y → int_lt a.y b.y ≡ below →
    (int_lt a.y b.y || (int_eq a.y b.y && int_lt a.x b.x)) ≡ true → precedes (seen_from x y a) (seen_from x y b) ≡ true
seen_order x y a b true ax ay e before =
    let less = abs_less y a.y b.y ay (less_is a.y b.y e) in
    let row : nat_lt (nat_abs (a.y -ℤ y)) (nat_abs (b.y -ℤ y)) ≡ true = grind (arith, nat_tests, less) in
    rw row refl
seen_order x y a b false ax ay e before =
    let both : (int_eq a.y b.y && int_lt a.x b.x) ≡ true = or_right (int_lt a.y b.y) (int_eq a.y b.y && int_lt a.x b.x) e before in
    let parts = and_parts (int_eq a.y b.y) (int_lt a.x b.x) both in
    let same : a.y ≡ b.y = (Decides-int_eq a.y b.y).0 parts.0 in
    let less = abs_less x a.x b.x ax (less_is a.x b.x parts.1) in
    let row : (nat_abs (a.y -ℤ y) == nat_abs (b.y -ℤ y)) ≡ true = eq-eqb _ _ (ap (λ z. nat_abs (z -ℤ y)) same) in
    let column : nat_lt (nat_abs (a.x -ℤ x)) (nat_abs (b.x -ℤ x)) ≡ true = grind (arith, nat_tests, less) in
    rw (row, column) (or-true (nat_lt (nat_abs (a.y -ℤ y)) (nat_abs (b.y -ℤ y))))

seen_sorted : (x y far low : ℤ) (cells : List Cell) → AllBetween (λ c. c.x) x far cells → AllBetween (λ c. c.y) y low cells → is_sorted cells ≡ true →
    are_sorted (map (seen_from x y) cells) ≡ true
unfolding AllBetween
seen_sorted x y far low [] columns rows sorted = refl
seen_sorted x y far low (a ∷ []) columns rows sorted = refl
seen_sorted x y far low (a ∷ b ∷ cells) columns rows sorted =
    let parts = and_parts (int_lt a.y b.y || (int_eq a.y b.y && int_lt a.x b.x)) (is_sorted (b ∷ cells)) sorted in
    rw (seen_order x y a b (int_lt a.y b.y) columns.0 rows.0 refl parts.0, seen_sorted x y far low (b ∷ cells) columns.1.1 rows.1.1 parts.1) refl

state_below : (two : Bool) (states s : ℕ) → (states == 2) ≡ two → states ≤ 256 → nat_lt s states ≡ true → nat_le s (if two then 1 else 255) ≡ true
state_below true states s e most lt = let is : states ≡ 2 = eqb-true states 2 e in grind (arith, nat_tests, is)
state_below false states s e most lt = grind (arith, nat_tests)

seen_states : (two : Bool) (states : ℕ) (x y : ℤ) (cells : List Cell) → (states == 2) ≡ two → states ≤ 256 → are_states_below states cells ≡ true →
    list_all (λ cell. nat_le cell.state (if two then 1 else 255)) (map (seen_from x y) cells) ≡ true
seen_states two states x y [] e most below = refl
seen_states two states x y (c ∷ cells) e most below =
    let parts = and_parts (nat_lt c.state states) (are_states_below states cells) below in
    rw (state_below two states c.state e most parts.0, seen_states two states x y cells e most parts.1) refl

-- ---- the rule's text

kept_pass_if : (kept : Bool) (p : ℕ → Bool) (q : ℕ → Bool) (n : ℕ) (ns : List ℕ) → (p (glyph n) ≡ true) → list_all p (map glyph (filter q ns)) ≡ true →
    list_all p (map glyph (cond kept (n ∷ filter q ns) (filter q ns))) ≡ true
kept_pass_if true p q n ns first rest = rw (first, rest) refl
kept_pass_if false p q n ns first rest = rest

kept_pass : (p : ℕ → Bool) (q : ℕ → Bool) (ns : List ℕ) → list_all (λ n. p (glyph n)) ns ≡ true → list_all p (map glyph (filter q ns)) ≡ true
kept_pass p q [] all = refl
kept_pass p q (n ∷ ns) all =
    let parts = and_parts (p (glyph n)) (list_all (λ n. p (glyph n)) ns) all in
    kept_pass_if (q n) p q n ns parts.0 (kept_pass p q ns parts.1)

set_ends : (set : List Bool) → list_all (λ c. not (ends_line c)) (text_of_set set) ≡ true
unfolding text_of_set
set_ends set = kept_pass (λ c. not (ends_line c)) (has set) counts refl

rule_ends : (r : GenerationsRule) → IsRule r → list_all (λ c. not (ends_line c)) (text_of r) ≡ true
rule_ends r is =
    both_pass (λ c. not (ends_line c)) (text_of_set r.survival ++ slash ∷ [] ++ text_of_set r.birth ++ slash ∷ []) (decimal r.states)
    (both_pass (λ c. not (ends_line c)) (text_of_set r.survival ++ slash ∷ [] ++ text_of_set r.birth) (slash ∷ [])
    (both_pass (λ c. not (ends_line c)) (text_of_set r.survival ++ slash ∷ []) (text_of_set r.birth)
    (both_pass (λ c. not (ends_line c)) (text_of_set r.survival) (slash ∷ []) (set_ends r.survival) refl) (set_ends r.birth)) refl)
    (digits_pass (λ c. not (ends_line c)) digit_no_end (decimal r.states) (printed r.states (omega (arith, is.most))).digits)

-- ---- what is written is read back

pub reads_back : ReadsBack
reads_back r g [] rule small fx fy sorted alive below few wide high =
    text_back (text_of r) g (bounds_of []) (r.states == 2) [] fx fy small (omega arith) (omega arith) (rule_ends r rule) refl refl refl (omega arith) refl
reads_back r g (c ∷ cells) rule small fx fy sorted alive below few wide high =
    let all : List Cell = c ∷ cells in
    let b = bounds_of (c ∷ cells) in
    let columns = round (λ d. d.x) c cells in
    let rows = round (λ d. d.y) c cells in
    let far = greatest_coordinate (λ d. d.x) c.x cells in
    let low = greatest_coordinate (λ d. d.y) c.y cells in
    text_back (text_of r) g b (r.states == 2) (in_box b (c ∷ cells)) fx fy small (omega (arith, wide)) (omega (arith, high)) (rule_ends r rule)
    (seen_sorted b.x b.y far low (c ∷ cells) columns rows sorted) (seen_alive b.x b.y (c ∷ cells) alive)
    (seen_within b.x b.y far low (c ∷ cells) columns rows)
    (omega (arith, length-map (c ∷ cells) (seen_from b.x b.y), few))
    (seen_states (r.states == 2) r.states b.x b.y (c ∷ cells) refl rule.most below)
