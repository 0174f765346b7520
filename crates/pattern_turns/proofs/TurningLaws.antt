-- The cells of a turned pattern are a pattern's, and there is one list of them.
use Rattle.std.proofs.Common.{◌≡◌, ◌⊎◌, inl, inr, ℕ, zero, suc, ◌+◌, ◌-◌, ◌<◌, ◌≤◌, ◌^◌, Bool, true, false, List, [], ◌∷◌, map, refl, sym, ◌∙◌, subst, arith, get_or}
use Rattle.std.specs.Prelude.{◌&&◌, ◌==◌, not, nat_lt, Contains}
use Rattle.std.specs.List.{AllByRecursion, IsDistinct, list_all}
use Rattle.std.specs.List.Sorted.{IsPermutation, IsSortedBy}
use Rattle.std.specs.Ordering.{is_lt, nat_cmp, ordering_then}
use Rattle.std.proofs.lemmas.Bool.{and_parts}
use Rattle.std.proofs.lemmas.List.{length-map}
use Rattle.std.proofs.lemmas.List.Elements.{All-contains, All-from_recursion}
use Rattle.std.proofs.lemmas.List.Sorted.{All-permutation, Contains-permutation, IsPermutation-sym, length_permutation}
use Rattle.std.proofs.lemmas.List.Sums.{AllPass-from_list_all, list_all-from_AllPass}
use Rattle.std.proofs.lemmas.List.Folds.{list_all-map}
use Rattle.std.proofs.lemmas.Map.Keys.{IsDistinct-IsPermutation}
use Rattle.pattern_cells.specs.declared.pattern.PatternCell.{PatternCell}
use Rattle.pattern_cells.specs.Pattern.{RlePattern, IsPattern, are_sorted, are_within, precedes}
use Rattle.pattern_turns.specs.declared.turn.Turn.{Turn}
use Rattle.pattern_turns.specs.declared.turn.Turn.TheVariants.{Left, Right, Half, Mirror, Flip}
use Rattle.pattern_turns.specs.Turning.{IsTurned, turned_cell, turned_height, turned_width}
use Rattle.pattern_turns.specs.Laws.{HasOneTurn}

-- ---- one cell

-- a box has the cell
abbrev is_within : ℕ → ℕ → PatternCell → Bool
is_within width height cell = nat_lt cell.column width && nat_lt cell.row height

abbrev is_alive : PatternCell → Bool
is_alive cell = not (cell.state == 0)

-- two cells stand in one column and row
abbrev is_one_spot : PatternCell → PatternCell → Bool
is_one_spot a b = a.column == b.column && a.row == b.row

pub turned_state : (turn : Turn) (width height : ℕ) (cell : PatternCell) → (turned_cell turn width height cell).state ≡ cell.state
turned_state Left width height cell = refl
turned_state Right width height cell = refl
turned_state Half width height cell = refl
turned_state Mirror width height cell = refl
turned_state Flip width height cell = refl

turned_within : (turn : Turn) (width height : ℕ) (cell : PatternCell) → is_within width height cell ≡ true →
    is_within (turned_width turn width height) (turned_height turn width height) (turned_cell turn width height cell) ≡ true
turned_within Left width height cell h = grind arith
turned_within Right width height cell h = grind arith
turned_within Half width height cell h = grind arith
turned_within Mirror width height cell h = grind arith
turned_within Flip width height cell h = grind arith

-- as far from the last one are only the same
same_from_end : (side m n : ℕ) → m < side → n < side → (side - 1 - m == side - 1 - n) ≡ (m == n)
same_from_end side m n h k = grind arith

and-comm : (x y : Bool) → (x && y) ≡ (y && x)
and-comm true true = refl
and-comm true false = refl
and-comm false true = refl
and-comm false false = refl

pub record IsIn (width height : ℕ) (cell : PatternCell) : Type 0 where
  pub column : cell.column < width
  pub row : cell.row < height

is_in : (width height : ℕ) (cell : PatternCell) → is_within width height cell ≡ true → IsIn width height cell
is_in width height cell h = record { column = grind arith; row = grind arith }

turned_spots : (turn : Turn) (width height : ℕ) (a b : PatternCell) → IsIn width height a → IsIn width height b →
    is_one_spot (turned_cell turn width height a) (turned_cell turn width height b) ≡ is_one_spot a b
turned_spots Left width height a b h k = rw (same_from_end width a.column b.column h.column k.column) (and-comm (a.row == b.row) (a.column == b.column))
turned_spots Right width height a b h k = rw (same_from_end height a.row b.row h.row k.row) (and-comm (a.row == b.row) (a.column == b.column))
turned_spots Half width height a b h k = rw (same_from_end width a.column b.column h.column k.column, same_from_end height a.row b.row h.row k.row) refl
turned_spots Mirror width height a b h k = rw (same_from_end width a.column b.column h.column k.column) refl
turned_spots Flip width height a b h k = rw (same_from_end height a.row b.row h.row k.row) refl

turned_apart : (turn : Turn) (width height : ℕ) (a b : PatternCell) → is_within width height a ≡ true → is_within width height b ≡ true →
    is_one_spot a b ≡ false → is_one_spot (turned_cell turn width height a) (turned_cell turn width height b) ≡ false
turned_apart turn width height a b h k apart = turned_spots turn width height a b (is_in width height a h) (is_in width height b k) ∙ apart

-- ---- the order

precedes_trans : (a b c : PatternCell) → precedes a b ≡ true → precedes b c ≡ true → precedes a c ≡ true
precedes_trans a b c h k = grind arith

spots_flip : (a b : PatternCell) → is_one_spot a b ≡ is_one_spot b a
spots_flip a b = grind arith

apart_from_precedes : (a b : PatternCell) → precedes a b ≡ true → is_one_spot a b ≡ false
apart_from_precedes a b h = grind arith

-- of two cells at different places of which the second does not precede, the first does
precedes_from_apart : (a b : PatternCell) → precedes b a ≡ false → is_one_spot a b ≡ false → precedes a b ≡ true
precedes_from_apart a b h k = grind arith

sorted_rest : (a : PatternCell) (cells : List PatternCell) → are_sorted (a ∷ cells) ≡ true → are_sorted cells ≡ true
sorted_rest a [] h = refl
sorted_rest a (b ∷ cells) h = (and_parts (precedes a b) (are_sorted (b ∷ cells)) h).1

-- the first cell precedes all the others
first_precedes : (a : PatternCell) (cells : List PatternCell) → are_sorted (a ∷ cells) ≡ true → AllByRecursion (λ b. precedes a b ≡ true) cells
first_precedes a [] h = tt
first_precedes a (b ∷ cells) h =
    let parts = and_parts (precedes a b) (are_sorted (b ∷ cells)) h in
    (parts.0, behind b cells parts.0 (first_precedes b cells parts.1))
  where
    behind : (b : PatternCell) (cells : List PatternCell) → precedes a b ≡ true → AllByRecursion (λ c. precedes b c ≡ true) cells → AllByRecursion (λ c. precedes a c ≡ true) cells
    behind b [] before all = tt
    behind b (c ∷ cells) before all = (precedes_trans a b c before all.0, behind b cells before all.1)

-- ---- distinct places

all_turned_apart : (turn : Turn) (width height : ℕ) (a : PatternCell) (cells : List PatternCell) → is_within width height a ≡ true → are_within width height cells ≡ true →
    AllByRecursion (λ b. precedes a b ≡ true) cells → AllByRecursion (λ b. is_one_spot (turned_cell turn width height a) b ≡ false) (map (turned_cell turn width height) cells)
all_turned_apart turn width height a [] h within all = tt
all_turned_apart turn width height a (b ∷ cells) h within all =
    let parts = and_parts (is_within width height b) (are_within width height cells) within in
    (turned_apart turn width height a b h parts.0 (apart_from_precedes a b all.0), all_turned_apart turn width height a cells h parts.1 all.1)

turned_distinct : (turn : Turn) (width height : ℕ) (cells : List PatternCell) → are_sorted cells ≡ true → are_within width height cells ≡ true →
    IsDistinct is_one_spot (map (turned_cell turn width height) cells)
unfolding IsDistinct
turned_distinct turn width height [] sorted within = tt
turned_distinct turn width height (a ∷ cells) sorted within =
    let parts = and_parts (is_within width height a) (are_within width height cells) within in
    (all_turned_apart turn width height a cells parts.0 parts.1 (first_precedes a cells sorted), turned_distinct turn width height cells (sorted_rest a cells sorted) parts.1)

-- cells at different places that are in order are sorted
strictly_sorted : (cells : List PatternCell) → IsSortedBy precedes cells → IsDistinct is_one_spot cells → are_sorted cells ≡ true
unfolding IsDistinct
strictly_sorted [] sorted distinct = refl
strictly_sorted (a ∷ []) sorted distinct = refl
strictly_sorted (a ∷ b ∷ cells) sorted distinct =
    let first : precedes a b ≡ true = precedes_from_apart a b (sorted 0 a (omega arith) (omega arith)) distinct.0.0 in
    rw first (strictly_sorted (b ∷ cells) (sorted_tail sorted) distinct.1)
  where
    sorted_tail : IsSortedBy precedes (a ∷ b ∷ cells) → IsSortedBy precedes (b ∷ cells)
    sorted_tail sorted k d low high =
        let next : suc k + 1 ≡ suc (k + 1) = omega arith in
        subst (λ n. precedes (get_or (a ∷ b ∷ cells) n d) (get_or (b ∷ cells) k d) ≡ false) next (sorted (suc k) d (omega arith) (omega (arith, high)))

-- the order of a sort by rows and then by columns
by_rows : (a b : PatternCell) → is_lt (ordering_then (nat_cmp a.row b.row) (nat_cmp a.column b.column)) ≡ precedes a b
by_rows a b = grind arith

pub sorted_by_rows : (cells : List PatternCell) → IsSortedBy (λ a b. is_lt (ordering_then (nat_cmp a.row b.row) (nat_cmp a.column b.column))) cells → IsSortedBy precedes cells
sorted_by_rows cells sorted k d low high = sym (by_rows (get_or cells (k + 1) d) (get_or cells k d)) ∙ sorted k d low high

-- ---- the list

all_pass_moved : (p : PatternCell → Bool) (f : PatternCell → PatternCell) (old new : List PatternCell) → IsPermutation (map f old) new → list_all (λ c. p (f c)) old ≡ true → list_all p new ≡ true
all_pass_moved p f old new moved all =
    list_all-from_AllPass p new (All-permutation (λ c. p c ≡ true) (map f old) new moved (AllPass-from_list_all p (map f old) (list_all-map p f old ∙ all)))

all_weaker : (p q : PatternCell → Bool) (cells : List PatternCell) → ((c : PatternCell) → p c ≡ true → q c ≡ true) → list_all p cells ≡ true → list_all q cells ≡ true
all_weaker p q [] so all = refl
all_weaker p q (c ∷ cells) so all =
    let parts = and_parts (p c) (list_all p cells) all in
    rw (so c parts.0) (all_weaker p q cells so parts.1)

-- the new pattern is put together from the old one
pub record ArePartsTurned (turn : Turn) (old new : RlePattern) : Type 0 where
  pub width : new.width ≡ turned_width turn old.width old.height
  pub height : new.height ≡ turned_height turn old.width old.height
  pub pos : new.pos ≡ old.pos
  pub generation : new.generation ≡ old.generation
  pub moved : IsPermutation (map (turned_cell turn old.width old.height) old.cells) new.cells
  pub sorted : IsSortedBy precedes new.cells

-- as the code puts it together, from the old one's sides and cells
pub record ArePartsMade (turn : Turn) (w h : ℕ) (cells : List PatternCell) (new : RlePattern) : Type 0 where
  pub width : new.width ≡ turned_width turn w h
  pub height : new.height ≡ turned_height turn w h
  pub moved : IsPermutation (map (turned_cell turn w h) cells) new.cells
  pub sorted : IsSortedBy precedes new.cells

pub are_parts_turned : (turn : Turn) (old new : RlePattern) (w h : ℕ) (cells : List PatternCell) → w ≡ old.width → h ≡ old.height → cells ≡ old.cells →
    new.pos ≡ old.pos → new.generation ≡ old.generation → ArePartsMade turn w h cells new → ArePartsTurned turn old new
are_parts_turned turn old new w h cells is_width is_height are_cells is_pos is_generation made =
    let made_of : ArePartsMade turn old.width old.height old.cells new = subst (λ n. ArePartsMade turn n old.height old.cells new) is_width
    (subst (λ n. ArePartsMade turn w n old.cells new) is_height (subst (λ xs. ArePartsMade turn w h xs new) are_cells made)) in
    record { width = made_of.width; height = made_of.height; pos = is_pos; generation = is_generation; moved = made_of.moved; sorted = made_of.sorted }

turned_narrow : (turn : Turn) (width height most : ℕ) → width ≤ most → height ≤ most → turned_width turn width height ≤ most
turned_narrow Left width height most h k = k
turned_narrow Right width height most h k = k
turned_narrow Half width height most h k = h
turned_narrow Mirror width height most h k = h
turned_narrow Flip width height most h k = h

turned_low : (turn : Turn) (width height most : ℕ) → width ≤ most → height ≤ most → turned_height turn width height ≤ most
turned_low Left width height most h k = h
turned_low Right width height most h k = h
turned_low Half width height most h k = k
turned_low Mirror width height most h k = k
turned_low Flip width height most h k = k

-- it is a pattern
pub is_pattern : (turn : Turn) (old new : RlePattern) → IsPattern old → ArePartsTurned turn old new → IsPattern new
is_pattern turn old new is are =
    let put = turned_cell turn old.width old.height in
    let width = turned_width turn old.width old.height in
    let height = turned_height turn old.width old.height in
    record {
      alive = all_pass_moved is_alive put old.cells new.cells are.moved (all_weaker is_alive (λ c. is_alive (put c)) old.cells (λ c h. rw (turned_state turn old.width old.height c) h) is.alive);
      sorted = strictly_sorted new.cells are.sorted (IsDistinct-IsPermutation is_one_spot spots_flip (map put old.cells) new.cells are.moved (turned_distinct turn old.width old.height old.cells is.sorted is.within));
      few = (let moved = length_permutation (map put old.cells) new.cells are.moved in let mapped = length-map old.cells put in let few = is.few in omega (arith, moved, mapped, few));
      within = rw (are.width, are.height) (all_pass_moved (is_within width height) put old.cells new.cells are.moved
          (all_weaker (is_within old.width old.height) (λ c. is_within width height (put c)) old.cells (turned_within turn old.width old.height) is.within));
      narrow = rw are.width (turned_narrow turn old.width old.height (2 ^ 32) is.narrow is.low);
      low = rw are.height (turned_low turn old.width old.height (2 ^ 32) is.narrow is.low);
    }

-- ---- which cells there are

contains_cases : (x : PatternCell) (xs : List PatternCell) (c : PatternCell) → Contains (x ∷ xs) c → (x ≡ c) ⊎ Contains xs c
contains_cases x xs c (zero, within, is) = inl is
contains_cases x xs c (suc k, within, is) = inr (k, omega (arith, within), is)

contains_first : (x : PatternCell) (xs : List PatternCell) → Contains (x ∷ xs) x
contains_first x xs = (zero, omega arith, refl)

contains_more : (x : PatternCell) (xs : List PatternCell) (c : PatternCell) → Contains xs c → Contains (x ∷ xs) c
contains_more x xs c (k, within, is) = (suc k, omega (arith, within), is)

contains_none : {A : Type 0} (c : PatternCell) → Contains [] c → A
contains_none c (k, within, is) = absurd (omega (arith, within))

contains-map : (f : PatternCell → PatternCell) (xs : List PatternCell) (c : PatternCell) → Contains xs c → Contains (map f xs) (f c)
contains-map f [] c h = contains_none c h
contains-map f (x ∷ xs) c h = elim (contains_cases x xs c h) [
  | inl is ↦ subst (λ y. Contains (f x ∷ map f xs) (f y)) is (contains_first (f x) (map f xs))
  | inr rest ↦ contains_more (f x) (map f xs) (f c) (contains-map f xs c rest)
]

contained_from_map : (f : PatternCell → PatternCell) (xs : List PatternCell) (c : PatternCell) → Contains (map f xs) c → (from : PatternCell) × Contains xs from × (c ≡ f from)
contained_from_map f [] c h = contains_none c h
contained_from_map f (x ∷ xs) c h = elim (contains_cases (f x) (map f xs) c h) [
  | inl is ↦ (x, contains_first x xs, sym is)
  | inr rest ↦ (let found = contained_from_map f xs c rest in (found.0, contains_more x xs found.0 found.1, found.2))
]

pub is_turned : (turn : Turn) (old new : RlePattern) → ArePartsTurned turn old new → IsTurned turn old new
is_turned turn old new are =
    let put = turned_cell turn old.width old.height in
    record {
      width = are.width;
      height = are.height;
      pos = are.pos;
      generation = are.generation;
      goes = λ c h. Contains-permutation (map put old.cells) new.cells (put c) are.moved (contains-map put old.cells c h);
      comes = λ c h. contained_from_map put old.cells c (Contains-permutation new.cells (map put old.cells) c (IsPermutation-sym (map put old.cells) new.cells are.moved) h);
    }

-- each cell of a pattern lies in its box
pub cell_is_in : (p : RlePattern) (cell : PatternCell) → IsPattern p → Contains p.cells cell → IsIn p.width p.height cell
cell_is_in p cell is h = is_in p.width p.height cell (All-contains (λ c. is_within p.width p.height c ≡ true) p.cells cell (AllPass-from_list_all (is_within p.width p.height) p.cells is.within) h)

-- and is not dead
pub cell_is_alive : (p : RlePattern) (cell : PatternCell) → IsPattern p → Contains p.cells cell → cell.state ≡ 0 → ⊥
cell_is_alive p cell is h dead =
    let alive : is_alive cell ≡ true = All-contains (λ c. is_alive c ≡ true) p.cells cell (AllPass-from_list_all is_alive p.cells is.alive) h in
    grind (arith, alive, dead)

-- ---- a sorted list is told by what is in it

precedes_all : (a : PatternCell) (cells : List PatternCell) (c : PatternCell) → are_sorted (a ∷ cells) ≡ true → Contains cells c → precedes a c ≡ true
precedes_all a cells c sorted h = All-contains (λ b. precedes a b ≡ true) cells c (All-from_recursion (λ b. precedes a b ≡ true) cells (first_precedes a cells sorted)) h

not_both : {A : Type 0} (a b : PatternCell) → precedes a b ≡ true → precedes b a ≡ true → A
not_both a b h k = absurd (grind arith)

-- what is behind the first cell of two lists with one first cell is the same
rest_contains : (x y : PatternCell) (xs ys : List PatternCell) → are_sorted (x ∷ xs) ≡ true → x ≡ y → ((c : PatternCell) → Contains (x ∷ xs) c → Contains (y ∷ ys) c) →
    (c : PatternCell) → Contains xs c → Contains ys c
rest_contains x y xs ys sorted is same c h = elim (contains_cases y ys c (same c (contains_more x xs c h))) [
  | inl first ↦ (let after : precedes x c ≡ true = precedes_all x xs c sorted h in let itself : precedes c c ≡ true = subst (λ z. precedes z c ≡ true) (is ∙ first) after in not_both c c itself itself)
  | inr rest ↦ rest
]

same_first : (x y : PatternCell) (xs ys : List PatternCell) → are_sorted (x ∷ xs) ≡ true → are_sorted (y ∷ ys) ≡ true → Contains (y ∷ ys) x → Contains (x ∷ xs) y → x ≡ y
same_first x y xs ys sorted_x sorted_y in_y in_x = elim (contains_cases y ys x in_y) [
  | inl is ↦ sym is
  | inr behind ↦ elim (contains_cases x xs y in_x) [
    | inl is ↦ is
    | inr behind_too ↦ not_both x y (precedes_all x xs y sorted_x behind_too) (precedes_all y ys x sorted_y behind)
  ]
]

told_by_cells : (xs ys : List PatternCell) → are_sorted xs ≡ true → are_sorted ys ≡ true → ((c : PatternCell) → Contains xs c → Contains ys c) → ((c : PatternCell) → Contains ys c → Contains xs c) → xs ≡ ys
told_by_cells [] [] sorted_x sorted_y to back = refl
told_by_cells [] (y ∷ ys) sorted_x sorted_y to back = contains_none y (back y (contains_first y ys))
told_by_cells (x ∷ xs) [] sorted_x sorted_y to back = contains_none x (to x (contains_first x xs))
told_by_cells (x ∷ xs) (y ∷ ys) sorted_x sorted_y to back =
    let first : x ≡ y = same_first x y xs ys sorted_x sorted_y (to x (contains_first x xs)) (back y (contains_first y ys)) in
    let rest : xs ≡ ys = told_by_cells xs ys (sorted_rest x xs sorted_x) (sorted_rest y ys sorted_y) (rest_contains x y xs ys sorted_x first to) (rest_contains y x ys xs sorted_y (sym first) back) in
    λ i. first i ∷ rest i

turned_contains : (turn : Turn) (old p q : RlePattern) → IsTurned turn old p → IsTurned turn old q → (c : PatternCell) → Contains p.cells c → Contains q.cells c
turned_contains turn old p q is_p is_q c h =
    let found = is_p.comes c h in
    subst (λ d. Contains q.cells d) (sym found.2) (is_q.goes found.0 found.1)

pub has_one_turn : HasOneTurn
has_one_turn turn old p q pattern_p pattern_q is_p is_q =
    let width : p.width ≡ q.width = is_p.width ∙ sym is_q.width in
    let height : p.height ≡ q.height = is_p.height ∙ sym is_q.height in
    let pos : p.pos ≡ q.pos = is_p.pos ∙ sym is_q.pos in
    let generation : p.generation ≡ q.generation = is_p.generation ∙ sym is_q.generation in
    let cells : p.cells ≡ q.cells = told_by_cells p.cells q.cells pattern_p.sorted pattern_q.sorted (turned_contains turn old p q is_p is_q) (turned_contains turn old q p is_q is_p) in
    λ i. record { width = width i; height = height i; pos = pos i; generation = generation i; cells = cells i }
