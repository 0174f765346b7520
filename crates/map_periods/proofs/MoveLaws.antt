-- Lists of cells of which one is the other, moved.
use Rattle.std.proofs.Common.{◌≡◌, inl, inr, ℕ, zero, suc, ◌<◌, Bool, true, false, List, [], ◌∷◌, length, map, refl, sym, ◌∙◌, ap, subst, arith, get_or, ℤ, pos}
use Rattle.std.specs.Prelude.{◌≢◌, ◌↔◌, ◌&&◌, ◌==◌, not, ◌+ℤ◌, ◌-ℤ◌, neg_ℤ, unwrap_or, Some, None, IsTrue}
use Rattle.std.specs.Ordering.{int_eq}
use Rattle.std.proofs.lemmas.Int.{ints}
use Rattle.std.proofs.lemmas.Bool.{and_parts, cases_Bool}
use Rattle.std.proofs.lemmas.List.{get_or-map, length-map}
use Rattle.generations_rule.specs.Place.{Place, moved, is_before, is_place}
use Rattle.pattern_cells.specs.declared.cell.Cell.{Cell}
use Rattle.pattern_cells.specs.Cells.{place_of, is_sorted, are_nonzero}
use Rattle.edit_stamps.specs.Edit.{listed}
use Rattle.edit_stamps.proofs.SortedCells.{listed_here, listed_there}
use Rattle.edit_stamps.proofs.PlaceOrder.{same_itself}
use Rattle.generation_engine.specs.Walk.{AreCellsOf}
use Rattle.export.proofs.ExportLaws.{one_list}
use Rattle.map_periods.specs.declared.moves.Move.{Move}
use Rattle.map_periods.specs.Moves.{IsMoved, IsNotMoved, IsTheMove, moved_cell}
use Rattle.map_periods.specs.Laws.{HasOneMove}

-- ---- a list, moved

place_moved : (a : Cell) (c : Place) (x y : ℤ) → is_place (place_of (moved_cell x y a)) (moved c x y) ≡ is_place (place_of a) c
place_moved a c x y = grind (arith, ints)

before_moved : (a b : Cell) (x y : ℤ) → is_before (place_of (moved_cell x y a)) (place_of (moved_cell x y b)) ≡ is_before (place_of a) (place_of b)
before_moved a b x y = grind (arith, ints)

-- it reads at moved places as the list does
listed_moved : (cells : List Cell) (c : Place) (x y : ℤ) → listed (map (moved_cell x y) cells) (moved c x y) ≡ listed cells c
listed_moved [] c x y = refl
listed_moved (a ∷ cells) c x y = elim (cases_Bool (is_place (place_of a) c)) [
  | inl here ↦ listed_here (moved_cell x y a) (map (moved_cell x y) cells) (moved c x y) (place_moved a c x y ∙ here) ∙ sym (listed_here a cells c here)
  | inr there ↦ listed_there (moved_cell x y a) (map (moved_cell x y) cells) (moved c x y) (place_moved a c x y ∙ there) ∙ listed_moved cells c x y ∙ sym (listed_there a cells c there)
]

sorted_moved : (cells : List Cell) (x y : ℤ) → is_sorted (map (moved_cell x y) cells) ≡ is_sorted cells
sorted_moved [] x y = refl
sorted_moved (a ∷ []) x y = refl
sorted_moved (a ∷ b ∷ cells) x y = λ i. before_moved a b x y i && sorted_moved (b ∷ cells) x y i

nonzero_moved : (cells : List Cell) (x y : ℤ) → are_nonzero (map (moved_cell x y) cells) ≡ are_nonzero cells
nonzero_moved [] x y = refl
nonzero_moved (a ∷ cells) x y = λ i. not (a.state == 0) && nonzero_moved cells x y i

undone : (n by : ℤ) → n ≡ (n +ℤ neg_ℤ by) +ℤ by
undone n by = omega (arith, ints)

-- where a place was before
came_from : (c : Place) (x y : ℤ) → c ≡ moved (moved c (neg_ℤ x) (neg_ℤ y)) x y
came_from c x y = λ i. record { x = undone c.x x i; y = undone c.y y i }

-- the list of a moved map is the moved list
pub moved_list : (f h : Place → ℕ) (a b : List Cell) (x y : ℤ) → AreCellsOf f a → AreCellsOf h b → IsMoved f h x y → b ≡ map (moved_cell x y) a
moved_list f h a b x y of_f of_h is = one_list h b (map (moved_cell x y) a) of_h (record {
  sorted = sorted_moved a x y ∙ of_f.sorted;
  nonzero = nonzero_moved a x y ∙ of_f.nonzero;
  states = λ c.
      let d : Place = moved c (neg_ℤ x) (neg_ℤ y) in
      subst (λ p. unwrap_or (listed (map (moved_cell x y) a) p) 0 ≡ h p) (sym (came_from c x y)) (ap (λ o. unwrap_or o 0) (listed_moved a d x y) ∙ of_f.states d ∙ sym (is d));
})

-- and only of a moved map
pub moved_map : (f h : Place → ℕ) (a b : List Cell) (x y : ℤ) → AreCellsOf f a → AreCellsOf h b → b ≡ map (moved_cell x y) a → IsMoved f h x y
moved_map f h a b x y of_f of_h is c =
    sym (of_h.states (moved c x y)) ∙ ap (λ cells. unwrap_or (listed cells (moved c x y)) 0) is ∙ ap (λ o. unwrap_or o 0) (listed_moved a c x y) ∙ of_f.states c

-- ---- the answers

pub not_as_many : (f h : Place → ℕ) (a b : List Cell) → (length a ≡ length b → ⊥) → AreCellsOf f a → AreCellsOf h b → IsNotMoved f h
not_as_many f h a b differ of_f of_h x y is = differ (sym (ap length (moved_list f h a b x y of_f of_h is) ∙ length-map a (moved_cell x y)))

none_listed : (cells : List Cell) (c : Place) → length cells ≡ 0 → unwrap_or (listed cells c) 0 ≡ 0
none_listed [] c none = refl
none_listed (a ∷ cells) c none = absurd (omega (arith, none))

-- no cells are moved by 0 0
pub none_moved : (f h : Place → ℕ) (a b : List Cell) → length a ≡ 0 → length b ≡ 0 → AreCellsOf f a → AreCellsOf h b → IsTheMove f h (record { x = pos 0; y = pos 0 })
none_moved f h a b no_a no_b of_f of_h =
    let dead : (c : Place) → f c ≡ 0 = λ c. sym (of_f.states c) ∙ none_listed a c no_a in
    record {
      moves = λ c. sym (of_h.states (moved c (pos 0) (pos 0))) ∙ none_listed b (moved c (pos 0) (pos 0)) no_b ∙ sym (dead c);
      only = λ c alive x y is. absurd (alive (dead c));
      empty = λ all. (refl, refl);
    }

-- how far the second of two cells is from the first
pub record IsBetween (from to : Cell) (by : Move) : Type 0 where
  pub right : by.x ≡ to.x -ℤ from.x
  pub down : by.y ≡ to.y -ℤ from.y

difference : (m n by : ℤ) → n ≡ m +ℤ by → by ≡ n -ℤ m
difference m n by h = omega (arith, ints, h)

equal_ints : (m n : ℤ) → int_eq m n ≡ true → m ≡ n
equal_ints m n h = grind (arith, ints)

equal_test : (m n : ℤ) → m ≡ n → int_eq m n ≡ true
equal_test m n h = grind (arith, ints)

summed : (from to by : ℤ) → by ≡ to -ℤ from → to ≡ from +ℤ by
summed from to by h = omega (arith, ints, h)

-- a cell is another one, moved, exactly if it stands so far from it
pub taken : (from to : Cell) (between by : Move) (test : Bool) → from.state ≡ to.state → IsBetween from to between → test ≡ (int_eq between.x by.x && int_eq between.y by.y) →
    (IsTrue test ↔ (to ≡ moved_cell by.x by.y from))
taken from to between by test state is tests = (forth, back)
  where
    forth : IsTrue test → to ≡ moved_cell by.x by.y from
    forth h =
        let parts = and_parts (int_eq between.x by.x) (int_eq between.y by.y) (sym tests ∙ h) in
        let right : to.x ≡ from.x +ℤ by.x = summed from.x to.x by.x (sym (equal_ints between.x by.x parts.0) ∙ is.right) in
        let down : to.y ≡ from.y +ℤ by.y = summed from.y to.y by.y (sym (equal_ints between.y by.y parts.1) ∙ is.down) in
        λ i. record { x = right i; y = down i; state = sym state i }

    back : to ≡ moved_cell by.x by.y from → IsTrue test
    back h =
        let right : int_eq between.x by.x ≡ true = equal_test between.x by.x (is.right ∙ sym (difference from.x to.x by.x (ap (λ (c : Cell). c.x) h))) in
        let down : int_eq between.y by.y ≡ true = equal_test between.y by.y (is.down ∙ sym (difference from.y to.y by.y (ap (λ (c : Cell). c.y) h))) in
        tests ∙ (λ i. right i && down i)

pub some_from_test : (n : ℕ) → false ≡ (n == 0) → 0 < n
some_from_test n h = grind arith

first_moved : (a b : List Cell) (d : Cell) (x y : ℤ) → 0 < length a → b ≡ map (moved_cell x y) a → get_or b 0 d ≡ moved_cell x y (get_or a 0 d)
first_moved a b d x y some is = ap (λ cells. get_or cells 0 d) is ∙ get_or-map (moved_cell x y) a 0 d d some

-- a list that is moved is moved as its first cell is
as_the_first : (a b : List Cell) (d : Cell) (by : Move) (x y : ℤ) → 0 < length a → IsBetween (get_or a 0 d) (get_or b 0 d) by → b ≡ map (moved_cell x y) a → (x ≡ by.x) × (y ≡ by.y)
as_the_first a b d by x y some between is =
    let first : get_or b 0 d ≡ moved_cell x y (get_or a 0 d) = first_moved a b d x y some is in (
      difference (get_or a 0 d).x (get_or b 0 d).x x (ap (λ (c : Cell). c.x) first) ∙ sym between.right,
      difference (get_or a 0 d).y (get_or b 0 d).y y (ap (λ (c : Cell). c.y) first) ∙ sym between.down,
    )

some_alive : (cells : List Cell) (f : Place → ℕ) → 0 < length cells → AreCellsOf f cells → ((c : Place) → f c ≡ 0) → ⊥
some_alive [] f some is dead = omega (arith, some)
some_alive (a ∷ cells) f some is dead =
    let first : a.state ≡ f (place_of a) = ap (λ o. unwrap_or o 0) (sym (listed_here a cells (place_of a) (same_itself (place_of a)))) ∙ is.states (place_of a) in
    let alive = and_parts (not (a.state == 0)) (are_nonzero cells) is.nonzero in
    let none : a.state ≡ 0 = first ∙ dead (place_of a) in
    grind (arith, alive.0, none)

pub the_move : (f h : Place → ℕ) (a b : List Cell) (d : Cell) (by : Move) → 0 < length a → IsBetween (get_or a 0 d) (get_or b 0 d) by → b ≡ map (moved_cell by.x by.y) a →
    AreCellsOf f a → AreCellsOf h b → IsTheMove f h by
the_move f h a b d by some between is of_f of_h = record {
  moves = moved_map f h a b by.x by.y of_f of_h is;
  only = λ c alive x y moves. as_the_first a b d by x y some between (moved_list f h a b x y of_f of_h moves);
  empty = λ dead. absurd (some_alive a f some of_f dead);
}

pub no_move : (f h : Place → ℕ) (a b : List Cell) (d : Cell) (by : Move) → 0 < length a → IsBetween (get_or a 0 d) (get_or b 0 d) by → (b ≡ map (moved_cell by.x by.y) a → ⊥) →
    AreCellsOf f a → AreCellsOf h b → IsNotMoved f h
no_move f h a b d by some between differ of_f of_h x y moves =
    let is : b ≡ map (moved_cell x y) a = moved_list f h a b x y of_f of_h moves in
    let as_first = as_the_first a b d by x y some between is in
    differ (is ∙ (λ i. map (moved_cell (as_first.0 i) (as_first.1 i)) a))

-- ---- one answer

-- two numbers that cannot differ are one
one_number : (m n : ℤ) → ((m ≡ n → ⊥) → ⊥) → m ≡ n
one_number m n never = elim (cases_Bool (int_eq m n)) [
  | inl same ↦ grind (arith, ints)
  | inr differ ↦ absurd (never (λ e. grind (arith, ints)))
]

one_of_two : (f h : Place → ℕ) (a b : Move) → IsTheMove f h a → IsTheMove f h b → (a.x ≡ b.x) × (a.y ≡ b.y)
one_of_two f h a b is_a is_b =
    let dead : (a.x ≡ b.x → ⊥) → (c : Place) → f c ≡ 0 = λ differ c. dead_where (f c) (λ alive. differ (is_b.only c alive a.x a.y is_a.moves).0) in
    let dead_too : (a.y ≡ b.y → ⊥) → (c : Place) → f c ≡ 0 = λ differ c. dead_where (f c) (λ alive. differ (is_b.only c alive a.x a.y is_a.moves).1) in (
      one_number a.x b.x (λ differ. differ ((is_a.empty (dead differ)).0 ∙ sym (is_b.empty (dead differ)).0)),
      one_number a.y b.y (λ differ. differ ((is_a.empty (dead_too differ)).1 ∙ sym (is_b.empty (dead_too differ)).1)),
    )
  where
    dead_where : (n : ℕ) → (n ≢ 0 → ⊥) → n ≡ 0
    dead_where zero h = refl
    dead_where (suc n) h = absurd (h (λ e. omega (arith, e)))

pub one_move : (f h : Place → ℕ) (a b : Move) → IsTheMove f h a → IsTheMove f h b → a ≡ b
one_move f h a b is_a is_b =
    let same = one_of_two f h a b is_a is_b in
    λ i. record { x = same.0 i; y = same.1 i }

pub has_one_move : HasOneMove
has_one_move f h None None is_a is_b = refl
has_one_move f h None (Some b) is_a is_b = absurd (is_a b.x b.y is_b.moves)
has_one_move f h (Some a) None is_a is_b = absurd (is_b a.x a.y is_a.moves)
has_one_move f h (Some a) (Some b) is_a is_b = ap Some (one_move f h a b is_a is_b)
