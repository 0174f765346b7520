-- A map has one count.
use Rattle.std.proofs.Common.{◌≡◌, ◌≢◌, ℕ, int_le, int_lt, true, refl, sym, ◌∙◌, ap, subst, arith}
use Rattle.std.specs.Prelude.{Option, Some, None, Result, Ok, Err, ℤ, pos, ◌+ℤ◌}
use Rattle.std.proofs.lemmas.Bool.{and_parts}
use Rattle.std.proofs.lemmas.Int.{ints}
use Rattle.generations_rule.specs.Place.{Place}
use Rattle.generations_rule.specs.Rule.{GenerationsRule}
use Rattle.generations_rule.specs.Evolution.{at}
use Rattle.pattern_cells.specs.declared.window.Window.{Window}
use Rattle.pattern_cells.specs.Window.{is_in_span, is_in_window, seen_where}
use Rattle.generation_engine.specs.Universe.{EngineValue, states_of}
use Rattle.generation_engine.specs.Window.{IsExtent, IsLeastWindow}
use Rattle.export.specs.declared.asking.Count.{Count}
use Rattle.export.specs.declared.fault.ExportFault.{ExportFault}
use Rattle.export.specs.declared.fault.ExportFault.TheVariants.{GenRange, TooManyCells, StoreFull, Memory}
use Rattle.export.specs.Asking.{IsCount, seen_at}
use Rattle.export.specs.Kept.{IsRunOf}
use Rattle.export.specs.Laws.{HasOneCount}
use Rattle.export.proofs.ExportLaws.{one_map}

-- what a window shows of a universe of a map of states
pub seen_shown : (r : GenerationsRule) (f : Place → ℕ) (w : Window) (g : ℕ) (e : EngineValue) → IsRunOf r f e → e.generation ≡ g → seen_where (is_in_window w) (states_of e) ≡ seen_at r f w g
seen_shown r f w g e run here =
    ap (seen_where (is_in_window w)) (one_map (states_of e) (at e.rule f e.generation) run.shows ∙ ap (λ (t : GenerationsRule). at t f e.generation) run.rule ∙ ap (λ (n : ℕ). at r f n) here)

-- two spans each of which has the other's first coordinate and its last are one
one_start : (a b : ℤ) (n m : ℕ) → is_in_span a n b ≡ true → is_in_span b m a ≡ true → a ≡ b
one_start a b n m here there =
    let p : (int_le a b ≡ true) × (int_lt b (a +ℤ pos n) ≡ true) = and_parts _ _ here in
    let q : (int_le b a ≡ true) × (int_lt a (b +ℤ pos m) ≡ true) = and_parts _ _ there in
    omega (arith, ints, p.0, q.0)

-- c is the last coordinate of the first span and in the second, d the other way round
one_count : (a : ℤ) (n m : ℕ) (c d : ℤ) → (c +ℤ pos 1) ≡ (a +ℤ pos n) → (d +ℤ pos 1) ≡ (a +ℤ pos m) → is_in_span a m c ≡ true → is_in_span a n d ≡ true → n ≡ m
one_count a n m c d last_c last_d here there =
    let p : (int_le a c ≡ true) × (int_lt c (a +ℤ pos m) ≡ true) = and_parts _ _ here in
    let q : (int_le a d ≡ true) × (int_lt d (a +ℤ pos n) ≡ true) = and_parts _ _ there in
    omega (arith, ints, p.1, q.1, last_c, last_d)

window_is : (v w : Window) → v.x ≡ w.x → v.y ≡ w.y → v.width ≡ w.width → v.height ≡ w.height → v ≡ w
window_is v w x y width height = λ i. record { x = x i; y = y i; width = width i; height = height i }

module _ (f : Place → ℕ) (v w : Window) (is : IsLeastWindow f v) (other : IsLeastWindow f w) where
  column : (c : Place) → f c ≢ 0 → (is_in_span v.x v.width c.x ≡ true) × (is_in_span w.x w.width c.x ≡ true)
  column c alive = ((and_parts _ _ (is.all c alive)).0, (and_parts _ _ (other.all c alive)).0)

  row : (c : Place) → f c ≢ 0 → (is_in_span v.y v.height c.y ≡ true) × (is_in_span w.y w.height c.y ≡ true)
  row c alive = ((and_parts _ _ (is.all c alive)).1, (and_parts _ _ (other.all c alive)).1)

  same_x : v.x ≡ w.x
  same_x = one_start v.x w.x v.width w.width
      (subst (λ n. is_in_span v.x v.width n ≡ true) other.first_column.1.1 (column other.first_column.0 other.first_column.1.0).0)
      (subst (λ n. is_in_span w.x w.width n ≡ true) is.first_column.1.1 (column is.first_column.0 is.first_column.1.0).1)

  same_y : v.y ≡ w.y
  same_y = one_start v.y w.y v.height w.height
      (subst (λ n. is_in_span v.y v.height n ≡ true) other.first_row.1.1 (row other.first_row.0 other.first_row.1.0).0)
      (subst (λ n. is_in_span w.y w.height n ≡ true) is.first_row.1.1 (row is.first_row.0 is.first_row.1.0).1)

  same_width : v.width ≡ w.width
  same_width = one_count v.x v.width w.width is.last_column.0.x other.last_column.0.x is.last_column.1.1
      (other.last_column.1.1 ∙ ap (λ n. n +ℤ pos w.width) (sym same_x))
      (subst (λ n. is_in_span n w.width is.last_column.0.x ≡ true) (sym same_x) (column is.last_column.0 is.last_column.1.0).1)
      (column other.last_column.0 other.last_column.1.0).0

  same_height : v.height ≡ w.height
  same_height = one_count v.y v.height w.height is.last_row.0.y other.last_row.0.y is.last_row.1.1
      (other.last_row.1.1 ∙ ap (λ n. n +ℤ pos w.height) (sym same_y))
      (subst (λ n. is_in_span n w.height is.last_row.0.y ≡ true) (sym same_y) (row is.last_row.0 is.last_row.1.0).1)
      (row other.last_row.0 other.last_row.1.0).0

  one_window : v ≡ w
  one_window = window_is v w same_x same_y same_width same_height

one_extent : (f : Place → ℕ) (a b : Option Window) → IsExtent f a → IsExtent f b → a ≡ b
one_extent f None None is other = refl
one_extent f None (Some w) is other = absurd (other.first_column.1.0 (is other.first_column.0))
one_extent f (Some v) None is other = absurd (is.first_column.1.0 (other is.first_column.0))
one_extent f (Some v) (Some w) is other = ap Some (one_window f v w is other)

count_is : (a b : Count) → a.cells ≡ b.cells → a.extent ≡ b.extent → a ≡ b
count_is a b cells extent = λ i. record { cells = cells i; extent = extent i }

one_answer : (r : GenerationsRule) (f : Place → ℕ) (g : ℕ) (a b : Result Count ExportFault) → IsCount r f g a → IsCount r f g b → a ≡ b
one_answer r f g (Ok a) (Ok b) is other = ap Ok (count_is a b (is.1.cells ∙ sym other.1.cells) (one_extent (at r f g) a.extent b.extent is.1.extent other.1.extent))
one_answer r f g (Ok a) (Err GenRange) is other = absurd (omega (arith, is.0, other))
one_answer r f g (Err GenRange) (Ok b) is other = absurd (omega (arith, is, other.0))
one_answer r f g (Err GenRange) (Err GenRange) is other = refl
one_answer r f g (Err TooManyCells) b is other = absurd is
one_answer r f g (Err StoreFull) b is other = absurd is
one_answer r f g (Err Memory) b is other = absurd is
one_answer r f g a (Err TooManyCells) is other = absurd other
one_answer r f g a (Err StoreFull) is other = absurd other
one_answer r f g a (Err Memory) is other = absurd other

pub has_one_count : HasOneCount
has_one_count r f h g a b same is other = one_answer r f g a b is (subst (λ k. IsCount r k g b) (sym (one_map f h same)) other)
