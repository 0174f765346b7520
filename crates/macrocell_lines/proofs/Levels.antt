-- Which places a root has, and which windows.
use Rattle.std.proofs.Common.{◌≡◌, ℕ, suc, ◌+◌, ◌-◌, ◌^◌, ◌<◌, ◌≤◌, arith, Bool, true, false, refl, sym, ap, subst, ◌∙◌, inl, inr}
use Rattle.std.specs.Prelude.{ℤ, pos, ◌+ℤ◌, ◌-ℤ◌, ◌&&◌, ◌≢◌, int_le, int_lt}
use Rattle.std.proofs.Math.Nat.{pow-le-pow_right}
use Rattle.std.proofs.lemmas.Bool.{and_parts, and_from, cases_lt}
use Rattle.std.proofs.lemmas.Bool.Decides.{nat_tests}
use Rattle.std.proofs.lemmas.Int.{ints}
use Rattle.generations_rule.specs.Place.{Place}
use Rattle.pattern_cells.specs.declared.window.Window.{Window}
use Rattle.pattern_cells.specs.Window.{is_in_window}
use Rattle.square_store.specs.Squares.{grid_at}
use Rattle.generation_engine.specs.EngineLeaf.{leaf_grid}
use Rattle.generation_engine.specs.Universe.{EngineValue, IsEngine, from_universe_edge, is_coordinate_in_universe, is_in_reach, states_of}
use Rattle.generation_engine.specs.Window.{IsLeastWindow}
use Rattle.macrocell_lines.specs.Squares.{square_of}
use Rattle.macrocell_lines.specs.Middle.{states_about}
use Rattle.macrocell_lines.specs.Roots.{IsRootLevel, half_side, is_in_root, is_window_in_root, root_of}
use Rattle.macrocell_lines.proofs.States.{double, same_square}

-- a coordinate of a span that lies between two lies there
coordinate_inside : (least past first count n : ℤ) → (int_le least first && int_le (first +ℤ count) past) ≡ true → (int_le first n && int_lt n (first +ℤ count)) ≡ true → (int_le least n && int_lt n past) ≡ true
coordinate_inside least past first count n w c =
    let w' = and_parts (int_le least first) (int_le (first +ℤ count) past) w in
    let c' = and_parts (int_le first n) (int_lt n (first +ℤ count)) c in
    and_from _ _ (low w'.0 c'.0) (high w'.1 c'.1)
  where
    low : int_le least first ≡ true → int_le first n ≡ true → int_le least n ≡ true
    low a b = grind (arith, ints, nat_tests, a, b)

    high : int_le (first +ℤ count) past ≡ true → int_lt n (first +ℤ count) ≡ true → int_lt n past ≡ true
    high a b = grind (arith, ints, nat_tests, a, b)

-- a span whose first and last coordinates lie between two lies there
span_inside : (least past first count n m : ℤ) → (int_le least n && int_lt n past) ≡ true → (int_le least m && int_lt m past) ≡ true → n ≡ first → (m +ℤ pos 1) ≡ (first +ℤ count) → (int_le least first && int_le (first +ℤ count) past) ≡ true
span_inside least past first count n m hn hm e f = and_from _ _ (low (and_parts (int_le least n) _ hn).0) (high (and_parts (int_le least m) _ hm).1)
  where
    low : int_le least n ≡ true → int_le least first ≡ true
    low a = subst (λ z. int_le least z ≡ true) e a

    most : int_lt m past ≡ true → int_le (m +ℤ pos 1) past ≡ true
    most a = grind (arith, ints, nat_tests, a)

    high : int_lt m past ≡ true → int_le (first +ℤ count) past ≡ true
    high a = subst (λ z. int_le z past ≡ true) f (most a)

-- a place of a window that lies in a root lies in it
inside : (k : ℕ) (w : Window) (c : Place) → is_window_in_root k w ≡ true → is_in_window w c ≡ true → is_in_root k c ≡ true
inside k w c hw hc =
    let h = half_side k in
    let w' = and_parts (int_le (pos 0 -ℤ h) w.x && int_le (w.x +ℤ pos w.width) h) _ hw in
    let c' = and_parts (int_le w.x c.x && int_lt c.x (w.x +ℤ pos w.width)) _ hc in
    and_from _ _ (coordinate_inside (pos 0 -ℤ h) h w.x (pos w.width) c.x w'.0 c'.0) (coordinate_inside (pos 1 -ℤ h) (h +ℤ pos 1) w.y (pos w.height) c.y w'.1 c'.1)

-- a window whose first and last columns and rows have places in a root lies in it
outside : (k : ℕ) (w : Window) (a b c d : Place) → is_in_root k a ≡ true → is_in_root k b ≡ true → is_in_root k c ≡ true → is_in_root k d ≡ true
    → a.x ≡ w.x → (b.x +ℤ pos 1) ≡ (w.x +ℤ pos w.width) → c.y ≡ w.y → (d.y +ℤ pos 1) ≡ (w.y +ℤ pos w.height) → is_window_in_root k w ≡ true
outside k w a b c d ha hb hc hd e1 e2 e3 e4 =
    let h = half_side k in
    let column : (p : Place) → is_in_root k p ≡ true → (int_le (pos 0 -ℤ h) p.x && int_lt p.x h) ≡ true = λ p i. (and_parts (int_le (pos 0 -ℤ h) p.x && int_lt p.x h) (int_le (pos 1 -ℤ h) p.y && int_lt p.y (h +ℤ pos 1)) i).0 in
    let row : (p : Place) → is_in_root k p ≡ true → (int_le (pos 1 -ℤ h) p.y && int_lt p.y (h +ℤ pos 1)) ≡ true = λ p i. (and_parts (int_le (pos 0 -ℤ h) p.x && int_lt p.x h) (int_le (pos 1 -ℤ h) p.y && int_lt p.y (h +ℤ pos 1)) i).1 in
    and_from _ _ (span_inside (pos 0 -ℤ h) h w.x (pos w.width) a.x b.x (column a ha) (column b hb) e1 e2) (span_inside (pos 1 -ℤ h) (h +ℤ pos 1) w.y (pos w.height) c.y d.y (row c hc) (row d hd) e3 e4)

pub window_level : (least k : ℕ) (f : Place → ℕ) (w : Window) → IsLeastWindow f w → least ≤ k → k ≤ 32 → ((c : Place) → is_in_root 32 c ≡ false → f c ≡ 0)
    → (k < 32 → is_window_in_root k w ≡ true) → ((j : ℕ) → least ≤ j → j < k → is_window_in_root j w ≡ false) → IsRootLevel least f k
window_level least k f w is low few reach holds less = record {
  least_is = low;
  all = λ c live. elim (cases_lt k 32) [
    | inl below ↦ inside k w c (holds below) (is.all c live)
    | inr above ↦ (let e : 32 ≡ k = omega (arith, above, few) in subst (λ j. is_in_root j c ≡ true) e (at_last c live (is_in_root 32 c) refl))
  ];
  no_less = λ j low' under all. apart (sym (less j low' under) ∙ outside j w is.first_column.0 is.last_column.0 is.first_row.0 is.last_row.0
      (all is.first_column.0 is.first_column.1.0) (all is.last_column.0 is.last_column.1.0) (all is.first_row.0 is.first_row.1.0) (all is.last_row.0 is.last_row.1.0)
      is.first_column.1.1 is.last_column.1.1 is.first_row.1.1 is.last_row.1.1);
}
  where
    apart : false ≡ true → ⊥
    apart e = cc

    at_last : (c : Place) → f c ≢ 0 → (b : Bool) → is_in_root 32 c ≡ b → is_in_root 32 c ≡ true
    at_last c live true e = e
    at_last c live false e = absurd (live (reach c e))

pub dead_level : (least : ℕ) (f : Place → ℕ) → ((c : Place) → f c ≡ 0) → IsRootLevel least f least
dead_level least f dead = record { least_is = omega arith; all = λ c live. absurd (live (dead c)); no_less = λ j low under all. omega (arith, low, under) }

-- ---- universes

not_reached : (g : ℕ) (x y : ℤ) → g ≤ 536870912 → is_in_root 32 (record { x = x; y = y }) ≡ false → is_in_reach g (record { x = x; y = y }) ≡ false
not_reached g x y few out = grind (arith, ints, few, out)

-- no cell of a universe is further out than a root of level 32
pub universe_reach : (e : EngineValue) → IsEngine e → (c : Place) → is_in_root 32 c ≡ false → states_of e c ≡ 0
universe_reach e is c out = is.reach c (not_reached e.generation c.x c.y is.generations out)

column_is : (h u : ℕ) → h ≤ 2147483648 → u < h + h → from_universe_edge (pos u -ℤ pos h) ≡ 4294967296 - h + u
column_is h u few within = grind (arith, ints, few, within)

column_inside : (h u : ℕ) → h ≤ 2147483648 → u ≤ h + h → is_coordinate_in_universe (pos u -ℤ pos h) ≡ true
column_inside h u few within = grind (arith, ints, nat_tests, few, within)

row_is : (h v : ℕ) → h ≤ 2147483648 → v < h + h → from_universe_edge (pos (suc v) -ℤ pos h) ≡ 4294967296 - h + suc v
row_is h v few within = grind (arith, ints, few, within)

-- the root of a universe's map
pub universe_root : (e : EngineValue) (level : ℕ) → 1 ≤ level → level ≤ 32 → square_of level (states_about e.store e.root (2 ^ (level - 1))) ≡ root_of (states_of e) level
universe_root e level some few =
    let h = 2 ^ (level - 1) in
    let most : h ≤ 2 ^ 31 = pow-le-pow_right {n = 2} (omega arith) {i = level - 1} {j = 31} (omega (arith, few)) in
    let up : level ≡ suc (level - 1) = omega (arith, some) in
    let twice : 2 ^ level ≡ h + h = ap (λ m. 2 ^ m) up ∙ double (level - 1) in
    same_square level _ _ (λ u v hu hv. read h u v most (omega (arith, hu, twice)) (omega (arith, hv, twice)))
  where
    read : (h u v : ℕ) → h ≤ 2147483648 → u < h + h → v < h + h → states_about e.store e.root h u v ≡ states_of e (record { x = pos u -ℤ pos h; y = pos (suc v) -ℤ pos h })
    read h u v most hu hv =
        let ix = column_inside h u most (omega (arith, hu)) in
        let iy = column_inside h (suc v) most (omega (arith, hv)) in
        let x = column_is h u most hu in
        let y = row_is h v most hv in
        rw (and_from (is_coordinate_in_universe (pos u -ℤ pos h)) (is_coordinate_in_universe (pos (suc v) -ℤ pos h)) ix iy) (λ i. (grid_at leaf_grid 8 e.store 30 e.root (sym x i) (sym y i)).state)
