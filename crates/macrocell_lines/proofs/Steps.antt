-- Lines that are put behind those of squares that are listed.
use Rattle.std.proofs.Common.{◌≡◌, ℕ, zero, suc, ◌+◌, ◌*◌, ◌<◌, ◌%◌, ◌/◌, arith, rules, Bool, true, false, List, [], ◌∷◌, ◌++◌, length, get_or, refl, sym, ap, subst, ◌∙◌, Some, map, ◌⊎◌, inl, inr}
use Rattle.std.specs.Prelude.{◌&&◌, ◌||◌, ◌==◌, Decides, if◌then◌else◌, slice_get, IsTrue, ◌↔◌}
use Rattle.std.specs.List.{list_all, list_any, position_or_len}
use Rattle.std.proofs.lemmas.Bool.{and_parts, and_from, eqb-true, eq-eqb}
use Rattle.std.proofs.Math.Dec.{eqb-suc-zero}
use Rattle.std.proofs.lemmas.List.{map-append}
use Rattle.std.proofs.lemmas.List.Folds.{list_any-append, list_all_at}
use Rattle.std.proofs.lemmas.List.FromFn.{length-map-range_with_len}
use Rattle.indexmap.specs.IndexSet.{insert_key}
use Rattle.bitplane_kernel.specs.Population.{AreDead}
use Rattle.macrocell_lines.specs.declared.line.Line.{Line}
use Rattle.macrocell_lines.specs.declared.line.Line.TheVariants as lines
use Rattle.macrocell_lines.specs.Squares.{StateSquare, Cell, Four, is_dead, is_listed, is_same, is_told_by_states, level_of, listed_with, number_of, square_of, state_in}
use Rattle.macrocell_lines.specs.Lines.{line_of, states_of}
use Rattle.macrocell_lines.specs.Listing.{IsPlaced, IsSquare, IsStanding, is_dead_line, is_line, line_number, lines_with}
use Rattle.macrocell_lines.proofs.Same.{any_of_made, listed_where_it_stands, map_same, now_listed, place_last, place_of_made, same_tests, square_same, stands_at_place}
use Rattle.macrocell_lines.proofs.Standing.{IsGrown, if_false, if_true, line_more, placed_more}
use Rattle.macrocell_lines.proofs.States.{dead_same, dead_square, dead_state, level_is, same_square, square_back, state_listed, states_tell}

line_exact : (a b : Line) → is_line a b ≡ true → a ≡ b
line_exact a b h = search (rules, h)

line_refl : (a : Line) → is_line a a ≡ true
line_refl a = search rules

-- the test of lines is exact
pub line_same : (a b : Line) → Decides (is_line a b) (a ≡ b)
line_same a b = (line_exact a b, λ e. subst (λ (z : Line). is_line a z ≡ true) e (line_refl a))

-- ---- which lines are dead

all_by_places : {X : Type 0} (p : X → Bool) (xs : List X) → ((i : ℕ) (x : X) → slice_get xs i ≡ Some x → p x ≡ true) → list_all p xs ≡ true
all_by_places p [] h = refl
all_by_places p (x ∷ xs) h = and_from _ _ (h 0 x refl) (all_by_places p xs (λ i y at. h (suc i) y at))

all_by_reads : (xs : List ℕ) → ((i : ℕ) → i < length xs → get_or xs i 0 ≡ 0) → list_all (λ s. s == 0) xs ≡ true
all_by_reads [] h = refl
all_by_reads (x ∷ xs) h = and_from _ _ (eq-eqb _ _ (h 0 (omega arith))) (all_by_reads xs (λ i k. h (suc i) (omega (arith, k))))

read_by_all : (xs : List ℕ) → list_all (λ s. s == 0) xs ≡ true → (i : ℕ) → i < length xs → get_or xs i 0 ≡ 0
read_by_all xs all i h = go (get_or xs i 0 == 0) refl
  where
    apart : true ≡ false → ⊥
    apart e = cc

    go : (b : Bool) → (get_or xs i 0 == 0) ≡ b → get_or xs i 0 ≡ 0
    go true e = eqb-true _ _ e
    go false e = absurd (apart (sym all ∙ list_all_at (λ s. s == 0) xs i 0 h e))

pub dead_leaf : (b : Bool) (states : List ℕ) → (IsTrue b ↔ AreDead states) → length states ≡ 64 → b ≡ list_all (λ s. s == 0) states
dead_leaf b states dead long = same_tests b (list_all (λ s. s == 0) states)
    (λ e. all_by_reads states (λ i h. dead.0 e i (omega (arith, h, long))))
    (λ e. dead.1 (λ i h. read_by_all states e i (omega (arith, h, long))))

all_dead : (q : StateSquare) → IsSquare 3 q → list_all (λ s. s == 0) (states_of q) ≡ is_dead q
all_dead q is =
    let long = length-map-range_with_len (λ i. state_in q (i % 8) (i / 8)) 0 64 in
    same_tests _ (is_dead q)
    (λ e.
    let zeros : square_of 3 (state_in q) ≡ square_of 3 (λ u v. 0) = same_square 3 (state_in q) (λ u v. 0) (λ u v hu hv.
    let x : (8 * v + u) % 8 ≡ u = omega (arith, hu) in
    let y : (8 * v + u) / 8 ≡ v = omega (arith, hu) in
    sym (λ i. state_in q (x i) (y i)) ∙ sym (state_listed q (8 * v + u) (omega (arith, hu, hv))) ∙ read_by_all (states_of q) e (8 * v + u) (omega (arith, hu, hv, long))) in
    subst (λ (z : StateSquare). is_dead z ≡ true) (sym zeros ∙ square_back 3 q is) (dead_square 3 (λ u v. 0) (λ u v. refl)))
    (λ e. all_by_reads (states_of q) (λ i h. state_listed q i (omega (arith, h, long)) ∙ dead_state q e (i % 8) (i / 8)))

zero_dead : (squares : List StateSquare) (q : StateSquare) → (number_of squares q == 0) ≡ is_dead q
zero_dead squares (Cell s) = refl
zero_dead squares (Four a b c d) = go (is_dead (Four a b c d)) (position_or_len (is_same (Four a b c d)) squares)
  where
    go : (t : Bool) (n : ℕ) → ((if t then 0 else suc n) == 0) ≡ t
    go true n = refl
    go false n = eqb-suc-zero n

pub told_level : (of_two : Bool) (q : StateSquare) → is_told_by_states of_two q ≡ true → level_of q ≡ 3
told_level of_two q h = eqb-true _ _ (and_parts of_two (level_of q == 3) h).1

pub told_square : (of_two : Bool) (k : ℕ) (q : StateSquare) → IsSquare k q → is_told_by_states of_two q ≡ true → IsSquare 3 q
told_square of_two k q is h = subst (λ j. IsSquare j q) (sym (level_is k q is) ∙ told_level of_two q h) is

-- the line of a square is dead where all its states are 0
pub line_dead : (of_two : Bool) (squares : List StateSquare) (k : ℕ) (q : StateSquare) → IsSquare (suc k) q → is_dead_line (line_of of_two squares q) ≡ is_dead q
line_dead of_two squares k (Cell s) is = absurd is
line_dead of_two squares k (Four a b c d) is = go (is_told_by_states of_two (Four a b c d)) refl
  where
    go : (t : Bool) → is_told_by_states of_two (Four a b c d) ≡ t → is_dead_line (line_of of_two squares (Four a b c d)) ≡ is_dead (Four a b c d)
    go true e = ap is_dead_line (if_true (is_told_by_states of_two (Four a b c d)) _ _ e) ∙ all_dead (Four a b c d) (told_square of_two (suc k) (Four a b c d) is e)
    go false e =
        let ea = zero_dead squares a in let eb = zero_dead squares b in let ec = zero_dead squares c in let ed = zero_dead squares d in
        ap is_dead_line (if_false (is_told_by_states of_two (Four a b c d)) _ _ e) ∙ (λ i. ea i && (eb i && (ec i && ed i)))

-- ---- a line tells its square

number_tells : (squares : List StateSquare) (k : ℕ) (a b : StateSquare) → IsSquare k a → IsSquare k b → IsStanding squares a → IsStanding squares b → number_of squares a ≡ number_of squares b → a ≡ b
number_tells squares zero (Cell s) (Cell t) ha hb sa sb e = ap Cell e
number_tells squares zero (Cell s) (Four e f g h) ha hb sa sb n = absurd hb
number_tells squares zero (Four e f g h) b ha hb sa sb n = absurd ha
number_tells squares (suc k) (Cell s) b ha hb sa sb n = absurd ha
number_tells squares (suc k) (Four a1 a2 a3 a4) (Cell t) ha hb sa sb n = absurd hb
number_tells squares (suc k) (Four a1 a2 a3 a4) (Four b1 b2 b3 b4) ha hb sa sb n =
    let a = Four a1 a2 a3 a4 in
    let b = Four b1 b2 b3 b4 in
    go (is_dead a) (is_dead b) refl refl (sym (zero_dead squares a) ∙ ap (λ m. m == 0) n ∙ zero_dead squares b)
  where
    some_is : {x y : StateSquare} → Some x ≡ Some y → x ≡ y
    some_is z = cc

    less : {x y : ℕ} → suc x ≡ suc y → x ≡ y
    less z = cc

    listed : (q : StateSquare) → IsStanding squares q → IsSquare (suc k) q → is_dead q ≡ false → is_listed squares q ≡ true
    listed (Cell s) stands is live = absurd is
    listed (Four x y z w) stands is live = elim stands [
      | inl dead ↦ absurd (cc)
      | inr there ↦ there
    ]

    go : (s t : Bool) → is_dead (Four a1 a2 a3 a4) ≡ s → is_dead (Four b1 b2 b3 b4) ≡ t → is_dead (Four a1 a2 a3 a4) ≡ is_dead (Four b1 b2 b3 b4) → Four a1 a2 a3 a4 ≡ Four b1 b2 b3 b4
    go true t e f same = dead_same (suc k) (Four a1 a2 a3 a4) (Four b1 b2 b3 b4) ha hb e (sym same ∙ e)
    go false t e f same =
        let live : is_dead (Four b1 b2 b3 b4) ≡ false = sym same ∙ e in
        let pa = stands_at_place is_same square_same squares (Four a1 a2 a3 a4) (listed (Four a1 a2 a3 a4) sa ha e) in
        let pb = stands_at_place is_same square_same squares (Four b1 b2 b3 b4) (listed (Four b1 b2 b3 b4) sb hb live) in
        let place = less (sym (if_false (is_dead (Four a1 a2 a3 a4)) 0 _ e) ∙ n ∙ if_false (is_dead (Four b1 b2 b3 b4)) 0 _ live) in
        some_is (sym pa ∙ ap (λ m. slice_get squares m) place ∙ pb)

leaf_states : {x y : List ℕ} → lines.Leaf x ≡ lines.Leaf y → x ≡ y
leaf_states h = cc

leaf_apart : {x : List ℕ} {k a b c d : ℕ} → lines.Leaf x ≡ lines.Four k a b c d → ⊥
leaf_apart h = cc

pub line_tells : (of_two : Bool) (squares : List StateSquare) (p q : StateSquare) → IsPlaced of_two squares p → IsPlaced of_two squares q → line_of of_two squares p ≡ line_of of_two squares q → p ≡ q
line_tells of_two squares (Cell s) q hp hq e = absurd hp.level
line_tells of_two squares (Four a b c d) (Cell s) hp hq e = absurd hq.level
line_tells of_two squares (Four a b c d) (Four a' b' c' d') hp hq e =
    go (is_told_by_states of_two (Four a b c d)) (is_told_by_states of_two (Four a' b' c' d')) refl refl
  where
    level_same : {k k' x1 x2 x3 x4 y1 y2 y3 y4 : ℕ} → lines.Four (suc k) x1 x2 x3 x4 ≡ lines.Four (suc k') y1 y2 y3 y4 → k ≡ k'
    level_same h = cc

    nw_same : {k k' x1 x2 x3 x4 y1 y2 y3 y4 : ℕ} → lines.Four k x1 x2 x3 x4 ≡ lines.Four k' y1 y2 y3 y4 → x1 ≡ y1
    nw_same h = cc

    ne_same : {k k' x1 x2 x3 x4 y1 y2 y3 y4 : ℕ} → lines.Four k x1 x2 x3 x4 ≡ lines.Four k' y1 y2 y3 y4 → x2 ≡ y2
    ne_same h = cc

    sw_same : {k k' x1 x2 x3 x4 y1 y2 y3 y4 : ℕ} → lines.Four k x1 x2 x3 x4 ≡ lines.Four k' y1 y2 y3 y4 → x3 ≡ y3
    sw_same h = cc

    se_same : {k k' x1 x2 x3 x4 y1 y2 y3 y4 : ℕ} → lines.Four k x1 x2 x3 x4 ≡ lines.Four k' y1 y2 y3 y4 → x4 ≡ y4
    se_same h = cc

    go : (s t : Bool) → is_told_by_states of_two (Four a b c d) ≡ s → is_told_by_states of_two (Four a' b' c' d') ≡ t → Four a b c d ≡ Four a' b' c' d'
    go true true f g = states_tell (Four a b c d) (Four a' b' c' d') (told_square of_two (suc hp.above) (Four a b c d) hp.level f) (told_square of_two (suc hq.above) (Four a' b' c' d') hq.level g)
        (leaf_states (sym (if_true (is_told_by_states of_two (Four a b c d)) _ _ f) ∙ e ∙ if_true (is_told_by_states of_two (Four a' b' c' d')) _ _ g))
    go true false f g = absurd (leaf_apart (sym (if_true (is_told_by_states of_two (Four a b c d)) _ _ f) ∙ e ∙ if_false (is_told_by_states of_two (Four a' b' c' d')) _ _ g))
    go false true f g = absurd (leaf_apart (sym (if_true (is_told_by_states of_two (Four a' b' c' d')) _ _ g) ∙ sym e ∙ if_false (is_told_by_states of_two (Four a b c d)) _ _ f))
    go false false f g =
        let w : lines.Four (suc (level_of a)) (number_of squares a) (number_of squares b) (number_of squares c) (number_of squares d)
        ≡ lines.Four (suc (level_of a')) (number_of squares a') (number_of squares b') (number_of squares c') (number_of squares d')
        = sym (if_false (is_told_by_states of_two (Four a b c d)) _ _ f) ∙ e ∙ if_false (is_told_by_states of_two (Four a' b' c' d')) _ _ g in
        let k = hp.above in
        let same : hq.above ≡ k = sym (level_is hq.above a' hq.level.0) ∙ sym (level_same w) ∙ level_is k a hp.level.0 in
        let is' : IsSquare (suc k) (Four a' b' c' d') = subst (λ j. IsSquare (suc j) (Four a' b' c' d')) same hq.level in
        let is = hp.level in
        let s4 = hp.quarters f in
        let t4 = hq.quarters g in
        let ea = number_tells squares k a a' is.0 is'.0 s4.0 t4.0 (nw_same w) in
        let eb = number_tells squares k b b' is.1.0 is'.1.0 s4.1.0 t4.1.0 (ne_same w) in
        let ec = number_tells squares k c c' is.1.1.0 is'.1.1.0 s4.1.1.0 t4.1.1.0 (sw_same w) in
        let ed = number_tells squares k d d' is.1.1.1 is'.1.1.1 s4.1.1.1 t4.1.1.1 (se_same w) in
        λ i. Four (ea i) (eb i) (ec i) (ed i)

-- ---- a line is put

module _ (of_two : Bool) (squares : List StateSquare) (ls : List Line) (are : ls ≡ map (line_of of_two squares) squares) (placed : (p : StateSquare) → is_listed squares p ≡ true → IsPlaced of_two squares p)
    (q : StateSquare) (may : IsPlaced of_two squares q) where
  line : Line
  line = line_of of_two squares q

  agree : (i : ℕ) (x : StateSquare) → slice_get squares i ≡ Some x → is_line (line_of of_two squares q) (line_of of_two squares x) ≡ is_same q x
  agree i x at =
      let there = placed x (listed_where_it_stands is_same square_same squares i x at) in
      same_tests _ (is_same q x)
      (λ e. (square_same q x).1 (line_tells of_two squares q x may there ((line_same _ _).0 e)))
      (λ e. (line_same _ _).1 (ap (line_of of_two squares) ((square_same q x).0 e)))

  any_is : list_any (is_line (line_of of_two squares q)) ls ≡ is_listed squares q
  any_is = ap (list_any (is_line (line_of of_two squares q))) are ∙ any_of_made (is_line (line_of of_two squares q)) (is_same q) (line_of of_two squares) squares agree

  place_is : position_or_len (is_line (line_of of_two squares q)) ls ≡ position_or_len (is_same q) squares
  place_is = ap (position_or_len (is_line (line_of of_two squares q))) are ∙ place_of_made (is_line (line_of of_two squares q)) (is_same q) (line_of of_two squares) squares agree

  live : is_dead_line (line_of of_two squares q) ≡ false
  live = line_dead of_two squares may.above q may.level ∙ may.live

  place_with : position_or_len (is_same q) (listed_with squares q) ≡ position_or_len (is_same q) squares
  place_with = go (is_listed squares q)
    where
      go : (b : Bool) → position_or_len (is_same q) (if b then squares else squares ++ q ∷ []) ≡ position_or_len (is_same q) squares
      go true = refl
      go false = place_last is_same square_same squares q

  number_is : (p : StateSquare) → IsSquare (suc may.above) p → is_dead p ≡ false → (l : List StateSquare) → suc (position_or_len (is_same p) l) ≡ number_of l p
  number_is (Cell s) is alive l = absurd is
  number_is (Four a b c d) is alive l = sym (if_false (is_dead (Four a b c d)) 0 _ alive)

  pub put_number : line_number ls (line_of of_two squares q) ≡ number_of (listed_with squares q) q
  put_number = if_false (is_dead_line (line_of of_two squares q)) 0 _ live ∙ ap suc (place_is ∙ sym place_with) ∙ number_is q may.level may.live (listed_with squares q)

  with_more : IsGrown squares (squares ++ q ∷ [])
  with_more = record { more = q ∷ []; is = refl }

  pub put_lines : lines_with ls (line_of of_two squares q) ≡ map (line_of of_two (listed_with squares q)) (listed_with squares q)
  put_lines =
      if_false (is_dead_line (line_of of_two squares q)) ls (insert_key is_line ls (line_of of_two squares q)) live
      ∙ ap (λ b. if b then ls else ls ++ line_of of_two squares q ∷ []) any_is
      ∙ go (is_listed squares q)
    where
      go : (b : Bool) → (if b then ls else ls ++ line_of of_two squares q ∷ []) ≡ map (line_of of_two (if b then squares else squares ++ q ∷ [])) (if b then squares else squares ++ q ∷ [])
      go true = are
      go false =
          let old : map (line_of of_two squares) squares ≡ map (line_of of_two (squares ++ q ∷ [])) squares
          = map_same (line_of of_two squares) (line_of of_two (squares ++ q ∷ [])) squares (λ i x at. sym (line_more squares (q ∷ []) of_two x (placed x (listed_where_it_stands is_same square_same squares i x at)))) in
          let new = line_more squares (q ∷ []) of_two q may in
          ap (λ l. l ++ line_of of_two squares q ∷ []) (are ∙ old)
          ∙ ap (λ x. map (line_of of_two (squares ++ q ∷ [])) squares ++ x ∷ []) (sym new)
          ∙ sym (map-append (line_of of_two (squares ++ q ∷ [])) squares (q ∷ []))

  last_or_before : (p : StateSquare) → is_listed (squares ++ q ∷ []) p ≡ true → (is_listed squares p ≡ true) ⊎ (p ≡ q)
  last_or_before p h = go (is_listed squares p) refl (sym (list_any-append (is_same p) squares (q ∷ [])) ∙ h)
    where
      last : (b : Bool) → is_same p q ≡ b → (b || false) ≡ true → p ≡ q
      last true e i = (square_same p q).0 e
      last false e i = absurd (cc)

      go : (b : Bool) → is_listed squares p ≡ b → (b || (is_same p q || false)) ≡ true → (is_listed squares p ≡ true) ⊎ (p ≡ q)
      go true e i = inl e
      go false e i = inr (last (is_same p q) refl i)

  pub put_placed : (p : StateSquare) → is_listed (listed_with squares q) p ≡ true → IsPlaced of_two (listed_with squares q) p
  put_placed p = go (is_listed squares q)
    where
      go : (b : Bool) → is_listed (if b then squares else squares ++ q ∷ []) p ≡ true → IsPlaced of_two (if b then squares else squares ++ q ∷ []) p
      go true h = placed p h
      go false h = elim (last_or_before p h) [
        | inl before ↦ placed_more squares (q ∷ []) of_two p (placed p before)
        | inr last ↦ subst (λ (z : StateSquare). IsPlaced of_two (squares ++ q ∷ []) z) (sym last) (placed_more squares (q ∷ []) of_two q may)
      ]

  pub put_listed : is_listed (listed_with squares q) q ≡ true
  put_listed = go (is_listed squares q) refl
    where
      go : (b : Bool) → is_listed squares q ≡ b → is_listed (if b then squares else squares ++ q ∷ []) q ≡ true
      go true e = e
      go false e = now_listed is_same square_same squares q
