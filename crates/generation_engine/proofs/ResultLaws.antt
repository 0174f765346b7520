-- The laws that HashLife stands on.
use Rattle.std.proofs.Common.{◌≡◌, ℕ, zero, suc, ◌+◌, ◌*◌, ◌<◌, ◌≤◌, List, [], ◌∷◌, ℤ, pos, negsuc, ◌+ℤ◌, ◌-ℤ◌, ◌≤ℤ◌, refl, sym, ◌∙◌, ap, subst, arith}
use Rattle.std.specs.Prelude.{count_by, ◌==◌, nat_abs}
use Rattle.std.proofs.lemmas.Int.{ints}
use Rattle.generations_rule.specs.Place.{Place, moved}
use Rattle.generations_rule.specs.Rule.{GenerationsRule, IsRule, next_state}
use Rattle.generations_rule.specs.Evolution.{at}
use Rattle.generations_rule.proofs.EvolutionLaws.{runs_compose, is_local, stays_in_range}
use Rattle.square_store.specs.Grid.{Grid, quartered}
use Rattle.square_store.proofs.Quarters.{quarter_nw, quarter_ne, quarter_sw, quarter_se}
use Rattle.generation_engine.specs.Results.{LiesAt, IsResult, part_from, MovesAlong, HasOneResult, CentreIsResult, IsComputedInTwoPasses}
use Rattle.generation_engine.proofs.Grids.{by_quarter}

-- ---- places

place_is : (x y x' y' : ℤ) → x ≡ x' → y ≡ y' → (let c : Place = record { x = x; y = y } in c) ≡ record { x = x'; y = y' }
place_is x y x' y' ex ey = λ i. record { x = ex i; y = ey i }

swap : (n a b : ℤ) → n +ℤ a +ℤ b ≡ n +ℤ b +ℤ a
swap n a b = omega (arith, ints)

grouped : (n : ℤ) (a b : ℕ) → n +ℤ pos a +ℤ pos b ≡ n +ℤ pos (a + b)
grouped n a b = omega (arith, ints)

moves_swap : (c : Place) (a b x y : ℤ) → moved (moved c a b) x y ≡ moved (moved c x y) a b
moves_swap c a b x y = place_is _ _ _ _ (swap c.x a x) (swap c.y b y)

pub moves_grouped : (c : Place) (a b x y : ℕ) → moved (moved c (pos a) (pos b)) (pos x) (pos y) ≡ moved c (pos (a + x)) (pos (b + y))
moves_grouped c a b x y = place_is _ _ _ _ (grouped c.x a x) (grouped c.y b y)

-- ---- moved maps

tally : List ℕ → ℕ
tally states = count_by (λ s. s == 1) states

pub moves_along : MovesAlong
unfolding tally
moves_along r f x y zero c = refl
moves_along r f x y (suc g) c =
    let one : (a b : ℤ) → at r (λ d. f (moved d x y)) g (moved c a b) ≡ at r f g (moved (moved c x y) a b) = λ a b. moves_along r f x y g (moved c a b) ∙ ap (at r f g) (moves_swap c a b x y) in
    let own = moves_along r f x y g c in
    λ i. next_state r (own i) (tally (
    one (negsuc 0) (negsuc 0) i ∷ one (pos 0) (negsuc 0) i ∷ one (pos 1) (negsuc 0) i
    ∷ one (negsuc 0) (pos 0) i ∷ one (pos 1) (pos 0) i
    ∷ one (negsuc 0) (pos 1) i ∷ one (pos 0) (pos 1) i ∷ one (pos 1) (pos 1) i ∷ []))

-- ---- one result

-- how far a coordinate is behind another
behind : ℤ → ℤ → ℕ
behind from n = nat_abs (n -ℤ from)

-- what is within t of the middle of a square is in the square
record IsInside (from n : ℤ) (side : ℕ) : Type 0 where
  column : ℕ
  within : column < side
  there : n ≡ from +ℤ pos column

inside : (from n : ℤ) (m t u : ℕ) → t ≤ m → u < 2 * m → (from +ℤ pos m +ℤ pos u -ℤ pos t) ≤ℤ n → n ≤ℤ (from +ℤ pos m +ℤ pos u +ℤ pos t) → IsInside from n (4 * m)
unfolding behind
inside from n m t u few h low high = record {
  column = nat_abs (n -ℤ from);
  within = omega (arith, ints, few, h, low, high);
  there = omega (arith, ints, few, h, low, high);
}

-- two maps with one square there agree in its middle
same_middle : (r : GenerationsRule) (n t : ℕ) (c : Grid) (f h : Place → ℕ) (here : Place) → t ≤ n → LiesAt f here (4 * n) c → LiesAt h here (4 * n) c
    → (u v : ℕ) → u < 2 * n → v < 2 * n → at r f t (moved (moved here (pos n) (pos n)) (pos u) (pos v)) ≡ at r h t (moved (moved here (pos n) (pos n)) (pos u) (pos v))
same_middle r n t c f h here few lf lh u v hu hv = is_local r f h t (moved (moved here (pos n) (pos n)) (pos u) (pos v)) (λ d near.
    (let a = inside here.x d.x n t u few hu near.left near.right in
    let b = inside here.y d.y n t v few hv near.above near.below in
    let e : d ≡ moved here (pos a.column) (pos b.column) = place_is _ _ _ _ a.there b.there in
    ap f e ∙ lf a.column b.column a.within b.within ∙ sym (lh a.column b.column a.within b.within) ∙ sym (ap h e)))

back : (a b u : ℤ) → a +ℤ u +ℤ (b -ℤ a) ≡ b +ℤ u
back a b u = omega (arith, ints)

pub has_one_result : HasOneResult
has_one_result r n t c f h here there few lf lh u v hu hv =
    let x = there.x -ℤ here.x in let y = there.y -ℤ here.y in
    let shifted : (a b : ℕ) → moved (moved here (pos a) (pos b)) x y ≡ moved there (pos a) (pos b) = λ a b. place_is _ _ _ _ (back here.x there.x (pos a)) (back here.y there.y (pos b)) in
    let k : Place → ℕ = λ d. h (moved d x y) in
    let lk : LiesAt k here (4 * n) c = λ a b ha hb. ap h (shifted a b) ∙ lh a b ha hb in
    let end : moved (moved (moved here (pos n) (pos n)) (pos u) (pos v)) x y ≡ moved (moved there (pos n) (pos n)) (pos u) (pos v) =
    ap (λ d. moved d x y) (moves_grouped here n n u v) ∙ shifted (n + u) (n + v) ∙ sym (moves_grouped there n n u v) in
    same_middle r n t c f k here few lf lk u v hu hv ∙ moves_along r h x y t (moved (moved here (pos n) (pos n)) (pos u) (pos v)) ∙ ap (at r h t) end

pub centre_is_result : CentreIsResult
centre_is_result r n c = record { later = λ f corner below lies u v hu hv. ap f (moves_grouped corner n n u v) ∙ lies (n + u) (n + v) (omega (arith, hu)) (omega (arith, hv)) }

-- ---- nine and four

-- a square lies where its four quarters do
lies_by_quarters : (f : Place → ℕ) (corner : Place) (n : ℕ) (a b c d : Grid) → LiesAt f corner n a → LiesAt f (moved corner (pos n) (pos 0)) n b → LiesAt f (moved corner (pos 0) (pos n)) n c → LiesAt f (moved corner (pos n) (pos n)) n d
    → LiesAt f corner (n + n) (quartered n a b c d)
lies_by_quarters f corner n a b c d la lb lc ld = by_quarter n (λ u v. f (moved corner (pos u) (pos v)) ≡ (quartered n a b c d u v).state)
    (λ u v hu hv. la u v hu hv ∙ sym (ap (λ w. w.state) (quarter_nw n a b c d u v hu hv)))
    (λ u v hu hv. ap (λ y. f (moved corner (pos (n + u)) (pos y))) (none v) ∙ ap f (sym (moves_grouped corner n 0 u v)) ∙ lb u v hu hv ∙ sym (ap (λ w. w.state) (quarter_ne n a b c d u v hv)))
    (λ u v hu hv. ap (λ x. f (moved corner (pos x) (pos (n + v)))) (none u) ∙ ap f (sym (moves_grouped corner 0 n u v)) ∙ lc u v hu hv ∙ sym (ap (λ w. w.state) (quarter_sw n a b c d u v hu)))
    (λ u v hu hv. ap f (sym (moves_grouped corner n n u v)) ∙ ld u v hu hv ∙ sym (ap (λ w. w.state) (quarter_se n a b c d u v)))
  where
    none : (x : ℕ) → x ≡ 0 + x
    none x = omega arith

lies_as : (f : Place → ℕ) (corner corner' : Place) (m n : ℕ) (c : Grid) → corner ≡ corner' → m ≡ n → LiesAt f corner m c → LiesAt f corner' n c
lies_as f corner corner' m n c e e' lies = subst (λ k. LiesAt f corner' k c) e' (subst (λ k. LiesAt f k m c) e lies)

module _ (r : GenerationsRule) (rule : IsRule r) (n t t' : ℕ) (c : Grid) (d z : ℕ → ℕ → Grid)
    (nine : (a b : ℕ) → a < 3 → b < 3 → IsResult r n t (part_from c (2 * n * a) (2 * n * b)) (d a b))
    (four : (a b : ℕ) → a < 2 → b < 2 → IsResult r n t' (quartered (2 * n) (d a b) (d (a + 1) b) (d a (b + 1)) (d (a + 1) (b + 1))) (z a b))
    (f : Place → ℕ) (corner : Place) (below : (place : Place) → f place < r.states) (lies : LiesAt f corner (4 * (2 * n)) c) where
  -- so far from the corner
  off : ℕ → ℕ → Place
  off x y = moved corner (pos x) (pos y)

  later : Place → ℕ
  later = at r f t

  -- each of the nine has its result, t generations later
  one_of_nine : (a b : ℕ) → a < 3 → b < 3 → LiesAt later (off (2 * n * a + n) (2 * n * b + n)) (2 * n) (d a b)
  unfolding off later
  one_of_nine a b ha hb = lies_as later _ _ (2 * n) (2 * n) (d a b) (moves_grouped corner (2 * n * a) (2 * n * b) n n) refl
      ((nine a b ha hb).later f (off (2 * n * a) (2 * n * b)) below (λ u v hu hv. ap f (moves_grouped corner (2 * n * a) (2 * n * b) u v) ∙ lies (2 * n * a + u) (2 * n * b + v) (room a u ha hu) (room b v hb hv)))
    where
      room : (a u : ℕ) → a < 3 → u < 4 * n → 2 * n * a + u < 4 * (2 * n)
      room zero u h k = omega (arith, k)
      room (suc zero) u h k = omega (arith, k)
      room (suc (suc zero)) u h k = omega (arith, k)
      room (suc (suc (suc a))) u h k = absurd (omega (arith, h))

  -- each of the four has its own, t' generations after that
  one_of_four : (a b : ℕ) → a < 2 → b < 2 → LiesAt (at r f (t + t')) (off (2 * n * a + n + n) (2 * n * b + n + n)) (2 * n) (z a b)
  unfolding off later
  one_of_four a b ha hb u v hu hv =
      let p = 2 * n * a + n in let q = 2 * n * b + n in
      let right : 2 * n * (a + 1) + n ≡ p + 2 * n = grind arith in
      let down : 2 * n * (b + 1) + n ≡ q + 2 * n = grind arith in
      let joined : LiesAt later (off p q) (2 * n + 2 * n) (quartered (2 * n) (d a b) (d (a + 1) b) (d a (b + 1)) (d (a + 1) (b + 1))) =
      lies_by_quarters later (off p q) (2 * n) (d a b) (d (a + 1) b) (d a (b + 1)) (d (a + 1) (b + 1))
      (one_of_nine a b (omega (arith, ha)) (omega (arith, hb)))
      (lies_as later _ _ (2 * n) (2 * n) (d (a + 1) b) (place_at right (none q) ∙ sym (moves_grouped corner p q (2 * n) 0)) refl (one_of_nine (a + 1) b (omega (arith, ha)) (omega (arith, hb))))
      (lies_as later _ _ (2 * n) (2 * n) (d a (b + 1)) (place_at (none p) down ∙ sym (moves_grouped corner p q 0 (2 * n))) refl (one_of_nine a (b + 1) (omega (arith, ha)) (omega (arith, hb))))
      (lies_as later _ _ (2 * n) (2 * n) (d (a + 1) (b + 1)) (place_at right down ∙ sym (moves_grouped corner p q (2 * n) (2 * n))) refl (one_of_nine (a + 1) (b + 1) (omega (arith, ha)) (omega (arith, hb)))) in
      let wide : 2 * n + 2 * n ≡ 4 * n = omega arith in
      let result = (four a b ha hb).later later (off p q) (λ place. stays_in_range r f t place rule below) (lies_as later _ _ (2 * n + 2 * n) (4 * n) (quartered (2 * n) (d a b) (d (a + 1) b) (d a (b + 1)) (d (a + 1) (b + 1))) refl wide joined) u v hu hv in
      sym (runs_compose r f t t' (moved (off (p + n) (q + n)) (pos u) (pos v)))
      ∙ ap (λ place. at r later t' (moved place (pos u) (pos v))) (sym (moves_grouped corner p q n n)) ∙ result
    where
      place_at : {x y x' y' : ℕ} → x ≡ x' → y ≡ y' → off x y ≡ off x' y'
      place_at ex ey = λ i. off (ex i) (ey i)

      none : (x : ℕ) → x ≡ x + 0
      none x = omega arith

  pub both_passes : LiesAt (at r f (t + t')) (moved corner (pos (2 * n)) (pos (2 * n))) (2 * (2 * n)) (quartered (2 * n) (z 0 0) (z 1 0) (z 0 1) (z 1 1))
  unfolding off later
  both_passes =
      let g = at r f (t + t') in
      let wide : 2 * n + 2 * n ≡ 2 * (2 * n) = omega arith in
      let first : 2 * n * 0 + n + n ≡ 2 * n = omega arith in
      let second : 2 * n * 1 + n + n ≡ 2 * n + 2 * n = omega arith in
      let start : 2 * n ≡ 2 * n + 0 = omega arith in
      let at_place = λ (x y x' y' : ℕ) (ex : x ≡ x') (ey : y ≡ y'). (let e : off x y ≡ off x' y' = λ i. off (ex i) (ey i) in e) in
      lies_as g _ _ (2 * n + 2 * n) (2 * (2 * n)) (quartered (2 * n) (z 0 0) (z 1 0) (z 0 1) (z 1 1)) refl wide
      (lies_by_quarters g (moved corner (pos (2 * n)) (pos (2 * n))) (2 * n) (z 0 0) (z 1 0) (z 0 1) (z 1 1)
      (lies_as g _ _ (2 * n) (2 * n) (z 0 0) (at_place _ _ _ _ first first) refl (one_of_four 0 0 (omega arith) (omega arith)))
      (lies_as g _ _ (2 * n) (2 * n) (z 1 0) (at_place _ _ _ _ second (first ∙ start) ∙ sym (moves_grouped corner (2 * n) (2 * n) (2 * n) 0)) refl (one_of_four 1 0 (omega arith) (omega arith)))
      (lies_as g _ _ (2 * n) (2 * n) (z 0 1) (at_place _ _ _ _ (first ∙ start) second ∙ sym (moves_grouped corner (2 * n) (2 * n) 0 (2 * n))) refl (one_of_four 0 1 (omega arith) (omega arith)))
      (lies_as g _ _ (2 * n) (2 * n) (z 1 1) (at_place _ _ _ _ second second ∙ sym (moves_grouped corner (2 * n) (2 * n) (2 * n) (2 * n))) refl (one_of_four 1 1 (omega arith) (omega arith))))

pub in_two_passes : IsComputedInTwoPasses
in_two_passes r rule n t t' c d z nine four = record { later = λ f corner below lies. both_passes r rule n t t' c d z nine four f corner below lies }
