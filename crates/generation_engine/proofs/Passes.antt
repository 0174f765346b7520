-- Squares that are made of their neighbours, and replaced by their results, one after another.
use Rattle.std.proofs.Common.{pow-suc, add-one, Fits, w32, ◌≡◌, ◌≢◌, ℕ, ◌+◌, ◌-◌, ◌*◌, ◌/◌, ◌%◌, ◌<◌, ◌≤◌, ◌^◌, List, length, inl, inr, refl, sym, ◌∙◌, ap, subst, arith}
use Rattle.std.specs.Prelude.{slice_index_or, slice_set}
use Rattle.std.proofs.lemmas.List.{get_or-set_same, get_or-set_other, length-set}
use Rattle.std.proofs.lemmas.Bool.Decides.{eqb_tells}
use Rattle.generations_rule.specs.Rule.{GenerationsRule, IsRule}
use Rattle.square_store.specs.Grid.{Grid, quartered, AreSameWithin}
use Rattle.square_store.specs.Squares.{Held, side_at, IsAt, grid_at, four_grid, Draws}
use Rattle.square_store.specs.Seen.{AreAt}
use Rattle.generation_engine.specs.declared.leaf_kind.EngineLeaf.{EngineLeaf}
use Rattle.generation_engine.specs.EngineLeaf.{leaf_grid}
use Rattle.generation_engine.specs.Results.{IsResult, part_from}
use Rattle.generation_engine.proofs.ResultLaws.{in_two_passes}
use Rattle.square_store.proofs.Quarters.{quarter_nw, quarter_ne, quarter_sw, quarter_se}
use Rattle.generation_engine.specs.Kept.{AllStand, AreDrawn, AreLater, HasGrown, IsLater, RuledSquares, neighbours_joined}
use Rattle.generation_engine.proofs.Grids.{quartered_same, by_quarter}
use Rattle.square_store.proofs.Drawn.{grown_more, twice_below}
use Rattle.stamped_tree.proofs.Parts.{same_default}
use Rattle.generation_engine.proofs.KeptLaws.{later_before, later_after, later_since}

-- the first of w by w squares were made
pub record AreMade (old now : RuledSquares) (k w : ℕ) (f : ℕ → ℕ → Grid) (made : List ℕ) (place : ℕ) : Type 0 where
  pub grows : HasGrown old now
  pub count : length made ≡ w * w
  pub done : (i : ℕ) → i < place → Draws leaf_grid 8 now.store k (f (i % w) (i / w)) (slice_index_or made i 0)

-- the first of some squares were replaced by their results
pub record AreReplaced (old now : RuledSquares) (k t : ℕ) (parts later : List ℕ) (place : ℕ) : Type 0 where
  pub grows : HasGrown old now
  pub count : length later ≡ length parts
  pub done : (i : ℕ) → i < place → IsLater old.rule old.store now.store k t (slice_index_or parts i 0) (slice_index_or later i 0)
  pub rest : (i : ℕ) → place ≤ i → slice_index_or later i 0 ≡ slice_index_or parts i 0

module _ (old now new : RuledSquares) (k t : ℕ) (parts later : List ℕ) (place p q : ℕ) (stand : AllStand old.store k parts) (l : place < length parts) (are : AreReplaced old now k t parts later place)
    (grows : HasGrown now new) (is : p ≡ slice_index_or later place 0) (result : IsLater now.rule now.store new.store k t p q) where
  same_part : p ≡ slice_index_or parts place 0
  same_part = is ∙ are.rest place (omega arith)

  own_result : IsLater old.rule old.store new.store k t (slice_index_or parts place 0) q
  own_result = later_before old.rule old.store now.store new.store k t _ q are.grows.store (stand place l)
      (subst (λ (r : GenerationsRule). IsLater r now.store new.store k t (slice_index_or parts place 0) q) are.grows.rule (subst (λ z. IsLater now.rule now.store new.store k t z q) same_part result))

  -- one more was replaced
  pub replaced_more : AreReplaced old new k t parts (slice_set later place q) (place + 1)
  replaced_more = record {
    grows = record { rule = grows.rule ∙ are.grows.rule; store = grown_more leaf_grid 8 old.store now.store new.store are.grows.store grows.store };
    count = length-set later place q ∙ are.count;
    done = λ i h. elim (eqb_tells i place) [
      | inl same ↦ (let count = are.count in let e : i ≡ place = same.1 in
          rw e (subst (λ z. IsLater old.rule old.store new.store k t (slice_index_or parts place 0) z) (sym (get_or-set_same later place q 0 (omega (arith, l, count)))) own_result))
      | inr other ↦ (let apart : i ≢ place = other.1 in
          subst (λ z. IsLater old.rule old.store new.store k t (slice_index_or parts i 0) z) (sym (get_or-set_other later place i q 0 apart))
          (later_after old.rule old.store now.store new.store k t _ _ grows.store (are.done i (omega (arith, h, apart)))))
    ];
    rest = λ i h. (let apart : i ≢ place = (λ e. omega (arith, h, e)) in get_or-set_other later place i q 0 apart ∙ are.rest i (omega (arith, h)));
  }

-- ---- the first and the last of them

pub nothing_replaced : (s : RuledSquares) (k t : ℕ) (parts : List ℕ) → AreReplaced s s k t parts parts 0
nothing_replaced s k t parts = record {
  grows = record { rule = refl; store = record { room = refl; held = λ p h. h; stands = λ k p h. h; same = λ k p h. refl } };
  count = refl;
  done = λ i h. absurd (omega (arith, h));
  rest = λ i h. refl;
}

module _ (old now : RuledSquares) (k t : ℕ) (parts later : List ℕ) (place : ℕ) (are : AreReplaced old now k t parts later place) where
  pub all_replaced : length parts ≤ place → AreLater old.rule old.store now.store k t parts later
  all_replaced past = record { count = are.count; each = λ i h. are.done i (omega (arith, h, past)) }

  module _ (p : ℕ) (l : place < length parts) (is : p ≡ slice_index_or later place p) where
    pub read_whole : p ≡ slice_index_or later place 0
    read_whole = is ∙ same_default later place p 0 (let count = are.count in omega (arith, l, count))

    pub read_stands : AllStand old.store k parts → IsAt now.store k p
    read_stands stand = subst (λ q. IsAt now.store k q) (sym (read_whole ∙ are.rest place (omega arith))) (are.grows.store.stands k _ (stand place l))

-- ---- results of squares with the same states

pub result_same : (r : GenerationsRule) (n m t : ℕ) (c d c' d' : Grid) → n ≡ m → AreSameWithin (4 * n) c c' → AreSameWithin (2 * n) d d' → IsResult r n t c d → IsResult r m t c' d'
result_same r n m t c d c' d' e sc sd is = subst (λ k. IsResult r k t c' d') e (record {
  later = λ f corner below lies u v hu hv. is.later f corner below (λ x y hx hy. lies x y hx hy ∙ ap (λ w. w.state) (sym (sc x y hx hy))) u v hu hv ∙ ap (λ w. w.state) (sd u v hu hv);
})

-- ---- squares side by side

-- a place in a row of w, and the row
record IsSpot (w i : ℕ) : Type 0 where
  a : ℕ
  b : ℕ
  column : a < w
  row : b < w
  is : w * b + a ≡ i

stand_of : (s : Held EngineLeaf) (k w : ℕ) (f : ℕ → ℕ → Grid) (parts : List ℕ) → ((i : ℕ) → i < w * w → IsSpot w i) → AreDrawn s k w f parts → AllStand s k parts
stand_of s k w f parts spot drawn i h =
    let count = drawn.count in
    let at = spot i (omega (arith, h, count)) in
    subst (λ j. IsAt s k (slice_index_or parts j 0)) at.is (drawn.draws at.a at.b at.column at.row).stands

pub sixteen_stand : (s : Held EngineLeaf) (k : ℕ) (f : ℕ → ℕ → Grid) (parts : List ℕ) → AreDrawn s k 4 f parts → AllStand s k parts
sixteen_stand s k f parts = stand_of s k 4 f parts (λ i h. record { a = i % 4; b = i / 4; column = omega arith; row = omega (arith, h); is = omega arith })

pub nine_stand : (s : Held EngineLeaf) (k : ℕ) (f : ℕ → ℕ → Grid) (parts : List ℕ) → AreDrawn s k 3 f parts → AllStand s k parts
nine_stand s k f parts = stand_of s k 3 f parts (λ i h. record { a = i % 3; b = i / 3; column = omega arith; row = omega (arith, h); is = omega arith })

pub four_stand : (s : Held EngineLeaf) (k : ℕ) (f : ℕ → ℕ → Grid) (parts : List ℕ) → AreDrawn s k 2 f parts → AllStand s k parts
four_stand s k f parts = stand_of s k 2 f parts (λ i h. record { a = i % 2; b = i / 2; column = omega arith; row = omega (arith, h); is = omega arith })

-- and so do their results
pub later_stand : (r : GenerationsRule) (old new : Held EngineLeaf) (k t : ℕ) (parts later : List ℕ) → AreLater r old new k t parts later → AllStand new (k - 1) later
later_stand r old new k t parts later are i h = let count = are.count in (are.each i (omega (arith, h, count))).stands

pub later_four : (r : GenerationsRule) (old new : Held EngineLeaf) (k t : ℕ) (f : ℕ → ℕ → Grid) (parts later : List ℕ) → AreDrawn old k 2 f parts → AreLater r old new k t parts later → AreAt new (k - 1) later
later_four r old new k t f parts later drawn are i h = let count = drawn.count in (are.each i (omega (arith, h, count))).stands

-- two parts of a grid side by side, and two below them
part_joined : (c : Grid) (n a b : ℕ) → AreSameWithin (n + n) (neighbours_joined n (λ x y. part_from c (n * x) (n * y)) a b) (part_from c (n * a) (n * b))
part_joined c n a b =
    let f = λ (x y : ℕ). part_from c (n * x) (n * y) in
    let nw = f a b in let ne = f (a + 1) b in let sw = f a (b + 1) in let se = f (a + 1) (b + 1) in
    by_quarter n (λ u v. quartered n nw ne sw se u v ≡ part_from c (n * a) (n * b) u v)
    (λ u v hu hv. quarter_nw n nw ne sw se u v hu hv)
    (λ u v hu hv. quarter_ne n nw ne sw se u v hv ∙ ap (λ x. c x (n * b + v)) (next a u))
    (λ u v hu hv. quarter_sw n nw ne sw se u v hu ∙ ap (λ y. c (n * a + u) y) (next b v))
    (λ u v hu hv. quarter_se n nw ne sw se u v ∙ ap (λ x. c x (n * (b + 1) + v)) (next a u) ∙ ap (λ y. c (n * a + (n + u)) y) (next b v))
  where
    next : (a u : ℕ) → n * (a + 1) + u ≡ n * a + (n + u)
    next a u = grind arith

-- ---- nine, and then four

four_times : (k : ℕ) → 1 < k → 4 * side_at 4 (k - 1 - 1) ≡ side_at 8 (k - 1 - 1) + side_at 8 (k - 1 - 1)
four_times k h = let x = 2 ^ (k - 1 - 1) in let e : 4 * (4 * x) ≡ 8 * x + 8 * x = omega arith in e

module _ (r : GenerationsRule) (rule : IsRule r) (s0 s1 s2 s3 s4 s5 : Held EngineLeaf) (k t t' p q : ℕ) (more : 1 < k) (sixteen nine nine' four four' : List ℕ)
    (cut : AreDrawn s0 (k - 1 - 1) 4 (λ a b. part_from (grid_at leaf_grid 8 s0 k p) (side_at 8 (k - 1 - 1) * a) (side_at 8 (k - 1 - 1) * b)) sixteen)
    (first : AreDrawn s1 (k - 1) 3 (neighbours_joined (side_at 8 (k - 1 - 1)) (λ a b. grid_at leaf_grid 8 s0 (k - 1 - 1) (slice_index_or sixteen (4 * b + a) 0))) nine)
    (run : AreLater r s1 s2 (k - 1) t nine nine')
    (second : AreDrawn s3 (k - 1) 2 (neighbours_joined (side_at 8 (k - 1 - 1)) (λ a b. grid_at leaf_grid 8 s2 (k - 1 - 1) (slice_index_or nine' (3 * b + a) 0))) four)
    (run' : AreLater r s3 s4 (k - 1) t' four four')
    (last : Draws leaf_grid 8 s5 (k - 1) (four_grid leaf_grid 8 s4 (k - 1 - 1) four') q) where
  n : ℕ
  n = side_at 4 (k - 1 - 1)

  m : ℕ
  m = side_at 8 (k - 1 - 1)

  c : Grid
  c = grid_at leaf_grid 8 s0 k p

  d : ℕ → ℕ → Grid
  d a b = grid_at leaf_grid 8 s2 (k - 1 - 1) (slice_index_or nine' (3 * b + a) 0)

  z : ℕ → ℕ → Grid
  z a b = grid_at leaf_grid 8 s4 (k - 1 - 1) (slice_index_or four' (2 * b + a) 0)

  double : m ≡ 2 * n
  unfolding n m
  double = let x = 2 ^ (k - 1 - 1) in let e : 8 * x ≡ 2 * (4 * x) = omega arith in e

  side : side_at 8 (k - 1) ≡ 4 * n
  unfolding n m
  side = twice_below 8 (k - 1) (omega (arith, more)) ∙ sym (four_times k more)

  sides : side_at 8 (k - 1) ≡ m + m
  unfolding m
  sides = twice_below 8 (k - 1) (omega (arith, more))

  cut_nine : (a b : ℕ) → a < 3 → b < 3 → AreSameWithin (4 * n) (grid_at leaf_grid 8 s1 (k - 1) (slice_index_or nine (3 * b + a) 0)) (part_from c (2 * n * a) (2 * n * b))
  unfolding c m
  cut_nine a b ha hb u v hu hv =
      let f = λ (x y : ℕ). part_from c (m * x) (m * y) in
      let f' = λ (x y : ℕ). grid_at leaf_grid 8 s0 (k - 1 - 1) (slice_index_or sixteen (4 * y + x) 0) in
      let e = double in let e' = side in
      let wu : u < m + m = omega (arith, hu, e) in let wv : v < m + m = omega (arith, hv, e) in
      let g = λ (x y : ℕ) (hx : x < 4) (hy : y < 4). (cut.draws x y hx hy).same in
      (first.draws a b ha hb).same u v (omega (arith, hu, e')) (omega (arith, hv, e'))
      ∙ quartered_same m (f' a b) (f' (a + 1) b) (f' a (b + 1)) (f' (a + 1) (b + 1)) (f a b) (f (a + 1) b) (f a (b + 1)) (f (a + 1) (b + 1))
      (g a b (omega (arith, ha)) (omega (arith, hb))) (g (a + 1) b (omega (arith, ha)) (omega (arith, hb))) (g a (b + 1) (omega (arith, ha)) (omega (arith, hb))) (g (a + 1) (b + 1) (omega (arith, ha)) (omega (arith, hb))) u v wu wv
      ∙ part_joined c m a b u v wu wv ∙ ap (λ x. part_from c (x * a) (x * b) u v) e

  nine_results : (a b : ℕ) → a < 3 → b < 3 → IsResult r n t (part_from c (2 * n * a) (2 * n * b)) (d a b)
  unfolding n d
  nine_results a b ha hb =
      let count = first.count in
      result_same r n n t _ _ _ _ refl (cut_nine a b ha hb) (λ u v hu hv. refl) (run.each (3 * b + a) (omega (arith, ha, hb, count))).result

  four_results : (a b : ℕ) → a < 2 → b < 2 → IsResult r n t' (quartered (2 * n) (d a b) (d (a + 1) b) (d a (b + 1)) (d (a + 1) (b + 1))) (z a b)
  unfolding n d z m
  four_results a b ha hb =
      let count = second.count in
      let e = side in
      let drawn : AreSameWithin (4 * n) (grid_at leaf_grid 8 s3 (k - 1) (slice_index_or four (2 * b + a) 0)) (quartered (2 * n) (d a b) (d (a + 1) b) (d a (b + 1)) (d (a + 1) (b + 1))) = λ u v hu hv.
      ((second.draws a b ha hb).same u v (omega (arith, hu, e)) (omega (arith, hv, e)) ∙ ap (λ x. quartered x (d a b) (d (a + 1) b) (d a (b + 1)) (d (a + 1) (b + 1)) u v) double) in
      result_same r n n t' _ _ _ _ refl drawn (λ u v hu hv. refl) (run'.each (2 * b + a) (omega (arith, ha, hb, count))).result

  pub passes_later : IsLater r s0 s5 k (t + t') p q
  unfolding n d z m c
  passes_later = record {
    stands = last.stands;
    result =
        (let e = double in let e' = sides in
        let half : 2 * n ≡ side_at 4 (k - 1) = (let x = 2 ^ (k - 1 - 1) in let x' = 2 ^ (k - 1) in let w : 8 * x' ≡ 8 * x + 8 * x = sides in let h : 2 * (4 * x) ≡ 4 * x' = omega (arith, w) in h) in
        result_same r (2 * n) (side_at 4 (k - 1)) (t + t') c (quartered (2 * n) (z 0 0) (z 1 0) (z 0 1) (z 1 1)) c (grid_at leaf_grid 8 s5 (k - 1) q) half (λ u v hu hv. refl)
        (λ u v hu hv. ap (λ x. quartered x (z 0 0) (z 1 0) (z 0 1) (z 1 1) u v) (sym e) ∙ sym (last.same u v (omega (arith, hu, e, e')) (omega (arith, hv, e, e'))))
        (in_two_passes r rule n t t' c d z nine_results four_results));
  }

-- the same of stores under one rule, each grown out of the one before
pub ruled_passes : (s0 s1 s2 s3 s4 s5 : RuledSquares) (k t t' u p q : ℕ) (sixteen nine nine' four four' : List ℕ) → IsRule s0.rule → 1 < k → HasGrown s0 s1 → HasGrown s1 s2 → HasGrown s2 s3
    → AreDrawn s0.store (k - 1 - 1) 4 (λ a b. part_from (grid_at leaf_grid 8 s0.store k p) (side_at 8 (k - 1 - 1) * a) (side_at 8 (k - 1 - 1) * b)) sixteen
    → AreDrawn s1.store (k - 1) 3 (neighbours_joined (side_at 8 (k - 1 - 1)) (λ a b. grid_at leaf_grid 8 s0.store (k - 1 - 1) (slice_index_or sixteen (4 * b + a) 0))) nine
    → AreLater s1.rule s1.store s2.store (k - 1) t nine nine'
    → AreDrawn s3.store (k - 1) 2 (neighbours_joined (side_at 8 (k - 1 - 1)) (λ a b. grid_at leaf_grid 8 s2.store (k - 1 - 1) (slice_index_or nine' (3 * b + a) 0))) four
    → AreLater s3.rule s3.store s4.store (k - 1) t' four four'
    → Draws leaf_grid 8 s5.store (k - 1) (four_grid leaf_grid 8 s4.store (k - 1 - 1) four') q
    → t + t' ≡ u → IsLater s0.rule s0.store s5.store k u p q
ruled_passes s0 s1 s2 s3 s4 s5 k t t' u p q sixteen nine nine' four four' rule more g1 g2 g3 cut first run second run' last sum =
    let run0 = subst (λ (r : GenerationsRule). AreLater r s1.store s2.store (k - 1) t nine nine') g1.rule run in
    let run3 = subst (λ (r : GenerationsRule). AreLater r s3.store s4.store (k - 1) t' four four') (g3.rule ∙ g2.rule ∙ g1.rule) run' in
    subst (λ n. IsLater s0.rule s0.store s5.store k n p q) sum
    (passes_later s0.rule rule s0.store s1.store s2.store s3.store s4.store s5.store k t t' p q more sixteen nine nine' four four' cut first run0 second run3 last)

pub twice_power : (k : ℕ) → 2 ^ k + 2 ^ k ≡ 2 ^ (k + 1)
twice_power k = let e = pow-suc 2 k in let e' = add-one k in rw e' (omega (arith, e))

-- ---- one call in another

pub grown_on : (s t u : RuledSquares) → HasGrown s t → HasGrown t u → HasGrown s u
grown_on s t u g h = record { rule = h.rule ∙ g.rule; store = grown_more leaf_grid 8 s.store t.store u.store g.store h.store }

-- a result in the store that has it
pub result_there : (s t : RuledSquares) (k n p q : ℕ) → HasGrown s t → IsAt s.store k p → IsLater s.rule s.store t.store k n p q → IsLater t.rule t.store t.store k n p q
result_there s t k n p q g at later = subst (λ (r : GenerationsRule). IsLater r t.store t.store k n p q) (sym g.rule) (later_since s.rule s.store t.store t.store k n p q g.store at later)

pub some_above : (k : ℕ) → 1 < k → 1 ≤ k
some_above k more = omega (arith, more)

pub above_one : (k : ℕ) → 0 < k → k ≢ 1 → 1 < k
above_one k some other = omega (arith, some, other)

pub level_below : (k : ℕ) → 1 < k → 0 < k - 1
level_below k more = omega (arith, more)

pub few_below : (k : ℕ) → k < 100 → k - 1 < 100
few_below k few = omega (arith, few)

pub exponent_below : (k e : ℕ) → 1 < k → e ≤ k → e ≤ k - 1 + 1
exponent_below k e more h = omega (arith, more, h)

pub first_exponent : (k e : ℕ) → k ≡ 1 → e ≤ k + 1 → e ≤ 2
first_exponent k e is h = omega (arith, is, h)

pub less_exponent : (k e : ℕ) → e ≤ k + 1 → e ≢ k + 1 → e ≤ k
less_exponent k e h other = omega (arith, h, other)

pub next_fits : (k : ℕ) → k < 100 → Fits w32 (k + 1)
next_fits k few = omega (arith, few)

pub result_falls : (k t : ℕ) → 4 * k + 3 ≡ t → 4 * k + 2 < t
result_falls k t is = omega (arith, is)

pub computed_falls : (k t : ℕ) → 4 * k + 2 ≡ t → 4 * k + 1 < t
computed_falls k t is = omega (arith, is)

pub pass_falls : (k t : ℕ) → 4 * k + 1 ≡ t → 4 * k < t
pass_falls k t is = omega (arith, is)

pub results_fall : (k t : ℕ) → 1 < k → 4 * k ≡ t → 4 * (k - 1) + 3 < t
results_fall k t more is = omega (arith, more, is)
