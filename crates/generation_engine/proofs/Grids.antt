-- Squares put together of four, quarter by quarter.
use Rattle.std.proofs.Common.{◌≡◌, ℕ, ◌+◌, ◌-◌, ◌<◌, ◌≤◌, Bool, true, false, inl, inr, refl, sym, ◌∙◌, ap, subst, arith}
use Rattle.std.specs.Prelude.{◌&&◌, nat_lt, nat_le, if◌then◌else◌}
use Rattle.std.proofs.lemmas.Bool.{cases_lt}
use Rattle.std.proofs.lemmas.Bool.Decides.{nat_tests}
use Rattle.stamped_writes.specs.declared.write.Write.{Write}
use Rattle.square_store.specs.Grid.{Grid, quartered, blank_grid, AreSameWithin}
use Rattle.square_store.proofs.Quarters.{quarter_nw, quarter_ne, quarter_sw, quarter_se}
use Rattle.generation_engine.specs.Loading.{centred}

-- what holds in each quarter holds in the whole
pub by_quarter : (n : ℕ) (P : ℕ → ℕ → Type 0) → ((u v : ℕ) → u < n → v < n → P u v) → ((u v : ℕ) → u < n → v < n → P (n + u) v) → ((u v : ℕ) → u < n → v < n → P u (n + v)) → ((u v : ℕ) → u < n → v < n → P (n + u) (n + v))
    → (u v : ℕ) → u < n + n → v < n + n → P u v
by_quarter n P nw ne sw se u v hu hv = elim (cases_lt v n) [
  | inl top ↦ elim (cases_lt u n) [
    | inl left ↦ nw u v left top
    | inr right ↦ (let e : n + (u - n) ≡ u = omega (arith, right) in subst (λ x. P x v) e (ne (u - n) v (omega (arith, hu, right)) top))
  ]
  | inr bottom ↦ (let f : n + (v - n) ≡ v = omega (arith, bottom) in elim (cases_lt u n) [
    | inl left ↦ subst (λ y. P u y) f (sw u (v - n) left (omega (arith, hv, bottom)))
    | inr right ↦ (let e : n + (u - n) ≡ u = omega (arith, right) in
        subst (λ x. P x v) e (subst (λ y. P (n + (u - n)) y) f (se (u - n) (v - n) (omega (arith, hu, right)) (omega (arith, hv, bottom)))))
  ])
]

-- four squares with the same writes as four others make one with the same
pub quartered_same : (n : ℕ) (a b c d a' b' c' d' : Grid) → AreSameWithin n a a' → AreSameWithin n b b' → AreSameWithin n c c' → AreSameWithin n d d' → AreSameWithin (n + n) (quartered n a b c d) (quartered n a' b' c' d')
quartered_same n a b c d a' b' c' d' ha hb hc hd = by_quarter n (λ u v. quartered n a b c d u v ≡ quartered n a' b' c' d' u v)
    (λ u v hu hv. quarter_nw n a b c d u v hu hv ∙ ha u v hu hv ∙ sym (quarter_nw n a' b' c' d' u v hu hv))
    (λ u v hu hv. quarter_ne n a b c d u v hv ∙ hb u v hu hv ∙ sym (quarter_ne n a' b' c' d' u v hv))
    (λ u v hu hv. quarter_sw n a b c d u v hu ∙ hc u v hu hv ∙ sym (quarter_sw n a' b' c' d' u v hu))
    (λ u v hu hv. quarter_se n a b c d u v ∙ hd u v hu hv ∙ sym (quarter_se n a' b' c' d' u v))

-- ---- a square in the middle of a dead one

-- the column or row is one of the middle square
abbrev pub is_middle : ℕ → ℕ → Bool
is_middle n u = nat_le n u && nat_lt u (n + n + n)

middle_of : (n u : ℕ) → n ≤ u → u < n + n + n → is_middle n u ≡ true
middle_of n u h k = grind (arith, nat_tests, h, k)

pub before_middle : (n u : ℕ) → u < n → is_middle n u ≡ false
before_middle n u h = grind (arith, nat_tests, h)

behind_middle : (n u : ℕ) → n + n + n ≤ u → is_middle n u ≡ false
behind_middle n u h = grind (arith, nat_tests, h)

module _ (n : ℕ) (f : Grid) where
  pub centred_in : (u v : ℕ) → n ≤ u → u < n + n + n → n ≤ v → v < n + n + n → centred n f u v ≡ f (u - n) (v - n)
  centred_in u v hu ku hv kv = rw (middle_of n u hu ku, middle_of n v hv kv) refl

  pub centred_beside : (u v : ℕ) → is_middle n u ≡ false → centred n f u v ≡ blank_grid 0 u v
  centred_beside u v h = rw h refl

  pub centred_above : (u v : ℕ) → is_middle n v ≡ false → centred n f u v ≡ blank_grid 0 u v
  centred_above u v h = go (is_middle n u) (is_middle n v) h
    where
      go : (x y : Bool) → y ≡ false → (if x && y then f (u - n) (v - n) else blank_grid 0 u v) ≡ blank_grid 0 u v
      go true y e = rw e refl
      go false y e = refl

module _ (n : ℕ) (a b c d f : Grid) (is : AreSameWithin (n + n) (quartered n a b c d) f) where
  z : Grid
  z = blank_grid 0

  -- the states in the middle
  at_middle : (u v : ℕ) (w : Write) → u < n + n → v < n + n → quartered n a b c d u v ≡ w → (x y : ℕ) → x ≡ n + u → y ≡ n + v → w ≡ centred n f x y
  at_middle u v w hu hv e x y ex ey =
      let eu : x - n ≡ u = omega (arith, ex) in let ev : y - n ≡ v = omega (arith, ey) in
      sym e ∙ is u v hu hv ∙ ap (λ q. f q v) (sym eu) ∙ ap (λ q. f (x - n) q) (sym ev) ∙ sym (centred_in n f x y (omega (arith, ex)) (omega (arith, ex, hu)) (omega (arith, ey)) (omega (arith, ey, hv)))

  north_west : (u v : ℕ) → u < n + n → v < n + n → quartered n z z z a u v ≡ centred n f u v
  unfolding z
  north_west = by_quarter n (λ u v. quartered n z z z a u v ≡ centred n f u v)
      (λ u v hu hv. quarter_nw n z z z a u v hu hv ∙ sym (centred_beside n f u v (before_middle n u hu)))
      (λ u v hu hv. quarter_ne n z z z a u v hv ∙ sym (centred_above n f (n + u) v (before_middle n v hv)))
      (λ u v hu hv. quarter_sw n z z z a u v hu ∙ sym (centred_beside n f u (n + v) (before_middle n u hu)))
      (λ u v hu hv. quarter_se n z z z a u v ∙ at_middle u v (a u v) (omega (arith, hu)) (omega (arith, hv)) (quarter_nw n a b c d u v hu hv) (n + u) (n + v) refl refl)

  north_east : (u v : ℕ) → u < n + n → v < n + n → quartered n z z b z u v ≡ centred n f (n + n + u) v
  unfolding z
  north_east = by_quarter n (λ u v. quartered n z z b z u v ≡ centred n f (n + n + u) v)
      (λ u v hu hv. quarter_nw n z z b z u v hu hv ∙ sym (centred_above n f (n + n + u) v (before_middle n v hv)))
      (λ u v hu hv. quarter_ne n z z b z u v hv ∙ sym (centred_above n f (n + n + (n + u)) v (before_middle n v hv)))
      (λ u v hu hv. quarter_sw n z z b z u v hu ∙ at_middle (n + u) v (b u v) (omega (arith, hu)) (omega (arith, hv)) (quarter_ne n a b c d u v hv) (n + n + u) (n + v) (omega arith) refl)
      (λ u v hu hv. quarter_se n z z b z u v ∙ sym (centred_beside n f (n + n + (n + u)) (n + v) (behind_middle n (n + n + (n + u)) (omega arith))))

  south_west : (u v : ℕ) → u < n + n → v < n + n → quartered n z c z z u v ≡ centred n f u (n + n + v)
  unfolding z
  south_west = by_quarter n (λ u v. quartered n z c z z u v ≡ centred n f u (n + n + v))
      (λ u v hu hv. quarter_nw n z c z z u v hu hv ∙ sym (centred_beside n f u (n + n + v) (before_middle n u hu)))
      (λ u v hu hv. quarter_ne n z c z z u v hv ∙ at_middle u (n + v) (c u v) (omega (arith, hu)) (omega (arith, hv)) (quarter_sw n a b c d u v hu) (n + u) (n + n + v) refl (omega arith))
      (λ u v hu hv. quarter_sw n z c z z u v hu ∙ sym (centred_beside n f u (n + n + (n + v)) (before_middle n u hu)))
      (λ u v hu hv. quarter_se n z c z z u v ∙ sym (centred_above n f (n + u) (n + n + (n + v)) (behind_middle n (n + n + (n + v)) (omega arith))))

  south_east : (u v : ℕ) → u < n + n → v < n + n → quartered n d z z z u v ≡ centred n f (n + n + u) (n + n + v)
  unfolding z
  south_east = by_quarter n (λ u v. quartered n d z z z u v ≡ centred n f (n + n + u) (n + n + v))
      (λ u v hu hv. quarter_nw n d z z z u v hu hv ∙ at_middle (n + u) (n + v) (d u v) (omega (arith, hu)) (omega (arith, hv)) (quarter_se n a b c d u v) (n + n + u) (n + n + v) (omega arith) (omega arith))
      (λ u v hu hv. quarter_ne n d z z z u v hv ∙ sym (centred_beside n f (n + n + (n + u)) (n + n + v) (behind_middle n (n + n + (n + u)) (omega arith))))
      (λ u v hu hv. quarter_sw n d z z z u v hu ∙ sym (centred_above n f (n + n + u) (n + n + (n + v)) (behind_middle n (n + n + (n + v)) (omega arith))))
      (λ u v hu hv. quarter_se n d z z z u v ∙ sym (centred_beside n f (n + n + (n + u)) (n + n + (n + v)) (behind_middle n (n + n + (n + u)) (omega arith))))

  -- four squares, each dead but for one quarter, which are those of the middle
  pub middle_drawn : (p q r s : Grid) → AreSameWithin (n + n) p (quartered n (blank_grid 0) (blank_grid 0) (blank_grid 0) a) → AreSameWithin (n + n) q (quartered n (blank_grid 0) (blank_grid 0) b (blank_grid 0))
      → AreSameWithin (n + n) r (quartered n (blank_grid 0) c (blank_grid 0) (blank_grid 0)) → AreSameWithin (n + n) s (quartered n d (blank_grid 0) (blank_grid 0) (blank_grid 0))
      → AreSameWithin (n + n + (n + n)) (quartered (n + n) p q r s) (centred n f)
  unfolding z
  middle_drawn p q r s hp hq hr hs = by_quarter (n + n) (λ u v. quartered (n + n) p q r s u v ≡ centred n f u v)
      (λ u v hu hv. quarter_nw (n + n) p q r s u v hu hv ∙ hp u v hu hv ∙ north_west u v hu hv)
      (λ u v hu hv. quarter_ne (n + n) p q r s u v hv ∙ hq u v hu hv ∙ north_east u v hu hv)
      (λ u v hu hv. quarter_sw (n + n) p q r s u v hu ∙ hr u v hu hv ∙ south_west u v hu hv)
      (λ u v hu hv. quarter_se (n + n) p q r s u v ∙ hs u v hu hv ∙ south_east u v hu hv)

-- squares with the same states in the middle of dead ones
pub centred_same : (n m : ℕ) (f g : Grid) → AreSameWithin (n + n) f g → AreSameWithin m (centred n f) (centred n g)
centred_same n m f g same u v hu hv = elim (cases_lt u n) [
  | inl left ↦ centred_beside n f u v (before_middle n u left) ∙ sym (centred_beside n g u v (before_middle n u left))
  | inr inside ↦ elim (cases_lt u (n + n + n)) [
    | inr right ↦ centred_beside n f u v (behind_middle n u right) ∙ sym (centred_beside n g u v (behind_middle n u right))
    | inl within ↦ elim (cases_lt v n) [
      | inl top ↦ centred_above n f u v (before_middle n v top) ∙ sym (centred_above n g u v (before_middle n v top))
      | inr below ↦ elim (cases_lt v (n + n + n)) [
        | inr bottom ↦ centred_above n f u v (behind_middle n v bottom) ∙ sym (centred_above n g u v (behind_middle n v bottom))
        | inl middle ↦ centred_in n f u v inside within below middle ∙ same (u - n) (v - n) (omega (arith, inside, within)) (omega (arith, below, middle)) ∙ sym (centred_in n g u v inside within below middle)
      ]
    ]
  ]
]

-- the middle of a square, by the quarters of its quarters that are next to it
pub middle_is : (n : ℕ) (f fa fb fc fd a a1 a2 a3 b b1 b2 b4 c c1 c3 c4 d d2 d3 d4 : Grid)
    → AreSameWithin (n + n + (n + n)) f (quartered (n + n) fa fb fc fd) → AreSameWithin (n + n) fa (quartered n a1 a2 a3 a) → AreSameWithin (n + n) fb (quartered n b1 b2 b b4)
    → AreSameWithin (n + n) fc (quartered n c1 c c3 c4) → AreSameWithin (n + n) fd (quartered n d d2 d3 d4)
    → (u v : ℕ) → u < n + n → v < n + n → f (n + u) (n + v) ≡ quartered n a b c d u v
middle_is n f fa fb fc fd a a1 a2 a3 b b1 b2 b4 c c1 c3 c4 d d2 d3 d4 is ha hb hc hd = by_quarter n (λ u v. f (n + u) (n + v) ≡ quartered n a b c d u v)
    (λ u v hu hv. is (n + u) (n + v) (omega (arith, hu)) (omega (arith, hv)) ∙ quarter_nw (n + n) fa fb fc fd (n + u) (n + v) (omega (arith, hu)) (omega (arith, hv))
    ∙ ha (n + u) (n + v) (omega (arith, hu)) (omega (arith, hv)) ∙ quarter_se n a1 a2 a3 a u v ∙ sym (quarter_nw n a b c d u v hu hv))
    (λ u v hu hv. (let e : n + (n + u) ≡ n + n + u = omega arith in
    ap (λ x. f x (n + v)) e ∙ is (n + n + u) (n + v) (omega (arith, hu)) (omega (arith, hv)) ∙ quarter_ne (n + n) fa fb fc fd u (n + v) (omega (arith, hv))
    ∙ hb u (n + v) (omega (arith, hu)) (omega (arith, hv)) ∙ quarter_sw n b1 b2 b b4 u v hu ∙ sym (quarter_ne n a b c d u v hv)))
    (λ u v hu hv. (let e : n + (n + v) ≡ n + n + v = omega arith in
    ap (λ y. f (n + u) y) e ∙ is (n + u) (n + n + v) (omega (arith, hu)) (omega (arith, hv)) ∙ quarter_sw (n + n) fa fb fc fd (n + u) v (omega (arith, hu))
    ∙ hc (n + u) v (omega (arith, hu)) (omega (arith, hv)) ∙ quarter_ne n c1 c c3 c4 u v hv ∙ sym (quarter_sw n a b c d u v hu)))
    (λ u v hu hv. (let e : n + (n + u) ≡ n + n + u = omega arith in let e' : n + (n + v) ≡ n + n + v = omega arith in
    ap (λ x. f x (n + (n + v))) e ∙ ap (λ y. f (n + n + u) y) e' ∙ is (n + n + u) (n + n + v) (omega (arith, hu)) (omega (arith, hv)) ∙ quarter_se (n + n) fa fb fc fd u v
    ∙ hd u v (omega (arith, hu)) (omega (arith, hv)) ∙ quarter_nw n d d2 d3 d4 u v hu hv ∙ sym (quarter_se n a b c d u v)))
