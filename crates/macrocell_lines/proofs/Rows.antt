-- Squares one row on, quarter by quarter.
use Rattle.std.proofs.Common.{◌≡◌, ℕ, zero, suc, ◌+◌, ◌-◌, ◌<◌, ◌≤◌, List, [], ◌∷◌, length, inl, inr, refl, sym, ◌∙◌, ap, subst, arith}
use Rattle.std.specs.Prelude.{slice_index_or}
use Rattle.std.proofs.lemmas.Bool.{cases_lt}
use Rattle.square_store.specs.Grid.{Grid, quartered, AreSameWithin}
use Rattle.square_store.proofs.Quarters.{lt_true, lt_false, quarter_nw, quarter_ne, quarter_sw, quarter_se}
use Rattle.macrocell_lines.specs.Raised.{raised}

-- what holds in each quarter holds in the whole
pub by_quarter : (n : ℕ) (P : ℕ → ℕ → Type 0) → ((u v : ℕ) → u < n → v < n → P u v) → ((u v : ℕ) → u < n → v < n → P (n + u) v) → ((u v : ℕ) → u < n → v < n → P u (n + v)) → ((u v : ℕ) → u < n → v < n → P (n + u) (n + v))
    → (u v : ℕ) → u < n + n → v < n + n → P u v
by_quarter n P nw ne sw se u v hu hv = elim (cases_lt v n) [
  | inl top ↦ elim (cases_lt u n) [
    | inl left ↦ nw u v left top
    | inr right ↦ (let e : n + (u - n) ≡ u = omega (arith, right) in subst (λ x. P x v) e (ne (u - n) v (omega (arith, hu, right)) top))
  ]
  | inr bottom ↦ (let f : n + (v - n) ≡ v = omega (arith, bottom) in elim (cases_lt u n) [
    | inl left ↦ subst (λ y. P u y) f (sw u (v - n) left (omega (arith, hv, bottom)))
    | inr right ↦ (let e : n + (u - n) ≡ u = omega (arith, right) in
        subst (λ x. P x v) e (subst (λ y. P (n + (u - n)) y) f (se (u - n) (v - n) (omega (arith, hu, right)) (omega (arith, hv, bottom)))))
  ])
]

-- four squares with the same writes as four others make one with the same
pub quartered_same : (n : ℕ) (a b c d a' b' c' d' : Grid) → AreSameWithin n a a' → AreSameWithin n b b' → AreSameWithin n c c' → AreSameWithin n d d' → AreSameWithin (n + n) (quartered n a b c d) (quartered n a' b' c' d')
quartered_same n a b c d a' b' c' d' ha hb hc hd = by_quarter n (λ u v. quartered n a b c d u v ≡ quartered n a' b' c' d' u v)
    (λ u v hu hv. quarter_nw n a b c d u v hu hv ∙ ha u v hu hv ∙ sym (quarter_nw n a' b' c' d' u v hu hv))
    (λ u v hu hv. quarter_ne n a b c d u v hv ∙ hb u v hu hv ∙ sym (quarter_ne n a' b' c' d' u v hv))
    (λ u v hu hv. quarter_sw n a b c d u v hu ∙ hc u v hu hv ∙ sym (quarter_sw n a' b' c' d' u v hu))
    (λ u v hu hv. quarter_se n a b c d u v ∙ hd u v hu hv ∙ sym (quarter_se n a' b' c' d' u v))

module _ (n : ℕ) (f g : Grid) (u v : ℕ) where
  -- all rows but the last are the next ones of the square
  pub raised_in : suc v < n → raised n f g u v ≡ f u (suc v)
  raised_in h = rw (lt_true (suc v) n h) refl

  -- the last row is the first one of the square below
  pub raised_last : n ≤ suc v → raised n f g u v ≡ g u 0
  raised_last h = rw (lt_false (suc v) n h) refl

-- squares with the same writes are the same one row on
pub raised_same : (n : ℕ) (f f' g g' : Grid) → AreSameWithin n f f' → AreSameWithin n g g' → AreSameWithin n (raised n f g) (raised n f' g')
raised_same n f f' g g' hf hg u v hu hv = elim (cases_lt (suc v) n) [
  | inl more ↦ raised_in n f g u v more ∙ hf u (suc v) hu more ∙ sym (raised_in n f' g' u v more)
  | inr last ↦ raised_last n f g u v last ∙ hg u 0 hu (omega (arith, hv)) ∙ sym (raised_last n f' g' u v last)
]

module _ (n : ℕ) (a b c d e f g h : Grid) where
  abbrev upper : Grid
  upper = quartered n a b c d

  abbrev lower : Grid
  lower = quartered n e f g h

  pub nw_raised : (u v : ℕ) → u < n → v < n → raised n a c u v ≡ raised (n + n) upper lower u v
  nw_raised u v hu hv = elim (cases_lt (suc v) n) [
    | inl more ↦ raised_in n a c u v more ∙ sym (quarter_nw n a b c d u (suc v) hu more) ∙ sym (raised_in (n + n) upper lower u v (omega (arith, hu, hv)))
    | inr last ↦ (let row : n + 0 ≡ suc v = omega (arith, last, hv) in
        raised_last n a c u v last ∙ sym (quarter_sw n a b c d u 0 hu) ∙ ap (λ y. upper u y) row ∙ sym (raised_in (n + n) upper lower u v (omega (arith, hu, hv))))
  ]

  pub ne_raised : (u v : ℕ) → u < n → v < n → raised n b d u v ≡ raised (n + n) upper lower (n + u) v
  ne_raised u v hu hv = elim (cases_lt (suc v) n) [
    | inl more ↦ raised_in n b d u v more ∙ sym (quarter_ne n a b c d u (suc v) more) ∙ sym (raised_in (n + n) upper lower (n + u) v (omega (arith, hu, hv)))
    | inr last ↦ (let row : n + 0 ≡ suc v = omega (arith, last, hv) in
        raised_last n b d u v last ∙ sym (quarter_se n a b c d u 0) ∙ ap (λ y. upper (n + u) y) row ∙ sym (raised_in (n + n) upper lower (n + u) v (omega (arith, hu, hv))))
  ]

  pub sw_raised : (u v : ℕ) → u < n → v < n → raised n c e u v ≡ raised (n + n) upper lower u (n + v)
  sw_raised u v hu hv = elim (cases_lt (suc v) n) [
    | inl more ↦ (let row : n + suc v ≡ suc (n + v) = omega arith in
        raised_in n c e u v more ∙ sym (quarter_sw n a b c d u (suc v) hu) ∙ ap (λ y. upper u y) row ∙ sym (raised_in (n + n) upper lower u (n + v) (omega (arith, more))))
    | inr last ↦ raised_last n c e u v last ∙ sym (quarter_nw n e f g h u 0 hu (omega (arith, hu))) ∙ sym (raised_last (n + n) upper lower u (n + v) (omega (arith, last)))
  ]

  pub se_raised : (u v : ℕ) → u < n → v < n → raised n d f u v ≡ raised (n + n) upper lower (n + u) (n + v)
  se_raised u v hu hv = elim (cases_lt (suc v) n) [
    | inl more ↦ (let row : n + suc v ≡ suc (n + v) = omega arith in
        raised_in n d f u v more ∙ sym (quarter_se n a b c d u (suc v)) ∙ ap (λ y. upper (n + u) y) row ∙ sym (raised_in (n + n) upper lower (n + u) (n + v) (omega (arith, more))))
    | inr last ↦ raised_last n d f u v last ∙ sym (quarter_ne n e f g h u 0 (omega (arith, hu))) ∙ sym (raised_last (n + n) upper lower (n + u) (n + v) (omega (arith, last)))
  ]

-- what an array of four has at a place, whatever stands for a place beyond its end
same_default : {A : Type 0} (xs : List A) (i : ℕ) (d e : A) → i < length xs → slice_index_or xs i d ≡ slice_index_or xs i e
same_default [] i d e h = absurd (omega (arith, h))
same_default (x ∷ xs) zero d e h = refl
same_default (x ∷ xs) (suc i) d e h = same_default xs i d e (omega (arith, h))

pub listed : (parts : List ℕ) → length parts ≡ 4 → (i d : ℕ) → i < 4 → slice_index_or parts i d ≡ slice_index_or parts i 0
listed parts four i d h = same_default parts i d 0 (omega (arith, h, four))
