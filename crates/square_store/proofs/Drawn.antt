-- Squares of a store that grows, and what they are cut into and put together of.
use Rattle.std.proofs.Common.{◌≡◌, ℕ, zero, suc, ◌+◌, ◌-◌, ◌<◌, [], ◌∷◌, inl, inr, refl, sym, ap, ◌∙◌, arith}
use Rattle.std.specs.Prelude.{slice_index_or}
use Rattle.std.proofs.lemmas.Bool.{cases_lt}
use Rattle.square_store.specs.Grid.{Grid, blank_grid, quartered, AreSameWithin}
use Rattle.square_store.specs.Squares.{Held, IsAt, side_at, grid_at, four_grid, Draws}
use Rattle.square_store.specs.Seen.{AreAt, AreQuartersAt, IsBlankAt}
use Rattle.square_store.specs.Store.{IsGrown, IsNoneKept}
use Rattle.square_store.proofs.Quarters.{twice, quarter_nw, quarter_ne, quarter_sw, quarter_se, each_quarter}

-- a square is twice as wide as one of the level below
pub twice_below : (side k : ℕ) → 0 < k → side_at side k ≡ side_at side (k - 1) + side_at side (k - 1)
twice_below side k h = let e : suc (k - 1) ≡ k = omega (arith, h) in ap (side_at side) (sym e) ∙ twice side (k - 1)

-- what holds of four parts holds of each part of their array
pub each_of_four : (P : ℕ → Type 0) (a b c d : ℕ) → P a → P b → P c → P d → (i : ℕ) → i < 4 → P (slice_index_or (a ∷ b ∷ c ∷ d ∷ []) i 0)
each_of_four P a b c d pa pb pc pd zero h = pa
each_of_four P a b c d pa pb pc pd (suc zero) h = pb
each_of_four P a b c d pa pb pc pd (suc (suc zero)) h = pc
each_of_four P a b c d pa pb pc pd (suc (suc (suc zero))) h = pd
each_of_four P a b c d pa pb pc pd (suc (suc (suc (suc i)))) h = absurd (omega (arith, h))

-- four squares stand at the parts of an array
pub four_at : {L : Type 0} (s : Held L) (k a b c d : ℕ) → IsAt s k a → IsAt s k b → IsAt s k c → IsAt s k d → AreAt s k (a ∷ b ∷ c ∷ d ∷ [])
four_at s k a b c d ha hb hc hd = each_of_four (λ p. IsAt s k p) a b c d ha hb hc hd

-- a grid is that of its quarters
quarters_same : (n : ℕ) (a b c d g : Grid) → AreSameWithin n a (λ u v. g (0 + u) (0 + v)) → AreSameWithin n b (λ u v. g (n + u) (0 + v)) → AreSameWithin n c (λ u v. g (0 + u) (n + v)) → AreSameWithin n d (λ u v. g (n + u) (n + v))
    → AreSameWithin (n + n) (quartered n a b c d) g
quarters_same n a b c d g ea eb ec ed u v hu hv =
    let zu : 0 + u ≡ u = omega arith in
    let zv : 0 + v ≡ v = omega arith in
    elim (cases_lt v n) [
      | inl top ↦ elim (cases_lt u n) [
        | inl left ↦ quarter_nw n a b c d u v left top ∙ ea u v left top ∙ ap (λ z. g z (0 + v)) zu ∙ ap (λ z. g u z) zv
        | inr right ↦ (let e : n + (u - n) ≡ u = omega arith in let l : u - n < n = omega arith in
            ap (λ z. quartered n a b c d z v) (sym e) ∙ quarter_ne n a b c d (u - n) v top ∙ eb (u - n) v l top ∙ ap (λ z. g z (0 + v)) e ∙ ap (λ z. g u z) zv)
      ]
      | inr bottom ↦ (let f : n + (v - n) ≡ v = omega arith in let m : v - n < n = omega arith in elim (cases_lt u n) [
        | inl left ↦ ap (λ z. quartered n a b c d u z) (sym f) ∙ quarter_sw n a b c d u (v - n) left ∙ ec u (v - n) left m ∙ ap (λ z. g z (n + (v - n))) zu ∙ ap (λ z. g u z) f
        | inr right ↦ (let e : n + (u - n) ≡ u = omega arith in let l : u - n < n = omega arith in
            ap (λ z. quartered n a b c d z v) (sym e) ∙ ap (λ z. quartered n a b c d (n + (u - n)) z) (sym f) ∙ quarter_se n a b c d (u - n) (v - n) ∙ ed (u - n) (v - n) l m ∙ ap (λ z. g z (n + (v - n))) e ∙ ap (λ z. g u z) f)
      ])
    ]

pub none_more : {L : Type 0} (s t r : Held L) → IsNoneKept s t → IsNoneKept t r → IsNoneKept s r
none_more s t r g h p x at = g p x (h p x at)

module _ {L : Type 0} (writes : L → Grid) (side : ℕ) where
  pub grown_more : (s t r : Held L) → IsGrown writes side s t → IsGrown writes side t r → IsGrown writes side s r
  grown_more s t r g h = record {
    room = h.room ∙ g.room;
    held = λ p there. h.held p (g.held p there);
    stands = λ k p at. h.stands k p (g.stands k p at);
    same = λ k p at. h.same k p (g.stands k p at) ∙ g.same k p at;
  }

  pub draws_later : (s t : Held L) (k : ℕ) (f : Grid) (p : ℕ) → IsGrown writes side s t → Draws writes side s k f p → Draws writes side t k f p
  draws_later s t k f p g drawn = record {
    stands = g.stands k p drawn.stands;
    same = λ u v hu hv. ap (λ (f : Grid). f u v) (g.same k p drawn.stands) ∙ drawn.same u v hu hv;
  }

  pub draws_as : (s : Held L) (k : ℕ) (f g : Grid) (p : ℕ) → AreSameWithin (side_at side k) f g → Draws writes side s k f p → Draws writes side s k g p
  draws_as s k f g p alike drawn = record { stands = drawn.stands; same = λ u v hu hv. drawn.same u v hu hv ∙ alike u v hu hv }

  -- the square of four that draw the quarters of a grid
  pub draws_four : (s t : Held L) (k p a b c d : ℕ) (g fa fb fc fd : Grid) → 0 < k → Draws writes side t k (four_grid writes side s (k - 1) (a ∷ b ∷ c ∷ d ∷ [])) p
      → Draws writes side s (k - 1) fa a → Draws writes side s (k - 1) fb b → Draws writes side s (k - 1) fc c → Draws writes side s (k - 1) fd d
      → (n : ℕ) → n ≡ side_at side (k - 1) → AreSameWithin n fa (λ u v. g (0 + u) (0 + v)) → AreSameWithin n fb (λ u v. g (n + u) (0 + v)) → AreSameWithin n fc (λ u v. g (0 + u) (n + v)) → AreSameWithin n fd (λ u v. g (n + u) (n + v))
      → Draws writes side t k g p
  draws_four s t k p a b c d g fa fb fc fd some whole da db dc dd n is ea eb ec ed =
      let up : suc (k - 1) ≡ k = omega arith in
      let w : side_at side k ≡ n + n = ap (side_at side) (sym up) ∙ twice side (k - 1) ∙ rw is refl in
      let within : (m : ℕ) → m < n → m < side_at side (k - 1) = λ m l. omega (arith, l, is) in
      draws_as t k (four_grid writes side s (k - 1) (a ∷ b ∷ c ∷ d ∷ [])) g p
      (λ u v hu hv. ap (λ m. quartered m (grid_at writes side s (k - 1) a) (grid_at writes side s (k - 1) b) (grid_at writes side s (k - 1) c) (grid_at writes side s (k - 1) d) u v) (sym is)
      ∙ quarters_same n (grid_at writes side s (k - 1) a) (grid_at writes side s (k - 1) b) (grid_at writes side s (k - 1) c) (grid_at writes side s (k - 1) d) g
      (λ u v hu hv. da.same u v (within u hu) (within v hv) ∙ ea u v hu hv) (λ u v hu hv. db.same u v (within u hu) (within v hv) ∙ eb u v hu hv)
      (λ u v hu hv. dc.same u v (within u hu) (within v hv) ∙ ec u v hu hv) (λ u v hu hv. dd.same u v (within u hu) (within v hv) ∙ ed u v hu hv)
      u v (omega (arith, hu, w)) (omega (arith, hv, w)))
      whole

  -- a blank is cut into itself
  pub blank_cut : (s : Held L) (t k p : ℕ) → 0 < k → IsBlankAt writes side s t p → AreQuartersAt writes side s k p (p ∷ p ∷ p ∷ p ∷ [])
  blank_cut s t k p some blank = record {
    four = refl;
    stand = four_at s (k - 1) p p p p (blank (k - 1)).stands (blank (k - 1)).stands (blank (k - 1)).stands (blank (k - 1)).stands;
    draws = record {
      stands = (blank k).stands;
      same = λ u v hu hv.
          (let e = twice_below side k some in
          let each = λ (u v : ℕ) (hu : u < side_at side (k - 1)) (hv : v < side_at side (k - 1)). (blank (k - 1)).same u v hu hv in
          (blank k).same u v hu hv ∙ sym (each_quarter (λ w. w ≡ blank_grid t 0 0) (side_at side (k - 1)) (grid_at writes side s (k - 1) p) (grid_at writes side s (k - 1) p) (grid_at writes side s (k - 1) p) (grid_at writes side s (k - 1) p) each each each each u v (omega (arith, hu, e)) (omega (arith, hv, e))));
    };
  }
