-- What areas have of a square.
use Rattle.std.proofs.Common.{◌≡◌, ℕ, ◌+◌, ◌<◌, ◌≤◌, ℤ, pos, ◌+ℤ◌, Bool, true, false, List, [], ◌∷◌, length, inl, inr, refl, sym, ap, ◌∙◌, arith}
use Rattle.std.specs.Prelude.{◌&&◌, ◌==◌, filter, int_le, int_lt}
use Rattle.std.specs.List.{list_any}
use Rattle.std.proofs.lemmas.Bool.{and_parts, cases_Bool}
use Rattle.std.proofs.lemmas.Bool.Decides.{nat_tests}
use Rattle.std.proofs.lemmas.Int.{ints}
use Rattle.std.proofs.lemmas.Map.Views.{any-filter_same}
use Rattle.edit_stamps.specs.declared.rect.Rect.{Rect}
use Rattle.edit_stamps.specs.Plane.{is_in, least}
use Rattle.stamped_tree.specs.Sought.{AgreeOn, covers, covers_side, is_in_some, meets, meets_side, spot}

-- ---- one side

side_met : (start : ℤ) (length from to u : ℕ) → from ≤ u → u < to → int_le start (least +ℤ pos u) ≡ true → int_lt (least +ℤ pos u) (start +ℤ pos length) ≡ true → meets_side start length from to ≡ true
side_met start length from to u h w a b = grind (arith, ints, h, w, a, b)

side_begun : (start : ℤ) (length from to u : ℕ) → covers_side start length from to ≡ true → from ≤ u → u < to → int_le start (least +ℤ pos u) ≡ true
side_begun start length from to u all h w = grind (arith, ints, h, w, all)

side_not_ended : (start : ℤ) (length from to u : ℕ) → covers_side start length from to ≡ true → from ≤ u → u < to → int_lt (least +ℤ pos u) (start +ℤ pos length) ≡ true
side_not_ended start length from to u all h w = grind (arith, ints, h, w, all)

four_parts : (a b c d : Bool) → (a && b && c && d) ≡ true → (a ≡ true) × (b ≡ true) × (c ≡ true) × (d ≡ true)
four_parts true true true true h = (refl, refl, refl, refl)
four_parts true true true false h = cc
four_parts true true false d h = cc
four_parts true false c d h = cc
four_parts false b c d h = cc

-- ---- a square

module _ (left top side u v : ℕ) (hu : left ≤ u) (wu : u < left + side) (hv : top ≤ v) (wv : v < top + side) (area : Rect) where
  met : is_in area (spot u v) ≡ true → meets left top side area ≡ true
  met h =
      let parts = four_parts (int_le area.x (least +ℤ pos u)) (int_lt (least +ℤ pos u) (area.x +ℤ pos area.width)) (int_le area.y (least +ℤ pos v)) (int_lt (least +ℤ pos v) (area.y +ℤ pos area.height)) h in
      rw (side_met area.x area.width left (left + side) u hu wu parts.0 parts.1, side_met area.y area.height top (top + side) v hv wv parts.2 parts.3) refl

  covered : covers left top side area ≡ true → is_in area (spot u v) ≡ true
  covered h =
      let parts = and_parts (covers_side area.x area.width left (left + side)) (covers_side area.y area.height top (top + side)) h in
      rw (
        side_begun area.x area.width left (left + side) u parts.0 hu wu,
        side_not_ended area.x area.width left (left + side) u parts.0 hu wu,
        side_begun area.y area.height top (top + side) v parts.1 hv wv,
        side_not_ended area.y area.height top (top + side) v parts.1 hv wv,
      ) refl

any_more : (p q : Rect → Bool) (areas : List Rect) → ((area : Rect) → p area ≡ true → q area ≡ true) → list_any p areas ≡ true → list_any q areas ≡ true
any_more p q [] implies h = h
any_more p q (area ∷ areas) implies h = elim (cases_Bool (p area)) [
  | inl is ↦ rw (implies area is) refl
  | inr other ↦ (let below = any_more p q areas implies (rw other at h) in elim (cases_Bool (q area)) [ inl more ↦ rw more refl | inr none ↦ rw none below ])
]

-- what meets the square has what the areas have of it
pub met_agree : (left top side : ℕ) (areas near : List Rect) → near ≡ filter (meets left top side) areas → AgreeOn left top side (is_in_some areas) (is_in_some near)
met_agree left top side areas near is u v hu wu hv wv = rw is (any-filter_same (λ area. is_in area (spot u v)) (meets left top side) true (met left top side u v hu wu hv wv) areas)

-- all of the square is sought where an area covers it
pub covering_agree : (left top side : ℕ) (areas : List Rect) → list_any (covers left top side) areas ≡ true → AgreeOn left top side (is_in_some areas) (λ c. true)
covering_agree left top side areas covers_it u v hu wu hv wv = sym (any_more (covers left top side) (λ area. is_in area (spot u v)) areas (covered left top side u v hu wu hv wv) covers_it)

-- and nothing where none meets it
pub none_agree : (left top side : ℕ) (areas near : List Rect) → near ≡ filter (meets left top side) areas → near ≡ [] → AgreeOn left top side (is_in_some areas) (λ c. false)
none_agree left top side areas near is none u v hu wu hv wv = sym (ap (λ xs. is_in_some xs (spot u v)) none) ∙ met_agree left top side areas near is u v hu wu hv wv

pub no_items : (areas : List Rect) → true ≡ (length areas == 0) → areas ≡ []
no_items [] h = refl
no_items (area ∷ areas) h = absurd (grind (arith, nat_tests, h))
