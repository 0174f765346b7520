-- Which maps lie in the plane, and which states they have, by how far live cells reach.
use Rattle.std.proofs.Common.{◌≡◌, ◌≢◌, ℕ, zero, suc, ◌+◌, ◌-◌, ◌*◌, ◌^◌, ◌≤◌, ◌<◌, Bool, true, false, List, length, refl, sym, ◌∙◌, ap, arith, subst, ◌⊎◌, inl, inr, ℤ, pos, negsuc, eqb-true}
use Rattle.std.specs.Prelude.{◌&&◌, ◌==◌, ◌+ℤ◌, ◌-ℤ◌, int_le, int_lt, nat_le, if◌then◌else◌}
use Rattle.std.proofs.lemmas.Bool.{and_parts, and_from}
use Rattle.std.proofs.lemmas.Bool.Decides.{nat_tests}
use Rattle.std.proofs.lemmas.Int.{ints}
use Rattle.generations_rule.specs.Place.{Place}
use Rattle.edit_stamps.specs.Plane.{is_coordinate_in_plane, is_in_plane}
use Rattle.macrocell_lines.specs.Roots.{is_in_root}
use Rattle.macrocell_lines.specs.Squares.{StateSquare, level_of, state_in}
use Rattle.macrocell_text.specs.Maps.{map_of_root}
use Rattle.macrocell_text.specs.declared.entry.Entry.{Entry}
use Rattle.macrocell_universes.specs.declared.quarters.Numbered.{Numbered}
use Rattle.macrocell_universes.specs.Numbered.{IsNumbered, square_of}
use Rattle.macrocell_universes.specs.declared.reach.Reach.{Reach}
use Rattle.macrocell_universes.specs.Middles.{LiesInPlane}
use Rattle.macrocell_universes.specs.Reaches.{AreReached, HasCellAt, IsCellOf, IsFarthest, IsReach, is_within_plane, to_east, to_north, to_south, to_west}
use Rattle.macrocell_universes.specs.Refusals.{HasStatesBelow}
use Rattle.macrocell_universes.proofs.Inside.{IsInside, half_above, inside, read_inside, read_outside}

-- ---- coordinates

column_in_plane : (x : ℤ) (u half west east : ℕ) → x +ℤ pos half ≡ pos u → suc u ≤ east → half + half - u ≤ west → east ≤ half + 1073741824 → west ≤ half + 1073741824 → is_coordinate_in_plane x ≡ true
column_in_plane x u half west east e he hw le lw =
    let a : int_le (negsuc (2 ^ 30 - 1)) x ≡ true = grind (arith, ints, nat_tests, e, hw, lw) in
    let b : int_lt x (pos (2 ^ 30)) ≡ true = grind (arith, ints, nat_tests, e, he, le) in
    and_from _ _ a b

row_in_plane : (y : ℤ) (v half north south : ℕ) → (y -ℤ pos 1) +ℤ pos half ≡ pos v → suc v ≤ south → half + half - v ≤ north → south ≤ half + 1073741824 - 1 → north ≤ half + 1073741824 + 1 → is_coordinate_in_plane y ≡ true
row_in_plane y v half north south e hs hn ls ln =
    let a : int_le (negsuc (2 ^ 30 - 1)) y ≡ true = grind (arith, ints, nat_tests, e, hn, ln) in
    let b : int_lt y (pos (2 ^ 30)) ≡ true = grind (arith, ints, nat_tests, e, hs, ls) in
    and_from _ _ a b

-- a place that lies beyond the plane
too_far_east : (u half : ℕ) → half + 1073741824 < suc u → is_coordinate_in_plane (pos u -ℤ pos half) ≡ false
too_far_east u half h = by (is_coordinate_in_plane (pos u -ℤ pos half)) refl
  where
    by : (b : Bool) → is_coordinate_in_plane (pos u -ℤ pos half) ≡ b → is_coordinate_in_plane (pos u -ℤ pos half) ≡ false
    by true e = absurd (let r = (and_parts (int_le (negsuc (2 ^ 30 - 1)) (pos u -ℤ pos half)) (int_lt (pos u -ℤ pos half) (pos (2 ^ 30))) e).1 in let z : suc u ≤ half + 1073741824 = grind (arith, ints, nat_tests, r) in omega (arith, z, h))
    by false e = e

too_far_west : (u half : ℕ) → u < half + half → half + 1073741824 < half + half - u → is_coordinate_in_plane (pos u -ℤ pos half) ≡ false
too_far_west u half w h = by (is_coordinate_in_plane (pos u -ℤ pos half)) refl
  where
    by : (b : Bool) → is_coordinate_in_plane (pos u -ℤ pos half) ≡ b → is_coordinate_in_plane (pos u -ℤ pos half) ≡ false
    by true e = absurd (let r = (and_parts (int_le (negsuc (2 ^ 30 - 1)) (pos u -ℤ pos half)) (int_lt (pos u -ℤ pos half) (pos (2 ^ 30))) e).0 in let z : half ≤ u + 1073741824 = grind (arith, ints, nat_tests, r) in omega (arith, z, h))
    by false e = e

too_far_south : (v half : ℕ) → half + 1073741824 - 1 < suc v → is_coordinate_in_plane (pos (suc v) -ℤ pos half) ≡ false
too_far_south v half h = too_far_east (suc v) half (omega (arith, h))

too_far_north : (v half : ℕ) → half + 1073741824 + 1 < half + half - v → is_coordinate_in_plane (pos (suc v) -ℤ pos half) ≡ false
too_far_north v half h = too_far_west (suc v) half (omega (arith, h)) (omega (arith, h))

-- ---- cells and places

module _ (q : StateSquare) (k : ℕ) (some : 1 ≤ k) (level : level_of q ≡ k) where
  abbrev half : ℕ
  half = 2 ^ (k - 1)

  abbrev pub spot : ℕ → ℕ → Place
  spot u v = record { x = pos u -ℤ pos (2 ^ (k - 1)); y = pos (suc v) -ℤ pos (2 ^ (k - 1)) }

  pub spot_state : (u v s : ℕ) → IsCellOf k q u v s → map_of_root q (spot u v) ≡ s
  spot_state u v s cell =
      let two = half_above k some in let hu = cell.column in let hv = cell.row in
      read_inside q k (spot u v) u v level (record { column = omega (arith, ints); row = omega (arith, ints); wide = omega (arith, hu, two); high = omega (arith, hv, two) }) ∙ cell.is

  -- what is live at a place is a cell
  pub place_cell : (c : Place) → (map_of_root q c ≡ 0) ⊎ ((u : ℕ) × ((v : ℕ) × (IsInside (2 ^ (k - 1)) c u v × IsCellOf k q u v (map_of_root q c))))
  place_cell c = by (is_in_root k c) refl
    where
      by : (b : Bool) → is_in_root k c ≡ b → (map_of_root q c ≡ 0) ⊎ ((u : ℕ) × ((v : ℕ) × (IsInside (2 ^ (k - 1)) c u v × IsCellOf k q u v (map_of_root q c))))
      by true e =
          let i = inside k c e in let two = half_above k some in let w = i.1.1.wide in let h = i.1.1.high in
          inr (i.0, (i.1.0, (i.1.1, record { column = omega (arith, w, two); row = omega (arith, h, two); is = sym (read_inside q k c i.0 i.1.0 level i.1.1) })))
      by false e = inl (read_outside q k c level e)

  module _ (r : Reach) (reach : IsReach k q r) where
    pub in_plane : is_within_plane k r ≡ true → LiesInPlane (map_of_root q)
    in_plane e c out = elim (place_cell c) [
      | inl dead ↦ dead
      | inr x ↦ by (map_of_root q c == 0) refl x.0 x.1.0 x.1.1.0 x.1.1.1
    ]
      where
        le_from : (m n : ℕ) → nat_le m n ≡ true → m ≤ n
        le_from m n h = grind (arith, nat_tests)

        by : (b : Bool) → (map_of_root q c == 0) ≡ b → (u v : ℕ) → IsInside (2 ^ (k - 1)) c u v → IsCellOf k q u v (map_of_root q c) → map_of_root q c ≡ 0
        by true z u v i cell = eqb-true _ 0 z
        by false z u v i cell =
            let live : map_of_root q c ≢ 0 = λ h. (let yes : (map_of_root q c == 0) ≡ true = ap (λ s. s == 0) h in let no : true ≡ false = sym yes ∙ z in cc) in
            let two = half_above k some in
            let both = and_parts (nat_le r.west (2 ^ (k - 1) + 2 ^ 30) && nat_le r.east (2 ^ (k - 1) + 2 ^ 30)) _ e in
            let x = and_parts (nat_le r.west (2 ^ (k - 1) + 2 ^ 30)) (nat_le r.east (2 ^ (k - 1) + 2 ^ 30)) both.0 in
            let y = and_parts (nat_le r.north (2 ^ (k - 1) + 2 ^ 30 + 1)) (nat_le r.south (2 ^ (k - 1) + 2 ^ 30 - 1)) both.1 in
            let west = reach.west.most _ _ live (record { u = u; v = v; cell = cell; distance = refl }) in
            let east = reach.east.most _ _ live (record { u = u; v = v; cell = cell; distance = refl }) in
            let north = reach.north.most _ _ live (record { u = u; v = v; cell = cell; distance = refl }) in
            let south = reach.south.most _ _ live (record { u = u; v = v; cell = cell; distance = refl }) in
            let cx = column_in_plane c.x u (2 ^ (k - 1)) r.west r.east i.column east (omega (arith, west, two)) (le_from _ _ x.1) (le_from _ _ x.0) in
            let cy = row_in_plane c.y v (2 ^ (k - 1)) r.north r.south i.row south (omega (arith, north, two)) (le_from _ _ y.1) (le_from _ _ y.0) in
            let yes : is_in_plane c ≡ true = and_from _ _ cx cy in
            let no : true ≡ false = sym yes ∙ out in absurd (cc)

    beyond : (far : (k u v : ℕ) → ℕ) (m most : ℕ) → IsFarthest far k q m → nat_le m most ≡ false → ((u v : ℕ) → u < 2 ^ (k - 1) + 2 ^ (k - 1) → v < 2 ^ (k - 1) + 2 ^ (k - 1) → most < far k u v → is_in_plane (spot u v) ≡ false) → (c : Place) × ((is_in_plane c ≡ false) × (map_of_root q c ≢ 0))
    beyond far m most is e out =
        let more : most < m = grind (arith, nat_tests, e) in
        let h = is.has (omega (arith, more)) in
        let cell = h.1.1 in
        let two = half_above k some in let hu = cell.cell.column in let hv = cell.cell.row in let d = cell.distance in
        (spot cell.u cell.v, (out cell.u cell.v (omega (arith, hu, two)) (omega (arith, hv, two)) (subst (λ x. most < x) (sym d) more), λ z. h.1.0 (sym (spot_state cell.u cell.v h.0 cell.cell) ∙ z)))

    and_false_left : (a b : Bool) → a ≡ false → (a && b) ≡ false
    and_false_left a b e = rw e refl

    and_false_right : (a b : Bool) → b ≡ false → (a && b) ≡ false
    and_false_right true b e = e
    and_false_right false b e = refl

    pub outside : is_within_plane k r ≡ false → (c : Place) × ((is_in_plane c ≡ false) × (map_of_root q c ≢ 0))
    outside e = four (nat_le r.west (2 ^ (k - 1) + 2 ^ 30)) (nat_le r.east (2 ^ (k - 1) + 2 ^ 30)) (nat_le r.north (2 ^ (k - 1) + 2 ^ 30 + 1)) (nat_le r.south (2 ^ (k - 1) + 2 ^ 30 - 1)) refl refl refl refl e
      where
        four : (a b c d : Bool) → nat_le r.west (2 ^ (k - 1) + 2 ^ 30) ≡ a → nat_le r.east (2 ^ (k - 1) + 2 ^ 30) ≡ b → nat_le r.north (2 ^ (k - 1) + 2 ^ 30 + 1) ≡ c → nat_le r.south (2 ^ (k - 1) + 2 ^ 30 - 1) ≡ d
            → ((a && b) && (c && d)) ≡ false → (c : Place) × ((is_in_plane c ≡ false) × (map_of_root q c ≢ 0))
        four false b c d ea eb ec ed h = beyond to_west r.west (2 ^ (k - 1) + 2 ^ 30) reach.west ea (λ u v hu hv m. and_false_left _ _ (too_far_west u (2 ^ (k - 1)) hu (let two = half_above k some in omega (arith, m, two))))
        four true false c d ea eb ec ed h = beyond to_east r.east (2 ^ (k - 1) + 2 ^ 30) reach.east eb (λ u v hu hv m. and_false_left _ _ (too_far_east u (2 ^ (k - 1)) m))
        four true true false d ea eb ec ed h = beyond to_north r.north (2 ^ (k - 1) + 2 ^ 30 + 1) reach.north ec (λ u v hu hv m. and_false_right _ _ (too_far_north v (2 ^ (k - 1)) (let two = half_above k some in omega (arith, m, two))))
        four true true true false ea eb ec ed h = beyond to_south r.south (2 ^ (k - 1) + 2 ^ 30 - 1) reach.south ed (λ u v hu hv m. and_false_right _ _ (too_far_south v (2 ^ (k - 1)) m))
        four true true true true ea eb ec ed h = absurd (cc)

    -- ---- states

    pub below : (n : ℕ) → 0 < n → r.state < n → HasStatesBelow n (map_of_root q)
    below n two less c = elim (place_cell c) [
      | inl dead ↦ omega (arith, dead, two)
      | inr x ↦ (let most = reach.most x.0 x.1.0 _ x.1.1.1 in omega (arith, most, less))
    ]

    pub not_below : (n : ℕ) → 0 < n → n ≤ r.state → (c : Place) × (n ≤ map_of_root q c)
    not_below n two more =
        let h = reach.has (omega (arith, two, more)) in
        let state = spot_state h.0 h.1.0 r.state h.1.1 in
        (spot h.0 h.1.0, omega (arith, more, state))

-- how far the live cells of the root reach, by those of the entries
pub root_reached : (es : List Entry) (rs xs : List Reach) (q : Numbered) (r : Reach) → xs ≡ rs → AreReached es rs → length rs ≡ length es → IsNumbered es q → q.number ≡ length es
    → ((ys : List Entry) → AreReached ys xs → length xs ≤ length ys → IsNumbered ys q → (1 ≤ q.level → q.number ≤ length xs) → IsReach q.level (square_of ys q) r) → IsReach q.level (square_of es q) r
root_reached es rs xs q r e are count is last reach =
    let long : length xs ≡ length es = ap length e ∙ count in
    reach es (subst (AreReached es) (sym e) are) (omega (arith, long)) is (λ some. omega (arith, long, last))
