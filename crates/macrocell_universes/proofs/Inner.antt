-- Squares about the middle of a macrocell.
use Rattle.std.proofs.Common.{◌≡◌, ℕ, zero, suc, ◌+◌, ◌-◌, ◌*◌, ◌^◌, ◌≤◌, ◌<◌, Bool, true, false, List, refl, sym, ◌∙◌, ap, arith, subst, inl, inr, ℤ, pos}
use Rattle.std.specs.Prelude.{◌+ℤ◌, ◌-ℤ◌}
use Rattle.std.proofs.Math.Pow.{pow_mono}
use Rattle.std.proofs.lemmas.Bool.{cases_lt}
use Rattle.std.proofs.lemmas.Int.{ints}
use Rattle.generations_rule.specs.Place.{Place}
use Rattle.edit_stamps.specs.Plane.{is_in_plane}
use Rattle.macrocell_lines.specs.Roots.{is_in_root}
use Rattle.macrocell_lines.specs.Squares.{StateSquare, Four, level_of, state_in}
use Rattle.macrocell_lines.specs.Listing.{IsSquare}
use Rattle.macrocell_lines.proofs.States.{double, level_is, put, put_nw, put_ne, put_sw, put_se}
use Rattle.macrocell_text.specs.declared.entry.Entry.{Entry}
use Rattle.macrocell_text.specs.Maps.{map_of_root}
use Rattle.macrocell_universes.specs.declared.middle.Middle.{Middle}
use Rattle.macrocell_universes.specs.declared.quarters.Numbered.{Numbered}
use Rattle.macrocell_universes.specs.declared.quarters.Quarters.{Quarters}
use Rattle.macrocell_universes.specs.Middles.{IsMiddleOf, LiesInPlane, at_level, square_about}
use Rattle.macrocell_universes.specs.Numbered.{AreQuarters, IsNumbered, IsQuarter, quarter_at, square_at, square_of}
use Rattle.macrocell_universes.proofs.Inside.{IsInside, half_above, inside, inside_root, plane_in_root, read_inside, read_outside}
use Rattle.macrocell_universes.proofs.StatesIn.{four_state}

-- ---- the states about the middle of sixteen squares

module _ (k : ℕ) (a b c d : StateSquare) (ha : IsSquare k a) (a0 a1 a2 b0 b1 b3 c0 c2 c3 d1 d2 d3 : StateSquare)
    (la0 : IsSquare k a0) (lb0 : IsSquare k b0) (lc0 : IsSquare k c0) (ld : IsSquare k d) where
  abbrev n : ℕ
  n = 2 ^ k

  abbrev big : StateSquare
  big = Four (Four a0 a1 a2 a) (Four b0 b1 b b3) (Four c0 c c2 c3) (Four d d1 d2 d3)

  abbrev small : StateSquare
  small = Four a b c d

  level_big : level_of (Four a0 a1 a2 a) ≡ suc k
  level_big = ap suc (level_is k a0 la0)

  at_big : (u v : ℕ) → state_in (Four (Four a0 a1 a2 a) (Four b0 b1 b b3) (Four c0 c c2 c3) (Four d d1 d2 d3)) u v
      ≡ put (2 ^ k + 2 ^ k) (state_in (Four a0 a1 a2 a)) (state_in (Four b0 b1 b b3)) (state_in (Four c0 c c2 c3)) (state_in (Four d d1 d2 d3)) u v
  at_big u v = four_state (suc k) (Four a0 a1 a2 a) (Four b0 b1 b b3) (Four c0 c c2 c3) (Four d d1 d2 d3) u v level_big
      ∙ ap (λ m. put m (state_in (Four a0 a1 a2 a)) (state_in (Four b0 b1 b b3)) (state_in (Four c0 c c2 c3)) (state_in (Four d d1 d2 d3)) u v) (double k)

  pub inner_state : (u v : ℕ) → u < 2 ^ k + 2 ^ k → v < 2 ^ k + 2 ^ k → state_in (Four (Four a0 a1 a2 a) (Four b0 b1 b b3) (Four c0 c c2 c3) (Four d d1 d2 d3)) (2 ^ k + u) (2 ^ k + v) ≡ state_in (Four a b c d) u v
  inner_state u v hu hv =
      let m : ℕ = 2 ^ k in
      let fa = state_in (Four a0 a1 a2 a) in let fb = state_in (Four b0 b1 b b3) in let fc = state_in (Four c0 c c2 c3) in let fd = state_in (Four d d1 d2 d3) in
      let at_small = four_state k a b c d u v (level_is k a ha) in
      at_big (m + u) (m + v) ∙ elim (cases_lt v m) [
        | inl top ↦ elim (cases_lt u m) [
          | inl left ↦ (let x : m + u - m ≡ u = omega arith in let y : m + v - m ≡ v = omega arith in
              put_nw (m + m) fa fb fc fd (m + u) (m + v) (omega (arith, left)) (omega (arith, top))
              ∙ four_state k a0 a1 a2 a (m + u) (m + v) (level_is k a0 la0) ∙ put_se m (state_in a0) (state_in a1) (state_in a2) (state_in a) (m + u) (m + v) (omega arith) (omega arith)
              ∙ (λ i. state_in a (x i) (y i)) ∙ sym (put_nw m (state_in a) (state_in b) (state_in c) (state_in d) u v left top) ∙ sym at_small)
          | inr right ↦ (let x : m + u - (m + m) ≡ u - m = omega arith in let y : m + v - m ≡ v = omega arith in
              put_ne (m + m) fa fb fc fd (m + u) (m + v) (omega (arith, right)) (omega (arith, top))
              ∙ four_state k b0 b1 b b3 (m + u - (m + m)) (m + v) (level_is k b0 lb0) ∙ put_sw m (state_in b0) (state_in b1) (state_in b) (state_in b3) (m + u - (m + m)) (m + v) (omega (arith, hu)) (omega arith)
              ∙ (λ i. state_in b (x i) (y i)) ∙ sym (put_ne m (state_in a) (state_in b) (state_in c) (state_in d) u v right top) ∙ sym at_small)
        ]
        | inr bottom ↦ elim (cases_lt u m) [
          | inl left ↦ (let x : m + u - m ≡ u = omega arith in let y : m + v - (m + m) ≡ v - m = omega arith in
              put_sw (m + m) fa fb fc fd (m + u) (m + v) (omega (arith, left)) (omega (arith, bottom))
              ∙ four_state k c0 c c2 c3 (m + u) (m + v - (m + m)) (level_is k c0 lc0) ∙ put_ne m (state_in c0) (state_in c) (state_in c2) (state_in c3) (m + u) (m + v - (m + m)) (omega arith) (omega (arith, hv))
              ∙ (λ i. state_in c (x i) (y i)) ∙ sym (put_sw m (state_in a) (state_in b) (state_in c) (state_in d) u v left bottom) ∙ sym at_small)
          | inr right ↦ (let x : m + u - (m + m) ≡ u - m = omega arith in let y : m + v - (m + m) ≡ v - m = omega arith in
              put_se (m + m) fa fb fc fd (m + u) (m + v) (omega (arith, right)) (omega (arith, bottom))
              ∙ four_state k d d1 d2 d3 (m + u - (m + m)) (m + v - (m + m)) (level_is k d ld)
              ∙ put_nw m (state_in d) (state_in d1) (state_in d2) (state_in d3) (m + u - (m + m)) (m + v - (m + m)) (omega (arith, hu)) (omega (arith, hv))
              ∙ (λ i. state_in d (x i) (y i)) ∙ sym (put_se m (state_in a) (state_in b) (state_in c) (state_in d) u v right bottom) ∙ sym at_small)
        ]
      ]

-- ---- the same map

-- where nothing is live outside the plane, the middle of a root has all that is live
pub inner_map : (k : ℕ) (q small : StateSquare) (f : Place → ℕ) → 31 ≤ k → level_of q ≡ suc (suc k) → level_of small ≡ suc k → ((u v : ℕ) → u < 2 ^ k + 2 ^ k → v < 2 ^ k + 2 ^ k → state_in q (2 ^ k + u) (2 ^ k + v) ≡ state_in small u v)
    → ((c : Place) → map_of_root q c ≡ f c) → LiesInPlane f → (c : Place) → map_of_root small c ≡ f c
inner_map k q small f wide lq ls states map plane c = by (is_in_root (suc k) c) refl
  where
    n : ℕ
    n = 2 ^ k

    by : (b : Bool) → is_in_root (suc k) c ≡ b → map_of_root small c ≡ f c
    by true e =
        let i = inside (suc k) c e in
        let down : suc k - 1 ≡ k = omega arith in
        let down' : suc (suc k) - 1 ≡ suc k = omega arith in
        let two = double k in
        let here : IsInside (2 ^ k) c i.0 i.1.0 = subst (λ l. IsInside (2 ^ l) c i.0 i.1.0) down i.1.1 in
        let hc = here.column in let hr = here.row in let hw = here.wide in let hh = here.high in
        let there : IsInside (2 ^ suc k) c (2 ^ k + i.0) (2 ^ k + i.1.0) = record { column = omega (arith, ints, two, hc); row = omega (arith, ints, two, hr); wide = omega (arith, two, hw); high = omega (arith, two, hh) } in
        read_inside small (suc k) c i.0 i.1.0 ls i.1.1 ∙ sym (states i.0 i.1.0 hw hh)
        ∙ sym (read_inside q (suc (suc k)) c (2 ^ k + i.0) (2 ^ k + i.1.0) lq (subst (λ l. IsInside (2 ^ l) c (2 ^ k + i.0) (2 ^ k + i.1.0)) (sym down') there)) ∙ map c
    by false e = read_outside small (suc k) c ls e ∙ sym (plane c (outside (is_in_plane c) refl))
      where
        big : 2147483648 ≤ 2 ^ (suc k - 1)
        big = (let down : suc k - 1 ≡ k = omega arith in let far : 2 ^ 31 ≤ 2 ^ k = pow_mono {i = 31} (omega (arith, wide)) in subst (λ l. 2147483648 ≤ 2 ^ l) (sym down) far)

        outside : (b : Bool) → is_in_plane c ≡ b → is_in_plane c ≡ false
        outside true h = (let yes = plane_in_root (suc k) c big h in let no : true ≡ false = sym yes ∙ e in absurd (cc))
        outside false h = h

-- ---- by what stands for them

pub first_middle : (es : List Entry) (q : Numbered) (four : Quarters) → AreQuarters es q four → IsMiddleOf es (map_of_root (square_of es q)) (record { level = q.level - 1; four = four })
first_middle es q four are = record {
  map = λ c. ap (λ s. map_of_root s c) (sym are.four_is);
  nw = are.nw.is;
  ne = are.ne.is;
  sw = are.sw.is;
  se = are.se.is;
}

pub inner_middle : (es : List Entry) (f : Place → ℕ) (m : Middle) (a b c d : Quarters) → 31 < m.level → IsMiddleOf es f m → LiesInPlane f
    → AreQuarters es (at_level m.level m.four.nw) a → AreQuarters es (at_level m.level m.four.ne) b → AreQuarters es (at_level m.level m.four.sw) c → AreQuarters es (at_level m.level m.four.se) d
    → IsMiddleOf es f (record { level = m.level - 1; four = record { nw = a.se; ne = b.sw; sw = c.ne; se = d.nw } })
inner_middle es f m a b c d above is plane ha hb hc hd =
    let k : ℕ = m.level - 1 in
    let up : m.level ≡ suc k = omega (arith, above) in
    let s = square_at es k in
    let whole : square_about es m ≡ Four (Four (s a.nw) (s a.ne) (s a.sw) (s a.se)) (Four (s b.nw) (s b.ne) (s b.sw) (s b.se)) (Four (s c.nw) (s c.ne) (s c.sw) (s c.se)) (Four (s d.nw) (s d.ne) (s d.sw) (s d.se))
    = (λ i. Four (ha.four_is i) (hb.four_is i) (hc.four_is i) (hd.four_is i)) in
    let q = Four (Four (s a.nw) (s a.ne) (s a.sw) (s a.se)) (Four (s b.nw) (s b.ne) (s b.sw) (s b.se)) (Four (s c.nw) (s c.ne) (s c.sw) (s c.se)) (Four (s d.nw) (s d.ne) (s d.sw) (s d.se)) in
    record {
      map = inner_map k q (Four (s a.se) (s b.sw) (s c.ne) (s d.nw)) f (omega (arith, above)) (ap (λ l. suc (suc l)) (level_is k (s a.nw) ha.nw.is.square)) (ap suc (level_is k (s a.se) ha.se.is.square))
          (inner_state k (s a.se) (s b.sw) (s c.ne) (s d.nw) ha.se.is.square (s a.nw) (s a.ne) (s a.sw) (s b.nw) (s b.ne) (s b.se) (s c.nw) (s c.sw) (s c.se) (s d.ne) (s d.sw) (s d.se) ha.nw.is.square hb.nw.is.square hc.nw.is.square hd.nw.is.square)
          (λ c. ap (λ z. map_of_root z c) (sym whole) ∙ is.map c) plane;
      nw = ha.se.is;
      ne = hb.sw.is;
      sw = hc.ne.is;
      se = hd.nw.is;
    }
