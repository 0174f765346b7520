-- How far the live cells of a square reach, by its quarters.
use Rattle.std.proofs.Common.{◌≡◌, ◌≢◌, ℕ, zero, suc, ◌+◌, ◌-◌, ◌*◌, ◌^◌, ◌<◌, ◌≤◌, arith, Bool, true, false, List, refl, sym, ap, subst, ◌∙◌, inl, inr, ◌⊎◌, eqb-true}
use Rattle.std.specs.Prelude.{◌==◌, max, if◌then◌else◌}
use Rattle.std.proofs.lemmas.Bool.{cases_lt, eq-eqb}
use Rattle.macrocell_lines.specs.Squares.{StateSquare, Cell, Four, level_of, state_in}
use Rattle.macrocell_lines.specs.Listing.{IsSquare}
use Rattle.macrocell_lines.proofs.States.{double, level_is, put, put_nw, put_ne, put_sw, put_se}
use Rattle.macrocell_universes.specs.declared.reach.Reach.{Reach}
use Rattle.macrocell_universes.specs.Reaches.{Fits, HasCellAt, IsCellOf, IsFarthest, IsReach, cell_reach, farther, joined, to_east, to_north, to_south, to_west}

-- ---- the farther of two halves

near_le : (n near far d : ℕ) → d ≤ near → d ≤ n → d ≤ farther n near far
near_le n near far d low few = by (far == 0)
  where
    by : (b : Bool) → d ≤ (if b then near else n + far)
    by true = low
    by false = omega (arith, few)

far_le : (n near far d : ℕ) → n < d → d - n ≤ far → d ≤ farther n near far
far_le n near far d beyond low = by (far == 0) refl
  where
    by : (b : Bool) → (far == 0) ≡ b → d ≤ (if b then near else n + far)
    by true e = absurd (let z = eqb-true far 0 e in omega (arith, z, beyond, low))
    by false e = omega (arith, beyond, low)

-- a distance is one of the nearer half or of the farther one
pub record IsOfHalf (n near far r : ℕ) : Type 0 where
  pub is : ((0 < near) × (r ≡ near)) ⊎ ((0 < far) × (r ≡ n + far))

of_half : (n near far : ℕ) → 0 < farther n near far → IsOfHalf n near far (farther n near far)
of_half n near far = by (far == 0) refl
  where
    by : (b : Bool) → (far == 0) ≡ b → 0 < (if b then near else n + far) → IsOfHalf n near far (if b then near else n + far)
    by true e some = record { is = inl (some, refl) }
    by false e some = record { is = inr (above e, refl) }
      where
        above : (far == 0) ≡ false → 0 < far
        above e = elim (cases_lt 0 far) [
          | inl more ↦ more
          | inr none ↦ (let z : far ≡ 0 = omega (arith, none) in let yes = eq-eqb far 0 z in let no : true ≡ false = sym yes ∙ e in absurd (cc))
        ]

one_of : (x y : ℕ) → (max x y ≡ x) ⊎ (max x y ≡ y)
one_of x y = elim (cases_lt x y) [
  | inl less ↦ inr (omega (arith, less))
  | inr more ↦ inl (omega (arith, more))
]

-- ---- a square whose cells are those of two near squares and of two far ones

module _ (far : (k u v : ℕ) → ℕ) (k : ℕ) (q a b c d : StateSquare)
    (range : (x : StateSquare) (s e : ℕ) → HasCellAt far k x s e → e ≤ 2 ^ k)
    (cut : (s e : ℕ) → HasCellAt far (suc k) q s e → HasCellAt far k a s e ⊎ (HasCellAt far k b s e ⊎ (((2 ^ k < e) × HasCellAt far k c s (e - 2 ^ k)) ⊎ ((2 ^ k < e) × HasCellAt far k d s (e - 2 ^ k)))))
    (from_a : (s e : ℕ) → HasCellAt far k a s e → HasCellAt far (suc k) q s e) (from_b : (s e : ℕ) → HasCellAt far k b s e → HasCellAt far (suc k) q s e)
    (from_c : (s e : ℕ) → HasCellAt far k c s e → HasCellAt far (suc k) q s (2 ^ k + e)) (from_d : (s e : ℕ) → HasCellAt far k d s e → HasCellAt far (suc k) q s (2 ^ k + e)) where
  pub farthest : (ra rb rc rd : ℕ) → IsFarthest far k a ra → IsFarthest far k b rb → IsFarthest far k c rc → IsFarthest far k d rd → IsFarthest far (suc k) q (farther (2 ^ k) (max ra rb) (max rc rd))
  farthest ra rb rc rd ha hb hc hd = record {
    most = λ s e live cell. elim (cut s e cell) [
      | inl x ↦ near_le (2 ^ k) (max ra rb) (max rc rd) e (let h = ha.most s e live x in omega (arith, h)) (range a s e x)
      | inr y ↦ elim y [
        | inl x ↦ near_le (2 ^ k) (max ra rb) (max rc rd) e (let h = hb.most s e live x in omega (arith, h)) (range b s e x)
        | inr z ↦ elim z [
          | inl x ↦ far_le (2 ^ k) (max ra rb) (max rc rd) e x.0 (let h = hc.most s (e - 2 ^ k) live x.1 in omega (arith, h))
          | inr x ↦ far_le (2 ^ k) (max ra rb) (max rc rd) e x.0 (let h = hd.most s (e - 2 ^ k) live x.1 in omega (arith, h))
        ]
      ]
    ];
    has = λ some. elim (of_half (2 ^ k) (max ra rb) (max rc rd) some).is [
      | inl near ↦ elim (one_of ra rb) [
        | inl e ↦ (let f = near.1 ∙ e in let h = ha.has (let p = near.0 in omega (arith, p, e)) in (h.0, (h.1.0, subst (HasCellAt far (suc k) q h.0) (sym f) (from_a h.0 ra h.1.1))))
        | inr e ↦ (let f = near.1 ∙ e in let h = hb.has (let p = near.0 in omega (arith, p, e)) in (h.0, (h.1.0, subst (HasCellAt far (suc k) q h.0) (sym f) (from_b h.0 rb h.1.1))))
      ]
      | inr beyond ↦ elim (one_of rc rd) [
        | inl e ↦ (let f = beyond.1 ∙ ap (λ m. 2 ^ k + m) e in let h = hc.has (let p = beyond.0 in omega (arith, p, e)) in (h.0, (h.1.0, subst (HasCellAt far (suc k) q h.0) (sym f) (from_c h.0 rc h.1.1))))
        | inr e ↦ (let f = beyond.1 ∙ ap (λ m. 2 ^ k + m) e in let h = hd.has (let p = beyond.0 in omega (arith, p, e)) in (h.0, (h.1.0, subst (HasCellAt far (suc k) q h.0) (sym f) (from_d h.0 rd h.1.1))))
      ]
    ];
  }

-- ---- four quarters

module _ (k : ℕ) (a b c d : StateSquare) (is : IsSquare (suc k) (Four a b c d)) where
  abbrev n : ℕ
  n = 2 ^ k

  abbrev q : StateSquare
  q = Four a b c d

  in_four : (u v : ℕ) → state_in (Four a b c d) u v ≡ put (2 ^ k) (state_in a) (state_in b) (state_in c) (state_in d) u v
  in_four u v = ap (λ l. put (2 ^ l) (state_in a) (state_in b) (state_in c) (state_in d) u v) (level_is k a is.0)

  from_nw : (u v s : ℕ) → IsCellOf k a u v s → IsCellOf (suc k) (Four a b c d) u v s
  from_nw u v s x = (let two = double k in let hu = x.column in let hv = x.row in record {
    column = omega (arith, hu, two);
    row = omega (arith, hv, two);
    is = in_four u v ∙ put_nw (2 ^ k) (state_in a) (state_in b) (state_in c) (state_in d) u v hu hv ∙ x.is;
  })

  from_ne : (u v s : ℕ) → IsCellOf k b u v s → IsCellOf (suc k) (Four a b c d) (2 ^ k + u) v s
  from_ne u v s x = (let two = double k in let hu = x.column in let hv = x.row in let e : 2 ^ k + u - 2 ^ k ≡ u = omega arith in record {
    column = omega (arith, hu, two);
    row = omega (arith, hv, two);
    is = in_four (2 ^ k + u) v ∙ put_ne (2 ^ k) (state_in a) (state_in b) (state_in c) (state_in d) (2 ^ k + u) v (omega arith) hv ∙ ap (λ m. state_in b m v) e ∙ x.is;
  })

  from_sw : (u v s : ℕ) → IsCellOf k c u v s → IsCellOf (suc k) (Four a b c d) u (2 ^ k + v) s
  from_sw u v s x = (let two = double k in let hu = x.column in let hv = x.row in let e : 2 ^ k + v - 2 ^ k ≡ v = omega arith in record {
    column = omega (arith, hu, two);
    row = omega (arith, hv, two);
    is = in_four u (2 ^ k + v) ∙ put_sw (2 ^ k) (state_in a) (state_in b) (state_in c) (state_in d) u (2 ^ k + v) hu (omega arith) ∙ ap (state_in c u) e ∙ x.is;
  })

  from_se : (u v s : ℕ) → IsCellOf k d u v s → IsCellOf (suc k) (Four a b c d) (2 ^ k + u) (2 ^ k + v) s
  from_se u v s x = (let two = double k in let hu = x.column in let hv = x.row in let e : 2 ^ k + u - 2 ^ k ≡ u = omega arith in let f : 2 ^ k + v - 2 ^ k ≡ v = omega arith in record {
    column = omega (arith, hu, two);
    row = omega (arith, hv, two);
    is = in_four (2 ^ k + u) (2 ^ k + v) ∙ put_se (2 ^ k) (state_in a) (state_in b) (state_in c) (state_in d) (2 ^ k + u) (2 ^ k + v) (omega arith) (omega arith) ∙ (λ i. state_in d (e i) (f i)) ∙ x.is;
  })

  -- a cell is one of a quarter
  to_quarter : (u v s : ℕ) → IsCellOf (suc k) (Four a b c d) u v s
      → IsCellOf k a u v s ⊎ (((2 ^ k ≤ u) × IsCellOf k b (u - 2 ^ k) v s) ⊎ (((2 ^ k ≤ v) × IsCellOf k c u (v - 2 ^ k) s) ⊎ ((2 ^ k ≤ u) × ((2 ^ k ≤ v) × IsCellOf k d (u - 2 ^ k) (v - 2 ^ k) s))))
  to_quarter u v s x =
      let two = double k in let hu = x.column in let hv = x.row in
      elim (cases_lt v (2 ^ k)) [
        | inl top ↦ elim (cases_lt u (2 ^ k)) [
          | inl left ↦ inl (record { column = left; row = top; is = sym (put_nw (2 ^ k) (state_in a) (state_in b) (state_in c) (state_in d) u v left top) ∙ sym (in_four u v) ∙ x.is })
          | inr right ↦ inr (inl (right, record { column = omega (arith, hu, right, two); row = top; is = sym (put_ne (2 ^ k) (state_in a) (state_in b) (state_in c) (state_in d) u v right top) ∙ sym (in_four u v) ∙ x.is }))
        ]
        | inr bottom ↦ elim (cases_lt u (2 ^ k)) [
          | inl left ↦ inr (inr (inl (bottom, record { column = left; row = omega (arith, hv, bottom, two); is = sym (put_sw (2 ^ k) (state_in a) (state_in b) (state_in c) (state_in d) u v left bottom) ∙ sym (in_four u v) ∙ x.is })))
          | inr right ↦ inr (inr (inr (right, (bottom, record { column = omega (arith, hu, right, two); row = omega (arith, hv, bottom, two); is = sym (put_se (2 ^ k) (state_in a) (state_in b) (state_in c) (state_in d) u v right bottom) ∙ sym (in_four u v) ∙ x.is }))))
        ]
      ]

  pub east_joined : (ra rb rc rd : ℕ) → IsFarthest to_east k a ra → IsFarthest to_east k b rb → IsFarthest to_east k c rc → IsFarthest to_east k d rd → IsFarthest to_east (suc k) (Four a b c d) (farther (2 ^ k) (max ra rc) (max rb rd))
  east_joined ra rb rc rd ha hb hc hd = farthest to_east k (Four a b c d) a c b d
      (λ x s e h. let p = h.cell.column in let z = h.distance in omega (arith, p, z))
      (λ s e h. let z = h.distance in elim (to_quarter h.u h.v s h.cell) [
        | inl x ↦ inl (record { u = h.u; v = h.v; cell = x; distance = z })
        | inr y ↦ elim y [
          | inl x ↦ (let p = x.0 in inr (inr (inl (omega (arith, p, z), record { u = h.u - 2 ^ k; v = h.v; cell = x.1; distance = omega (arith, p, z) }))))
          | inr w ↦ elim w [
            | inl x ↦ inr (inl (record { u = h.u; v = h.v - 2 ^ k; cell = x.1; distance = z }))
            | inr x ↦ (let p = x.0 in inr (inr (inr (omega (arith, p, z), record { u = h.u - 2 ^ k; v = h.v - 2 ^ k; cell = x.1.1; distance = omega (arith, p, z) }))))
          ]
        ]
      ])
      (λ s e h. record { u = h.u; v = h.v; cell = from_nw h.u h.v s h.cell; distance = h.distance })
      (λ s e h. record { u = h.u; v = 2 ^ k + h.v; cell = from_sw h.u h.v s h.cell; distance = h.distance })
      (λ s e h. let z = h.distance in record { u = 2 ^ k + h.u; v = h.v; cell = from_ne h.u h.v s h.cell; distance = omega (arith, z) })
      (λ s e h. let z = h.distance in record { u = 2 ^ k + h.u; v = 2 ^ k + h.v; cell = from_se h.u h.v s h.cell; distance = omega (arith, z) })
      ra rc rb rd ha hc hb hd

  pub west_joined : (ra rb rc rd : ℕ) → IsFarthest to_west k a ra → IsFarthest to_west k b rb → IsFarthest to_west k c rc → IsFarthest to_west k d rd → IsFarthest to_west (suc k) (Four a b c d) (farther (2 ^ k) (max rb rd) (max ra rc))
  west_joined ra rb rc rd ha hb hc hd = farthest to_west k (Four a b c d) b d a c
      (λ x s e h. let p = h.cell.column in let z = h.distance in omega (arith, p, z))
      (λ s e h. let z = h.distance in let two = double k in elim (to_quarter h.u h.v s h.cell) [
        | inl x ↦ (let p = x.column in inr (inr (inl (omega (arith, p, z, two), record { u = h.u; v = h.v; cell = x; distance = omega (arith, p, z, two) }))))
        | inr y ↦ elim y [
          | inl x ↦ (let p = x.0 in inl (record { u = h.u - 2 ^ k; v = h.v; cell = x.1; distance = omega (arith, p, z, two) }))
          | inr w ↦ elim w [
            | inl x ↦ (let p = x.1.column in inr (inr (inr (omega (arith, p, z, two), record { u = h.u; v = h.v - 2 ^ k; cell = x.1; distance = omega (arith, p, z, two) }))))
            | inr x ↦ (let p = x.0 in inr (inl (record { u = h.u - 2 ^ k; v = h.v - 2 ^ k; cell = x.1.1; distance = omega (arith, p, z, two) })))
          ]
        ]
      ])
      (λ s e h. let z = h.distance in let two = double k in record { u = 2 ^ k + h.u; v = h.v; cell = from_ne h.u h.v s h.cell; distance = omega (arith, z, two) })
      (λ s e h. let z = h.distance in let two = double k in record { u = 2 ^ k + h.u; v = 2 ^ k + h.v; cell = from_se h.u h.v s h.cell; distance = omega (arith, z, two) })
      (λ s e h. let z = h.distance in let two = double k in let p = h.cell.column in record { u = h.u; v = h.v; cell = from_nw h.u h.v s h.cell; distance = omega (arith, z, two, p) })
      (λ s e h. let z = h.distance in let two = double k in let p = h.cell.column in record { u = h.u; v = 2 ^ k + h.v; cell = from_sw h.u h.v s h.cell; distance = omega (arith, z, two, p) })
      rb rd ra rc hb hd ha hc

  pub south_joined : (ra rb rc rd : ℕ) → IsFarthest to_south k a ra → IsFarthest to_south k b rb → IsFarthest to_south k c rc → IsFarthest to_south k d rd → IsFarthest to_south (suc k) (Four a b c d) (farther (2 ^ k) (max ra rb) (max rc rd))
  south_joined ra rb rc rd ha hb hc hd = farthest to_south k (Four a b c d) a b c d
      (λ x s e h. let p = h.cell.row in let z = h.distance in omega (arith, p, z))
      (λ s e h. let z = h.distance in elim (to_quarter h.u h.v s h.cell) [
        | inl x ↦ inl (record { u = h.u; v = h.v; cell = x; distance = z })
        | inr y ↦ elim y [
          | inl x ↦ inr (inl (record { u = h.u - 2 ^ k; v = h.v; cell = x.1; distance = z }))
          | inr w ↦ elim w [
            | inl x ↦ (let p = x.0 in inr (inr (inl (omega (arith, p, z), record { u = h.u; v = h.v - 2 ^ k; cell = x.1; distance = omega (arith, p, z) }))))
            | inr x ↦ (let p = x.1.0 in inr (inr (inr (omega (arith, p, z), record { u = h.u - 2 ^ k; v = h.v - 2 ^ k; cell = x.1.1; distance = omega (arith, p, z) }))))
          ]
        ]
      ])
      (λ s e h. record { u = h.u; v = h.v; cell = from_nw h.u h.v s h.cell; distance = h.distance })
      (λ s e h. record { u = 2 ^ k + h.u; v = h.v; cell = from_ne h.u h.v s h.cell; distance = h.distance })
      (λ s e h. let z = h.distance in record { u = h.u; v = 2 ^ k + h.v; cell = from_sw h.u h.v s h.cell; distance = omega (arith, z) })
      (λ s e h. let z = h.distance in record { u = 2 ^ k + h.u; v = 2 ^ k + h.v; cell = from_se h.u h.v s h.cell; distance = omega (arith, z) })
      ra rb rc rd ha hb hc hd

  pub north_joined : (ra rb rc rd : ℕ) → IsFarthest to_north k a ra → IsFarthest to_north k b rb → IsFarthest to_north k c rc → IsFarthest to_north k d rd → IsFarthest to_north (suc k) (Four a b c d) (farther (2 ^ k) (max rc rd) (max ra rb))
  north_joined ra rb rc rd ha hb hc hd = farthest to_north k (Four a b c d) c d a b
      (λ x s e h. let p = h.cell.row in let z = h.distance in omega (arith, p, z))
      (λ s e h. let z = h.distance in let two = double k in elim (to_quarter h.u h.v s h.cell) [
        | inl x ↦ (let p = x.row in inr (inr (inl (omega (arith, p, z, two), record { u = h.u; v = h.v; cell = x; distance = omega (arith, p, z, two) }))))
        | inr y ↦ elim y [
          | inl x ↦ (let p = x.1.row in inr (inr (inr (omega (arith, p, z, two), record { u = h.u - 2 ^ k; v = h.v; cell = x.1; distance = omega (arith, p, z, two) }))))
          | inr w ↦ elim w [
            | inl x ↦ (let p = x.0 in inl (record { u = h.u; v = h.v - 2 ^ k; cell = x.1; distance = omega (arith, p, z, two) }))
            | inr x ↦ (let p = x.1.0 in inr (inl (record { u = h.u - 2 ^ k; v = h.v - 2 ^ k; cell = x.1.1; distance = omega (arith, p, z, two) })))
          ]
        ]
      ])
      (λ s e h. let z = h.distance in let two = double k in record { u = h.u; v = 2 ^ k + h.v; cell = from_sw h.u h.v s h.cell; distance = omega (arith, z, two) })
      (λ s e h. let z = h.distance in let two = double k in record { u = 2 ^ k + h.u; v = 2 ^ k + h.v; cell = from_se h.u h.v s h.cell; distance = omega (arith, z, two) })
      (λ s e h. let z = h.distance in let two = double k in let p = h.cell.row in record { u = h.u; v = h.v; cell = from_nw h.u h.v s h.cell; distance = omega (arith, z, two, p) })
      (λ s e h. let z = h.distance in let two = double k in let p = h.cell.row in record { u = 2 ^ k + h.u; v = h.v; cell = from_ne h.u h.v s h.cell; distance = omega (arith, z, two, p) })
      rc rd ra rb hc hd ha hb

  pub four_reach : (ra rb rc rd : Reach) → IsReach k a ra → IsReach k b rb → IsReach k c rc → IsReach k d rd → IsReach (suc k) (Four a b c d) (joined (2 ^ k) ra rb rc rd)
  four_reach ra rb rc rd ha hb hc hd = record {
    most = λ u v s x. elim (to_quarter u v s x) [
      | inl y ↦ (let h = ha.most u v s y in omega (arith, h))
      | inr y ↦ elim y [
        | inl z ↦ (let h = hb.most _ _ s z.1 in omega (arith, h))
        | inr z ↦ elim z [
          | inl w ↦ (let h = hc.most _ _ s w.1 in omega (arith, h))
          | inr w ↦ (let h = hd.most _ _ s w.1.1 in omega (arith, h))
        ]
      ]
    ];
    has = λ some. elim (one_of (max ra.state rb.state) (max rc.state rd.state)) [
      | inl e ↦ elim (one_of ra.state rb.state) [
        | inl f ↦ (let g = e ∙ f in let h = ha.has (omega (arith, some, g)) in (h.0, (h.1.0, from_nw h.0 h.1.0 _ (subst (IsCellOf k a h.0 h.1.0) (sym g) h.1.1))))
        | inr f ↦ (let g = e ∙ f in let h = hb.has (omega (arith, some, g)) in (2 ^ k + h.0, (h.1.0, from_ne h.0 h.1.0 _ (subst (IsCellOf k b h.0 h.1.0) (sym g) h.1.1))))
      ]
      | inr e ↦ elim (one_of rc.state rd.state) [
        | inl f ↦ (let g = e ∙ f in let h = hc.has (omega (arith, some, g)) in (h.0, (2 ^ k + h.1.0, from_sw h.0 h.1.0 _ (subst (IsCellOf k c h.0 h.1.0) (sym g) h.1.1))))
        | inr f ↦ (let g = e ∙ f in let h = hd.has (omega (arith, some, g)) in (2 ^ k + h.0, (2 ^ k + h.1.0, from_se h.0 h.1.0 _ (subst (IsCellOf k d h.0 h.1.0) (sym g) h.1.1))))
      ]
    ];
    west = west_joined ra.west rb.west rc.west rd.west ha.west hb.west hc.west hd.west;
    east = east_joined ra.east rb.east rc.east rd.east ha.east hb.east hc.east hd.east;
    north = north_joined ra.north rb.north rc.north rd.north ha.north hb.north hc.north hd.north;
    south = south_joined ra.south rb.south rc.south rd.south ha.south hb.south hc.south hd.south;
  }

-- ---- cells

cell_farthest : (far : (k u v : ℕ) → ℕ) (s : ℕ) → far 0 0 0 ≡ 1 → IsFarthest far 0 (Cell s) (if s == 0 then 0 else 1)
cell_farthest far s one = by (s == 0) refl
  where
    at_corner : (x t e : ℕ) → HasCellAt far 0 (Cell x) t e → (x ≡ t) × (e ≡ 1)
    at_corner x t e h =
        let hu = h.cell.column in let hv = h.cell.row in
        let u : h.u ≡ 0 = omega (arith, hu) in let v : h.v ≡ 0 = omega (arith, hv) in
        (h.cell.is, sym h.distance ∙ (λ i. far 0 (u i) (v i)) ∙ one)

    by : (b : Bool) → (s == 0) ≡ b → IsFarthest far 0 (Cell s) (if b then 0 else 1)
    by true z = record {
      most = λ t e live h. absurd (live (sym (at_corner s t e h).0 ∙ eqb-true s 0 z));
      has = λ some. absurd (omega (arith, some));
    }
    by false z = record {
      most = λ t e live h. (let f = (at_corner s t e h).1 in omega (arith, f));
      has = λ some. (s, ((λ e. (let yes = eq-eqb s 0 e in let no : true ≡ false = sym yes ∙ z in cc)), record { u = 0; v = 0; cell = record { column = omega arith; row = omega arith; is = refl }; distance = one }));
    }

pub one_cell : (s : ℕ) → IsReach 0 (Cell s) (cell_reach s)
one_cell s = record {
  most = λ u v t x. (let e : s ≡ t = x.is in omega (arith, e));
  has = λ some. (0, (0, record { column = omega arith; row = omega arith; is = refl }));
  west = cell_farthest to_west s refl;
  east = cell_farthest to_east s refl;
  north = cell_farthest to_north s refl;
  south = cell_farthest to_south s refl;
}

-- ---- bounds

fits_one : (far : (k u v : ℕ) → ℕ) (k : ℕ) (q : StateSquare) (r : ℕ) → ((s e : ℕ) → HasCellAt far k q s e → e ≤ 2 ^ k) → IsFarthest far k q r → r ≤ 2 ^ k
fits_one far k q r range is = elim (cases_lt 0 r) [
  | inl some ↦ (let h = is.has some in range h.0 r h.1.1)
  | inr none ↦ omega (arith, none)
]

pub fits : (k : ℕ) (q : StateSquare) (r : Reach) → IsReach k q r → Fits (2 ^ k) r
fits k q r is = record {
  west = fits_one to_west k q r.west (λ s e h. let z = h.distance in omega (arith, z)) is.west;
  east = fits_one to_east k q r.east (λ s e h. let z = h.distance in let p = h.cell.column in omega (arith, z, p)) is.east;
  north = fits_one to_north k q r.north (λ s e h. let z = h.distance in omega (arith, z)) is.north;
  south = fits_one to_south k q r.south (λ s e h. let z = h.distance in let p = h.cell.row in omega (arith, z, p)) is.south;
}
