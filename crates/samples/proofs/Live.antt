-- Whether some place has a state other than 0.
use Rattle.std.proofs.Common.{ℕ, ◌+◌, Bool, true, false, ◌⊎◌, inl, inr, sym, ap, ◌∙◌, arith, refl}
use Rattle.std.specs.Prelude.{◌≢◌, ◌||◌, IsTrue}
use Rattle.stamped_writes.specs.declared.write.Write.{Write}
use Rattle.square_store.specs.Grid.{Grid, quartered}
use Rattle.square_store.proofs.Quarters.{quarter_nw, quarter_ne, quarter_sw, quarter_se, each_quarter}
use Rattle.samples.specs.Single.{HasState, IsLive}

module _ (n : ℕ) (a b c d : Grid) where
  whole_nw : HasState n a → HasState (n + n) (quartered n a b c d)
  whole_nw h = record { u = h.u; v = h.v; u_within = (let w = h.u_within in omega (arith, w)); v_within = (let w = h.v_within in omega (arith, w)); state = λ e. h.state (sym (ap (λ (w : Write). w.state) (quarter_nw n a b c d h.u h.v h.u_within h.v_within)) ∙ e) }

  whole_ne : HasState n b → HasState (n + n) (quartered n a b c d)
  whole_ne h = record { u = n + h.u; v = h.v; u_within = (let w = h.u_within in omega (arith, w)); v_within = (let w = h.v_within in omega (arith, w)); state = λ e. h.state (sym (ap (λ (w : Write). w.state) (quarter_ne n a b c d h.u h.v h.v_within)) ∙ e) }

  whole_sw : HasState n c → HasState (n + n) (quartered n a b c d)
  whole_sw h = record { u = h.u; v = n + h.v; u_within = (let w = h.u_within in omega (arith, w)); v_within = (let w = h.v_within in omega (arith, w)); state = λ e. h.state (sym (ap (λ (w : Write). w.state) (quarter_sw n a b c d h.u h.v h.u_within)) ∙ e) }

  whole_se : HasState n d → HasState (n + n) (quartered n a b c d)
  whole_se h = record { u = n + h.u; v = n + h.v; u_within = (let w = h.u_within in omega (arith, w)); v_within = (let w = h.v_within in omega (arith, w)); state = λ e. h.state (sym (ap (λ (w : Write). w.state) (quarter_se n a b c d h.u h.v)) ∙ e) }

  either : (p q r s : Bool) → IsTrue (p || q || r || s) → IsTrue p ⊎ IsTrue q ⊎ IsTrue r ⊎ IsTrue s
  either true q r s h = inl refl
  either false true r s h = inr (inl refl)
  either false false true s h = inr (inr (inl refl))
  either false false false s h = inr (inr (inr h))

  or_first : (p q r s : Bool) → IsTrue p → IsTrue (p || q || r || s)
  or_first true q r s h = refl
  or_first false q r s h = cc

  or_second : (p q r s : Bool) → IsTrue q → IsTrue (p || q || r || s)
  or_second true q r s h = refl
  or_second false true r s h = refl
  or_second false false r s h = cc

  or_third : (p q r s : Bool) → IsTrue r → IsTrue (p || q || r || s)
  or_third true q r s h = refl
  or_third false true r s h = refl
  or_third false false true s h = refl
  or_third false false false s h = cc

  or_fourth : (p q r s : Bool) → IsTrue s → IsTrue (p || q || r || s)
  or_fourth true q r s h = refl
  or_fourth false true r s h = refl
  or_fourth false false true s h = refl
  or_fourth false false false s h = h

  pub live_four : (p q r s : Bool) → IsLive n a p → IsLive n b q → IsLive n c r → IsLive n d s → IsLive (n + n) (quartered n a b c d) (p || q || r || s)
  live_four p q r s hp hq hr hs = (
    λ h. elim (either p q r s h) [
      | inl t ↦ whole_nw (hp.0 t)
      | inr t ↦ elim t [
        | inl t ↦ whole_ne (hq.0 t)
        | inr t ↦ elim t [
          | inl t ↦ whole_sw (hr.0 t)
          | inr t ↦ whole_se (hs.0 t)
        ]
      ]
    ],
    λ has. each_quarter (λ w. w.state ≢ 0 → IsTrue (p || q || r || s)) n a b c d
        (λ u v hu hv live. or_first p q r s (hp.1 (record { u = u; v = v; u_within = hu; v_within = hv; state = live })))
        (λ u v hu hv live. or_second p q r s (hq.1 (record { u = u; v = v; u_within = hu; v_within = hv; state = live })))
        (λ u v hu hv live. or_third p q r s (hr.1 (record { u = u; v = v; u_within = hu; v_within = hv; state = live })))
        (λ u v hu hv live. or_fourth p q r s (hs.1 (record { u = u; v = v; u_within = hu; v_within = hv; state = live })))
        has.u has.v has.u_within has.v_within has.state,
  )
