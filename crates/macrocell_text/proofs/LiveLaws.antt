-- The live cells of a square are its states that are not 0, each at its column and row.
use Rattle.std.proofs.Common.{◌≡◌, ◌≢◌, ℕ, zero, suc, ◌+◌, ◌-◌, ◌*◌, ◌/◌, ◌^◌, ◌≤◌, ◌<◌, Bool, true, false, List, [], ◌∷◌, ◌++◌, refl, sym, ◌∙◌, ap, arith, length, subst, inl, inr}
use Rattle.std.specs.Prelude.{◌==◌, ◌⊎◌, Contains, if◌then◌else◌}
use Rattle.std.proofs.lemmas.Bool.{cases_lt, eq-eqb, ne_eqb}
use Rattle.std.proofs.lemmas.List.Elements.{Contains-append_cases, Contains-append_left, Contains-append_right, Contains-push, Contains-push_cases}
use Rattle.macrocell_lines.specs.Squares.{StateSquare, Cell, Four, level_of, state_in}
use Rattle.macrocell_lines.specs.Listing.{IsSquare}
use Rattle.macrocell_lines.proofs.States.{double, level_is, put, put_nw, put_ne, put_sw, put_se}
use Rattle.macrocell_text.specs.LiveCells.{LiveCell, live_cells}
use Rattle.macrocell_text.specs.Laws.{FindsAllLiveCells, FindsOnlyLiveCells, IsLiveIn}

pub none_in : {X : Type 0} (x : X) → Contains [] x → ⊥
none_in x h = omega (arith, h.1)

-- ---- a square and its quarters

module _ (k : ℕ) (a b c d : StateSquare) (h : IsSquare (suc k) (Four a b c d)) (column row : ℕ) (x : LiveCell) where
  abbrev n : ℕ
  n = 2 ^ k

  in_four : (u v : ℕ) → state_in (Four a b c d) u v ≡ put n (state_in a) (state_in b) (state_in c) (state_in d) u v
  in_four u v = ap (λ l. put (2 ^ l) (state_in a) (state_in b) (state_in c) (state_in d) u v) (level_is k a h.0)

  from_nw : IsLiveIn k a column row x → IsLiveIn (suc k) (Four a b c d) column row x
  from_nw p = (let two = double k in let l = p.left in let r = p.right in let t = p.top in let s = p.bottom in record {
    left = l;
    right = omega (arith, r, two);
    top = t;
    bottom = omega (arith, s, two);
    state_is = in_four _ _ ∙ put_nw n (state_in a) (state_in b) (state_in c) (state_in d) _ _ (omega (arith, l, r)) (omega (arith, t, s)) ∙ p.state_is;
    live = p.live;
  })

  from_ne : IsLiveIn k b (column + n) row x → IsLiveIn (suc k) (Four a b c d) column row x
  from_ne p = (let two = double k in let l = p.left in let r = p.right in let t = p.top in let s = p.bottom in
      let e : x.column - column - n ≡ x.column - (column + n) = omega arith in record {
        left = omega (arith, l);
        right = omega (arith, r, two);
        top = t;
        bottom = omega (arith, s, two);
        state_is = in_four _ _ ∙ put_ne n (state_in a) (state_in b) (state_in c) (state_in d) _ _ (omega (arith, l, r)) (omega (arith, t, s)) ∙ (λ i. state_in b (e i) (x.row - row)) ∙ p.state_is;
        live = p.live;
      })

  from_sw : IsLiveIn k c column (row + n) x → IsLiveIn (suc k) (Four a b c d) column row x
  from_sw p = (let two = double k in let l = p.left in let r = p.right in let t = p.top in let s = p.bottom in
      let e : x.row - row - n ≡ x.row - (row + n) = omega arith in record {
        left = l;
        right = omega (arith, r, two);
        top = omega (arith, t);
        bottom = omega (arith, s, two);
        state_is = in_four _ _ ∙ put_sw n (state_in a) (state_in b) (state_in c) (state_in d) _ _ (omega (arith, l, r)) (omega (arith, t, s)) ∙ (λ i. state_in c (x.column - column) (e i)) ∙ p.state_is;
        live = p.live;
      })

  from_se : IsLiveIn k d (column + n) (row + n) x → IsLiveIn (suc k) (Four a b c d) column row x
  from_se p = (let two = double k in let l = p.left in let r = p.right in let t = p.top in let s = p.bottom in
      let e : x.column - column - n ≡ x.column - (column + n) = omega arith in let f : x.row - row - n ≡ x.row - (row + n) = omega arith in record {
        left = omega (arith, l);
        right = omega (arith, r, two);
        top = omega (arith, t);
        bottom = omega (arith, s, two);
        state_is = in_four _ _ ∙ put_se n (state_in a) (state_in b) (state_in c) (state_in d) _ _ (omega (arith, l, r)) (omega (arith, t, s)) ∙ (λ i. state_in d (e i) (f i)) ∙ p.state_is;
        live = p.live;
      })

  to_nw : IsLiveIn (suc k) (Four a b c d) column row x → x.column - column < n → x.row - row < n → IsLiveIn k a column row x
  to_nw p hu hv = (let l = p.left in let t = p.top in record {
    left = l;
    right = omega (arith, l, hu);
    top = t;
    bottom = omega (arith, t, hv);
    state_is = sym (put_nw n (state_in a) (state_in b) (state_in c) (state_in d) _ _ hu hv) ∙ sym (in_four _ _) ∙ p.state_is;
    live = p.live;
  })

  to_ne : IsLiveIn (suc k) (Four a b c d) column row x → n ≤ x.column - column → x.row - row < n → IsLiveIn k b (column + n) row x
  to_ne p hu hv = (let two = double k in let l = p.left in let r = p.right in let t = p.top in
      let e : x.column - (column + n) ≡ x.column - column - n = omega arith in record {
        left = omega (arith, l, hu);
        right = omega (arith, r, two);
        top = t;
        bottom = omega (arith, t, hv);
        state_is = (λ i. state_in b (e i) (x.row - row)) ∙ sym (put_ne n (state_in a) (state_in b) (state_in c) (state_in d) _ _ hu hv) ∙ sym (in_four _ _) ∙ p.state_is;
        live = p.live;
      })

  to_sw : IsLiveIn (suc k) (Four a b c d) column row x → x.column - column < n → n ≤ x.row - row → IsLiveIn k c column (row + n) x
  to_sw p hu hv = (let two = double k in let l = p.left in let t = p.top in let s = p.bottom in
      let e : x.row - (row + n) ≡ x.row - row - n = omega arith in record {
        left = l;
        right = omega (arith, l, hu);
        top = omega (arith, t, hv);
        bottom = omega (arith, s, two);
        state_is = (λ i. state_in c (x.column - column) (e i)) ∙ sym (put_sw n (state_in a) (state_in b) (state_in c) (state_in d) _ _ hu hv) ∙ sym (in_four _ _) ∙ p.state_is;
        live = p.live;
      })

  to_se : IsLiveIn (suc k) (Four a b c d) column row x → n ≤ x.column - column → n ≤ x.row - row → IsLiveIn k d (column + n) (row + n) x
  to_se p hu hv = (let two = double k in let l = p.left in let r = p.right in let t = p.top in let s = p.bottom in
      let e : x.column - (column + n) ≡ x.column - column - n = omega arith in let f : x.row - (row + n) ≡ x.row - row - n = omega arith in record {
        left = omega (arith, l, hu);
        right = omega (arith, r, two);
        top = omega (arith, t, hv);
        bottom = omega (arith, s, two);
        state_is = (λ i. state_in d (e i) (f i)) ∙ sym (put_se n (state_in a) (state_in b) (state_in c) (state_in d) _ _ hu hv) ∙ sym (in_four _ _) ∙ p.state_is;
        live = p.live;
      })

pub halved : (k side : ℕ) → side ≡ 2 ^ suc k → side / 2 ≡ 2 ^ k
halved k side e = (let two = double k in omega (arith, e, two))

-- ---- both ways

pub only_live : (k : ℕ) (q : StateSquare) (side column row : ℕ) (x : LiveCell) → side ≡ 2 ^ k → IsSquare k q → Contains (live_cells side q column row) x → IsLiveIn k q column row x
only_live zero (Cell s) side column row x e is h = by (s == 0) refl h
  where
    by : (b : Bool) → (s == 0) ≡ b → (let cells : List LiveCell = if b then [] else record { column = column; row = row; state = s } ∷ [] in Contains cells x) → IsLiveIn 0 (Cell s) column row x
    by true g h = absurd (none_in x h)
    by false g h = elim (Contains-push_cases [] (record { column = column; row = row; state = s }) x h) [
      | inl none ↦ absurd (none_in x none)
      | inr same ↦ subst (λ y. IsLiveIn 0 (Cell s) column row y) same (record {
        left = omega arith;
        right = omega arith;
        top = omega arith;
        bottom = omega arith;
        state_is = refl;
        live = λ z. (let yes : (s == 0) ≡ true = eq-eqb s 0 z in cc);
      })
    ]
only_live zero (Four a b c d) side column row x e is h = absurd is
only_live (suc k) (Cell s) side column row x e is h = absurd is
only_live (suc k) (Four a b c d) side column row x e is h =
    let half = halved k side e in
    elim (Contains-append_cases (live_cells (side / 2) a column row ++ live_cells (side / 2) b (column + side / 2) row) _ x h) [
      | inl upper ↦ elim (Contains-append_cases (live_cells (side / 2) a column row) _ x upper) [
        | inl nw ↦ from_nw k a b c d is column row x (only_live k a (side / 2) column row x half is.0 nw)
        | inr ne ↦ from_ne k a b c d is column row x (subst (λ m. IsLiveIn k b (column + m) row x) half (only_live k b (side / 2) (column + side / 2) row x half is.1.0 ne))
      ]
      | inr lower ↦ elim (Contains-append_cases (live_cells (side / 2) c column (row + side / 2)) _ x lower) [
        | inl sw ↦ from_sw k a b c d is column row x (subst (λ m. IsLiveIn k c column (row + m) x) half (only_live k c (side / 2) column (row + side / 2) x half is.1.1.0 sw))
        | inr se ↦ from_se k a b c d is column row x (subst (λ m. IsLiveIn k d (column + m) (row + m) x) half (only_live k d (side / 2) (column + side / 2) (row + side / 2) x half is.1.1.1 se))
      ]
    ]

all_live : (k : ℕ) (q : StateSquare) (side column row : ℕ) (x : LiveCell) → side ≡ 2 ^ k → IsSquare k q → IsLiveIn k q column row x → Contains (live_cells side q column row) x
all_live zero (Cell s) side column row x e is p =
    let l = p.left in let r = p.right in let t = p.top in let b = p.bottom in
    let some : s ≡ 0 → ⊥ = λ z. p.live (sym p.state_is ∙ z) in
    let f : column ≡ x.column = omega (arith, l, r) in
    let g : row ≡ x.row = omega (arith, t, b) in
    let same : record { column = column; row = row; state = s } ≡ x = (λ i. record { column = f i; row = g i; state = p.state_is i }) in
    rw (ne_eqb s 0 some) (subst (λ y. Contains (record { column = column; row = row; state = s } ∷ []) y) same (Contains-push [] (record { column = column; row = row; state = s })))
all_live zero (Four a b c d) side column row x e is p = absurd is
all_live (suc k) (Cell s) side column row x e is p = absurd is
all_live (suc k) (Four a b c d) side column row x e is p =
    let half = halved k side e in
    elim (cases_lt (x.row - row) (2 ^ k)) [
      | inl upper ↦ Contains-append_left (live_cells (side / 2) a column row ++ live_cells (side / 2) b (column + side / 2) row) _ x (elim (cases_lt (x.column - column) (2 ^ k)) [
        | inl left ↦ Contains-append_left (live_cells (side / 2) a column row) _ x (all_live k a (side / 2) column row x half is.0 (to_nw k a b c d is column row x p left upper))
        | inr right ↦ Contains-append_right (live_cells (side / 2) a column row) _ x (all_live k b (side / 2) (column + side / 2) row x half is.1.0 (subst (λ m. IsLiveIn k b (column + m) row x) (sym half) (to_ne k a b c d is column row x p right upper)))
      ])
      | inr lower ↦ Contains-append_right (live_cells (side / 2) a column row ++ live_cells (side / 2) b (column + side / 2) row) _ x (elim (cases_lt (x.column - column) (2 ^ k)) [
        | inl left ↦ Contains-append_left (live_cells (side / 2) c column (row + side / 2)) _ x (all_live k c (side / 2) column (row + side / 2) x half is.1.1.0 (subst (λ m. IsLiveIn k c column (row + m) x) (sym half) (to_sw k a b c d is column row x p left lower)))
        | inr right ↦ Contains-append_right (live_cells (side / 2) c column (row + side / 2)) _ x (all_live k d (side / 2) (column + side / 2) (row + side / 2) x half is.1.1.1 (subst (λ m. IsLiveIn k d (column + m) (row + m) x) (sym half) (to_se k a b c d is column row x p right lower)))
      ])
    ]

pub finds_only_live_cells : FindsOnlyLiveCells
finds_only_live_cells k q column row x is h = only_live k q (2 ^ k) column row x refl is h

pub finds_all_live_cells : FindsAllLiveCells
finds_all_live_cells k q column row x is p = all_live k q (2 ^ k) column row x refl is p
