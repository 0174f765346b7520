-- A line of rows is read back.
use Rattle.std.proofs.Common.{◌≡◌, ℕ, zero, suc, ◌+◌, ◌-◌, ◌*◌, ◌≤◌, ◌<◌, Bool, true, false, List, [], ◌∷◌, ◌++◌, refl, sym, ◌∙◌, ap, arith, length, append_assoc, add-one, get_or, map, inl, inr, subst}
use Rattle.std.specs.Prelude.{Option, Some, None, Result, Ok, ◌==◌, ◌&&◌, nat_lt, if◌then◌else◌, codes, flat_map}
use Rattle.std.specs.List.{range_with_len}
use Rattle.std.proofs.lemmas.Bool.{and_from, cases_lt, eqb-true, eq-eqb, ne_eqb}
use Rattle.std.proofs.lemmas.List.FromFn.{get_or-map-range_with_len, length-map-range_with_len}
use Rattle.square_store.proofs.Quarters.{lt_true}
use Rattle.bitplane_kernel.specs.Square.{state_at}
use Rattle.macrocell_lines.specs.Lines.{height_of, live_len, mark_of, row_of, row_text, rows_text}
use Rattle.macrocell_lines.specs.Squares.{StateSquare, square_of}
use Rattle.macrocell_lines.proofs.States.{same_square}
use Rattle.macrocell_text.specs.declared.marks.Spot.{Spot}
use Rattle.macrocell_text.specs.Marks.{first_spot, is_live_at, misplaced, rows_told, spot_behind, square_marked, state_marked, unless_misplaced}
use Rattle.macrocell_text.specs.Laws.{ReadsRowsBack, state_told}

abbrev spot : ℕ → ℕ → Spot
spot c r = record { column = c; row = r }

-- marks of states from a column on, the end of their row, and what follows
abbrev row_from : (ℕ → ℕ) → ℕ → ℕ → List ℕ → List ℕ
row_from f c n rest = map (λ u. mark_of (f u)) (range_with_len c n) ++ 36 ∷ rest

-- ---- every mark may stand where it does

in_square : (c r : ℕ) → c < 8 → r < 8 → (nat_lt c 8 && nat_lt r 8) ≡ true
in_square c r hc hr = and_from _ _ (lt_true c 8 hc) (lt_true r 8 hr)

row_stands : (n c r : ℕ) (f : ℕ → ℕ) (rest : List ℕ) → c + n ≤ 8 → r < 8 → ((p : ℕ) → misplaced p (spot 0 (suc r)) rest ≡ None) → (p : ℕ) → misplaced p (spot c r) (row_from f c n rest) ≡ None
row_stands zero c r f rest hc hr h p = h (suc p)
row_stands (suc n) c r f rest hc hr h p =
    let next : misplaced (suc p) (spot (suc c) r) (row_from f (suc c) n rest) ≡ None = row_stands n (suc c) r f rest (omega (arith, hc)) hr h (suc p) in
    rw add-one (by (f c == 0) next)
  where
    by : (b : Bool) → misplaced (suc p) (spot (suc c) r) (row_from f (suc c) n rest) ≡ None → misplaced p (spot c r) ((if b then 46 else 42) ∷ row_from f (suc c) n rest) ≡ None
    by true next = next
    by false next = rw (in_square c r (omega (arith, hc)) hr) next

-- ---- states

above_none : (marks : List ℕ) (s : Spot) (u v : ℕ) → v < s.row → state_marked s marks u v ≡ 0
above_none [] s u v h = refl
above_none (m ∷ marks) s u v h =
    let no : (s.row == v) ≡ false = ne_eqb s.row v (λ e. (omega (arith, e, h))) in
    let live : is_live_at s m u v ≡ false = rw no (grind arith) in
    rw live (by (m == 36) refl (λ t below. above_none marks t u v below))
  where
    by : (b : Bool) → (m == 36) ≡ b → ((t : Spot) → v < t.row → state_marked t marks u v ≡ 0) → state_marked (spot_behind s m) marks u v ≡ 0
    by true e rest = rw e (rest (spot 0 (suc s.row)) (omega (arith, h)))
    by false e rest = rw e (rest (spot (suc s.column) s.row) h)

no_hit : (m c r u v : ℕ) → (r ≡ v → c ≡ u → ⊥) → is_live_at (spot c r) m u v ≡ false
no_hit m c r u v h = by (c == u) (r == v) refl refl
  where
    by : (a b : Bool) → (c == u) ≡ a → (r == v) ≡ b → (m == 42 && (a && b)) ≡ false
    by true true e g = absurd (h (eqb-true r v g) (eqb-true c u e))
    by true false e g = grind arith
    by false b e g = grind arith

-- a mark in the row leads on to the next column
behind_mark : (s c r : ℕ) → spot_behind (spot c r) (mark_of s) ≡ spot (suc c) r
behind_mark s c r = by (s == 0)
  where
    by : (b : Bool) → spot_behind (spot c r) (if b then 46 else 42) ≡ spot (suc c) r
    by true = refl
    by false = refl

-- where no spot of the row is hit
row_missed : (n c r : ℕ) (f : ℕ → ℕ) (rest : List ℕ) (u v : ℕ) → ((k : ℕ) → c ≤ k → k < c + n → r ≡ v → k ≡ u → ⊥) → state_marked (spot c r) (row_from f c n rest) u v ≡ state_marked (spot 0 (suc r)) rest u v
row_missed zero c r f rest u v h = refl
row_missed (suc n) c r f rest u v h =
    rw (add-one, no_hit (mark_of (f c)) c r u v (λ e g. h c (omega arith) (omega arith) e g), behind_mark (f c) c r)
    (row_missed n (suc c) r f rest u v (λ k low high. h k (omega (arith, low)) (omega (arith, high))))

-- where one is
row_hit : (n c r : ℕ) (f : ℕ → ℕ) (rest : List ℕ) (u : ℕ) → c ≤ u → u < c + n → state_marked (spot 0 (suc r)) rest u r ≡ 0 → state_marked (spot c r) (row_from f c n rest) u r ≡ state_told (f u)
row_hit zero c r f rest u low high none = absurd (omega (arith, low, high))
row_hit (suc n) c r f rest u low high none = rw (add-one, behind_mark (f c) c r) (elim (cases_lt c u) [
  | inl less ↦ rw (no_hit (mark_of (f c)) c r u r (λ e g. (omega (arith, g, less)))) (row_hit n (suc c) r f rest u (omega (arith, less)) (omega (arith, high)) none)
  | inr more ↦ (let same : c ≡ u = omega (arith, low, more) in
      let missed : state_marked (spot (suc c) r) (row_from f (suc c) n rest) u r ≡ 0 = row_missed n (suc c) r f rest u r (λ k least most e g. (omega (arith, least, g, more))) ∙ none in
      rw (sym same) (here (f c == 0) (rw (sym same) at missed)))
])
  where
    here : (b : Bool) → state_marked (spot (suc c) r) (row_from f (suc c) n rest) c r ≡ 0 →
        (if is_live_at (spot c r) (if b then 46 else 42) c r then 1 else state_marked (spot (suc c) r) (row_from f (suc c) n rest) c r) ≡ (if b then 0 else 1)
    here true h = h
    here false h = rw (eq-eqb c c refl, eq-eqb r r refl) refl

-- ---- all rows

module _ (states : List ℕ) where
  abbrev state : ℕ → ℕ → ℕ
  state v u = state_at 8 states u v

  abbrev width : ℕ → ℕ
  width v = live_len (row_of states v)

  live_most : (xs : List ℕ) → live_len xs ≤ length xs
  live_most [] = omega arith
  live_most (x ∷ xs) = by (live_len xs == 0) (x == 0) (live_most xs)
    where
      by : (a b : Bool) → live_len xs ≤ length xs → (let n : ℕ = if a then (if b then 0 else 1) else suc (live_len xs) in n ≤ length (x ∷ xs))
      by true true h = omega arith
      by true false h = omega arith
      by false b h = omega (arith, h)

  live_past : (xs : List ℕ) (i : ℕ) → live_len xs ≤ i → get_or xs i 0 ≡ 0
  live_past [] i h = refl
  live_past (x ∷ xs) i h = by (λ j past. live_past xs j past) (live_len xs == 0) (x == 0) refl refl i h
    where
      by : ((j : ℕ) → live_len xs ≤ j → get_or xs j 0 ≡ 0) → (a b : Bool) → (live_len xs == 0) ≡ a → (x == 0) ≡ b → (i : ℕ) → (let n : ℕ = if a then (if b then 0 else 1) else suc (live_len xs) in n ≤ i) → get_or (x ∷ xs) i 0 ≡ 0
      by rest true true e g zero h = eqb-true x 0 g
      by rest true b e g (suc i) h = rest i (omega (arith, eqb-true (live_len xs) 0 e))
      by rest true false e g zero h = absurd (omega (arith, h))
      by rest false b e g zero h = absurd (omega (arith, h))
      by rest false b e g (suc i) h = rest i (omega (arith, h))

  width_most : (v : ℕ) → width v ≤ 8
  width_most v = omega (arith, live_most (row_of states v), length-map-range_with_len (λ u. state v u) 0 8)

  -- what stands behind a row's last live cell is dead
  past_width : (u v : ℕ) → u < 8 → width v ≤ u → state v u ≡ 0
  past_width u v hu h = sym (get_or-map-range_with_len (λ u. state v u) 0 8 u u 0 hu (omega arith)) ∙ live_past (row_of states v) u h

  past_height : (u v : ℕ) → u < 8 → v < 8 → height_of states ≤ v → state v u ≡ 0
  past_height u v hu hv h =
      let none : width v ≡ 0 = sym (get_or-map-range_with_len (λ v. width v) 0 8 v v 0 hv (omega arith)) ∙ live_past (map (λ v. width v) (range_with_len 0 8)) v h in
      past_width u v hu (omega (arith, none))

  abbrev rows_from : ℕ → ℕ → List ℕ
  rows_from r h = flat_map (row_text states) (range_with_len r h)

  rows_split : (r h : ℕ) → rows_from r (suc h) ≡ row_from (state r) 0 (width r) (rows_from (suc r) h)
  rows_split r h = append_assoc (map (λ u. mark_of (state r u)) (range_with_len 0 (width r))) (codes "$") (rows_from (r + 1) h)
      ∙ (let e : r + 1 ≡ suc r = omega arith in ap (λ k. row_from (state r) 0 (width r) (rows_from k h)) e)

  rows_stand : (h r : ℕ) → r + h ≤ 8 → (p : ℕ) → misplaced p (spot 0 r) (rows_from r h) ≡ None
  rows_stand zero r within p = refl
  rows_stand (suc h) r within p =
      rw (rows_split r h) (row_stands (width r) 0 r (state r) (rows_from (suc r) h) (omega (arith, width_most r)) (omega (arith, within)) (rows_stand h (suc r) (omega (arith, within))) p)

  -- a row by itself
  row_state : (r u : ℕ) (rest : List ℕ) → u < 8 → state_marked (spot 0 r) (row_from (state r) 0 (width r) rest) u r ≡ state_told (state r u)
  row_state r u rest hu =
      let none : state_marked (spot 0 (suc r)) rest u r ≡ 0 = above_none rest (spot 0 (suc r)) u r (omega arith) in
      elim (cases_lt u (width r)) [
        | inl less ↦ row_hit (width r) 0 r (state r) rest u (omega arith) (omega (arith, less)) none
        | inr more ↦ row_missed (width r) 0 r (state r) rest u r (λ k low high e g. (omega (arith, high, g, more))) ∙ none ∙ sym (ap state_told (past_width u r hu more))
      ]

  rows_states : (h r u v : ℕ) → u < 8 → r ≤ v → v < r + h → state_marked (spot 0 r) (rows_from r h) u v ≡ state_told (state v u)
  rows_states zero r u v hu low high = absurd (omega (arith, low, high))
  rows_states (suc h) r u v hu low high = rw (rows_split r h) (elim (cases_lt r v) [
    | inl less ↦ row_missed (width r) 0 r (state r) (rows_from (suc r) h) u v (λ k least most e g. (omega (arith, e, less))) ∙ rows_states h (suc r) u v hu (omega (arith, less)) (omega (arith, high))
    | inr more ↦ (let same : r ≡ v = omega (arith, low, more) in
        subst (λ w. state_marked (spot 0 r) (row_from (state r) 0 (width r) (rows_from (suc r) h)) u w ≡ state_told (state w u)) same (row_state r u (rows_from (suc r) h) hu))
  ])

  rows_none : (h r u v : ℕ) → r + h ≤ v → state_marked (spot 0 r) (rows_from r h) u v ≡ 0
  rows_none zero r u v past = refl
  rows_none (suc h) r u v past =
      rw (rows_split r h) (row_missed (width r) 0 r (state r) (rows_from (suc r) h) u v (λ k least most e g. (omega (arith, e, past))) ∙ rows_none h (suc r) u v (omega (arith, past)))

  height_most : height_of states ≤ 8
  height_most = omega (arith, live_most (map (λ v. width v) (range_with_len 0 8)), length-map-range_with_len (λ v. width v) 0 8)

  all_states : (u v : ℕ) → u < 8 → v < 8 → state_marked first_spot (rows_text states) u v ≡ state_told (state v u)
  all_states u v hu hv = elim (cases_lt v (height_of states)) [
    | inl less ↦ rows_states (height_of states) 0 u v hu (omega arith) (omega (arith, less))
    | inr more ↦ rows_none (height_of states) 0 u v (omega (arith, more)) ∙ sym (ap state_told (past_height u v hu hv more))
  ]

  pub rows_back : (place : ℕ) → rows_told place (rows_text states) ≡ Ok (square_of 3 (λ u v. state_told (state_at 8 states u v)))
  rows_back place =
      (λ i. unless_misplaced (rows_stand (height_of states) 0 (omega (arith, height_most)) place i) (square_marked (rows_text states)))
      ∙ ap Ok (same_square 3 (state_marked first_spot (rows_text states)) (λ u v. state_told (state v u)) all_states)

pub reads_rows_back : ReadsRowsBack
reads_rows_back place states = rows_back states place
