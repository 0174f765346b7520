-- Cells that are gathered, from those of the parts.
use Rattle.std.proofs.Common.{◌≡◌, ◌≢◌, ℕ, zero, suc, ◌+◌, ◌-◌, ◌*◌, ◌/◌, ◌%◌, ◌<◌, ◌≤◌, ◌⊎◌, false, List, [], ◌∷◌, ◌++◌, inl, inr, refl, sym, ap, ◌∙◌, subst, arith}
use Rattle.std.specs.Prelude.{Contains, slice_index_or}
use Rattle.std.specs.List.{AllByRecursion, IsDistinct}
use Rattle.std.proofs.lemmas.Bool.{cases_Bool, cases_lt}
use Rattle.std.proofs.lemmas.Bool.Decides.{nat_tests}
use Rattle.std.proofs.lemmas.List.{get_or_default}
use Rattle.std.proofs.lemmas.List.Elements.{Contains-append_left, Contains-append_right, Contains-append_cases}
use Rattle.stamped_writes.specs.declared.write.Write.{Write}
use Rattle.square_store.specs.Grid.{Grid, quartered, AreSameWithin}
use Rattle.square_store.specs.Squares.{Held, side_at, IsAt, grid_at, four_grid}
use Rattle.square_store.specs.Seen.{IsLeafAt, IsFourAt}
use Rattle.square_store.proofs.Quarters.{twice, quarter_nw, quarter_ne, quarter_sw, quarter_se}
use Rattle.stamped_tree.specs.declared.cells.ListedCell.{ListedCell}
use Rattle.stamped_tree.specs.Walk.{IsNonzeroCell, Gathers, is_one_spot}

-- ---- lists

pub contains_head : {X : Type 0} (x : X) (xs : List X) → Contains (x ∷ xs) x
contains_head x xs = (0, omega arith, refl)

pub contains_tail : {X : Type 0} (x y : X) (xs : List X) → Contains xs y → Contains (x ∷ xs) y
contains_tail x y xs h = let l = h.1 in (suc h.0, omega (arith, l), h.2)

contains_one : {X : Type 0} (x y : X) → Contains (x ∷ []) y → y ≡ x
contains_one x y (zero, l, e) = sym e
contains_one x y (suc k, l, e) = absurd (omega (arith, l))

all_more : {X : Type 0} (P : X → Type 0) (xs : List X) (y : X) → AllByRecursion P xs → P y → AllByRecursion P (xs ++ y ∷ [])
all_more P [] y all is = (is, tt)
all_more P (x ∷ xs) y all is = (all.0, all_more P xs y all.1 is)

distinct_more : (xs : List ListedCell) (y : ListedCell) → IsDistinct is_one_spot xs → ((c : ListedCell) → Contains xs c → is_one_spot c y ≡ false) → IsDistinct is_one_spot (xs ++ y ∷ [])
unfolding IsDistinct
distinct_more [] y h apart = (tt, tt)
distinct_more (x ∷ xs) y h apart = (all_more (λ d. is_one_spot x d ≡ false) xs y h.0 (apart x (contains_head x xs)), distinct_more xs y h.1 (λ c m. apart c (contains_tail x c xs m)))

-- two cells that do not stand in one column and row
pub not_one_spot : (c d : ListedCell) → (c.column ≡ d.column → c.row ≡ d.row → ⊥) → is_one_spot c d ≡ false
not_one_spot c d apart = elim (cases_Bool (is_one_spot c d)) [
  | inl same ↦ absurd (apart (grind (arith, nat_tests, same)) (grind (arith, nat_tests, same)))
  | inr other ↦ other
]

-- ---- what is gathered step by step

pub gathers_as : (P Q : ListedCell → Type 0) (old new : List ListedCell) → ((c : ListedCell) → P c → Q c) → ((c : ListedCell) → Q c → P c) → Gathers P old new → Gathers Q old new
gathers_as P Q old new there back g = record {
  kept = g.kept;
  got = λ c q. g.got c (back c q);
  only = λ c h. elim (g.only c h) [ inl o ↦ inl o | inr p ↦ inr (there c p) ];
  once = λ distinct apart. g.once distinct (λ c d o p. apart c d o (there d p));
}

pub gathers_more : (P Q : ListedCell → Type 0) (old mid new : List ListedCell) → ((c d : ListedCell) → P c → Q d → is_one_spot c d ≡ false) → Gathers P old mid → Gathers Q mid new → Gathers (λ c. P c ⊎ Q c) old new
gathers_more P Q old mid new disjoint g h = record {
  kept = λ c o. h.kept c (g.kept c o);
  got = λ c is. elim is [ inl p ↦ h.kept c (g.got c p) | inr q ↦ h.got c q ];
  only = λ c n. elim (h.only c n) [
    | inr q ↦ inr (inr q)
    | inl m ↦ elim (g.only c m) [ inl o ↦ inl o | inr p ↦ inr (inl p) ]
  ];
  once = λ distinct apart. h.once (g.once distinct (λ c d o p. apart c d o (inl p))) (λ c d m q. elim (g.only c m) [ inl o ↦ apart c d o (inr q) | inr p ↦ disjoint c d p q ]);
}

pub gathers_one : (cell : ListedCell) (old : List ListedCell) → cell.state ≢ 0 → Gathers (λ c. (c ≡ cell) × (c.state ≢ 0)) old (old ++ cell ∷ [])
gathers_one cell old nonzero = record {
  kept = λ c h. Contains-append_left old (cell ∷ []) c h;
  got = λ c is. subst (λ d. Contains (old ++ cell ∷ []) d) (sym is.0) (Contains-append_right old (cell ∷ []) cell (contains_head cell []));
  only = λ c h. elim (Contains-append_cases old (cell ∷ []) c h) [
    | inl o ↦ inl o
    | inr one ↦ (let e = contains_one cell c one in inr (e, subst (λ d. d.state ≢ 0) (sym e) nonzero))
  ];
  once = λ distinct apart. distinct_more old cell distinct (λ c o. apart c cell o (refl, nonzero));
}

-- ---- a leaf

-- the nonzero cells of the first places of a leaf
abbrev pub IsNonzeroBefore : Grid → ℕ → ℕ → ℕ → ListedCell → Type 0
IsNonzeroBefore f left top i c = IsNonzeroCell 8 f left top c × (8 * (c.row - top) + (c.column - left) < i)

-- of no place nothing is gathered
pub gathers_nothing : (f : Grid) (left top : ℕ) (old : List ListedCell) → Gathers (IsNonzeroBefore f left top 0) old old
gathers_nothing f left top old = record {
  kept = λ c h. h;
  got = λ c b. (let lt = b.1 in absurd (omega (arith, lt)));
  only = λ c h. inl h;
  once = λ distinct apart. distinct;
}

-- the cell at a place of a leaf
abbrev pub cell_on_leaf : ℕ → ℕ → ℕ → ℕ → ListedCell
cell_on_leaf left top i state = record { column = left + i % 8; row = top + i / 8; state = state }

module _ (f : Grid) (left top i state : ℕ) (small : i < 64) (drawn : (f (i % 8) (i / 8)).state ≡ state) where
  abbrev IsPlaced : ListedCell → Type 0
  IsPlaced c = (c ≡ cell_on_leaf left top i state) × (c.state ≢ 0)

  is_nonzero : (c : ListedCell) → IsPlaced c → IsNonzeroBefore f left top (i + 1) c
  is_nonzero c (e, nonzero) =
      let column : c.column ≡ left + i % 8 = ap (λ (d : ListedCell). d.column) e in
      let row : c.row ≡ top + i / 8 = ap (λ (d : ListedCell). d.row) e in
      let u : c.column - left ≡ i % 8 = omega (arith, column) in
      let v : c.row - top ≡ i / 8 = omega (arith, row) in (
        record {
          from_left = omega (arith, column);
          from_top = omega (arith, row);
          column = omega (arith, column);
          row = omega (arith, row, small);
          state = ap (λ z. (f z (c.row - top)).state) u ∙ ap (λ z. (f (i % 8) z).state) v ∙ drawn ∙ sym (ap (λ (d : ListedCell). d.state) e);
          nonzero = nonzero;
        },
        omega (arith, u, v),
      )

  is_place_of : (c : ListedCell) → IsNonzeroCell 8 f left top c → 8 * (c.row - top) + (c.column - left) ≡ i → c ≡ cell_on_leaf left top i state
  is_place_of c nonzero place =
      let h = nonzero.from_left in let h' = nonzero.from_top in let w = nonzero.column in let w' = nonzero.row in
      let u : i % 8 ≡ c.column - left = omega (arith, h, w, place) in
      let v : i / 8 ≡ c.row - top = omega (arith, h, h', w, w', place) in
      let column : left + i % 8 ≡ c.column = omega (arith, h, u) in
      let row : top + i / 8 ≡ c.row = omega (arith, h', v) in
      let alike : state ≡ c.state = sym drawn ∙ ap (λ z. (f z (i / 8)).state) u ∙ ap (λ z. (f (c.column - left) z).state) v ∙ nonzero.state in
      rw (column, row, alike) refl

  pub gathers_place : (old mid new : List ListedCell) → Gathers (IsNonzeroBefore f left top i) old mid → Gathers IsPlaced mid new → Gathers (IsNonzeroBefore f left top (i + 1)) old new
  gathers_place old mid new g h = gathers_as (λ c. IsNonzeroBefore f left top i c ⊎ IsPlaced c) (IsNonzeroBefore f left top (i + 1)) old new
      (λ c is. elim is [ inl b ↦ (let lt = b.1 in (b.0, omega (arith, lt))) | inr one ↦ is_nonzero c one ])
      (λ c b. elim (cases_lt (8 * (c.row - top) + (c.column - left)) i) [
        | inl lt ↦ inl (b.0, lt)
        | inr ge ↦ (let lt = b.1 in inr (is_place_of c b.0 (omega (arith, lt, ge)), b.0.nonzero))
      ])
      (gathers_more (IsNonzeroBefore f left top i) IsPlaced old mid new
      (λ c d b one. not_one_spot c d (λ ec er.
      (let column : d.column ≡ left + i % 8 = ap (λ (d : ListedCell). d.column) one.0 in
      let row : d.row ≡ top + i / 8 = ap (λ (d : ListedCell). d.row) one.0 in
      let lt = b.1 in omega (arith, lt, ec, er, column, row)))) g h)

pub gathers_leaf : (f : Grid) (left top : ℕ) (old new : List ListedCell) → Gathers (IsNonzeroBefore f left top 64) old new → Gathers (IsNonzeroCell 8 f left top) old new
gathers_leaf f left top old new g = gathers_as (IsNonzeroBefore f left top 64) (IsNonzeroCell 8 f left top) old new (λ c b. b.0) (λ c nonzero. (let h = nonzero.from_left in let h' = nonzero.from_top in let w = nonzero.column in let w' = nonzero.row in (nonzero, omega (arith, h, h', w, w')))) g

-- squares that are drawn alike have the same cells
same_cells : (m n : ℕ) (f g : Grid) (left top : ℕ) → m ≡ n → AreSameWithin n f g → (c : ListedCell) → IsNonzeroCell m f left top c → IsNonzeroCell n g left top c
same_cells m n f g left top wide same c i =
    let h = i.from_left in let h' = i.from_top in let w = i.column in let w' = i.row in
    record {
      from_left = h;
      from_top = h';
      column = omega (arith, w, wide);
      row = omega (arith, w', wide);
      nonzero = i.nonzero;
      state = sym (ap (λ (w : Write). w.state) (same (c.column - left) (c.row - top) (omega (arith, h, w, wide)) (omega (arith, h', w', wide)))) ∙ i.state;
    }

module _ {L : Type 0} (writes : L → Grid) where
  -- a square that is a leaf
  pub gathers_leaf_at : (s : Held L) (k p left top : ℕ) (l : L) (old new : List ListedCell) → IsLeafAt writes 8 s l p → IsAt s k p → Gathers (IsNonzeroCell 8 (writes l) left top) old new
      → Gathers (IsNonzeroCell (side_at 8 k) (grid_at writes 8 s k p) left top) old new
  gathers_leaf_at s k p left top l old new seen stands g =
      let level = seen.level k stands in
      let wide : side_at 8 k ≡ 8 = ap (side_at 8) level ∙ omega arith in
      let at : grid_at writes 8 s k p ≡ grid_at writes 8 s 0 p = ap (λ j. grid_at writes 8 s j p) level in
      let drawn : AreSameWithin 8 (grid_at writes 8 s k p) (writes l) = λ u v hu hv. ap (λ (f : Grid). f u v) at ∙ seen.draws.same u v (omega (arith, hu)) (omega (arith, hv)) in
      gathers_as (IsNonzeroCell 8 (writes l) left top) (IsNonzeroCell (side_at 8 k) (grid_at writes 8 s k p) left top) old new
      (same_cells 8 (side_at 8 k) (writes l) (grid_at writes 8 s k p) left top (sym wide) (λ u v hu hv. sym (drawn u v (omega (arith, hu, wide)) (omega (arith, hv, wide)))))
      (same_cells (side_at 8 k) 8 (grid_at writes 8 s k p) (writes l) left top wide drawn)
      g

-- ---- four squares

module _ (n : ℕ) (fa fb fc fd g : Grid) (left top : ℕ) (same : AreSameWithin (n + n) g (quartered n fa fb fc fd)) where
  state_at : (u v s : ℕ) (w : Write) → u < n + n → v < n + n → quartered n fa fb fc fd u v ≡ w → w.state ≡ s → (g u v).state ≡ s
  state_at u v s w hu hv e is = ap (λ (w : Write). w.state) (same u v hu hv ∙ e) ∙ is

  state_of : (u v s : ℕ) (w : Write) → u < n + n → v < n + n → quartered n fa fb fc fd u v ≡ w → (g u v).state ≡ s → w.state ≡ s
  state_of u v s w hu hv e is = sym (ap (λ (w : Write). w.state) (same u v hu hv ∙ e)) ∙ is

  quarter_right : (u v : ℕ) → n ≤ u → v < n → quartered n fa fb fc fd u v ≡ fb (u - n) v
  quarter_right u v h hv = let e : n + (u - n) ≡ u = omega arith in subst (λ z. quartered n fa fb fc fd z v ≡ fb (u - n) v) e (quarter_ne n fa fb fc fd (u - n) v hv)

  quarter_below : (u v : ℕ) → u < n → n ≤ v → quartered n fa fb fc fd u v ≡ fc u (v - n)
  quarter_below u v hu h = let e : n + (v - n) ≡ v = omega arith in subst (λ z. quartered n fa fb fc fd u z ≡ fc u (v - n)) e (quarter_sw n fa fb fc fd u (v - n) hu)

  quarter_last : (u v : ℕ) → n ≤ u → n ≤ v → quartered n fa fb fc fd u v ≡ fd (u - n) (v - n)
  quarter_last u v h h' =
      let e : n + (u - n) ≡ u = omega arith in let e' : n + (v - n) ≡ v = omega arith in
      subst (λ z. quartered n fa fb fc fd z v ≡ fd (u - n) (v - n)) e (subst (λ z. quartered n fa fb fc fd (n + (u - n)) z ≡ fd (u - n) (v - n)) e' (quarter_se n fa fb fc fd (u - n) (v - n)))

  abbrev InNorth : ListedCell → Type 0
  InNorth c = IsNonzeroCell n fa left top c ⊎ IsNonzeroCell n fb (left + n) top c

  abbrev InThree : ListedCell → Type 0
  InThree c = InNorth c ⊎ IsNonzeroCell n fc left (top + n) c

  abbrev InFour : ListedCell → Type 0
  InFour c = InThree c ⊎ IsNonzeroCell n fd (left + n) (top + n) c

  from_nw : (c : ListedCell) → IsNonzeroCell n fa left top c → IsNonzeroCell (n + n) g left top c
  from_nw c i =
      let h = i.from_left in let h' = i.from_top in let w = i.column in let w' = i.row in
      let u : c.column - left < n = omega (arith, h, w) in let v : c.row - top < n = omega (arith, h', w') in
      record {
        from_left = h;
        from_top = h';
        column = omega (arith, w);
        row = omega (arith, w');
        nonzero = i.nonzero;
        state = state_at (c.column - left) (c.row - top) c.state (fa (c.column - left) (c.row - top)) (omega (arith, u)) (omega (arith, v)) (quarter_nw n fa fb fc fd (c.column - left) (c.row - top) u v) i.state;
      }

  from_ne : (c : ListedCell) → IsNonzeroCell n fb (left + n) top c → IsNonzeroCell (n + n) g left top c
  from_ne c i =
      let h = i.from_left in let h' = i.from_top in let w = i.column in let w' = i.row in
      let v : c.row - top < n = omega (arith, h', w') in
      let e : c.column - left - n ≡ c.column - (left + n) = omega arith in
      record {
        from_left = omega (arith, h);
        from_top = h';
        column = omega (arith, w);
        row = omega (arith, w');
        nonzero = i.nonzero;
        state = state_at (c.column - left) (c.row - top) c.state (fb (c.column - (left + n)) (c.row - top)) (omega (arith, h, w)) (omega (arith, v)) (quarter_right (c.column - left) (c.row - top) (omega (arith, h)) v ∙ ap (λ z. fb z (c.row - top)) e) i.state;
      }

  from_sw : (c : ListedCell) → IsNonzeroCell n fc left (top + n) c → IsNonzeroCell (n + n) g left top c
  from_sw c i =
      let h = i.from_left in let h' = i.from_top in let w = i.column in let w' = i.row in
      let u : c.column - left < n = omega (arith, h, w) in
      let e : c.row - top - n ≡ c.row - (top + n) = omega arith in
      record {
        from_left = h;
        from_top = omega (arith, h');
        column = omega (arith, w);
        row = omega (arith, w');
        nonzero = i.nonzero;
        state = state_at (c.column - left) (c.row - top) c.state (fc (c.column - left) (c.row - (top + n))) (omega (arith, u)) (omega (arith, h', w')) (quarter_below (c.column - left) (c.row - top) u (omega (arith, h')) ∙ ap (λ z. fc (c.column - left) z) e) i.state;
      }

  from_se : (c : ListedCell) → IsNonzeroCell n fd (left + n) (top + n) c → IsNonzeroCell (n + n) g left top c
  from_se c i =
      let h = i.from_left in let h' = i.from_top in let w = i.column in let w' = i.row in
      let e : c.column - left - n ≡ c.column - (left + n) = omega arith in
      let e' : c.row - top - n ≡ c.row - (top + n) = omega arith in
      record {
        from_left = omega (arith, h);
        from_top = omega (arith, h');
        column = omega (arith, w);
        row = omega (arith, w');
        nonzero = i.nonzero;
        state = state_at (c.column - left) (c.row - top) c.state (fd (c.column - (left + n)) (c.row - (top + n))) (omega (arith, h, w)) (omega (arith, h', w')) (quarter_last (c.column - left) (c.row - top) (omega (arith, h)) (omega (arith, h')) ∙ ap (λ z. fd z (c.row - top - n)) e ∙ ap (λ z. fd (c.column - (left + n)) z) e') i.state;
      }

  whole : (c : ListedCell) → InFour c → IsNonzeroCell (n + n) g left top c
  whole c is = elim is [
    | inr d ↦ from_se c d
    | inl three ↦ elim three [
      | inr d ↦ from_sw c d
      | inl north ↦ elim north [ inl d ↦ from_nw c d | inr d ↦ from_ne c d ]
    ]
  ]

  parted : (c : ListedCell) → IsNonzeroCell (n + n) g left top c → InFour c
  parted c i =
      let h = i.from_left in let h' = i.from_top in let w = i.column in let w' = i.row in
      let hu : c.column - left < n + n = omega (arith, h, w) in let hv : c.row - top < n + n = omega (arith, h', w') in
      let u = c.column - left in let v = c.row - top in
      let e : u - n ≡ c.column - (left + n) = omega arith in
      let e' : v - n ≡ c.row - (top + n) = omega arith in
      elim (cases_lt v n) [
        | inl north ↦ elim (cases_lt u n) [
          | inl west ↦ inl (inl (inl (record {
            from_left = h;
            from_top = h';
            column = omega (arith, west, h);
            row = omega (arith, north, h');
            nonzero = i.nonzero;
            state = state_of u v c.state (fa u v) hu hv (quarter_nw n fa fb fc fd u v west north) i.state;
          })))
          | inr east ↦ inl (inl (inr (record {
            from_left = omega (arith, east, h);
            from_top = h';
            column = omega (arith, w);
            row = omega (arith, north, h');
            nonzero = i.nonzero;
            state = state_of u v c.state (fb (c.column - (left + n)) v) hu hv (quarter_right u v east north ∙ ap (λ z. fb z v) e) i.state;
          })))
        ]
        | inr south ↦ elim (cases_lt u n) [
          | inl west ↦ inl (inr (record {
            from_left = h;
            from_top = omega (arith, south, h');
            column = omega (arith, west, h);
            row = omega (arith, w');
            nonzero = i.nonzero;
            state = state_of u v c.state (fc u (c.row - (top + n))) hu hv (quarter_below u v west south ∙ ap (λ z. fc u z) e') i.state;
          }))
          | inr east ↦ inr (record {
            from_left = omega (arith, east, h);
            from_top = omega (arith, south, h');
            column = omega (arith, w);
            row = omega (arith, w');
            nonzero = i.nonzero;
            state = state_of u v c.state (fd (c.column - (left + n)) (c.row - (top + n))) hu hv (quarter_last u v east south ∙ ap (λ z. fd z (v - n)) e ∙ ap (λ z. fd (c.column - (left + n)) z) e') i.state;
          })
        ]
      ]

  west_east : (f f' : Grid) (y : ℕ) (c d : ListedCell) → IsNonzeroCell n f left y c → IsNonzeroCell n f' (left + n) y d → is_one_spot c d ≡ false
  west_east f f' y c d i j = let w = i.column in let h = j.from_left in not_one_spot c d (λ e e'. omega (arith, w, h, e))

  north_south : (f f' : Grid) (x x' : ℕ) (c d : ListedCell) → IsNonzeroCell n f x top c → IsNonzeroCell n f' x' (top + n) d → is_one_spot c d ≡ false
  north_south f f' x x' c d i j = let w = i.row in let h = j.from_top in not_one_spot c d (λ e e'. omega (arith, w, h, e'))

  pub gathers_four : (l0 l1 l2 l3 l4 : List ListedCell) → Gathers (IsNonzeroCell n fa left top) l0 l1 → Gathers (IsNonzeroCell n fb (left + n) top) l1 l2 → Gathers (IsNonzeroCell n fc left (top + n)) l2 l3 → Gathers (IsNonzeroCell n fd (left + n) (top + n)) l3 l4
      → Gathers (IsNonzeroCell (n + n) g left top) l0 l4
  gathers_four l0 l1 l2 l3 l4 ga gb gc gd = gathers_as InFour (IsNonzeroCell (n + n) g left top) l0 l4 whole parted
      (gathers_more InThree (IsNonzeroCell n fd (left + n) (top + n)) l0 l3 l4
      (λ c d three j. elim three [
        | inr i ↦ west_east fc fd (top + n) c d i j
        | inl north ↦ elim north [ inl i ↦ north_south fa fd left (left + n) c d i j | inr i ↦ north_south fb fd (left + n) (left + n) c d i j ]
      ])
      (gathers_more InNorth (IsNonzeroCell n fc left (top + n)) l0 l2 l3
      (λ c d north j. elim north [ inl i ↦ north_south fa fc left left c d i j | inr i ↦ north_south fb fc (left + n) left c d i j ])
      (gathers_more (IsNonzeroCell n fa left top) (IsNonzeroCell n fb (left + n) top) l0 l1 l2 (λ c d i j. west_east fa fb top c d i j) ga gb) gc) gd)

module _ {L : Type 0} (writes : L → Grid) where
  -- a square of four parts
  pub gathers_parts : (s : Held L) (k j p left top n : ℕ) (parts : List ℕ) (ra rb rc rd : ℕ) (l0 l1 l2 l3 l4 : List ListedCell) → IsFourAt writes 8 s j parts p → IsAt s k p → n ≡ side_at 8 (k - 1)
      → Gathers (IsNonzeroCell (side_at 8 (k - 1)) (grid_at writes 8 s (k - 1) (slice_index_or parts 0 ra)) left top) l0 l1 → Gathers (IsNonzeroCell (side_at 8 (k - 1)) (grid_at writes 8 s (k - 1) (slice_index_or parts 1 rb)) (left + n) top) l1 l2
      → Gathers (IsNonzeroCell (side_at 8 (k - 1)) (grid_at writes 8 s (k - 1) (slice_index_or parts 2 rc)) left (top + n)) l2 l3 → Gathers (IsNonzeroCell (side_at 8 (k - 1)) (grid_at writes 8 s (k - 1) (slice_index_or parts 3 rd)) (left + n) (top + n)) l3 l4
      → Gathers (IsNonzeroCell (side_at 8 k) (grid_at writes 8 s k p) left top) l0 l4
  gathers_parts s k j p left top n parts ra rb rc rd l0 l1 l2 l3 l4 four stands is ga gb gc gd =
      let level : k ≡ j = four.level k stands in
      let at_part = λ (i r : ℕ) (l : i < 4). get_or_default parts i r 0 (omega (arith, l, four.four)) in
      let a = slice_index_or parts 0 ra in let b = slice_index_or parts 1 rb in let c = slice_index_or parts 2 rc in let d = slice_index_or parts 3 rd in
      let up : suc (k - 1) ≡ k = (let h = four.positive in omega (arith, h, level)) in
      let m = side_at 8 (k - 1) in
      let wide : side_at 8 k ≡ m + m = ap (side_at 8) (sym up) ∙ twice 8 (k - 1) in
      let at = λ (q : ℕ). grid_at writes 8 s (k - 1) q in
      let drawn : AreSameWithin (side_at 8 k) (grid_at writes 8 s k p) (four_grid writes 8 s (k - 1) parts) = subst (λ i. AreSameWithin (side_at 8 i) (grid_at writes 8 s i p) (four_grid writes 8 s (i - 1) parts)) (sym level) four.draws.same in
      let same : AreSameWithin (m + m) (grid_at writes 8 s k p) (quartered m (at a) (at b) (at c) (at d)) = λ u v hu hv. rw (at_part 0 ra (omega arith), at_part 1 rb (omega arith), at_part 2 rc (omega arith), at_part 3 rd (omega arith)) (drawn u v (omega (arith, hu, wide)) (omega (arith, hv, wide))) in
      subst (λ z. Gathers (IsNonzeroCell z (grid_at writes 8 s k p) left top) l0 l4) (sym wide)
      (gathers_four m (at a) (at b) (at c) (at d) (grid_at writes 8 s k p) left top same l0 l1 l2 l3 l4 ga
      (subst (λ z. Gathers (IsNonzeroCell m (at b) (left + z) top) l1 l2) is gb) (subst (λ z. Gathers (IsNonzeroCell m (at c) left (top + z)) l2 l3) is gc) (subst (λ z. Gathers (IsNonzeroCell m (at d) (left + z) (top + z)) l3 l4) is gd))
