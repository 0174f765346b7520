-- Where states can change as writes are joined in.
use Rattle.std.proofs.Common.{◌≡◌, ◌≢◌, ℕ, zero, suc, Bool, true, false, List, [], ◌∷◌, inl, inr, refl, sym, ap, subst, ◌∙◌, arith}
use Rattle.std.specs.Prelude.{Contains, Option, None, Some, unwrap_or}
use Rattle.std.proofs.lemmas.Bool.{and_parts, cases_Bool}
use Rattle.std.proofs.lemmas.Bool.Decides.{nat_tests}
use Rattle.generations_rule.specs.Place.{Place, is_before, is_place}
use Rattle.pattern_cells.specs.declared.cell.Cell.{Cell}
use Rattle.pattern_cells.specs.Cells.{place_of, is_sorted}
use Rattle.stamped_writes.specs.declared.write.Write.{Write}
use Rattle.stamped_writes.specs.Write.{Writes, at_most, greater, unwritten}
use Rattle.edit_stamps.specs.Edit.{PlaneEdit, greatest, is_covered, listed, writes_of}
use Rattle.edit_stamps.proofs.GreatestWrites.{made_by_one}
use Rattle.edit_stamps.proofs.PlaceOrder.{before_is_other, before_trans, one_place, same_itself, same_sym}
use Rattle.edit_stamps.proofs.SortedCells.{listed_here, listed_there, sorted_tail}
use Rattle.stamped_tree.specs.Walk.{AreNonzeroCells}
use Rattle.stamped_tree.proofs.Gathering.{contains_head, contains_tail}
use Rattle.cell_changes.specs.Changes.{HaveStatesOf, Watches, WatchesJoin, cell_in}
use Rattle.cell_changes.specs.Put.{IsPlaceOf, MayChange, Puts, SomeMayChange}
use Rattle.cell_changes.proofs.Lists.{contains_none, contains_cases}
use Rattle.cell_changes.proofs.SettledCells.{one_cell}

-- ---- writes

-- a write of the same state changes no state
state_stays : (v w : Write) → w.state ≡ v.state → (greater v w).state ≡ v.state
state_stays v w same = elim (cases_Bool (at_most v w)) [ inl above ↦ rw above same | inr below ↦ rw below refl ]

unwritten_state : (v : Write) → at_most v unwritten ≡ true → 0 ≡ v.state
unwritten_state v h = grind (arith, nat_tests, h)

unwritten_stays : (v : Write) → (greater v unwritten).state ≡ v.state
unwritten_stays v = elim (cases_Bool (at_most v unwritten)) [ inl above ↦ rw above (unwritten_state v above) | inr below ↦ rw below refl ]

-- ---- lists

pub listed_place : (cells : List Cell) (c : Place) (s : ℕ) → listed cells c ≡ Some s → (d : Cell) × (Contains cells d × (place_of d ≡ c) × (d.state ≡ s))
listed_place [] c s e = absurd (cc)
listed_place (d ∷ cells) c s e = elim (cases_Bool (is_place (place_of d) c)) [
  | inl here ↦ (d, (contains_head d cells, one_place (place_of d) c here, the_state (sym (listed_here d cells c here) ∙ e)))
  | inr there ↦ (let r = listed_place cells c s (sym (listed_there d cells c there) ∙ e) in (r.0, (contains_tail d r.0 cells r.1.0, r.1.1, r.1.2)))
]
  where
    the_state : Some d.state ≡ Some s → d.state ≡ s
    the_state z = cc

-- in a sorted list the others stand behind the first
sorted_after : (e : Cell) (cells : List Cell) (d : Cell) → is_sorted (e ∷ cells) ≡ true → Contains cells d → is_before (place_of e) (place_of d) ≡ true
sorted_after e [] d sorted h = absurd (contains_none d h)
sorted_after e (b ∷ cells) d sorted h =
    let parts = and_parts (is_before (place_of e) (place_of b)) (is_sorted (b ∷ cells)) sorted in
    elim (contains_cases b d cells h) [
      | inl is ↦ ap (λ (z : Cell). is_before (place_of e) (place_of z)) is ∙ parts.0
      | inr below ↦ before_trans (place_of e) (place_of b) (place_of d) parts.0 (sorted_after b cells d parts.1 below)
    ]

-- in a sorted list each cell is listed at its place
sorted_listed : (cells : List Cell) (d : Cell) → is_sorted cells ≡ true → Contains cells d → listed cells (place_of d) ≡ Some d.state
sorted_listed [] d sorted h = absurd (contains_none d h)
sorted_listed (e ∷ cells) d sorted h = elim (contains_cases e d cells h) [
  | inl is ↦ listed_here e cells (place_of d) (ap (λ (z : Cell). is_place (place_of e) (place_of z)) is ∙ same_itself (place_of e)) ∙ ap (λ (z : Cell). Some z.state) (sym is)
  | inr below ↦ (let first = sorted_after e cells d sorted below in
      listed_there e cells (place_of d) (same_sym (place_of e) (place_of d) ∙ before_is_other (place_of e) (place_of d) first) ∙ sorted_listed cells d (sorted_tail e cells sorted) below)
]

pub nonzero_states : (p : Writes) (cells : List Cell) → AreNonzeroCells p cells → HaveStatesOf p cells
nonzero_states p cells are d h = sym (are.states (place_of d)) ∙ ap (λ o. unwrap_or o 0) (sorted_listed cells d are.sorted h)

-- a state that is not 0 is listed
pub nonzero_listed : (p : Writes) (cells : List Cell) (c : Place) → AreNonzeroCells p cells → (p c).state ≢ 0 → (d : Cell) × (Contains cells d × (place_of d ≡ c) × (d.state ≡ (p c).state))
nonzero_listed p cells c are nonzero = go (listed cells c) refl
  where
    go : (o : Option ℕ) → listed cells c ≡ o → (d : Cell) × (Contains cells d × (place_of d ≡ c) × (d.state ≡ (p c).state))
    go None e = absurd (nonzero (sym (are.states c) ∙ ap (λ o. unwrap_or o 0) e))
    go (Some s) e = (let r = listed_place cells c s e in (r.0, (r.1.0, r.1.1, r.1.2 ∙ sym (ap (λ o. unwrap_or o 0) e) ∙ are.states c)))

-- ---- edits

may_change : (map : Writes) (e : PlaneEdit) (c : Place) → (greater (map c) (writes_of e c)).state ≢ (map c).state → MayChange map e c
may_change map e c differ = go (listed e.cells c) refl (is_covered e.area c) refl
  where
    go : (o : Option ℕ) → listed e.cells c ≡ o → (b : Bool) → is_covered e.area c ≡ b → MayChange map e c
    go (Some s) l b k = (let r = listed_place e.cells c s l in inl (r.0, (r.1.0, r.1.1)))
    go None l true k = inr (k, λ nothing. differ (rw (l, k) (state_stays (map c) (record { stamp = e.stamp; state = 0 }) (sym nothing))))
    go None l false k = absurd (differ (rw (l, k) (unwritten_stays (map c))))

module _ (map : Writes) (cells : List Cell) where
  have_states : (IsSought : Place → Type 0) → Puts map IsSought [] cells → HaveStatesOf map cells
  have_states IsSought put = put.states (λ d h. absurd (contains_none d h))

  -- where a state changes, one of the edits may change it
  pub watches_edits : (edits : List PlaneEdit) → Puts map (SomeMayChange map edits) [] cells → WatchesJoin cells map (greatest edits)
  watches_edits edits put after same = record {
    states = have_states (SomeMayChange map edits) put;
    changed = λ c differ. put.put c (go c differ);
  }
    where
      state_after : (c : Place) (w : Write) → greatest edits c ≡ w → (after c).state ≡ (greater (map c) w).state
      state_after c w e = ap (λ (w : Write). w.state) (same c) ∙ ap (λ w. (greater (map c) w).state) e

      go : (c : Place) → (after c).state ≢ (map c).state → SomeMayChange map edits c
      go c differ = elim (made_by_one edits c) [
        | inl nothing ↦ absurd (differ (state_after c unwritten nothing ∙ unwritten_stays (map c)))
        | inr by ↦ (by.0, (by.1, may_change map by.0 c (λ e. differ (state_after c (writes_of by.0 c) (sym by.2) ∙ e))))
      ]

-- where a state changes as a map is joined in, it is not 0 in both
pub watches_planes : (p q : Writes) (own others cells : List Cell) → AreNonzeroCells p own → AreNonzeroCells q others → Puts p (IsPlaceOf others) own cells → WatchesJoin cells p q
watches_planes p q own others cells are others_are put after same = record {
  states = put.states (nonzero_states p own are);
  changed = λ c differ. go c differ (p c).state refl;
}
  where
    state_after : (c : Place) → (after c).state ≡ (greater (p c) (q c)).state
    state_after c = ap (λ (w : Write). w.state) (same c)

    go : (c : Place) → (after c).state ≢ (p c).state → (n : ℕ) → (p c).state ≡ n → Contains cells (cell_in p c)
    go c differ zero e =
        let r = nonzero_listed q others c others_are (λ nothing. differ (state_after c ∙ state_stays (p c) (q c) (nothing ∙ sym e))) in
        put.put c (r.0, (r.1.0, r.1.1))
    go c differ (suc n) e =
        let r = nonzero_listed p own c are (λ nothing. absurd (omega (arith, nothing, e))) in
        subst (λ d. Contains cells d) (one_cell r.0 (cell_in p c) r.1.1 r.1.2) (put.kept r.0 r.1.0)

-- where a map has another state than another one, it is not 0 in both
pub watches_both : (p q : Writes) (own others cells : List Cell) → AreNonzeroCells p own → AreNonzeroCells q others → Puts p (IsPlaceOf others) own cells → Watches cells p q
watches_both p q own others cells are others_are put = record {
  states = put.states (nonzero_states p own are);
  changed = λ c differ. go c differ (p c).state refl;
}
  where
    go : (c : Place) → (q c).state ≢ (p c).state → (n : ℕ) → (p c).state ≡ n → Contains cells (cell_in p c)
    go c differ zero e =
        let r = nonzero_listed q others c others_are (λ nothing. differ (nothing ∙ sym e)) in
        put.put c (r.0, (r.1.0, r.1.1))
    go c differ (suc n) e =
        let r = nonzero_listed p own c are (λ nothing. absurd (omega (arith, nothing, e))) in
        subst (λ d. Contains cells d) (one_cell r.0 (cell_in p c) r.1.1 r.1.2) (put.kept r.0 r.1.0)
