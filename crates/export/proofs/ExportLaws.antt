-- A map has one export, and what is listed of it may be written.
use Rattle.std.proofs.Common.{◌≡◌, ◌≢◌, ℕ, zero, suc, ◌<◌, Bool, List, [], ◌∷◌, refl, sym, ◌∙◌, ap, subst, arith, inl, inr}
use Rattle.std.proofs.lemmas.Bool.{and_parts, cases_Bool, lt-ltb}
use Rattle.std.proofs.lemmas.Bool.Decides.{nat_tests}
use Rattle.edit_stamps.proofs.PlaceOrder.{same_itself}
use Rattle.std.specs.Prelude.{Some, None, Option, Ok, Err, IfErr, IfOk, Result, not, ◌==◌, unwrap_or, true, false}
use Rattle.generations_rule.specs.Place.{Place, is_place}
use Rattle.generations_rule.specs.Rule.{GenerationsRule, IsRule}
use Rattle.generations_rule.specs.Evolution.{at}
use Rattle.generations_rule.proofs.EvolutionLaws.{stays_in_range}
use Rattle.pattern_cells.specs.declared.cell.Cell.{Cell}
use Rattle.pattern_cells.specs.Cells.{place_of, are_nonzero, are_states_below, is_sorted}
use Rattle.multistate_rle.specs.Writing.{text_of_cells}
use Rattle.edit_stamps.specs.Edit.{listed}
use Rattle.edit_stamps.proofs.SortedCells.{listed_behind, listed_here, listed_there, sorted_tail, told_by_reads}
use Rattle.generation_engine.specs.Universe.{AreSameStates}
use Rattle.generation_engine.specs.Walk.{AreCellsOf}
use Rattle.export.specs.declared.fault.ExportFault.{ExportFault}
use Rattle.export.specs.declared.fault.ExportFault.TheVariants.{GenRange, TooManyCells, StoreFull, Memory}
use Rattle.pattern_cells.specs.Window.{is_in_window, seen_where}
use Rattle.export.specs.Asking.{IsCut, seen_at}
use Rattle.export.specs.Export.{IsExport, IsTold}
use Rattle.export.specs.Laws.{CutsEverything, HasOneCut, HasOneExport}

-- ---- answers

-- what holds of what was found, and where it was
pub when_ok : {A F : Type 0} (P Q : A → Type 0) (r : Result A F) → ((x : A) → r ≡ Ok x → P x → Q x) → IfOk r P → IfOk r Q
when_ok P Q (Ok x) f h = f x refl h
when_ok P Q (Err e) f h = tt

-- what holds of a refusal, and which it was
pub when_err : {A F : Type 0} (P Q : F → Type 0) (r : Result A F) → ((e : F) → r ≡ Err e → P e → Q e) → IfErr r P → IfErr r Q
when_err P Q (Ok x) f h = tt
when_err P Q (Err e) f h = f e refl h

-- ---- maps of states

-- maps that read the same are one
pub one_map : (f h : Place → ℕ) → AreSameStates f h → f ≡ h
one_map f h same = λ i c. same c i

-- what an engine shows that was loaded with a map and run
pub shown : (r s : GenerationsRule) (f loaded run : Place → ℕ) (g : ℕ) → s ≡ r → AreSameStates loaded f → AreSameStates run (at s loaded g) → run ≡ at r f g
shown r s f loaded run g rule load later = one_map run (at s loaded g) later ∙ ap (λ h. at s h g) (one_map loaded f load) ∙ ap (λ t. at t f g) rule

-- ---- lists of cells

-- no cell of a list without dead cells is listed as dead
listed_alive : (cells : List Cell) (c : Place) (s : ℕ) → are_nonzero cells ≡ true → listed cells c ≡ Some s → s ≢ 0
listed_alive [] c s alive h = absurd (cc)
listed_alive (a ∷ cells) c s alive h =
    let parts = and_parts (not (a.state == 0)) (are_nonzero cells) alive in
    elim (cases_Bool (is_place (place_of a) c)) [
      | inl here ↦ (let e : Some a.state ≡ Some s = sym (listed_here a cells c here) ∙ h in grind (arith, nat_tests, parts.0, e))
      | inr there ↦ listed_alive cells c s parts.1 (sym (listed_there a cells c there) ∙ h)
    ]

-- what is listed is told by its state, 0 for none
same_option : (a b : Option ℕ) → ((s : ℕ) → a ≡ Some s → s ≢ 0) → ((s : ℕ) → b ≡ Some s → s ≢ 0) → unwrap_or a 0 ≡ unwrap_or b 0 → a ≡ b
same_option None None alive_a alive_b same = refl
same_option (Some s) None alive_a alive_b same = absurd (alive_a s refl same)
same_option None (Some t) alive_a alive_b same = absurd (alive_b t refl (sym same))
same_option (Some s) (Some t) alive_a alive_b same = ap Some same

-- the sorted list of the cells that are not dead is one
pub one_list : (f : Place → ℕ) (xs ys : List Cell) → AreCellsOf f xs → AreCellsOf f ys → xs ≡ ys
one_list f xs ys is other = told_by_reads xs ys is.sorted other.sorted (λ c. same_option (listed xs c) (listed ys c)
    (λ s. listed_alive xs c s is.nonzero) (λ s. listed_alive ys c s other.nonzero) (is.states c ∙ sym (other.states c)))

-- where all that is listed of a sorted list is below a number, its states are
below_all : (n : ℕ) (cells : List Cell) → is_sorted cells ≡ true → ((c : Place) → unwrap_or (listed cells c) 0 < n) → are_states_below n cells ≡ true
below_all n [] sorted below = refl
below_all n (a ∷ cells) sorted below =
    let first : a.state < n = subst (λ s. unwrap_or s 0 < n) (listed_here a cells (place_of a) (same_itself (place_of a))) (below (place_of a)) in
    let some : 0 < n = omega (arith, first) in
    let rest : (c : Place) → unwrap_or (listed cells c) 0 < n = λ c. elim (cases_Bool (is_place (place_of a) c)) [
      | inl here ↦ subst (λ s. unwrap_or s 0 < n) (sym (listed_behind a cells c sorted here)) some
      | inr there ↦ subst (λ s. unwrap_or s 0 < n) (listed_there a cells c there) (below c)
    ] in
    rw (lt-ltb a.state n first) (below_all n cells (sorted_tail a cells sorted) rest)

-- of the cells of a map of states below a number all states are
pub listed_below : (n : ℕ) (h : Place → ℕ) (cells : List Cell) → ((c : Place) → h c < n) → AreCellsOf h cells → are_states_below n cells ≡ true
listed_below n h cells below are = below_all n cells are.sorted (λ c. subst (λ s. s < n) (sym (are.states c)) (below c))

-- of the cells that an engine shows all states are below the rule's number of states
pub cells_below : (r : GenerationsRule) (f : Place → ℕ) (g : ℕ) (cells : List Cell) → IsRule r → ((c : Place) → f c < r.states) → AreCellsOf (at r f g) cells → are_states_below r.states cells ≡ true
cells_below r f g cells rule below are = listed_below r.states (at r f g) cells (λ c. stays_in_range r f g c rule below) are

-- ---- windows

-- what is seen of states below a number is below it
pub seen_below : (n : ℕ) (is_seen : Place → Bool) (h : Place → ℕ) → ((c : Place) → h c < n) → (c : Place) → seen_where is_seen h c < n
seen_below n is_seen h below c = elim (cases_Bool (is_seen c)) [
  | inl seen ↦ rw seen (below c)
  | inr hidden ↦ rw hidden (let some = below c in omega (arith, some))
]

-- where all that is not dead is seen, the map itself is
seen_all : (is_seen : Place → Bool) (h : Place → ℕ) → ((c : Place) → h c ≢ 0 → is_seen c ≡ true) → AreSameStates (seen_where is_seen h) h
seen_all is_seen h all c = elim (cases_Bool (is_seen c)) [
  | inl seen ↦ rw seen refl
  | inr hidden ↦ rw hidden (dead hidden (h c) refl)
]
  where
    dead : is_seen c ≡ false → (s : ℕ) → h c ≡ s → 0 ≡ h c
    dead hidden zero is = sym is
    dead hidden (suc s) is = absurd (let alive : h c ≢ 0 = λ e. omega (arith, is, e) in let seen = all c alive in cc)

-- ---- the law

one_text : (r : GenerationsRule) (g : ℕ) (xs ys : List Cell) (a b : List ℕ) → xs ≡ ys → a ≡ text_of_cells r g xs → b ≡ text_of_cells r g ys → a ≡ b
one_text r g xs ys a b same is other = is ∙ ap (λ cells. text_of_cells r g cells) same ∙ sym other

-- what is told of one map is one
one_told : (r : GenerationsRule) (g limit : ℕ) (h : Place → ℕ) (a b : Result (List ℕ) ExportFault) → IsTold r g limit h a → IsTold r g limit h b → a ≡ b
one_told r g limit h (Ok a) (Ok b) is other =
    ap Ok (one_text r g is.2.cells other.2.cells a b (one_list h is.2.cells other.2.cells is.2.are_cells other.2.are_cells) is.2.is_text other.2.is_text)
one_told r g limit h (Ok a) (Err GenRange) is other = absurd (omega (arith, is.0, other))
one_told r g limit h (Ok a) (Err TooManyCells) is other = absurd (omega (arith, is.1, other.1))
one_told r g limit h (Err GenRange) (Ok b) is other = absurd (omega (arith, is, other.0))
one_told r g limit h (Err GenRange) (Err GenRange) is other = refl
one_told r g limit h (Err GenRange) (Err TooManyCells) is other = absurd (omega (arith, is, other.0))
one_told r g limit h (Err TooManyCells) (Ok b) is other = absurd (omega (arith, is.1, other.1))
one_told r g limit h (Err TooManyCells) (Err GenRange) is other = absurd (omega (arith, is.0, other))
one_told r g limit h (Err TooManyCells) (Err TooManyCells) is other = refl
one_told r g limit h (Err StoreFull) b is other = absurd is
one_told r g limit h (Err Memory) b is other = absurd is
one_told r g limit h a (Err StoreFull) is other = absurd other
one_told r g limit h a (Err Memory) is other = absurd other

pub has_one_export : HasOneExport
has_one_export r f h g limit a b same is other = one_told r g limit (at r f g) a b is (subst (λ k. IsExport r k g limit b) (sym (one_map f h same)) other)

pub has_one_cut : HasOneCut
has_one_cut r f h w g limit a b same is other = one_told r g limit (seen_at r f w g) a b is (subst (λ k. IsCut r k w g limit b) (sym (one_map f h same)) other)

pub cuts_everything : CutsEverything
cuts_everything r f w g limit a b all is other =
    one_told r g limit (at r f g) a b (subst (λ k. IsTold r g limit k a) (one_map (seen_at r f w g) (at r f g) (seen_all (is_in_window w) (at r f g) all)) is) other
