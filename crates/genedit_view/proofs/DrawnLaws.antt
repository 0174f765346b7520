-- What edits of sorted cells draw, one over another.
use Rattle.std.proofs.Common.{◌≡◌, ℕ, Bool, true, false, List, [], ◌∷◌, ◌++◌, refl, sym, ap, ◌∙◌, arith, ◌<◌, subst, inl, inr}
use Rattle.std.specs.Prelude.{Option, Some, None, Ok, find, option_map, unwrap_or, nat_lt, take, drop}
use Rattle.std.specs.List.{list_all}
use Rattle.std.specs.Option.{option_or}
use Rattle.std.proofs.lemmas.Bool.{and_parts, cases_Bool}
use Rattle.std.proofs.lemmas.Bool.Decides.{nat_tests}
use Rattle.std.proofs.lemmas.List.{take-append-drop}
use Rattle.std.proofs.lemmas.List.Folds.{find-append, list_all-append}
use Rattle.generations_rule.specs.Place.{Place, is_before, is_place}
use Rattle.generations_rule.specs.Refusal.{unless}
use Rattle.generations_rule.specs.Rule.{GenerationsRule}
use Rattle.pattern_cells.specs.declared.cell.Cell.{Cell}
use Rattle.pattern_cells.specs.Cells.{are_states_below, is_sorted, place_of}
use Rattle.stamped_writes.specs.declared.write.Write.{Write}
use Rattle.stamped_writes.specs.Write.{AreSame, Writes}
use Rattle.edit_stamps.specs.Edit.{PlaneEdit, is_covered, listed, write_by, writes_of}
use Rattle.edit_stamps.specs.Making.{add, cells_fault, edit_of_cells, settled}
use Rattle.edit_stamps.proofs.SortedCells.{sorted_tail}
use Rattle.stamped_tree.specs.Overwriting.{overwrite, overwritten}
use Rattle.genedit_view.specs.Cells.{ArePatternCells}

-- ---- one edit

add_first : (a : Cell) (cells : List Cell) → is_sorted (a ∷ cells) ≡ true → add a cells ≡ a ∷ cells
add_first a [] sorted = refl
add_first a (b ∷ cells) sorted = rw (and_parts (is_before (place_of a) (place_of b)) (is_sorted (b ∷ cells)) sorted).0 refl

-- sorted cells are settled
settled_is : (cells : List Cell) → is_sorted cells ≡ true → settled cells ≡ cells
settled_is [] sorted = refl
settled_is (a ∷ cells) sorted = ap (add a) (settled_is cells (sorted_tail a cells sorted)) ∙ add_first a cells sorted

unless_ok : {A F : Type 0} (fault : Option F) (x y : A) → unless fault x ≡ Ok y → x ≡ y
unless_ok (Some e) x y h = absurd (cc)
unless_ok None x y h = cc

edit_made : (r : GenerationsRule) (stamp : ℕ) (cells : List Cell) (e : PlaneEdit) → edit_of_cells r stamp cells ≡ Ok e → record { stamp = stamp; area = None; cells = settled cells } ≡ e
edit_made r stamp cells e is = unless_ok (cells_fault r.states cells) (record { stamp = stamp; area = None; cells = settled cells }) e is

pub edit_lists : (r : GenerationsRule) (stamp : ℕ) (cells : List Cell) (e : PlaneEdit) → is_sorted cells ≡ true → edit_of_cells r stamp cells ≡ Ok e → e.cells ≡ cells
edit_lists r stamp cells e sorted is = ap (λ (x : PlaneEdit). x.cells) (sym (edit_made r stamp cells e is)) ∙ settled_is cells sorted

pub edit_stamped : (r : GenerationsRule) (stamp : ℕ) (cells : List Cell) (e : PlaneEdit) → edit_of_cells r stamp cells ≡ Ok e → e.stamp ≡ stamp
edit_stamped r stamp cells e is = ap (λ (x : PlaneEdit). x.stamp) (sym (edit_made r stamp cells e is))

state_over : (old : Write) (stamp : ℕ) (state : Option ℕ) → 0 < stamp → (overwrite old (write_by stamp state false)).state ≡ unwrap_or state old.state
state_over old stamp None some = refl
state_over old stamp (Some s) some = (let later : nat_lt 0 stamp ≡ true = grind (arith, nat_tests, some) in rw later refl)

-- what is read where an edit without an area is written over a map
pub edit_over : (e : PlaneEdit) (cells : List Cell) (old new : Writes) → e.cells ≡ cells → e.area ≡ None → 0 < e.stamp → AreSame new (overwritten old (writes_of e)) →
    (c : Place) → (new c).state ≡ unwrap_or (listed cells c) (old c).state
edit_over e cells old new lists whole some same c =
    ap (λ (w : Write). w.state) (same c ∙ (λ i. overwrite (old c) (write_by e.stamp (listed (lists i) c) (is_covered (whole i) c)))) ∙ state_over (old c) e.stamp (listed cells c) some

-- ---- some edits, one behind another

listed_both : (front behind : List Cell) (c : Place) (d : ℕ) → unwrap_or (listed (front ++ behind) c) d ≡ unwrap_or (listed front c) (unwrap_or (listed behind c) d)
listed_both front behind c d =
    ap (λ o. unwrap_or (option_map (λ (cell : Cell). cell.state) o) d) (find-append (λ cell. is_place (place_of cell) c) front behind)
    ∙ by (find (λ cell. is_place (place_of cell) c) front) (find (λ cell. is_place (place_of cell) c) behind)
  where
    by : (a b : Option Cell) → unwrap_or (option_map (λ (cell : Cell). cell.state) (option_or a b)) d ≡ unwrap_or (option_map (λ (cell : Cell). cell.state) a) (unwrap_or (option_map (λ (cell : Cell). cell.state) b) d)
    by None b = refl
    by (Some cell) b = refl

pub drawn_both : (front behind cells : List Cell) (old mid new : Writes) → cells ≡ front ++ behind → ((c : Place) → (mid c).state ≡ unwrap_or (listed behind c) (old c).state)
    → ((c : Place) → (new c).state ≡ unwrap_or (listed front c) (mid c).state) → (c : Place) → (new c).state ≡ unwrap_or (listed cells c) (old c).state
drawn_both front behind cells old mid new whole first second c =
    second c ∙ ap (unwrap_or (listed front c)) (first c) ∙ sym (listed_both front behind c (old c).state) ∙ ap (λ (cs : List Cell). unwrap_or (listed cs c) (old c).state) (sym whole)

-- ---- parts of sorted cells

sorted_front : (front behind : List Cell) → is_sorted (front ++ behind) ≡ true → is_sorted front ≡ true
sorted_front [] behind h = refl
sorted_front (a ∷ []) behind h = refl
sorted_front (a ∷ b ∷ front) behind h =
    let parts = and_parts (is_before (place_of a) (place_of b)) (is_sorted (b ∷ (front ++ behind))) h in
    rw parts.0 (sorted_front (b ∷ front) behind parts.1)

sorted_behind : (front behind : List Cell) → is_sorted (front ++ behind) ≡ true → is_sorted behind ≡ true
sorted_behind [] behind h = h
sorted_behind (a ∷ front) behind h = sorted_behind front behind (sorted_tail a (front ++ behind) h)

-- a test that all cells pass all of a part pass
front_passes : (p : Cell → Bool) (front behind : List Cell) → list_all p (front ++ behind) ≡ true → list_all p front ≡ true
front_passes p front behind h = (and_parts (list_all p front) (list_all p behind) (sym (list_all-append p front behind) ∙ h)).0

behind_passes : (p : Cell → Bool) (front behind : List Cell) → list_all p (front ++ behind) ≡ true → list_all p behind ≡ true
behind_passes p front behind h = (and_parts (list_all p front) (list_all p behind) (sym (list_all-append p front behind) ∙ h)).1

-- ---- cells that can be drawn, in two parts

pub whole_of : (mid : ℕ) (cells front behind : List Cell) → front ≡ take mid cells → behind ≡ drop mid cells → cells ≡ front ++ behind
whole_of mid cells front behind first last = sym (take-append-drop mid cells) ∙ (λ i. sym first i ++ sym last i)

pub front_cells : (r : GenerationsRule) (cells front behind : List Cell) → cells ≡ front ++ behind → ArePatternCells true r cells → ArePatternCells true r front
front_cells r cells front behind whole are =
    let both = subst (λ (cs : List Cell). ArePatternCells true r cs) whole are in
    record {
      rule = both.rule;
      sorted = sorted_front front behind both.sorted;
      nonzero = front_passes _ front behind both.nonzero;
      below = front_passes _ front behind both.below;
      inside = front_passes _ front behind both.inside;
    }

pub behind_cells : (r : GenerationsRule) (cells front behind : List Cell) → cells ≡ front ++ behind → ArePatternCells true r cells → ArePatternCells true r behind
behind_cells r cells front behind whole are =
    let both = subst (λ (cs : List Cell). ArePatternCells true r cs) whole are in
    record {
      rule = both.rule;
      sorted = sorted_behind front behind both.sorted;
      nonzero = behind_passes _ front behind both.nonzero;
      below = behind_passes _ front behind both.below;
      inside = behind_passes _ front behind both.inside;
    }

-- ---- states

pub state_below : (states : ℕ) (cells : List Cell) (c : Place) → 0 < states → are_states_below states cells ≡ true → unwrap_or (listed cells c) 0 < states
state_below states [] c some below = some
state_below states (d ∷ cells) c some below =
    let parts = and_parts (nat_lt d.state states) (are_states_below states cells) below in
    elim (cases_Bool (is_place (place_of d) c)) [
      | inl t ↦ rw t (let h = parts.0 in grind (arith, nat_tests, h))
      | inr f ↦ rw f (state_below states cells c some parts.1)
    ]
