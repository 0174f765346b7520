-- Which cells lists have.
use Rattle.std.proofs.Common.{◌≡◌, ℕ, true, false, List, [], ◌∷◌, sym, ap, subst, ◌∙◌, inl, inr}
use Rattle.std.specs.Prelude.{Contains, Some}
use Rattle.std.specs.List.{flat_map}
use Rattle.std.proofs.lemmas.Bool.{cases_Bool, eq-eqb, eqb-true}
use Rattle.std.proofs.lemmas.List.Elements.{Contains-append_cases, Contains-append_left, Contains-append_right}
use Rattle.generations_rule.specs.Place.{Place, is_place}
use Rattle.pattern_cells.specs.declared.cell.Cell.{Cell}
use Rattle.pattern_cells.specs.Cells.{place_of}
use Rattle.stamped_writes.specs.Write.{Writes}
use Rattle.edit_stamps.specs.Edit.{listed}
use Rattle.edit_stamps.proofs.PlaceOrder.{same_itself}
use Rattle.edit_stamps.proofs.SortedCells.{listed_here, listed_there}
use Rattle.stamped_tree.proofs.Gathering.{contains_head, contains_tail}
use Rattle.cell_changes.proofs.Lists.{contains_cases, contains_none, filtered_has, filtered_only}
use Rattle.drawing_history.specs.declared.stroke.Stroke.{Stroke}
use Rattle.drawing_history.specs.Strokes.{cells_back, is_still, stroke_back}

flat_only : {X Y : Type 0} (f : X → List Y) (xs : List X) (y : Y) → Contains (flat_map f xs) y → (x : X) × (Contains xs x × Contains (f x) y)
flat_only f [] y h = absurd (contains_none y h)
flat_only f (x ∷ xs) y h = elim (Contains-append_cases (f x) (flat_map f xs) y h) [
  | inl here ↦ (x, (contains_head x xs, here))
  | inr there ↦ (let r = flat_only f xs y there in (r.0, (contains_tail x r.0 xs r.1.0, r.1.1)))
]

flat_has : {X Y : Type 0} (f : X → List Y) (xs : List X) (x : X) (y : Y) → Contains xs x → Contains (f x) y → Contains (flat_map f xs) y
flat_has f [] x y h within = absurd (contains_none x h)
flat_has f (z ∷ xs) x y h within = elim (contains_cases z x xs h) [
  | inl is ↦ Contains-append_left (f z) (flat_map f xs) y (subst (λ w. Contains (f w) y) is within)
  | inr there ↦ Contains-append_right (f z) (flat_map f xs) y (flat_has f xs x y there within)
]

-- a cell of the strokes, at whose place the write is still its stroke's
pub record IsBack (map : Writes) (strokes : List Stroke) (cell : Cell) : Type 0 where
  pub stroke : Stroke
  pub among : Contains strokes stroke
  pub earlier : Contains stroke.earlier.items cell
  pub still : (map (place_of cell)).stamp ≡ stroke.stamp

pub back_only : (map : Writes) (strokes : List Stroke) (cell : Cell) → Contains (cells_back map strokes) cell → IsBack map strokes cell
back_only map strokes cell h =
    let r = flat_only (stroke_back map) strokes cell h in
    let s = r.0 in
    let passes = filtered_only (is_still map s.stamp) s.earlier.items cell r.1.1 in
    record { stroke = s; among = r.1.0; earlier = passes.0; still = eqb-true (map (place_of cell)).stamp s.stamp passes.1 }

pub back_has : (map : Writes) (strokes : List Stroke) (cell : Cell) → IsBack map strokes cell → Contains (cells_back map strokes) cell
back_has map strokes cell is =
    flat_has (stroke_back map) strokes is.stroke cell is.among
    (filtered_has (is_still map is.stroke.stamp) is.stroke.earlier.items cell is.earlier (eq-eqb (map (place_of cell)).stamp is.stroke.stamp is.still))

-- where a list has a cell at a place, it lists a state there
pub listed_some : (cells : List Cell) (c : Place) (cell : Cell) → Contains cells cell → place_of cell ≡ c → (s : ℕ) × (listed cells c ≡ Some s)
listed_some [] c cell h at = absurd (contains_none cell h)
listed_some (d ∷ cells) c cell h at = elim (cases_Bool (is_place (place_of d) c)) [
  | inl here ↦ (d.state, listed_here d cells c here)
  | inr there ↦ elim (contains_cases d cell cells h) [
    | inl is ↦ absurd (apart (ap (λ p. is_place p c) (ap place_of (sym is) ∙ at) ∙ same_itself c) there)
    | inr below ↦ (let r = listed_some cells c cell below at in (r.0, listed_there d cells c there ∙ r.1))
  ]
]
  where
    apart : is_place (place_of d) c ≡ true → is_place (place_of d) c ≡ false → ⊥
    apart t f = cc
