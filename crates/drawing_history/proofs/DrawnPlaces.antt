-- What drawn edits make of one place.
use Rattle.std.proofs.Common.{◌≡◌, ◌≢◌, ◌⊎◌, ℕ, ◌<◌, ◌≤◌, Bool, true, false, List, [], ◌∷◌, sym, ap, subst, ◌∙◌, inl, inr, refl, arith}
use Rattle.std.specs.Prelude.{Contains, None, Option, Some}
use Rattle.std.proofs.lemmas.Bool.{cases_Bool, lt-ltb}
use Rattle.generations_rule.specs.Place.{Place}
use Rattle.pattern_cells.specs.declared.cell.Cell.{Cell}
use Rattle.pattern_cells.specs.Cells.{place_of}
use Rattle.stamped_writes.specs.declared.write.Write.{Write}
use Rattle.stamped_writes.specs.Write.{AreSame, Writes, at_most, greater, joined, unwritten}
use Rattle.edit_stamps.specs.Edit.{PlaneEdit, is_covered, listed, write_by, writes_of}
use Rattle.edit_stamps.proofs.WriteLaws.{is_lattice, is_total}
use Rattle.stamped_tree.proofs.Gathering.{contains_head, contains_tail}
use Rattle.cell_changes.specs.Changes.{cell_in}
use Rattle.cell_changes.proofs.Joining.{listed_place}
use Rattle.cell_changes.proofs.Lists.{contains_cases, contains_none}
use Rattle.drawing_history.specs.declared.stroke.Stroke.{Stroke}
use Rattle.drawing_history.specs.Laws.{AreApart, AreDrawn, AreStrokesOf, IsDrawn, IsStrokeOf}
use Rattle.drawing_history.proofs.CellLists.{listed_some}

-- ---- writes

at_most_above : (v w : Write) → v.stamp < w.stamp → at_most v w ≡ true
at_most_above v w h = rw (lt-ltb v.stamp w.stamp h) refl

greater_above : (v w : Write) → v.stamp < w.stamp → greater v w ≡ w
greater_above v w h = rw (at_most_above v w h) refl

pub unwritten_stays : (v : Write) → greater v unwritten ≡ v
unwritten_stays v = is_lattice.commutative v unwritten ∙ rw (is_total.least v) refl

-- the greater write is one of the two
pub one_of_two : (v w : Write) → (greater v w ≡ v) ⊎ (greater v w ≡ w)
one_of_two v w = elim (cases_Bool (at_most v w)) [ inl above ↦ inr (rw above refl) | inr below ↦ inl (rw below refl) ]

-- an edit writes nothing at a place, or with its stamp
writes_or_not : (e : PlaneEdit) (c : Place) → (writes_of e c ≡ unwritten) ⊎ ((writes_of e c).stamp ≡ e.stamp)
writes_or_not e c = go (listed e.cells c) (is_covered e.area c)
  where
    go : (o : Option ℕ) (b : Bool) → (write_by e.stamp o b ≡ unwritten) ⊎ ((write_by e.stamp o b).stamp ≡ e.stamp)
    go (Some s) b = inr refl
    go None true = inr refl
    go None false = inl refl

-- ---- one edit

module _ (before after : Writes) (edit : PlaneEdit) (drawn : IsDrawn before edit after) (c : Place) where
  pub kept_there : writes_of edit c ≡ unwritten → after c ≡ before c
  kept_there none = drawn.drawn c ∙ ap (greater (before c)) none ∙ unwritten_stays (before c)

  pub written_there : (writes_of edit c).stamp ≡ edit.stamp → after c ≡ writes_of edit c
  written_there is = drawn.drawn c ∙ greater_above (before c) (writes_of edit c) (subst (λ n. (before c).stamp < n) (sym is) (drawn.above c))

  grows : (before c).stamp ≤ (after c).stamp
  grows = elim (writes_or_not edit c) [
    | inl none ↦ (let same = ap (λ (w : Write). w.stamp) (kept_there none) in omega (arith, same))
    | inr is ↦ (let new = ap (λ (w : Write). w.stamp) (written_there is) ∙ is in omega (arith, new, drawn.above c))
  ]

module _ (before after : Writes) (edit : PlaneEdit) (stroke : Stroke) (is_of : IsStrokeOf before edit after stroke) (c : Place) where
  -- a cell of the stroke has the state before
  earlier_state : (cell : Cell) → Contains stroke.earlier.items cell → place_of cell ≡ c → cell.state ≡ (before c).state
  earlier_state cell h at = sym ((is_of.earlier.changed cell).0 h).0 ∙ ap (λ d. (before d).state) at

  -- where nothing changed there is none
  none_same : (cell : Cell) → Contains stroke.earlier.items cell → place_of cell ≡ c → after c ≡ before c → ⊥
  none_same cell h at same =
      ((is_of.earlier.changed cell).0 h).1
      (ap (λ d. (after d).state) at ∙ ap (λ (w : Write). w.state) same ∙ sym (earlier_state cell h at))

  earlier_there : (after c).state ≢ (before c).state → Contains stroke.earlier.items (cell_in before c)
  earlier_there differs = (is_of.earlier.changed (cell_in before c)).1 (refl, differs)

-- ---- edits one after another

-- edits are drawn one after another, and these are their strokes
abbrev pub AreDrawnAs : Writes → List PlaneEdit → List Stroke → Writes → Type 0
AreDrawnAs before [] [] after = AreSame after before
AreDrawnAs before (e ∷ edits) (s ∷ strokes) after = (between : Writes) × (IsDrawn before e between × (IsStrokeOf before e between s × AreDrawnAs between edits strokes after))
AreDrawnAs before (e ∷ edits) [] after = ⊥
AreDrawnAs before [] (s ∷ strokes) after = ⊥

pub drawn_as : (before : Writes) (edits : List PlaneEdit) (strokes : List Stroke) (after : Writes) → AreDrawn before edits after → AreStrokesOf before edits strokes → AreDrawnAs before edits strokes after
drawn_as before [] [] after drawn are = drawn
drawn_as before [] (s ∷ strokes) after drawn are = absurd are
drawn_as before (e ∷ edits) [] after drawn are = absurd are
drawn_as before (e ∷ edits) (s ∷ strokes) after drawn are =
    (drawn.0, (drawn.1.0, (subst (λ map. IsStrokeOf before e map s) same are.0, drawn_as drawn.0 edits strokes after drawn.1.1 (subst (λ map. AreStrokesOf map edits strokes) same are.1))))
  where
    same : joined before (writes_of e) ≡ drawn.0
    same = λ i c. sym (drawn.1.0.drawn c) i

-- no stroke has a cell at a place
abbrev pub HaveNoneAt : List Stroke → Place → Type 0
HaveNoneAt strokes c = (s : Stroke) (cell : Cell) → Contains strokes s → Contains s.earlier.items cell → place_of cell ≡ c → ⊥

-- where none of the edits writes, nothing changes
pub quiet : (before : Writes) (edits : List PlaneEdit) (strokes : List Stroke) (after : Writes) → AreDrawnAs before edits strokes after → (c : Place)
    → ((e : PlaneEdit) → Contains edits e → writes_of e c ≡ unwritten) → (after c ≡ before c) × HaveNoneAt strokes c
quiet before [] [] after drawn c none = (drawn c, λ s cell h within at. contains_none s h)
quiet before [] (s ∷ strokes) after drawn c none = absurd drawn
quiet before (e ∷ edits) [] after drawn c none = absurd drawn
quiet before (e ∷ edits) (s ∷ strokes) after drawn c none =
    let between = drawn.0 in
    let one = drawn.1.0 in
    let stroke = drawn.1.1.0 in
    let here = kept_there before between e one c (none e (contains_head e edits)) in
    let below = quiet between edits strokes after drawn.1.1.1 c (λ d h. none d (contains_tail e d edits h)) in (
      below.0 ∙ here,
      λ t cell h within at. elim (contains_cases s t strokes h) [
        | inl is ↦ none_same before between e s stroke c cell (subst (λ (z : Stroke). Contains z.earlier.items cell) is within) at here
        | inr there ↦ below.1 t cell there within at
      ],
    )

-- each stroke's stamp is above all that stood before
pub above_all : (before : Writes) (edits : List PlaneEdit) (strokes : List Stroke) (after : Writes) → AreDrawnAs before edits strokes after → (s : Stroke) → Contains strokes s → (c : Place) → (before c).stamp < s.stamp
above_all before [] [] after drawn s h c = absurd (contains_none s h)
above_all before [] (t ∷ strokes) after drawn s h c = absurd drawn
above_all before (e ∷ edits) [] after drawn s h c = absurd drawn
above_all before (e ∷ edits) (t ∷ strokes) after drawn s h c =
    let between = drawn.0 in
    let one = drawn.1.0 in
    let stroke = drawn.1.1.0 in
    elim (contains_cases t s strokes h) [
      | inl is ↦ (let stamp = ap (λ (z : Stroke). z.stamp) is ∙ stroke.stamp in omega (arith, stamp, one.above c))
      | inr there ↦ omega (arith, grows before between e one c, above_all between edits strokes after drawn.1.1.1 s there c)
    ]

-- one of the edits wrote the place, and its stroke alone has it, where it looks different
pub record IsTouched (strokes : List Stroke) (c : Place) (was is : Write) : Type 0 where
  pub stroke : Stroke
  pub among : Contains strokes stroke
  pub stamp : is.stamp ≡ stroke.stamp
  pub states : (s : Stroke) (cell : Cell) → Contains strokes s → Contains s.earlier.items cell → place_of cell ≡ c → cell.state ≡ was.state
  pub there : is.state ≢ was.state → (cell : Cell) × (Contains stroke.earlier.items cell × (place_of cell ≡ c))

pub at_place : (before : Writes) (edits : List PlaneEdit) (strokes : List Stroke) (after : Writes) → AreDrawnAs before edits strokes after → AreApart edits → (c : Place)
    → (after c ≡ before c) ⊎ IsTouched strokes c (before c) (after c)
at_place before [] [] after drawn apart c = inl (drawn c)
at_place before [] (s ∷ strokes) after drawn apart c = absurd drawn
at_place before (e ∷ edits) [] after drawn apart c = absurd drawn
at_place before (e ∷ edits) (s ∷ strokes) after drawn apart c = elim (writes_or_not e c) [
  | inl none ↦
      let here = kept_there before between e one c none in
      elim (at_place between edits strokes after drawn.1.1.1 apart.1 c) [ inl same ↦ inl (same ∙ here) | inr touched ↦ inr (later here touched) ]
  | inr written ↦
      inr (first written (quiet between edits strokes after drawn.1.1.1 c (λ d h. elim (apart.0 d c h) [ inl none ↦ absurd (not_both none written) | inr d_none ↦ d_none ])))
]
  where
    between : Writes
    between = drawn.0

    one : IsDrawn before e between
    one = drawn.1.0

    stroke : IsStrokeOf before e between s
    stroke = drawn.1.1.0

    not_both : writes_of e c ≡ unwritten → (writes_of e c).stamp ≡ e.stamp → ⊥
    not_both none written = (let zero_stamp = ap (λ (w : Write). w.stamp) none in omega (arith, zero_stamp, written, one.above c))

    later : between c ≡ before c → IsTouched strokes c (between c) (after c) → IsTouched (s ∷ strokes) c (before c) (after c)
    later here touched = record {
      stroke = touched.stroke;
      among = contains_tail s touched.stroke strokes touched.among;
      stamp = touched.stamp;
      states = λ t cell h within at. elim (contains_cases s t strokes h) [
        | inl is ↦ absurd (none_same before between e s stroke c cell (subst (λ (z : Stroke). Contains z.earlier.items cell) is within) at here)
        | inr there ↦ touched.states t cell there within at ∙ ap (λ (w : Write). w.state) here
      ];
      there = λ differs. touched.there (λ e. differs (e ∙ ap (λ (w : Write). w.state) here));
    }

    first : (writes_of e c).stamp ≡ e.stamp → (after c ≡ between c) × HaveNoneAt strokes c → IsTouched (s ∷ strokes) c (before c) (after c)
    first written rest = record {
      stroke = s;
      among = contains_head s strokes;
      stamp = ap (λ (w : Write). w.stamp) (rest.0 ∙ written_there before between e one c written) ∙ written ∙ sym stroke.stamp;
      states = λ t cell h within at. elim (contains_cases s t strokes h) [
        | inl is ↦ earlier_state before between e s stroke c cell (subst (λ (z : Stroke). Contains z.earlier.items cell) is within) at
        | inr there ↦ absurd (rest.1 t cell there within at)
      ];
      there = λ differs. (cell_in before c, (earlier_there before between e s stroke c (λ same. differs (ap (λ (w : Write). w.state) rest.0 ∙ same)), refl));
    }

-- ---- edits without areas

-- no edit has a cell at a place
abbrev pub ListNoneAt : List PlaneEdit → Place → Type 0
ListNoneAt edits c = (e : PlaneEdit) (cell : Cell) → Contains edits e → Contains e.cells cell → place_of cell ≡ c → ⊥

-- an edit without an area writes a place where it lists a cell, and no other
pub record IsListedAt (e : PlaneEdit) (c : Place) : Type 0 where
  pub cell : Cell
  pub within : Contains e.cells cell
  pub at : place_of cell ≡ c
  pub writes : writes_of e c ≡ record { stamp = e.stamp; state = cell.state }

pub lists_or_not : (e : PlaneEdit) (c : Place) → e.area ≡ None → ((writes_of e c ≡ unwritten) × ((cell : Cell) → Contains e.cells cell → place_of cell ≡ c → ⊥)) ⊎ IsListedAt e c
lists_or_not e c none = go (listed e.cells c) refl
  where
    not_covered : is_covered e.area c ≡ false
    not_covered = ap (λ area. is_covered area c) none

    two : (s : ℕ) → listed e.cells c ≡ None → listed e.cells c ≡ Some s → ⊥
    two s a b = cc

    go : (o : Option ℕ) → listed e.cells c ≡ o → ((writes_of e c ≡ unwritten) × ((cell : Cell) → Contains e.cells cell → place_of cell ≡ c → ⊥)) ⊎ IsListedAt e c
    go None l =
        inl (ap (λ o. write_by e.stamp o (is_covered e.area c)) l ∙ ap (λ b. write_by e.stamp None b) not_covered, λ cell h at. (let r = listed_some e.cells c cell h at in two r.0 l r.1))
    go (Some s) l =
        let r = listed_place e.cells c s l in
        inr (record { cell = r.0; within = r.1.0; at = r.1.1; writes = ap (λ o. write_by e.stamp o (is_covered e.area c)) l ∙ ap (λ n. write_by e.stamp (Some n) (is_covered e.area c)) (sym r.1.2) })

-- where none of the edits writes, nothing changes
pub unchanged : (before : Writes) (edits : List PlaneEdit) (after : Writes) → AreDrawn before edits after → (c : Place) → ((e : PlaneEdit) → Contains edits e → writes_of e c ≡ unwritten) → after c ≡ before c
unchanged before [] after drawn c none = drawn c
unchanged before (e ∷ edits) after drawn c none =
    unchanged drawn.0 edits after drawn.1.1 c (λ d h. none d (contains_tail e d edits h)) ∙ kept_there before drawn.0 e drawn.1.0 c (none e (contains_head e edits))

-- edits without areas, all whose cells at a place have one state, leave it as it is or give it the state
pub settle : (now : Writes) (undos : List PlaneEdit) (undone : Writes) → AreDrawn now undos undone → ((e : PlaneEdit) → Contains undos e → e.area ≡ None) → (c : Place) (state : ℕ)
    → ((e : PlaneEdit) (cell : Cell) → Contains undos e → Contains e.cells cell → place_of cell ≡ c → cell.state ≡ state)
    → (ListNoneAt undos c × (undone c ≡ now c)) ⊎ ((undone c).state ≡ state)
settle now [] undone drawn areas c state states = inl (λ e cell h within at. contains_none e h, drawn c)
settle now (e ∷ undos) undone drawn areas c state states =
    elim (settle between undos undone drawn.1.1 (λ d h. areas d (contains_tail e d undos h)) c state (λ d cell h. states d cell (contains_tail e d undos h))) [
      | inl left ↦ elim (lists_or_not e c (areas e (contains_head e undos))) [ inl none ↦ inl (neither left.0 none.1, left.1 ∙ kept_there now between e one c none.0) | inr some ↦ inr (made left.1 some) ]
      | inr done ↦ inr done
    ]
  where
    between : Writes
    between = drawn.0

    one : IsDrawn now e between
    one = drawn.1.0

    neither : ListNoneAt undos c → ((cell : Cell) → Contains e.cells cell → place_of cell ≡ c → ⊥) → ListNoneAt (e ∷ undos) c
    neither left none d cell h within at = elim (contains_cases e d undos h) [
      | inl is ↦ none cell (subst (λ (z : PlaneEdit). Contains z.cells cell) is within) at
      | inr there ↦ left d cell there within at
    ]

    made : undone c ≡ between c → IsListedAt e c → (undone c).state ≡ state
    made same some =
        ap (λ (w : Write). w.state) (same ∙ written_there now between e one c (ap (λ (w : Write). w.stamp) some.writes) ∙ some.writes)
        ∙ states e some.cell (contains_head e undos) some.within some.at
