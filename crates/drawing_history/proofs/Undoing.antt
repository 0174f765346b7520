-- What taking back shows.
use Rattle.std.proofs.Common.{◌≡◌, ◌≢◌, ◌⊎◌, ℕ, List, [], ◌∷◌, sym, ap, subst, ◌∙◌, inl, inr, refl, arith}
use Rattle.std.specs.Prelude.{Contains}
use Rattle.std.proofs.lemmas.Bool.{cases_order}
use Rattle.std.proofs.lemmas.List.{append-nil}
use Rattle.generations_rule.specs.Place.{Place}
use Rattle.pattern_cells.specs.declared.cell.Cell.{Cell}
use Rattle.pattern_cells.specs.Cells.{place_of}
use Rattle.stamped_writes.specs.declared.write.Write.{Write}
use Rattle.stamped_writes.specs.Write.{AreSame, Writes, joined, unwritten}
use Rattle.edit_stamps.specs.Edit.{PlaneEdit}
use Rattle.stamped_tree.proofs.Gathering.{contains_head}
use Rattle.cell_changes.proofs.Lists.{contains_cases, contains_none}
use Rattle.drawing_history.specs.declared.stroke.Stroke.{Stroke}
use Rattle.drawing_history.specs.Laws.{AreApart, AreDrawn, AreStrokesOf, IsDrawn, IsStampOf, IsStrokeOf, ListJust, ListsJust, RedoesDrawing, RedoesStroke, ShowBefore, UndoesDrawing, UndoesStroke}
use Rattle.drawing_history.specs.Strokes.{cells_back, stroke_back}
use Rattle.drawing_history.proofs.CellLists.{IsBack, back_has, back_only}
use Rattle.drawing_history.proofs.DrawnPlaces.{AreDrawnAs, IsListedAt, IsTouched, ListNoneAt, above_all, at_place, drawn_as, lists_or_not, one_of_two, settle, unchanged, unwritten_stays}

same_or_not : (m n : ℕ) → (m ≡ n) ⊎ (m ≢ n)
same_or_not m n = elim (cases_order m n) [
  | inl e ↦ inl e
  | inr other ↦ inr (λ e. elim other [ inl below ↦ omega (arith, below, e) | inr above ↦ omega (arith, above, e) ])
]

-- ---- a drawing of many edits

module _ (before after others now undone : Writes) (edits undos : List PlaneEdit) (strokes : List Stroke)
    (drawn : AreDrawn before edits after) (are : AreStrokesOf before edits strokes) (apart : AreApart edits)
    (same : AreSame now (joined after others)) (foreign : (c : Place) → ¬ IsStampOf strokes (others c).stamp)
    (taken : AreDrawn now undos undone) (lists : ListJust undos (cells_back now strokes)) where
  whole : AreDrawnAs before edits strokes after
  whole = drawn_as before edits strokes after drawn are

  back_of : (e : PlaneEdit) (cell : Cell) → Contains undos e → Contains e.cells cell → IsBack now strokes cell
  back_of e cell h within = back_only now strokes cell ((lists.just cell).0 (e, (h, within)))

  -- where a write is still the drawing's, others wrote nothing greater
  drawn_still : (c : Place) → IsStampOf strokes (now c).stamp → now c ≡ after c
  drawn_still c is = elim (one_of_two (after c) (others c)) [
    | inl ours ↦ same c ∙ ours
    | inr theirs ↦ absurd (foreign c (subst (λ (w : Write). IsStampOf strokes w.stamp) (same c ∙ theirs) is))
  ]

  restored : (c : Place) → now c ≡ after c → IsTouched strokes c (before c) (after c) → (undone c).state ≡ (before c).state
  restored c is touched =
      elim (settle now undos undone taken lists.areas c (before c).state (λ e cell h within at. (let back = back_of e cell h within in touched.states back.stroke cell back.among back.earlier at))) [
        | inl left ↦ elim (same_or_not (after c).state (before c).state) [
          | inl as_before ↦ ap (λ (w : Write). w.state) (left.1 ∙ is) ∙ as_before
          | inr differs ↦ absurd (missing (touched.there differs) left.0)
        ]
        | inr done ↦ done
      ]
    where
      missing : (cell : Cell) × (Contains touched.stroke.earlier.items cell × (place_of cell ≡ c)) → ListNoneAt undos c → ⊥
      missing found none =
          let cell = found.0 in
          let at = found.1.1 in
          let still : (now (place_of cell)).stamp ≡ touched.stroke.stamp = ap (λ d. (now d).stamp) at ∙ ap (λ (w : Write). w.stamp) is ∙ touched.stamp in
          let edit = (lists.just cell).1 (back_has now strokes cell (record { stroke = touched.stroke; among = touched.among; earlier = found.1.0; still = still })) in
          none edit.0 cell edit.1.0 edit.1.1 at

  shown : (c : Place) → IsStampOf strokes (now c).stamp → (undone c).state ≡ (before c).state
  shown c is = elim (at_place before edits strokes after whole apart c) [
    | inl untouched ↦
        let stamp = ap (λ (w : Write). w.stamp) (drawn_still c is ∙ untouched) in
        absurd (omega (arith, stamp, is.1.1, above_all before edits strokes after whole is.0 is.1.0 c))
    | inr touched ↦ restored c (drawn_still c is) touched
  ]

  left : (c : Place) → ¬ IsStampOf strokes (now c).stamp → undone c ≡ now c
  left c not_ours = unchanged now undos undone taken c (λ e h. elim (lists_or_not e c (lists.areas e h)) [ inl none ↦ none.0 | inr some ↦ absurd (is_ours e h some) ])
    where
      is_ours : (e : PlaneEdit) → Contains undos e → IsListedAt e c → ⊥
      is_ours e h some =
          let back = back_of e some.cell h some.within in
          not_ours (back.stroke, (back.among, ap (λ d. (now d).stamp) (sym some.at) ∙ back.still))

  shows_before : ShowBefore strokes before now undone
  shows_before = record { still = shown; others = left }

pub undoes_drawing : UndoesDrawing
undoes_drawing = shows_before

-- nothing is joined in
nothing_joined : (map : Writes) → AreSame map (joined map (λ _. unwritten))
nothing_joined map c = sym (unwritten_stays (map c))

module _ (now undone redone : Writes) (undos redos : List PlaneEdit) (backs : List Stroke)
    (taken : AreDrawn now undos undone) (are : AreStrokesOf now undos backs) (apart : AreApart undos)
    (drawn : AreDrawn undone redos redone) (lists : ListJust redos (cells_back undone backs)) where
  all_taken : AreDrawnAs now undos backs undone
  all_taken = drawn_as now undos backs undone taken are

  no_stamp : (c : Place) (w : Write) → w.stamp ≡ (now c).stamp → ¬ IsStampOf backs w.stamp
  no_stamp c w e is = omega (arith, e, is.1.1, above_all now undos backs undone all_taken is.0 is.1.0 c)

  none_unwritten : (c : Place) → ¬ IsStampOf backs 0
  none_unwritten c is = omega (arith, is.1.1, above_all now undos backs undone all_taken is.0 is.1.0 c)

  shows : ShowBefore backs now undone redone
  shows = undoes_drawing now undone (λ _. unwritten) undone redone undos redos backs taken are apart (nothing_joined undone) none_unwritten drawn lists

  shows_again : (c : Place) → (redone c).state ≡ (now c).state
  shows_again c = elim (at_place now undos backs undone all_taken apart c) [
    | inl untouched ↦ ap (λ (w : Write). w.state) (shows.others c (no_stamp c (undone c) (ap (λ (w : Write). w.stamp) untouched)) ∙ untouched)
    | inr touched ↦ shows.still c (touched.stroke, (touched.among, touched.stamp))
  ]

pub redoes_drawing : RedoesDrawing
redoes_drawing = shows_again

-- ---- one edit

one_drawn : (before after : Writes) (edit : PlaneEdit) → IsDrawn before edit after → AreDrawn before (edit ∷ []) after
one_drawn before after edit drawn = (after, (drawn, λ c. refl))

one_stroke : (before after : Writes) (edit : PlaneEdit) (stroke : Stroke) → IsDrawn before edit after → IsStrokeOf before edit after stroke → AreStrokesOf before (edit ∷ []) (stroke ∷ [])
one_stroke before after edit stroke drawn is = (subst (λ map. IsStrokeOf before edit map stroke) (λ i c. drawn.drawn c i) is, tt)

one_apart : (edit : PlaneEdit) → AreApart (edit ∷ [])
one_apart edit = (λ other c h. absurd (contains_none other h), tt)

the_one : {X : Type 0} (x y : X) → Contains (x ∷ []) y → y ≡ x
the_one x y h = elim (contains_cases x y [] h) [ inl is ↦ is | inr none ↦ absurd (contains_none y none) ]

its_stamp : (stroke : Stroke) (n : ℕ) → IsStampOf (stroke ∷ []) n → n ≡ stroke.stamp
its_stamp stroke n is = is.1.1 ∙ ap (λ (s : Stroke). s.stamp) (the_one stroke is.0 is.1.0)

one_listed : (map : Writes) (edit : PlaneEdit) (stroke : Stroke) → ListsJust edit (stroke_back map stroke) → ListJust (edit ∷ []) (cells_back map (stroke ∷ []))
one_listed map edit stroke lists = record {
  areas = λ e h. ap (λ (z : PlaneEdit). z.area) (the_one edit e h) ∙ lists.area;
  just = λ cell. (
    λ some. subst (λ cells. Contains cells cell) (sym (append-nil (stroke_back map stroke)))
        ((lists.just cell).0 (subst (λ (z : PlaneEdit). Contains z.cells cell) (the_one edit some.0 some.1.0) some.1.1)),
    λ h. (edit, (contains_head edit [], (lists.just cell).1 (subst (λ cells. Contains cells cell) (append-nil (stroke_back map stroke)) h))),
  );
}

pub undoes_stroke : UndoesStroke
undoes_stroke before after others now undone edit undo stroke drawn is_of same foreign taken lists =
    let show = undoes_drawing before after others now undone (edit ∷ []) (undo ∷ []) (stroke ∷ [])
    (one_drawn before after edit drawn) (one_stroke before after edit stroke drawn is_of) (one_apart edit) same
    (λ c is. foreign c (its_stamp stroke (others c).stamp is ∙ is_of.stamp))
    (one_drawn now undone undo taken) (one_listed now undo stroke lists) in
    record {
      still = λ c is. show.still c (stroke, (contains_head stroke [], is ∙ sym is_of.stamp));
      others = λ c other. show.others c (λ is. other (its_stamp stroke (now c).stamp is ∙ is_of.stamp));
    }

pub redoes_stroke : RedoesStroke
redoes_stroke now undone redone undo redo stroke taken is_of drawn lists =
    redoes_drawing now undone redone (undo ∷ []) (redo ∷ []) (stroke ∷ [])
    (one_drawn now undone undo taken) (one_stroke now undone undo stroke taken is_of) (one_apart undo)
    (one_drawn undone redone redo drawn) (one_listed undone redo stroke lists)
