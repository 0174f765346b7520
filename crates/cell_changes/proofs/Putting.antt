-- Cells that are put behind others, one after another.
use Rattle.std.proofs.Common.{◌≡◌, ◌⊎◌, ℕ, ◌+◌, ◌<◌, ◌≤◌, List, [], ◌∷◌, ◌++◌, length, take, get_or, inl, inr, refl, sym, ap, subst, ◌∙◌}
use Rattle.std.specs.Prelude.{Contains, filter_map}
use Rattle.std.proofs.lemmas.List.{take_all, take_more}
use Rattle.std.proofs.lemmas.List.Elements.{Contains-append_left, Contains-push, Contains-push_cases}
use Rattle.generations_rule.specs.Place.{Place}
use Rattle.pattern_cells.specs.declared.cell.Cell.{Cell}
use Rattle.pattern_cells.specs.Cells.{place_of}
use Rattle.stamped_writes.specs.Write.{Writes}
use Rattle.edit_stamps.specs.Edit.{PlaneEdit}
use Rattle.cell_changes.specs.Changes.{cell_in}
use Rattle.cell_changes.specs.Put.{IsNonzeroIn, IsPlaceOf, Puts, SomeLists, SomeMayChange}
use Rattle.cell_changes.proofs.AreaLaws.{some_area}
use Rattle.cell_changes.proofs.Lists.{contains_none}

-- ---- places, from a list on

module _ (map : Writes) where
  pub nothing_put : (IsSought : Place → Type 0) (old : List Cell) → ((c : Place) → IsSought c → ⊥) → Puts map IsSought old old
  nothing_put IsSought old none = record { kept = λ d h. h; put = λ c is. absurd (none c is); states = λ all. all }

  pub put_then : (P Q R : Place → Type 0) (old mid new : List Cell) → ((c : Place) → R c → P c ⊎ Q c) → Puts map P old mid → Puts map Q mid new → Puts map R old new
  put_then P Q R old mid new either p q = record {
    kept = λ d h. q.kept d (p.kept d h);
    put = λ c is. elim (either c is) [ inl first ↦ q.kept (cell_in map c) (p.put c first) | inr second ↦ q.put c second ];
    states = λ all. q.states (p.states all);
  }

  -- a place, with its state
  place_put : (c : Place) (old : List Cell) → Puts map (λ d. d ≡ c) old (old ++ cell_in map c ∷ [])
  place_put c old = record {
    kept = λ d h. Contains-append_left old (cell_in map c ∷ []) d h;
    put = λ d is. subst (λ e. Contains (old ++ cell_in map c ∷ []) (cell_in map e)) (sym is) (Contains-push old (cell_in map c));
    states = λ all d h. elim (Contains-push_cases old (cell_in map c) d h) [ inl there ↦ all d there | inr is ↦ told d is ];
  }
    where
      told : (d : Cell) → cell_in map c ≡ d → (map (place_of d)).state ≡ d.state
      told d is = subst (λ (e : Cell). (map (place_of e)).state ≡ e.state) is refl

  -- ---- the places of a list

  pub no_place : (places old : List Cell) → Puts map (IsPlaceOf (take 0 places)) old old
  no_place places old = nothing_put (IsPlaceOf (take 0 places)) old (λ c is. contains_none is.0 is.1.0)

  pub next_place : (places : List Cell) (i : ℕ) (d place : Cell) (old mid new : List Cell) → i < length places → place ≡ get_or places i d → new ≡ mid ++ cell_in map (place_of place) ∷ []
      → Puts map (IsPlaceOf (take i places)) old mid → Puts map (IsPlaceOf (take (i + 1) places)) old new
  next_place places i d place old mid new l at made put =
      put_then (IsPlaceOf (take i places)) (λ c. c ≡ place_of place) (IsPlaceOf (take (i + 1) places)) old mid new either put
      (subst (λ cells. Puts map (λ c. c ≡ place_of place) mid cells) (sym made) (place_put (place_of place) mid))
    where
      either : (c : Place) → IsPlaceOf (take (i + 1) places) c → IsPlaceOf (take i places) c ⊎ (c ≡ place_of place)
      either c is = elim (Contains-push_cases (take i places) (get_or places i d) is.0 (subst (λ cells. Contains cells is.0) (take_more places i d l) is.1.0)) [
        | inl before ↦ inl (is.0, (before, is.1.1))
        | inr last ↦ inr (sym is.1.1 ∙ ap place_of (sym last) ∙ ap place_of (sym at))
      ]

  -- ---- edits

  pub no_edit : (edits : List PlaneEdit) (old : List Cell) → Puts map (SomeLists (take 0 edits)) old old
  no_edit edits old = nothing_put (SomeLists (take 0 edits)) old (λ c is. contains_none is.0 is.1.0)

  pub next_edit : (edits : List PlaneEdit) (i : ℕ) (e : PlaneEdit) (old mid new : List Cell) → i < length edits → e ≡ get_or edits i e
      → Puts map (SomeLists (take i edits)) old mid → Puts map (IsPlaceOf e.cells) mid new → Puts map (SomeLists (take (i + 1) edits)) old new
  next_edit edits i e old mid new l at put more = put_then (SomeLists (take i edits)) (IsPlaceOf e.cells) (SomeLists (take (i + 1) edits)) old mid new either put more
    where
      either : (c : Place) → SomeLists (take (i + 1) edits) c → SomeLists (take i edits) c ⊎ IsPlaceOf e.cells c
      either c is = elim (Contains-push_cases (take i edits) (get_or edits i e) is.0 (subst (λ cells. Contains cells is.0) (take_more edits i e l) is.1.0)) [
        | inl before ↦ inl (is.0, (before, is.1.1))
        | inr last ↦ inr (subst (λ (d : PlaneEdit). IsPlaceOf d.cells c) (sym last ∙ sym at) is.1.1)
      ]

  pub all_edits : (edits : List PlaneEdit) (i : ℕ) (old new : List Cell) → length edits ≤ i → Puts map (SomeLists (take i edits)) old new → Puts map (SomeLists edits) old new
  all_edits edits i old new all put = subst (λ es. Puts map (SomeLists es) old new) (take_all i edits all) put

  -- what areas cover, and what is listed
  pub edits_put : (edits : List PlaneEdit) (old mid new : List Cell) → Puts map (IsNonzeroIn map (filter_map (λ e. e.area) edits)) old mid → Puts map (SomeLists edits) mid new → Puts map (SomeMayChange map edits) old new
  edits_put edits old mid new p q = put_then (IsNonzeroIn map (filter_map (λ e. e.area) edits)) (SomeLists edits) (SomeMayChange map edits) old mid new (λ c may. elim may.1.1 [
    | inl lists ↦ inr (may.0, (may.1.0, lists))
    | inr covers ↦ inl (record { covered = some_area edits may.0 c may.1.0 covers.0; nonzero = covers.1 })
  ]) p q
