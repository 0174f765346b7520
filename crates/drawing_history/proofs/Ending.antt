-- How a drawing ends.
use Rattle.std.proofs.Common.{◌≡◌, ◌≢◌, ◌⊎◌, ◌==◌, true, false, List, [], ◌∷◌, length, ap, subst, ◌∙◌, inl, inr, refl}
use Rattle.std.specs.Prelude.{Err, IfErr, IfOk, Ok, Result, Some}
use Rattle.std.specs.Global.{Vec}
use Rattle.std.specs.Result.{result_ok}
use Rattle.std.specs.Vec.{vec_len}
use Rattle.std.proofs.lemmas.Bool.{false≢true}
use Rattle.cell_changes.proofs.Lists.{no_items}
use Rattle.drawing_history.specs.declared.stroke.Stroke.{Stroke}
use Rattle.drawing_history.specs.Drawings.{HistoryState, forgotten}
use Rattle.drawing_history.specs.Makings.{EndsBy, MakingState}

-- what holds anyway holds where there is an error
pub err_holds : {A F X : Type 0} (r : Result A F) → X → IfErr r (λ e. X)
err_holds (Ok done) x = tt
err_holds (Err e) x = x

-- what a call is told to give holds of what it gave
pub at_ok : {A F : Type 0} (r : Result A F) (P : A → Type 0) (x : A) → result_ok r ≡ Some x → IfOk r P → P x
at_ok (Ok y) P x is h = (let same : y ≡ x = cc in subst P same h)
at_ok (Err e) P x is h = cc

-- a vector holds nothing, or something, as its length says
pub none_held : {X : Type 0} (v : Vec X) → true ≡ (vec_len v == 0) → v.items ≡ []
none_held v none = no_items v.items (subst (λ n. true ≡ (n == 0)) v.ok.0 none)

pub some_held : {X : Type 0} (v : Vec X) → false ≡ (vec_len v == 0) → v.items ≢ []
some_held v some none = false≢true (some ∙ ap (λ n. n == 0) (v.ok.0 ∙ ap length none))

module _ (Keeps : Vec Stroke → HistoryState → HistoryState → Type 0) (strokes : Vec Stroke) where
  -- strokes, of which there are some, are kept, or all is forgotten
  ends : (old new : HistoryState) → strokes.items ≢ [] → Keeps strokes old new ⊎ (new ≡ forgotten) → EndsBy Keeps (Some strokes.items) old new
  ends old new some kept = go strokes.items refl some
    where
      go : (items : List Stroke) → strokes.items ≡ items → items ≢ [] → EndsBy Keeps (Some items) old new
      go [] is some = absurd (some refl)
      go (stroke ∷ rest) is some = elim kept [ inl keeps ↦ inl (strokes, (is, keeps)) | inr none ↦ inr none ]

  -- so it is where they were taken out before
  pub ends_taken : (old between : MakingState) (new : HistoryState)
      → Some strokes.items ≡ old.strokes → false ≡ (vec_len strokes == 0) → between ≡ record old { strokes = Some [] }
      → Keeps strokes between.history new ⊎ (new ≡ forgotten) → EndsBy Keeps old.strokes old.history new
  ends_taken old between new are some same kept =
      subst (λ s. EndsBy Keeps s old.history new) are
      (subst (λ h. EndsBy Keeps (Some strokes.items) h new) (ap (λ (m : MakingState). m.history) same) (ends between.history new (some_held strokes some) kept))
