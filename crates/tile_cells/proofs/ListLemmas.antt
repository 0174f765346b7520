-- Lists that gain cells of a map.
use Rattle.std.proofs.Common.{◌≡◌, ◌⊎◌, ℕ, List, [], ◌∷◌, ◌++◌, refl, inl, inr, sym, ◌∙◌, ap, subst}
use Rattle.std.specs.Prelude.{Option, Some, None, unwrap_or}
use Rattle.std.specs.Option.{option_or}
use Rattle.std.proofs.lemmas.Bool.{cases_Bool}
use Rattle.std.proofs.lemmas.Option.{none-some, same_Some}
use Rattle.generations_rule.specs.Place.{Place, is_place}
use Rattle.pattern_cells.specs.declared.cell.Cell.{Cell}
use Rattle.pattern_cells.specs.Cells.{place_of}
use Rattle.edit_stamps.specs.Edit.{listed}
use Rattle.edit_stamps.proofs.PlaceOrder.{one_place, same_itself}
use Rattle.edit_stamps.proofs.SortedCells.{listed-append, listed_here, listed_there}
use Rattle.tile_cells.specs.Listing.{AreOf, Lists, states_in}

-- what is listed is the map's
listed_at : (f : Place → ℕ) (cells : List Cell) (c : Place) (s : ℕ) → AreOf f cells → listed cells c ≡ Some s → states_in cells c ≡ f c
listed_at f cells c s are is = ap (λ o. unwrap_or o 0) is ∙ are.right c s is

-- a dead cell need not be listed
pub dead_at : (f : Place → ℕ) (cells : List Cell) (c : Place) → AreOf f cells → f c ≡ 0 → states_in cells c ≡ f c
dead_at f cells c are dead = go (listed cells c) refl
  where
    go : (o : Option ℕ) → listed cells c ≡ o → states_in cells c ≡ f c
    go (Some s) e = listed_at f cells c s are e
    go None e = ap (λ o. unwrap_or o 0) e ∙ sym dead

pub none_listed : (f : Place → ℕ) (cells : List Cell) → cells ≡ [] → AreOf f cells
none_listed f cells none = subst (AreOf f) (sym none) (record { right = λ c s e. absurd (none-some s e) })

-- where all of them are dead nothing is to be listed
pub lists_dead : (f : Place → ℕ) (IsHere : Place → Type 0) (cells : List Cell) → AreOf f cells → ((c : Place) → IsHere c → f c ≡ 0) → Lists f IsHere cells cells
lists_dead f IsHere cells are dead = record {
  are_of = are;
  kept = λ c h. h;
  here = λ c is. dead_at f cells c are (dead c is);
}

-- what is listed in two steps
pub lists_both : (f : Place → ℕ) (A B C : Place → Type 0) (old mid new : List Cell) → Lists f A old mid → Lists f B mid new → ((c : Place) → C c → A c ⊎ B c) → Lists f C old new
lists_both f A B C old mid new first second either = record {
  are_of = second.are_of;
  kept = λ c h. second.kept c (first.kept c h);
  here = λ c is. elim (either c is) [
    | inl a ↦ second.kept c (first.here c a)
    | inr b ↦ second.here c b
  ];
}

-- ---- one more cell

module _ (f : Place → ℕ) (cells : List Cell) (cell : Cell) (is : f (place_of cell) ≡ cell.state) (are : AreOf f cells) where
  more : List Cell
  more = cells ++ cell ∷ []

  last : (c : Place) (s : ℕ) → listed (cell ∷ []) c ≡ Some s → s ≡ f c
  last c s e = elim (cases_Bool (is_place (place_of cell) c)) [
    | inl here ↦
        let own : cell.state ≡ s = same_Some cell.state s (sym (listed_here cell [] c here) ∙ e) in
        sym own ∙ sym is ∙ ap f (one_place (place_of cell) c here)
    | inr there ↦ absurd (none-some s (sym (listed_there cell [] c there) ∙ e))
  ]

  by_parts : (c : Place) (s : ℕ) (o : Option ℕ) → listed cells c ≡ o → option_or o (listed (cell ∷ []) c) ≡ Some s → s ≡ f c
  by_parts c s (Some t) e h = sym (same_Some t s h) ∙ are.right c t e
  by_parts c s None e h = last c s h

  more_are : AreOf f (cells ++ cell ∷ [])
  more_are = record { right = λ c s e. by_parts c s (listed cells c) refl (sym (listed-append cells (cell ∷ []) c) ∙ e) }

  kept_at : (c : Place) (o : Option ℕ) → listed cells c ≡ o → states_in cells c ≡ f c → states_in (cells ++ cell ∷ []) c ≡ f c
  kept_at c (Some t) e h = listed_at f (cells ++ cell ∷ []) c t more_are (listed-append cells (cell ∷ []) c ∙ ap (λ o. option_or o (listed (cell ∷ []) c)) e)
  kept_at c None e h = dead_at f (cells ++ cell ∷ []) c more_are (sym h ∙ ap (λ o. unwrap_or o 0) e)

  own_at : (o : Option ℕ) → listed cells (place_of cell) ≡ o → states_in (cells ++ cell ∷ []) (place_of cell) ≡ f (place_of cell)
  own_at (Some t) e = listed_at f (cells ++ cell ∷ []) (place_of cell) t more_are (listed-append cells (cell ∷ []) (place_of cell) ∙ ap (λ o. option_or o (listed (cell ∷ []) (place_of cell))) e)
  own_at None e = listed_at f (cells ++ cell ∷ []) (place_of cell) cell.state more_are
      (listed-append cells (cell ∷ []) (place_of cell) ∙ ap (λ o. option_or o (listed (cell ∷ []) (place_of cell))) e ∙ listed_here cell [] (place_of cell) (same_itself (place_of cell)))

  pub lists_pushed : Lists f (λ c. c ≡ place_of cell) cells (cells ++ cell ∷ [])
  lists_pushed = record {
    are_of = more_are;
    kept = λ c h. kept_at c (listed cells c) refl h;
    here = λ c e. subst (λ p. states_in (cells ++ cell ∷ []) p ≡ f p) (sym e) (own_at (listed cells (place_of cell)) refl);
  }

  pub lists_unpushed : cell.state ≡ 0 → Lists f (λ c. c ≡ place_of cell) cells cells
  lists_unpushed dead = lists_dead f (λ c. c ≡ place_of cell) cells are (λ c e. ap f e ∙ is ∙ dead)
