-- What cells tell from one place of a window on, they tell from the next on.
use Rattle.std.proofs.Common.{◌≡◌, ℕ, ◌+◌, ◌<◌, false, List, sym, ◌∙◌, arith}
use Rattle.std.specs.Prelude.{Result, Ok, Err, OnOk}
use Rattle.std.proofs.lemmas.Int.{ints}
use Rattle.generations_rule.specs.Place.{Place, is_before}
use Rattle.pattern_cells.specs.declared.cell.Cell.{Cell}
use Rattle.edit_stamps.proofs.PlaceOrder.{not_before_itself}
use Rattle.cell_pictures.specs.Shown.{TellsFrom, state_at}
use Rattle.cell_pictures.specs.Window.{WindowValue, place_in}

next_column : (w : WindowValue) (column row : ℕ) (c : Place) → is_before c (place_in w (column + 1) row) ≡ false → is_before c (place_in w column row) ≡ false
next_column w column row c behind = grind (arith, ints)

next_row : (w : WindowValue) (column row below : ℕ) (c : Place) → row < below → is_before c (place_in w 0 below) ≡ false → is_before c (place_in w column row) ≡ false
next_row w column row below c less behind = grind (arith, ints)

-- one column on
pub tells_column : (w : WindowValue) (column row : ℕ) (a b c : List Cell) → TellsFrom (place_in w column row) a b → TellsFrom (place_in w column row) b c → TellsFrom (place_in w (column + 1) row) a c
tells_column w column row a b c p q place behind =
    let here = next_column w column row place behind in
    q place here ∙ p place here

-- from a lower row on
pub tells_row : (w : WindowValue) (column row below : ℕ) (a b : List Cell) → row < below → TellsFrom (place_in w column row) a b → TellsFrom (place_in w 0 below) a b
tells_row w column row below a b less p place behind = p place (next_row w column row below place less behind)

pub tells_on : (p : Place) (a b c : List Cell) → TellsFrom p a b → TellsFrom p b c → TellsFrom p a c
tells_on p a b c first second place behind = second place behind ∙ first place behind

-- at the place itself
pub told_here : (p : Place) (a b : List Cell) → TellsFrom p a b → state_at b p ≡ state_at a p
told_here p a b tells = tells p (not_before_itself p)

-- and at each place of a row, where they tell the same from the row on
in_row : (w : WindowValue) (column row : ℕ) → is_before (place_in w column row) (place_in w 0 row) ≡ false
in_row w column row = grind (arith, ints)

pub told_in_row : (w : WindowValue) (column row : ℕ) (a b : List Cell) → TellsFrom (place_in w 0 row) a b → state_at b (place_in w column row) ≡ state_at a (place_in w column row)
told_in_row w column row a b tells = tells (place_in w column row) (in_row w column row)

-- what a function gives, where it answered
pub where_ok : {A E : Type 0} (r : Result A E) (P : Type 0) → P → OnOk r P
where_ok (Ok x) P p = p
where_ok (Err e) P p = tt

pub tells_back : (p : Place) (a b : List Cell) → TellsFrom p a b → TellsFrom p b a
tells_back p a b tells place behind = sym (tells place behind)
