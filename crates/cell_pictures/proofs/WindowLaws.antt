-- Where the places of a window stand.
use Rattle.std.proofs.Common.{◌≡◌, ℕ, ◌<◌, ◌^◌, true, arith, ℤ, pos, ◌+ℤ◌, ◌<ℤ◌}
use Rattle.std.specs.Prelude.{IsTrue, int_le}
use Rattle.std.proofs.lemmas.Int.{ints}
use Rattle.std.proofs.lemmas.Bool.{and_parts}
use Rattle.cell_pictures.specs.Window.{WindowValue, is_window}

ends : (start : ℤ) (side n : ℕ) → int_le (start +ℤ pos side) (pos (2 ^ 31)) ≡ true → n < side → (start +ℤ pos n) <ℤ pos (2 ^ 31)
ends start side n fits below = grind (arith, ints)

pub column_fits : (w : WindowValue) (n : ℕ) → IsTrue (is_window w) → n < w.width → (w.x +ℤ pos n) <ℤ pos (2 ^ 31)
column_fits w n is below = ends w.x w.width n (and_parts (int_le (w.x +ℤ pos w.width) (pos (2 ^ 31))) (int_le (w.y +ℤ pos w.height) (pos (2 ^ 31))) is).0 below

pub row_fits : (w : WindowValue) (n : ℕ) → IsTrue (is_window w) → n < w.height → (w.y +ℤ pos n) <ℤ pos (2 ^ 31)
row_fits w n is below = ends w.y w.height n (and_parts (int_le (w.x +ℤ pos w.width) (pos (2 ^ 31))) (int_le (w.y +ℤ pos w.height) (pos (2 ^ 31))) is).1 below
