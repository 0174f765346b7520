-- That squares are squares of levels has one proof at most.
use Rattle.std.specs.Prelude.{◌≡◌, ℕ, zero, suc, ◌≤◌, List}
use Rattle.std.proofs.Props.{props}
use Rattle.macrocell_lines.specs.Squares.{StateSquare, Cell, Four, level_of}
use Rattle.macrocell_lines.specs.Listing.{IsSquare}
use Rattle.macrocell_text.specs.Macrocells.{AreSquares}

above_prop : (n : ℕ) → IsProp (1 ≤ n)
above_prop n = Prim.hlevel props

square_prop : (k : ℕ) (q : StateSquare) → IsProp (IsSquare k q)
square_prop zero (Cell s) x y = λ i. x
square_prop zero (Four a b c d) x y = absurd x
square_prop (suc k) (Cell s) x y = absurd x
square_prop (suc k) (Four a b c d) x y = λ i. (square_prop k a x.0 y.0 i, (square_prop k b x.1.0 y.1.0 i, (square_prop k c x.1.1.0 y.1.1.0 i, square_prop k d x.1.1.1 y.1.1.1 i)))

pub squares_prop : (squares : List StateSquare) → IsProp (AreSquares squares)
squares_prop squares x y = λ i n q at. (above_prop (level_of q) (x n q at).0 (y n q at).0 i, square_prop (level_of q) q (x n q at).1 (y n q at).1 i)
