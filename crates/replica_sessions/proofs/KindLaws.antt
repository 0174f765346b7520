-- Windows that are read.
use Rattle.std.proofs.Common.{◌≡◌, ℕ, List, take, drop, refl}
use Rattle.std.specs.Prelude.{ℤ, ◌==◌, true, length}
use Rattle.std.specs.Int.{cast_signed, from_be_bytes, w32}
use Rattle.std.proofs.lemmas.Bool.{eq-eqb}
use Rattle.session_hub.specs.Request.{Cut, Request, cut_of, numbers, sized}

-- five numbers of four bytes, one behind the other
pub cut_read : (rest b1 b2 b3 b4 f1 f2 f3 f4 f5 : List ℕ) (x y : ℤ) (w h g : ℕ) → f1 ≡ take 4 rest → b1 ≡ drop 4 rest → f2 ≡ take 4 b1 → b2 ≡ drop 4 b1 → f3 ≡ take 4 b2 → b3 ≡ drop 4 b2 → f4 ≡ take 4 b3 → b4 ≡ drop 4 b3
    → f5 ≡ take 4 b4 → x ≡ cast_signed w32 (from_be_bytes w32 f1) → y ≡ cast_signed w32 (from_be_bytes w32 f2) → w ≡ from_be_bytes w32 f3 → h ≡ from_be_bytes w32 f4 → g ≡ from_be_bytes w32 f5
    → cut_of (numbers 5 rest) ≡ Cut (record { x = x; y = y; width = w; height = h }) g
cut_read rest b1 b2 b3 b4 f1 f2 f3 f4 f5 x y w h g a1 c1 a2 c2 a3 c3 a4 c4 a5 ex ey ew eh eg = rw (ex, ey, ew, eh, eg, a1, a2, a3, a4, a5, c4, c3, c2, c1) refl

-- a request of just so many bytes
pub sized_so : (n : ℕ) (rest : List ℕ) (request : Request) → length rest ≡ n → sized n rest request ≡ request
sized_so n rest request same = let is : (length rest == n) ≡ true = eq-eqb (length rest) n same in rw is refl
