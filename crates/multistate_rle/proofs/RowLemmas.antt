-- The cells of a run.
use Rattle.std.proofs.Common.{◌≡◌, ℕ, suc, ◌+◌, ◌-◌, ◌<◌, ◌≤◌, [], ◌∷◌, refl, arith}
use Rattle.multistate_rle.specs.Tokens.{cells_in_row}

pub row_step : (end at s row : ℕ) → at < end →
    cells_in_row (end - at) s at row ≡ record { column = at; row = row; state = s } ∷ cells_in_row (end - (at + 1)) s (at + 1) row
row_step end at s row h = let e : end - at ≡ suc (end - (at + 1)) = omega arith in rw e refl

pub row_done : (end at s row : ℕ) → end ≤ at → cells_in_row (end - at) s at row ≡ []
row_done end at s row h = let e : end - at ≡ 0 = omega arith in rw e refl
