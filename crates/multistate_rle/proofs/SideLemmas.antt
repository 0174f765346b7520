-- The sides that cells need.
use Rattle.std.proofs.Common.{◌≡◌, ℕ, zero, suc, ◌+◌, ◌≤◌, Bool, true, false, List, [], ◌∷◌, ◌++◌, refl, sym, ◌∙◌, ap, arith}
use Rattle.std.specs.Prelude.{max, ◌==◌, if◌then◌else◌}
use Rattle.std.proofs.lemmas.List.Sums.{fold-append}
use Rattle.pattern_cells.specs.declared.pattern.PatternCell.{PatternCell}
use Rattle.multistate_rle.specs.Tokens.{run, cells_in_row}
use Rattle.multistate_rle.specs.Reading.{width_of, height_of}

width_in_row : (n s column row w : ℕ) → 1 ≤ n → width_of w (cells_in_row n s column row) ≡ max w (column + n)
width_in_row zero s column row w some = omega arith
width_in_row (suc zero) s column row w some = refl
width_in_row (suc (suc n)) s column row w some = width_in_row (suc n) s (column + 1) row (max w (column + 1)) (omega arith) ∙ omega arith

height_in_row : (n s column row h : ℕ) → 1 ≤ n → height_of h (cells_in_row n s column row) ≡ max h (row + 1)
height_in_row zero s column row h some = omega arith
height_in_row (suc zero) s column row h some = refl
height_in_row (suc (suc n)) s column row h some = height_in_row (suc n) s (column + 1) row (max h (row + 1)) (omega arith) ∙ omega arith

width_run_if : (dead : Bool) (n s column row w : ℕ) → 1 ≤ n → width_of w (if dead then [] else cells_in_row n s column row) ≡ (if dead then w else max w (column + n))
width_run_if true n s column row w some = refl
width_run_if false n s column row w some = width_in_row n s column row w some

height_run_if : (dead : Bool) (n s column row h : ℕ) → 1 ≤ n → height_of h (if dead then [] else cells_in_row n s column row) ≡ (if dead then h else max h (row + 1))
height_run_if true n s column row h some = refl
height_run_if false n s column row h some = height_in_row n s column row h some

-- a run behind some cells reaches its last column
pub width_with_run : (cells : List PatternCell) (n s column row : ℕ) → 1 ≤ n →
    width_of 0 (cells ++ run n s column row) ≡ (if s == 0 then width_of 0 cells else max (width_of 0 cells) (column + n))
width_with_run cells n s column row some =
    fold-append (λ n cell. max n (cell.column + 1)) 0 cells (run n s column row) ∙ width_run_if (s == 0) n s column row (width_of 0 cells) some

-- and its row
pub height_with_run : (cells : List PatternCell) (n s column row : ℕ) → 1 ≤ n →
    height_of 0 (cells ++ run n s column row) ≡ (if s == 0 then height_of 0 cells else max (height_of 0 cells) (row + 1))
height_with_run cells n s column row some =
    fold-append (λ n cell. max n (cell.row + 1)) 0 cells (run n s column row) ∙ height_run_if (s == 0) n s column row (height_of 0 cells) some

width_beside : (w : ℕ) (cells : List PatternCell) → width_of w cells ≡ max w (width_of 0 cells)
width_beside w [] = omega arith
width_beside w (cell ∷ cells) =
    width_beside (max w (cell.column + 1)) cells ∙ omega arith ∙ ap (max w) (sym (width_beside (max 0 (cell.column + 1)) cells))

height_beside : (h : ℕ) (cells : List PatternCell) → height_of h cells ≡ max h (height_of 0 cells)
height_beside h [] = omega arith
height_beside h (cell ∷ cells) =
    height_beside (max h (cell.row + 1)) cells ∙ omega arith ∙ ap (max h) (sym (height_beside (max 0 (cell.row + 1)) cells))

-- the sides beside those of a header
pub width_is : (side w drawn : ℕ) (cells : List PatternCell) → side ≡ max w drawn → drawn ≡ width_of 0 cells → side ≡ width_of w cells
width_is side w drawn cells most wide = most ∙ ap (max w) wide ∙ sym (width_beside w cells)

pub height_is : (side h drawn : ℕ) (cells : List PatternCell) → side ≡ max h drawn → drawn ≡ height_of 0 cells → side ≡ height_of h cells
height_is side h drawn cells most high = most ∙ ap (max h) high ∙ sym (height_beside h cells)
