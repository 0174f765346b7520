-- What a token does to a reader.
use Rattle.std.proofs.Common.{◌≡◌, ℕ, zero, suc, ◌+◌, Bool, true, false, [], ◌++◌, refl, sym, ◌∙◌, ap, arith, length, append-nil, length-append}
use Rattle.std.specs.Prelude.{Option, Some, None, ◌==◌, if◌then◌else◌}
use Rattle.multistate_rle.specs.declared.tokens.TokenReader.{TokenReader}
use Rattle.multistate_rle.specs.Tokens.{Cells, run, cells_in_row}
use Rattle.multistate_rle.specs.Reading.{fresh, cells_of}
use Rattle.multistate_rle.specs.Steps.{ReadsToken}

length_row : (n s column row : ℕ) → length (cells_in_row n s column row) ≡ n
length_row zero s column row = refl
length_row (suc n) s column row = grind (arith, length_row n s (column + 1) row)

length_run_if : (dead : Bool) (n s column row : ℕ) → length (if dead then [] else cells_in_row n s column row) ≡ (if dead then 0 else n)
length_run_if true n s column row = refl
length_run_if false n s column row = length_row n s column row

pub length_run : (n s column row : ℕ) → length (run n s column row) ≡ cells_of (Cells n s)
length_run n s column row = length_run_if (s == 0) n s column row

pub draws_run : (old new : TokenReader) (n s : ℕ) → new.column ≡ old.column + n → new.row ≡ old.row →
    new.cells.items ≡ old.cells.items ++ run n s old.column old.row → new.begun ≡ fresh → ReadsToken (Cells n s) old new
draws_run old new n s column_is row_is cells_are begun_is =
    let count : length new.cells.items ≡ length old.cells.items + cells_of (Cells n s) =
    ap length cells_are ∙ length-append old.cells.items (run n s old.column old.row) ∙ ap (λ k. length old.cells.items + k) (length_run n s old.column old.row) in
    record {
      cells = cells_are ∙ ap (λ cells. old.cells.items ++ cells) (sym (append-nil (run n s old.column old.row)));
      pen = λ i. record { column = column_is i; row = row_is i; cells = count i };
      begun = begun_is;
    }

pub none_is : {F : Type 0} (o : Option F) → ((fault : F) → o ≡ Some fault → ⊥) → o ≡ None
none_is None never = refl
none_is (Some fault) never = absurd (never fault refl)
