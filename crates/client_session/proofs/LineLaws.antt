-- Cells in lines.
use Rattle.std.proofs.Common.{◌≡◌, ℕ, zero, suc, ◌<◌, ◌≤◌, min, List, [], ◌∷◌, ◌++◌, length, take, drop, refl, sym, ap, ◌∙◌, arith, inl, inr, length-append, length-drop, append_assoc, append-nil}
use Rattle.std.proofs.Math.Seq.{drop-append_seam}
use Rattle.std.proofs.lemmas.Bool.{cases_lt}
use Rattle.std.proofs.lemmas.List.{drop_all, nil_from_length, take-append-le, take_all}
use Rattle.pattern_cells.specs.declared.cell.Cell.{Cell}
use Rattle.client_session.specs.Lines.{lines_of, now_line, now_lines}

-- of no cells there is no line
no_lines : (size lines : ℕ) → lines_of size lines [] ≡ []
no_lines size zero = refl
no_lines size (suc lines) =
    ap (λ (cells : List Cell). now_line cells ++ lines_of size lines (drop size [])) (take_all size [] (omega arith))
    ∙ ap (lines_of size lines) (drop_all size [] (omega arith))
    ∙ no_lines size lines

-- as many lines as there are cells are enough
enough : (size : ℕ) → 0 < size → (n m : ℕ) (cells : List Cell) → length cells ≤ n → length cells ≤ m → lines_of size n cells ≡ lines_of size m cells
enough size some zero m cells few also = let none = nil_from_length cells (omega (arith, few)) in rw none (sym (no_lines size m))
enough size some (suc n) zero cells few also = let none = nil_from_length cells (omega (arith, also)) in rw none (no_lines size (suc n))
enough size some (suc n) (suc m) cells few also =
    let shorter = length-drop size cells in
    ap (λ (text : List ℕ). now_line (take size cells) ++ text) (enough size some n m (drop size cells) (omega (arith, shorter, few, some)) (omega (arith, shorter, also, some)))

-- a list that begins with a line's cells, which are as many as a line may have, or all
fronts : (size : ℕ) (cells line rest : List Cell) → cells ≡ line ++ rest → length line ≡ min size (length cells) → (take size cells ≡ line) × (drop size cells ≡ rest)
fronts size cells line rest parts fits =
    let both = ap length parts ∙ length-append line rest in
    elim (cases_lt (length cells) size) [
      | inl short ↦
          let none : rest ≡ [] = nil_from_length rest (omega (arith, both, fits, short)) in
          (take_all size cells (omega (arith, short)) ∙ parts ∙ ap (λ (xs : List Cell). line ++ xs) none ∙ append-nil line, drop_all size cells (omega (arith, short)) ∙ sym none)
      | inr long ↦
          let size_is : size ≡ length line = omega (arith, fits, long) in (
            ap (take size) parts ∙ ap (λ n. take n (line ++ rest)) size_is ∙ take-append-le (length line) line rest (omega arith) ∙ take_all (length line) line (omega arith),
            ap (drop size) parts ∙ ap (λ n. drop n (line ++ rest)) size_is ∙ drop-append_seam line rest,
          )
    ]

-- the lines of such a list are that line, and those of what is left
pub line_first : (size : ℕ) → 0 < size → (cells line rest : List Cell) → cells ≡ line ++ rest → length line ≡ min size (length cells) → 0 < length cells
    → now_lines size cells ≡ now_line line ++ now_lines size rest
line_first size some [] line rest parts fits has = absurd (omega (arith, has))
line_first size some (cell ∷ cells) line rest parts fits has =
    let front = fronts size (cell ∷ cells) line rest parts fits in
    let shorter = length-drop size (cell ∷ cells) in
    ap (λ (xs : List Cell). now_line xs ++ lines_of size (length cells) (drop size (cell ∷ cells))) front.0
    ∙ ap (λ (xs : List Cell). now_line line ++ lines_of size (length cells) xs) front.1
    ∙ ap (λ (text : List ℕ). now_line line ++ text)
    (enough size some (length cells) (length rest) rest (omega (arith, shorter, ap length front.1, some)) (omega arith))

-- a text that was printed in three pieces
pub printed_in_three : (out first second third one two three : List ℕ) → one ≡ out ++ first → two ≡ one ++ second → three ≡ two ++ third → three ≡ out ++ (first ++ second ++ third)
printed_in_three out first second third one two three a b c =
    c ∙ ap (λ (text : List ℕ). text ++ third) (b ∙ ap (λ (text : List ℕ). text ++ second) a)
    ∙ append_assoc (out ++ first) second third
    ∙ append_assoc out first (second ++ third)
    ∙ ap (λ (text : List ℕ). out ++ text) (sym (append_assoc first second third))
