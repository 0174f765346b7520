-- The squares of entries, one by one: each stands on those in front of it.
use Rattle.std.proofs.Common.{◌≡◌, ℕ, zero, suc, ◌+◌, ◌-◌, ◌*◌, ◌/◌, ◌<◌, ◌≤◌, arith, Bool, true, false, List, [], ◌∷◌, ◌++◌, refl, sym, ap, ◌∙◌, inl, inr, map, length, take, get_or, length-append, length-take, subst, min}
use Rattle.std.specs.Prelude.{Option, Some, None, option_map, slice_get, unwrap_or, fold}
use Rattle.std.proofs.Math.Seq.{take-suc}
use Rattle.std.proofs.lemmas.Bool.{cases_lt, ne_eqb}
use Rattle.std.proofs.lemmas.List.{take_all}
use Rattle.std.proofs.lemmas.Option.{slice_get-map, slice_get_past, get_or_from_slice_get}
use Rattle.square_store.proofs.Lists.{got_append, got_last}
use Rattle.macrocell_lines.specs.Squares.{StateSquare, Cell, Four, level_of, square_of}
use Rattle.macrocell_text.specs.declared.entry.Entry.{Entry}
use Rattle.macrocell_text.specs.SquareLines.{dead_square}
use Rattle.macrocell_text.specs.Macrocells.{entry_square, square_standing, squares_of, with_entry}
use Rattle.macrocell_text.specs.LiveCells.{capped_count, live_cells, population}
use Rattle.macrocell_text.proofs.Levels.{squares_push}
use Rattle.macrocell_text.proofs.FoundLists.{dead_population, no_cells}

length_fold : (es : List Entry) (s : List StateSquare) → length (fold with_entry s es) ≡ length s + length es
length_fold [] s = omega arith
length_fold (e ∷ es) s = length_fold es (with_entry s e) ∙ omega (arith, length-append s (entry_square s e ∷ []))

pub length_squares : (es : List Entry) → length (squares_of es) ≡ length es
length_squares es = length_fold es [] ∙ omega arith

pub squares_more : (es : List Entry) (j : ℕ) (d : Entry) → j < length es → squares_of (take (suc j) es) ≡ squares_of (take j es) ++ entry_square (squares_of (take j es)) (get_or es j d) ∷ []
squares_more es j d within = ap squares_of (take-suc es j d within) ∙ squares_push (take j es) (get_or es j d)

length_first : (es : List Entry) (n : ℕ) → n ≤ length es → length (squares_of (take n es)) ≡ n
length_first es n within = length_squares (take n es) ∙ omega (arith, length-take n es, within)

-- the square of an entry among the first ones
pub square_at : (before : ℕ) (es : List Entry) (i : ℕ) (d : Entry) → i < before → before ≤ length es →
    slice_get (squares_of (take before es)) i ≡ Some (entry_square (squares_of (take i es)) (get_or es i d))
square_at zero es i d low within = absurd (omega (arith, low))
square_at (suc n) es i d low within =
    let some : n < length es = omega (arith, within) in
    rw (squares_more es n d some) (elim (cases_lt i n) [
      | inl less ↦ got_append (squares_of (take n es)) _ i _ (square_at n es i d less (omega (arith, within)))
      | inr more ↦ (let is : n ≡ i = omega (arith, low, more) in
          subst (λ k. slice_get (squares_of (take n es) ++ entry_square (squares_of (take n es)) (get_or es n d) ∷ []) k ≡ Some (entry_square (squares_of (take k es)) (get_or es k d))) is
          (subst (λ k. slice_get (squares_of (take n es) ++ entry_square (squares_of (take n es)) (get_or es n d) ∷ []) k ≡ Some (entry_square (squares_of (take n es)) (get_or es n d)))
          (length_first es n (omega (arith, within))) (got_last (squares_of (take n es)) (entry_square (squares_of (take n es)) (get_or es n d)))))
    ])

-- ---- what stands for a square

-- 0 stands for one without a live cell
pub nothing_stands : (level n : ℕ) (squares : List StateSquare) → n ≡ 0 → population (square_standing level squares n) ≡ 0
nothing_stands zero n squares none = rw none refl
nothing_stands (suc l) n squares none = let above : suc l ≡ 0 → ⊥ = λ e. (omega (arith, e)) in rw (ne_eqb (suc l) 0 above, none) (dead_population (suc l))

-- and so does a number of no entry in front
pub beyond_stands : (level n before : ℕ) (es : List Entry) → (level ≡ 0 → ⊥) → (n ≡ 0 → ⊥) → before < n → before ≤ length es → population (square_standing level (squares_of (take before es)) n) ≡ 0
beyond_stands level n before es above some beyond within =
    let past : slice_get (squares_of (take before es)) (n - 1) ≡ None = slice_get_past (squares_of (take before es)) (n - 1) (omega (arith, beyond, length_first es before within)) in
    rw (ne_eqb level 0 above, ne_eqb n 0 some, past) (dead_population level)

-- the number of an entry in front stands for its square
pub entry_stands : (level n before : ℕ) (es : List Entry) (d : Entry) → (level ≡ 0 → ⊥) → (n ≡ 0 → ⊥) → n ≤ before → before ≤ length es →
    square_standing level (squares_of (take before es)) n ≡ entry_square (squares_of (take (n - 1) es)) (get_or es (n - 1) d)
entry_stands level n before es d above some low within =
    rw (ne_eqb level 0 above, ne_eqb n 0 some, square_at before es (n - 1) d (omega (arith, low, some)) within) refl

-- a count of 0 tells that a square has no live cell
pub count_stands : (i : ℕ) (es : List Entry) (counts : List ℕ) (d : Entry) → counts ≡ map capped_count (squares_of es) → i < length es → get_or counts i 0 ≡ 0 →
    population (entry_square (squares_of (take i es)) (get_or es i d)) ≡ 0
count_stands i es counts d is within none =
    let q : StateSquare = entry_square (squares_of (take i es)) (get_or es i d) in
    let whole : take (length es) es ≡ es = take_all (length es) es (omega arith) in
    let at : slice_get (squares_of es) i ≡ Some q = subst (λ xs. slice_get (squares_of xs) i ≡ Some q) whole (square_at (length es) es i d within (omega arith)) in
    let counted : slice_get counts i ≡ Some (capped_count q) = ap (λ xs. slice_get xs i) is ∙ slice_get-map capped_count (squares_of es) i ∙ ap (λ (o : Option StateSquare). option_map capped_count o) at in
    omega (arith, get_or_from_slice_get counts i (capped_count q) 0 counted, none)

-- the count of the square that a number stands for
pub count_standing : (level n : ℕ) (squares : List StateSquare) (counts : List ℕ) → (level ≡ 0 → ⊥) → (n ≡ 0 → ⊥) → counts ≡ map capped_count squares →
    unwrap_or (slice_get counts (n - 1)) 0 ≡ capped_count (square_standing level squares n)
count_standing level n squares counts above some is =
    rw (ne_eqb level 0 above, ne_eqb n 0 some) (ap (λ xs. unwrap_or (slice_get xs (n - 1)) 0) is ∙ ap (λ (o : Option ℕ). unwrap_or o 0) (slice_get-map capped_count squares (n - 1)) ∙ by (slice_get squares (n - 1)))
  where
    by : (o : Option StateSquare) → unwrap_or (option_map capped_count o) 0 ≡ capped_count (unwrap_or o (dead_square level))
    by None = (let e = dead_population level in omega (arith, e))
    by (Some q) = refl
