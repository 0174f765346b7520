-- The levels of squares, and of the entries that tell them.
use Rattle.std.proofs.Common.{◌≡◌, ℕ, zero, suc, ◌+◌, ◌-◌, ◌<◌, ◌≤◌, List, [], ◌∷◌, ◌++◌, length, refl, sym, ◌∙◌, ap, subst, arith, Bool, true, false, map}
use Rattle.std.specs.Prelude.{Option, Some, None, option_map, slice_get, unwrap_or, fold, ◌==◌, if◌then◌else◌, IsTrue}
use Rattle.std.proofs.lemmas.Bool.{ne_eqb}
use Rattle.std.proofs.lemmas.List.{map-append}
use Rattle.std.proofs.lemmas.List.Sums.{fold-append}
use Rattle.std.proofs.lemmas.Option.{slice_get-map}
use Rattle.text_scan.specs.Bytes.{◌>=>◌}
use Rattle.macrocell_text.specs.declared.entry.Entry.{Entry}
use Rattle.macrocell_lines.specs.Squares.{StateSquare, Cell, Four, level_of, square_of, seen_from}
use Rattle.macrocell_text.specs.SquareLines.{dead_square, square_if_of, square_numbered}
use Rattle.macrocell_text.specs.Macrocells.{AreLevelled, entry_level, entry_square, square_standing, squares_of, with_entry}

-- the square of a level has it
pub level_square : (k : ℕ) (f : ℕ → ℕ → ℕ) → level_of (square_of k f) ≡ k
unfolding square_of
level_square zero f = refl
level_square (suc k) f = ap suc (level_square k f)

-- one entry more
pub squares_push : (es : List Entry) (e : Entry) → squares_of (es ++ e ∷ []) ≡ squares_of es ++ entry_square (squares_of es) e ∷ []
squares_push es e = fold-append with_entry [] es (e ∷ [])

pub levelled_push : (es : List Entry) (e : Entry) → AreLevelled es → level_of (entry_square (squares_of es) e) ≡ entry_level e → AreLevelled (es ++ e ∷ [])
levelled_push es e levels level =
    ap (map level_of) (squares_push es e) ∙ map-append level_of (squares_of es) (entry_square (squares_of es) e ∷ [])
    ∙ (λ i. levels i ++ level i ∷ []) ∙ sym (map-append entry_level es (e ∷ []))

-- the level of an entry's square, at its number
pub level_got : (es : List Entry) (i : ℕ) → AreLevelled es → option_map level_of (slice_get (squares_of es) i) ≡ option_map entry_level (slice_get es i)
level_got es i levels = sym (slice_get-map level_of (squares_of es) i) ∙ ap (λ xs. slice_get xs i) levels ∙ slice_get-map entry_level es i

-- a square that is there stands for its number where it has the level
pub stands_at : (o : Option StateSquare) (level l : ℕ) (d : StateSquare) → option_map level_of o ≡ Some l →
    (o >=> square_if_of level) ≡ (if l == level then Some (unwrap_or o d) else None)
stands_at None level l d e = absurd (cc)
stands_at (Some q) level l d e = let is : level_of q ≡ l = ap (λ (o : Option ℕ). unwrap_or o l) e in rw is refl

pub standing_level : (o : Option StateSquare) (level l : ℕ) (d : StateSquare) → option_map level_of o ≡ Some l → l ≡ level → level_of (unwrap_or o d) ≡ level
standing_level None level l d e same = absurd (cc)
standing_level (Some q) level l d e same = let is : level_of q ≡ l = ap (λ (o : Option ℕ). unwrap_or o l) e in is ∙ same

pub nothing_at : (o : Option StateSquare) (level : ℕ) → option_map level_of o ≡ None → (o >=> square_if_of level) ≡ None
nothing_at None level e = refl
nothing_at (Some q) level e = absurd (cc)

pub stands_numbered : (es : List Entry) (level n l : ℕ) → AreLevelled es → (level ≡ 0 → ⊥) → (n ≡ 0 → ⊥) → Some l ≡ option_map entry_level (slice_get es (n - 1)) →
    square_numbered level (squares_of es) n ≡ (if l == level then Some (square_standing level (squares_of es) n) else None)
stands_numbered es level n l levels above some e =
    rw (ne_eqb level 0 above, ne_eqb n 0 some) (stands_at (slice_get (squares_of es) (n - 1)) level l (dead_square level) (level_got es (n - 1) levels ∙ sym e))

pub standing_numbered : (es : List Entry) (level n l : ℕ) → AreLevelled es → (level ≡ 0 → ⊥) → (n ≡ 0 → ⊥) → Some l ≡ option_map entry_level (slice_get es (n - 1)) → l ≡ level →
    level_of (square_standing level (squares_of es) n) ≡ level
standing_numbered es level n l levels above some e same =
    rw (ne_eqb level 0 above, ne_eqb n 0 some) (standing_level (slice_get (squares_of es) (n - 1)) level l (dead_square level) (level_got es (n - 1) levels ∙ sym e) same)

pub nothing_numbered : (es : List Entry) (level n : ℕ) → AreLevelled es → (level ≡ 0 → ⊥) → (n ≡ 0 → ⊥) → None ≡ option_map entry_level (slice_get es (n - 1)) →
    square_numbered level (squares_of es) n ≡ None
nothing_numbered es level n levels above some e =
    rw (ne_eqb level 0 above, ne_eqb n 0 some) (nothing_at (slice_get (squares_of es) (n - 1)) level (level_got es (n - 1) levels ∙ sym e))

pub dead_standing : (level n : ℕ) (squares : List StateSquare) → (level ≡ 0 → ⊥) → n ≡ 0 → level_of (square_standing level squares n) ≡ level
dead_standing level n squares above none = rw (ne_eqb level 0 above, none) (level_square level (λ u v. 0))
