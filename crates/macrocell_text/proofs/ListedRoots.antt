-- The root of a macrocell's entries, and why its live cells are not listed.
use Rattle.std.proofs.Common.{◌≡◌, ℕ, zero, suc, ◌+◌, ◌-◌, ◌*◌, ◌^◌, ◌<◌, ◌≤◌, arith, Bool, true, false, List, [], ◌∷◌, ◌++◌, refl, sym, ap, ◌∙◌, inl, inr, map, length, take, get_or, subst, pow-suc}
use Rattle.std.specs.Prelude.{◌⊎◌, ◌&&◌, not, nat_lt, Option, Some, None, option_map, slice_get, unwrap_or}
use Rattle.std.specs.List.{list_all}
use Rattle.std.specs.List.Sorted.{IsPermutation}
use Rattle.std.proofs.lemmas.Bool.Decides.{nat_tests}
use Rattle.std.proofs.lemmas.List.{take_all}
use Rattle.std.proofs.lemmas.Option.{slice_get-get_or}
use Rattle.generations_rule.specs.Refusal.{first_of, when}
use Rattle.pattern_cells.specs.declared.cell.Cell.{Cell}
use Rattle.macrocell_lines.specs.Squares.{StateSquare, level_of}
use Rattle.macrocell_text.specs.declared.entry.Entry.{Entry}
use Rattle.macrocell_text.specs.declared.entry.Entry.TheVariants as entries
use Rattle.macrocell_text.specs.declared.found.FoundCells.{FoundCells}
use Rattle.macrocell_text.specs.declared.listing_fault.ListingFault.{ListingFault}
use Rattle.macrocell_text.specs.declared.listing_fault.ListingFault.TheVariants.{TooManyCells, OutOfPlane, Memory}
use Rattle.macrocell_text.specs.Macrocells.{AreLevelled, entry_level, entry_square, squares_of}
use Rattle.macrocell_text.specs.Maps.{root_of_squares}
use Rattle.macrocell_text.specs.LiveCells.{LiveCell, cells_of_root, lies_in_plane, listing_refusal, live_cells, most_listed, placed, population_of}
use Rattle.macrocell_text.specs.Finding.{AreListed, HasFound, IsRefusedAt, are_inside}
use Rattle.macrocell_text.specs.Standings.{standing_square}
use Rattle.macrocell_text.proofs.Levels.{level_got}
use Rattle.macrocell_text.proofs.Prefixes.{entry_stands, length_squares, square_at}

any : Entry
any = entries.Rows 0

-- a square is the root, and has a level
pub record IsRoot (es : List Entry) (level : ℕ) (q : StateSquare) : Type 0 where
  pub root : root_of_squares (squares_of es) ≡ Some q
  pub level_is : level_of q ≡ level

some_level : (q : StateSquare) (l : ℕ) → option_map level_of (Some q) ≡ Some l → level_of q ≡ l
some_level q l e = ap (λ (o : Option ℕ). unwrap_or o l) e

-- what stands for the last entry stands for the root
pub root_at : (es : List Entry) (level : ℕ) → 0 < length es → 1 ≤ level → AreLevelled es → ((d : Entry) → level ≡ entry_level (get_or es (length es - 1) d)) →
    IsRoot es level (standing_square es (record { before = length es; level = level; number = length es }))
root_at es level some above levels is =
    let last : ℕ = length es - 1 in
    let within : last < length es = omega (arith, some) in
    let q : StateSquare = entry_square (squares_of (take last es)) (get_or es last any) in
    let stands : standing_square es (record { before = length es; level = level; number = length es }) ≡ q
    = entry_stands level (length es) (length es) es any (λ e. (omega (arith, e, above))) (λ e. (omega (arith, e, some))) (omega arith) (omega arith) in
    let whole : take (length es) es ≡ es = take_all (length es) es (omega arith) in
    let at : slice_get (squares_of es) last ≡ Some q = subst (λ xs. slice_get (squares_of xs) last ≡ Some q) whole (square_at (length es) es last any within (omega arith)) in
    let entry : slice_get es last ≡ Some (get_or es last any) = slice_get-get_or es last any within in
    let level_q : level_of q ≡ entry_level (get_or es last any) =
    some_level q (entry_level (get_or es last any)) (ap (λ o. option_map level_of o) (sym at) ∙ level_got es last levels ∙ ap (λ o. option_map entry_level o) entry) in
    record {
      root = ap (λ n. slice_get (squares_of es) (n - 1)) (length_squares es) ∙ at ∙ ap Some (sym stands);
      level_is = ap level_of stands ∙ level_q ∙ sym (is any);
    }

-- ---- refusals

inside_map : (half : ℕ) (cells : List LiveCell) → list_all lies_in_plane (map (placed half) cells) ≡ are_inside half cells
inside_map half [] = refl
inside_map half (c ∷ cells) = ap (λ b. lies_in_plane (placed half c) && b) (inside_map half cells)

double_side : (level half : ℕ) → 1 ≤ level → half ≡ 2 ^ (level - 1) → half + half ≡ 2 ^ level
double_side level half some is =
    let e : level ≡ suc (level - 1) = omega (arith, some) in
    let f : 2 ^ level ≡ 2 ^ (level - 1) * 2 = ap (λ l. 2 ^ l) e ∙ pow-suc 2 (level - 1) in
    omega (arith, f, is)

-- the cells of the root, as they are found
pub root_cells : (es : List Entry) (level half : ℕ) (q : StateSquare) → IsRoot es level q → 1 ≤ level → half ≡ 2 ^ (level - 1) →
    cells_of_root (root_of_squares (squares_of es)) ≡ map (placed half) (live_cells (half + half) q 0 0)
root_cells es level half q root some is =
    let side : half + half ≡ 2 ^ level_of q = double_side level half some is ∙ ap (λ l. 2 ^ l) (sym root.level_is) in
    let half_is : 2 ^ (level_of q - 1) ≡ half = ap (λ l. 2 ^ (l - 1)) root.level_is ∙ sym is in
    ap cells_of_root root.root ∙ (λ i. map (placed (half_is i)) (live_cells (sym side i) q 0 0))

few_enough : (n : ℕ) → n ≤ most_listed → nat_lt most_listed n ≡ false
few_enough n h = grind (arith, nat_tests)

outside : (a b : Bool) → a ≡ false → b ≡ false → first_of (when a TooManyCells ∷ when (not b) OutOfPlane ∷ []) ≡ Some OutOfPlane
outside a b e f = rw (e, f) refl

inside : (a b : Bool) → a ≡ false → b ≡ true → first_of (when a TooManyCells ∷ when (not b) OutOfPlane ∷ []) ≡ None
inside a b e f = rw (e, f) refl

pub refused_listing : (es : List Entry) (level half : ℕ) (q : StateSquare) (f : ListingFault) → IsRoot es level q → 1 ≤ level → half ≡ 2 ^ (level - 1) →
    population_of (root_of_squares (squares_of es)) ≤ most_listed → IsRefusedAt half (live_cells (half + half) q 0 0) f → (f ≡ Memory) ⊎ (listing_refusal (squares_of es) ≡ Some f)
refused_listing es level half q f root some is few (inl want) = inl want
refused_listing es level half q f root some is few (inr out) =
    inr (outside _ _ (few_enough _ few) (ap (list_all lies_in_plane) (root_cells es level half q root some is) ∙ inside_map half (live_cells (half + half) q 0 0) ∙ out.1) ∙ ap Some (sym out.0))

-- cells that were found are those that are listed
pub listed_cells : (es : List Entry) (level half : ℕ) (q : StateSquare) (old new : FoundCells) → IsRoot es level q → 1 ≤ level → half ≡ 2 ^ (level - 1) →
    old.half ≡ half → old.cells.items ≡ [] → HasFound old new (live_cells (half + half) q 0 0) → new.cells.items ≡ cells_of_root (root_of_squares (squares_of es))
listed_cells es level half q old new root some is half_is none found =
    found.cells_are ∙ (λ i. none i ++ map (placed (half_is i)) (live_cells (half + half) q 0 0)) ∙ sym (root_cells es level half q root some is)

pub allowed_listing : (es : List Entry) (level half : ℕ) (q : StateSquare) (old new : FoundCells) → IsRoot es level q → 1 ≤ level → half ≡ 2 ^ (level - 1) →
    population_of (root_of_squares (squares_of es)) ≤ most_listed → old.half ≡ half → HasFound old new (live_cells (half + half) q 0 0) → listing_refusal (squares_of es) ≡ None
allowed_listing es level half q old new root some is few half_is found =
    inside _ _ (few_enough _ few) (ap (list_all lies_in_plane) (root_cells es level half q root some is) ∙ inside_map half (live_cells (half + half) q 0 0)
    ∙ ap (λ h. are_inside h (live_cells (half + half) q 0 0)) (sym half_is) ∙ found.inside)
