-- Live cells that were found, one square after another.
use Rattle.std.proofs.Common.{◌≡◌, ℕ, zero, suc, ◌+◌, ◌-◌, ◌*◌, ◌/◌, ◌^◌, ◌<◌, ◌≤◌, arith, Bool, true, false, List, [], ◌∷◌, ◌++◌, append_assoc, refl, sym, ap, ◌∙◌, inl, inr, map, length, subst, length-append, pow-suc}
use Rattle.std.specs.Prelude.{◌&&◌, ◌⊎◌, ◌==◌, if◌then◌else◌, Result, Ok, Err, IsErrAnd, IfErr, OnOk}
use Rattle.std.specs.Int.{bit_at}
use Rattle.std.specs.List.{list_all}
use Rattle.std.proofs.lemmas.Nat.Bits.{bit_at-lt}
use Rattle.std.proofs.lemmas.Bool.{and_parts, and_from, ne_eqb}
use Rattle.std.proofs.lemmas.List.{map-append}
use Rattle.std.proofs.lemmas.List.Folds.{list_all-append}
use Rattle.pattern_cells.specs.declared.cell.Cell.{Cell}
use Rattle.macrocell_text.specs.declared.area.Area.{Area}
use Rattle.macrocell_text.specs.declared.block.Block.{Block}
use Rattle.macrocell_text.specs.declared.found.FoundCells.{FoundCells}
use Rattle.macrocell_text.specs.declared.listing_fault.ListingFault.{ListingFault}
use Rattle.macrocell_lines.specs.Squares.{StateSquare, Cell as CellSquare, Four, square_of, seen_from}
use Rattle.macrocell_text.specs.LiveCells.{LiveCell, bits_of, lies_in_plane, live_cells, placed, population}
use Rattle.macrocell_lines.proofs.Blocks.{block_parts}
use Rattle.macrocell_lines.proofs.States.{same_square}
use Rattle.macrocell_text.specs.Macrocells.{square_of_bits}
use Rattle.macrocell_text.specs.Finding.{HasFound, IsRefusedAt, are_inside}
use Rattle.macrocell_text.specs.SquareLines.{dead_square}

pub found_none : (f : FoundCells) → HasFound f f []
found_none f = record { half_is = refl; cells_are = append-nil f.cells.items; inside = refl }
  where
    append-nil : (xs : List Cell) → xs ≡ xs ++ []
    append-nil [] = refl
    append-nil (x ∷ xs) = ap (λ ys. x ∷ ys) (append-nil xs)

inside_both : (half : ℕ) (xs ys : List LiveCell) → are_inside half (xs ++ ys) ≡ (are_inside half xs && are_inside half ys)
inside_both half xs ys = list_all-append (λ c. lies_in_plane (placed half c)) xs ys

pub found_two : (a b c : FoundCells) (xs ys : List LiveCell) → HasFound a b xs → HasFound b c ys → HasFound a c (xs ++ ys)
found_two a b c xs ys p q = record {
  half_is = q.half_is ∙ p.half_is;
  cells_are = q.cells_are ∙ (λ i. p.cells_are i ++ map (placed (p.half_is i)) ys) ∙ append_assoc a.cells.items (map (placed a.half) xs) (map (placed a.half) ys)
      ∙ ap (λ zs. a.cells.items ++ zs) (sym (map-append (placed a.half) xs ys));
  inside = inside_both a.half xs ys ∙ and_from _ _ p.inside (ap (λ h. are_inside h ys) (sym p.half_is) ∙ q.inside);
}

and_left : (a b : Bool) → a ≡ false → (a && b) ≡ false
and_left a b e = rw e refl

and_right : (a b : Bool) → b ≡ false → (a && b) ≡ false
and_right true b e = e
and_right false b e = refl

pub refused_first : (half : ℕ) (xs ys : List LiveCell) (f : ListingFault) → IsRefusedAt half xs f → IsRefusedAt half (xs ++ ys) f
refused_first half xs ys f (inl want) = inl want
refused_first half xs ys f (inr out) = inr (out.0, inside_both half xs ys ∙ and_left _ (are_inside half ys) out.1)

pub refused_next : (a b : FoundCells) (xs ys : List LiveCell) (f : ListingFault) → HasFound a b xs → IsRefusedAt b.half ys f → IsRefusedAt a.half (xs ++ ys) f
refused_next a b xs ys f p (inl want) = inl want
refused_next a b xs ys f p (inr out) = inr (out.0, inside_both a.half xs ys ∙ and_right (are_inside a.half xs) _ (ap (λ h. are_inside h ys) (sym p.half_is) ∙ out.1))

-- ---- squares without a live cell

pub no_cells : (q : StateSquare) (side column row : ℕ) → population q ≡ 0 → live_cells side q column row ≡ []
no_cells (CellSquare s) side column row none = by (s == 0) none
  where
    by : (b : Bool) → (let n : ℕ = if b then 0 else 1 in n ≡ 0) → (let cells : List LiveCell = if b then [] else record { column = column; row = row; state = s } ∷ [] in cells ≡ [])
    by true e = refl
    by false e = absurd (omega (arith, e))
no_cells (Four a b c d) side column row none =
    let pa : population a ≡ 0 = omega (arith, none) in
    let pb : population b ≡ 0 = omega (arith, none) in
    let pc : population c ≡ 0 = omega (arith, none) in
    let pd : population d ≡ 0 = omega (arith, none) in
    rw (
      no_cells a (side / 2) column row pa,
      no_cells b (side / 2) (column + side / 2) row pb,
      no_cells c (side / 2) column (row + side / 2) pc,
      no_cells d (side / 2) (column + side / 2) (row + side / 2) pd,
    ) refl

pub dead_population : (k : ℕ) → population (dead_square k) ≡ 0
unfolding square_of
dead_population zero = refl
dead_population (suc k) = let e = dead_population k in omega (arith, e)

-- the numbers of cells are one
pub count_cells : (q : StateSquare) (side column row : ℕ) → length (live_cells side q column row) ≡ population q
count_cells (CellSquare s) side column row = by (s == 0)
  where
    by : (b : Bool) → (let cells : List LiveCell = if b then [] else record { column = column; row = row; state = s } ∷ [] in let n : ℕ = if b then 0 else 1 in length cells ≡ n)
    by true = refl
    by false = omega arith
count_cells (Four a b c d) side column row =
    let e = count_cells a (side / 2) column row in
    let f = count_cells b (side / 2) (column + side / 2) row in
    let g = count_cells c (side / 2) column (row + side / 2) in
    let h = count_cells d (side / 2) (column + side / 2) (row + side / 2) in
    length-append (live_cells (side / 2) a column row ++ live_cells (side / 2) b (column + side / 2) row) _
    ∙ (λ i. length-append (live_cells (side / 2) a column row) (live_cells (side / 2) b (column + side / 2) row) i
    + length-append (live_cells (side / 2) c column (row + side / 2)) (live_cells (side / 2) d (column + side / 2) (row + side / 2)) i)
    ∙ (λ i. (e i + f i) + (g i + h i))

-- ---- four squares, one after another

module _ (a b c d e : FoundCells) (w x y z : List LiveCell) where
  pub found_four : HasFound a b w → HasFound b c x → HasFound c d y → HasFound d e z → HasFound a e ((w ++ x) ++ (y ++ z))
  found_four p q r s = found_two a c e (w ++ x) (y ++ z) (found_two a b c w x p q) (found_two c d e y z r s)

pub refused_nw : (a : FoundCells) (w x v : List LiveCell) (f : ListingFault) → IsRefusedAt a.half w f → IsRefusedAt a.half ((w ++ x) ++ v) f
refused_nw a w x v f h = refused_first a.half (w ++ x) v f (refused_first a.half w x f h)

pub refused_ne : (a b : FoundCells) (w x v : List LiveCell) (f : ListingFault) → HasFound a b w → IsRefusedAt b.half x f → IsRefusedAt a.half ((w ++ x) ++ v) f
refused_ne a b w x v f p h = refused_first a.half (w ++ x) v f (refused_next a b w x f p h)

pub refused_sw : (a b c : FoundCells) (w x y z : List LiveCell) (f : ListingFault) → HasFound a b w → HasFound b c x → IsRefusedAt c.half y f → IsRefusedAt a.half ((w ++ x) ++ (y ++ z)) f
refused_sw a b c w x y z f p q h = refused_next a c (w ++ x) (y ++ z) f (found_two a b c w x p q) (refused_first c.half y z f h)

pub refused_se : (a b c d : FoundCells) (w x y z : List LiveCell) (f : ListingFault) → HasFound a b w → HasFound b c x → HasFound c d y → IsRefusedAt d.half z f → IsRefusedAt a.half ((w ++ x) ++ (y ++ z)) f
refused_se a b c d w x y z f p q r h = refused_next a c (w ++ x) (y ++ z) f (found_two a b c w x p q) (refused_next c d y z f r h)

-- the live cells of a square, by those of its quarters
abbrev pub live_in_four : ℕ → StateSquare → StateSquare → StateSquare → StateSquare → ℕ → ℕ → List LiveCell
live_in_four side p q r s column row =
    (live_cells (side / 2) p (column + 0) (row + 0) ++ live_cells (side / 2) q (column + side / 2) (row + 0))
    ++ (live_cells (side / 2) r (column + 0) (row + side / 2) ++ live_cells (side / 2) s (column + side / 2) (row + side / 2))

pub four_lists : (side : ℕ) (p q r s whole : StateSquare) (column row : ℕ) → whole ≡ Four p q r s → live_in_four side p q r s column row ≡ live_cells side whole column row
four_lists side p q r s whole column row is =
    let c : column + 0 ≡ column = omega arith in
    let d : row + 0 ≡ row = omega arith in
    (λ i. (live_cells (side / 2) p (c i) (d i) ++ live_cells (side / 2) q (column + side / 2) (d i)) ++ (live_cells (side / 2) r (c i) (row + side / 2) ++ live_cells (side / 2) s (column + side / 2) (row + side / 2)))
    ∙ ap (λ whole. live_cells side whole column row) (sym is)

-- ---- blocks of a square of level 3

abbrev pub block_of : ℕ → ℕ → ℕ → ℕ → StateSquare
block_of rows level column row = square_of level (seen_from column row (bits_of rows))

pub block_four : (rows level column row half : ℕ) → 1 ≤ level → half ≡ 2 ^ (level - 1) →
    block_of rows level column row ≡ Four (block_of rows (level - 1) (column + 0) (row + 0)) (block_of rows (level - 1) (column + half) (row + 0)) (block_of rows (level - 1) (column + 0) (row + half)) (block_of rows (level - 1) (column + half) (row + half))
block_four rows level column row half some is =
    let c : column ≡ column + 0 = omega arith in
    let d : row ≡ row + 0 = omega arith in
    let level_is : level ≡ suc (level - 1) = omega (arith, some) in
    block_parts (level - 1) level column row (bits_of rows) level_is
    ∙ (λ i. Four (block_of rows (level - 1) (c i) (d i)) (block_of rows (level - 1) (column + sym is i) (row + 0)) (block_of rows (level - 1) (column + 0) (row + sym is i)) (block_of rows (level - 1) (column + sym is i) (row + sym is i)))

pub block_cell : (rows level column row : ℕ) → level ≡ 0 → block_of rows level column row ≡ CellSquare (bit_at rows (8 * row + column))
unfolding square_of
block_cell rows level column row e =
    let at : 8 * (row + 0) + (column + 0) ≡ 8 * row + column = omega arith in
    rw (e, at) refl

bit_population : (bit : ℕ) → bit < 2 → bit ≡ population (CellSquare bit)
bit_population zero small = refl
bit_population (suc zero) small = refl
bit_population (suc (suc n)) small = absurd (omega (arith, small))

pub cell_population : (rows level column row : ℕ) → level ≡ 0 → bit_at rows (8 * row + column) ≡ population (block_of rows level column row)
cell_population rows level column row e = bit_population (bit_at rows (8 * row + column)) (bit_at-lt rows (8 * row + column)) ∙ ap population (sym (block_cell rows level column row e))

pub block_population : (rows level column row half nw ne sw se : ℕ) → 1 ≤ level → half ≡ 2 ^ (level - 1) →
    nw ≡ population (block_of rows (level - 1) (column + 0) (row + 0)) → ne ≡ population (block_of rows (level - 1) (column + half) (row + 0)) →
    sw ≡ population (block_of rows (level - 1) (column + 0) (row + half)) → se ≡ population (block_of rows (level - 1) (column + half) (row + half)) →
    (nw + ne) + (sw + se) ≡ population (block_of rows level column row)
block_population rows level column row half nw ne sw se some is a b c d = (λ i. (a i + b i) + (c i + d i)) ∙ ap population (sym (block_four rows level column row half some is))

-- the whole of it
pub whole_block : (rows : ℕ) → block_of rows 3 0 0 ≡ square_of_bits rows
whole_block rows = same_square 3 (seen_from 0 0 (bits_of rows)) (λ u v. bit_at rows (8 * v + u)) (λ u v hu hv. (let e : 8 * (0 + v) + (0 + u) ≡ 8 * v + u = omega arith in ap (bit_at rows) e))

-- ---- answers of calls

-- the refusal that a call answers is the one that it was told
pub told : {A F : Type 0} (r : Result A F) (x : F) (P : F → Type 0) → IsErrAnd r (λ e. e ≡ x) → P x → IfErr r P
told (Ok a) x P h p = tt
told (Err e) x P h p = subst P (sym h) p

pub on_ok : {A F : Type 0} (r : Result A F) (P Q : Type 0) → (P → Q) → OnOk r P → OnOk r Q
on_ok (Ok a) P Q f h = f h
on_ok (Err e) P Q f h = tt

pub if_err : {A F : Type 0} (r : Result A F) (P Q : F → Type 0) → ((e : F) → P e → Q e) → IfErr r P → IfErr r Q
if_err (Ok a) P Q f h = tt
if_err (Err e) P Q f h = f e h

-- ---- blocks in areas

abbrev pub cells_in_block : ℕ → Block → Area → List LiveCell
cells_in_block rows k m = live_cells m.side (block_of rows k.level k.column k.row) m.column m.row

pub moved_found : (a b : FoundCells) (rows : ℕ) (k k' : Block) (m m' : Area) → k ≡ k' → m ≡ m' → HasFound a b (cells_in_block rows k m) → HasFound a b (cells_in_block rows k' m')
moved_found a b rows k k' m m' e f h = subst (λ xs. HasFound a b xs) (λ i. cells_in_block rows (e i) (f i)) h

pub moved_refused : (half rows : ℕ) (k k' : Block) (m m' : Area) (f : ListingFault) → k ≡ k' → m ≡ m' → IsRefusedAt half (cells_in_block rows k m) f → IsRefusedAt half (cells_in_block rows k' m') f
moved_refused half rows k k' m m' fault e f h = subst (λ xs. IsRefusedAt half xs fault) (λ i. cells_in_block rows (e i) (f i)) h

pub block_lists : (rows : ℕ) (k : Block) (m : Area) (half : ℕ) → 1 ≤ k.level → half ≡ 2 ^ (k.level - 1) →
    live_in_four m.side (block_of rows (k.level - 1) (k.column + 0) (k.row + 0)) (block_of rows (k.level - 1) (k.column + half) (k.row + 0)) (block_of rows (k.level - 1) (k.column + 0) (k.row + half)) (block_of rows (k.level - 1) (k.column + half) (k.row + half)) m.column m.row
    ≡ cells_in_block rows k m
block_lists rows k m half some is = four_lists m.side _ _ _ _ (block_of rows k.level k.column k.row) m.column m.row (block_four rows k.level k.column k.row half some is)

-- a block of one state
cell_by : (side s column row : ℕ) → (s ≡ 0 → ⊥) → live_cells side (CellSquare s) column row ≡ record { column = column; row = row; state = s } ∷ []
cell_by side s column row some = rw (ne_eqb s 0 some) refl

pub one_live : (rows : ℕ) (k : Block) (m : Area) → k.level ≡ 0 → (bit_at rows (8 * k.row + k.column) ≡ 0 → ⊥) →
    record { column = m.column; row = m.row; state = bit_at rows (8 * k.row + k.column) } ∷ [] ≡ cells_in_block rows k m
one_live rows k m e some = sym (ap (λ q. live_cells m.side q m.column m.row) (block_cell rows k.level k.column k.row e) ∙ cell_by m.side (bit_at rows (8 * k.row + k.column)) m.column m.row some)

pub none_live : (rows : ℕ) (k : Block) (m : Area) → k.level ≡ 0 → bit_at rows (8 * k.row + k.column) ≡ 0 → [] ≡ cells_in_block rows k m
none_live rows k m e none = sym (ap (λ q. live_cells m.side q m.column m.row) (block_cell rows k.level k.column k.row e) ∙ rw none refl)

-- ---- how many states of a block are not 0

pub four_powers : (level : ℕ) → level ≤ 3 → 4 ^ level ≤ 64
four_powers zero h = omega arith
four_powers (suc zero) h = omega arith
four_powers (suc (suc zero)) h = omega arith
four_powers (suc (suc (suc zero))) h = omega arith
four_powers (suc (suc (suc (suc n)))) h = absurd (omega (arith, h))

pub most_four : (level a b c d : ℕ) → 1 ≤ level → a ≤ 4 ^ (level - 1) → b ≤ 4 ^ (level - 1) → c ≤ 4 ^ (level - 1) → d ≤ 4 ^ (level - 1) → (a + b) + (c + d) ≤ 4 ^ level
most_four level a b c d some ha hb hc hd =
    let whole : 4 ^ level ≡ 4 ^ (level - 1) * 4 = (let e : level ≡ suc (level - 1) = omega (arith, some) in ap (λ l. 4 ^ l) e ∙ pow-suc 4 (level - 1)) in
    omega (arith, whole, ha, hb, hc, hd)

-- ---- squares in areas

abbrev pub cells_in : StateSquare → Area → List LiveCell
cells_in q m = live_cells m.side q m.column m.row

pub area_found : (a b : FoundCells) (q : StateSquare) (m m' : Area) → m ≡ m' → HasFound a b (cells_in q m) → HasFound a b (cells_in q m')
area_found a b q m m' e h = subst (λ m. HasFound a b (cells_in q m)) e h

pub area_refused : (half : ℕ) (q : StateSquare) (m m' : Area) (f : ListingFault) → m ≡ m' → IsRefusedAt half (cells_in q m) f → IsRefusedAt half (cells_in q m') f
area_refused half q m m' f e h = subst (λ m. IsRefusedAt half (cells_in q m) f) e h
