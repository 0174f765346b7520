-- How far the live cells of blocks of bits reach.
use Rattle.std.proofs.Common.{◌≡◌, ℕ, zero, suc, ◌+◌, ◌-◌, ◌*◌, ◌^◌, ◌<◌, ◌≤◌, arith, refl, sym, ap, subst, ◌∙◌}
use Rattle.std.specs.Int.{bit_at}
use Rattle.macrocell_lines.specs.Squares.{StateSquare, Cell, Four, seen_from, square_of}
use Rattle.macrocell_lines.proofs.States.{is_square, same_square}
use Rattle.macrocell_text.specs.LiveCells.{bits_of}
use Rattle.macrocell_universes.specs.declared.block.Block.{Block}
use Rattle.macrocell_universes.specs.declared.reach.Reach.{Reach}
use Rattle.macrocell_universes.specs.Reaches.{Fits, IsReach, cell_reach, joined}
use Rattle.macrocell_universes.proofs.ReachLaws.{fits, four_reach, one_cell}

abbrev pub block_of : ℕ → Block → StateSquare
block_of rows b = square_of b.level (seen_from b.column b.row (bits_of rows))

pub block_cell : (rows s : ℕ) (b : Block) (r : Reach) → b.level ≡ 0 → s ≡ bit_at rows (8 * b.row + b.column) → r ≡ cell_reach s → IsReach b.level (block_of rows b) r
unfolding square_of
block_cell rows s b r none state is =
    let x : b.column ≡ b.column + 0 = omega arith in
    let y : b.row ≡ b.row + 0 = omega arith in
    let same : s ≡ bit_at rows (8 * (b.row + 0) + (b.column + 0)) = state ∙ (λ i. bit_at rows (8 * y i + x i)) in
    subst (λ l. IsReach l (square_of l (seen_from b.column b.row (bits_of rows))) r) (sym none)
    (subst (λ q. IsReach 0 (Cell q) r) same (subst (IsReach 0 (Cell s)) (sym is) (one_cell s)))

abbrev pub quarter_of : Block → ℕ → ℕ → Block
quarter_of b columns rows = record { level = b.level - 1; column = b.column + columns; row = b.row + rows }

pub block_four : (rows half : ℕ) (b x y z w : Block) (ra rb rc rd : Reach) → 1 ≤ b.level → half ≡ 2 ^ (b.level - 1)
    → x ≡ quarter_of b 0 0 → y ≡ quarter_of b half 0 → z ≡ quarter_of b 0 half → w ≡ quarter_of b half half
    → IsReach x.level (block_of rows x) ra → IsReach y.level (block_of rows y) rb → IsReach z.level (block_of rows z) rc → IsReach w.level (block_of rows w) rd
    → IsReach b.level (block_of rows b) (joined half ra rb rc rd)
unfolding square_of
block_four rows half b x y z w ra rb rc rd some is ex ey ez ew ha hb hc hd =
    let k : ℕ = b.level - 1 in
    let up : suc k ≡ b.level = omega (arith, some) in
    let B = bits_of rows in
    let f = seen_from b.column b.row B in
    let a = square_of k f in
    let sa : block_of rows (quarter_of b 0 0) ≡ square_of k f = same_square k (seen_from (b.column + 0) (b.row + 0) B) f (λ u v hu hv.
    let p : b.column + 0 + u ≡ b.column + u = omega arith in let q : b.row + 0 + v ≡ b.row + v = omega arith in λ i. B (p i) (q i)) in
    let sb : block_of rows (quarter_of b half 0) ≡ square_of k (seen_from (2 ^ k) 0 f) = same_square k (seen_from (b.column + half) (b.row + 0) B) (seen_from (2 ^ k) 0 f) (λ u v hu hv.
    let p : b.column + half + u ≡ b.column + (2 ^ k + u) = omega (arith, is) in let q : b.row + 0 + v ≡ b.row + (0 + v) = omega arith in λ i. B (p i) (q i)) in
    let sc : block_of rows (quarter_of b 0 half) ≡ square_of k (seen_from 0 (2 ^ k) f) = same_square k (seen_from (b.column + 0) (b.row + half) B) (seen_from 0 (2 ^ k) f) (λ u v hu hv.
    let p : b.column + 0 + u ≡ b.column + (0 + u) = omega arith in let q : b.row + half + v ≡ b.row + (2 ^ k + v) = omega (arith, is) in λ i. B (p i) (q i)) in
    let sd : block_of rows (quarter_of b half half) ≡ square_of k (seen_from (2 ^ k) (2 ^ k) f) = same_square k (seen_from (b.column + half) (b.row + half) B) (seen_from (2 ^ k) (2 ^ k) f) (λ u v hu hv.
    let p : b.column + half + u ≡ b.column + (2 ^ k + u) = omega (arith, is) in let q : b.row + half + v ≡ b.row + (2 ^ k + v) = omega (arith, is) in λ i. B (p i) (q i)) in
    let moved : (c d : Block) (s : StateSquare) (r : Reach) → c ≡ d → block_of rows d ≡ s → d.level ≡ k → IsReach c.level (block_of rows c) r → IsReach k s r =
    λ c d s r e same level reach. subst (λ l. IsReach l s r) level (subst (λ s'. IsReach d.level s' r) same (subst (λ (c' : Block). IsReach c'.level (block_of rows c') r) e reach)) in
    subst (λ l. IsReach l (square_of l f) (joined half ra rb rc rd)) up
    (subst (λ m. IsReach (suc k) (square_of (suc k) f) (joined m ra rb rc rd)) (sym is)
    (four_reach k (square_of k f) (square_of k (seen_from (2 ^ k) 0 f)) (square_of k (seen_from 0 (2 ^ k) f)) (square_of k (seen_from (2 ^ k) (2 ^ k) f)) (is_square (suc k) f) ra rb rc rd
    (moved x (quarter_of b 0 0) _ ra ex sa refl ha) (moved y (quarter_of b half 0) _ rb ey sb refl hb) (moved z (quarter_of b 0 half) _ rc ez sc refl hc) (moved w (quarter_of b half half) _ rd ew sd refl hd)))

pub quarter_fits : (rows half side : ℕ) (b x : Block) (columns lower : ℕ) (r : Reach) → half ≡ 2 ^ (b.level - 1) → side ≡ half → x ≡ quarter_of b columns lower → IsReach x.level (block_of rows x) r → Fits side r
quarter_fits rows half side b x columns lower r is same e reach =
    let down : 2 ^ x.level ≡ side = ap (λ (c : Block). 2 ^ c.level) e ∙ sym is ∙ sym same in
    subst (λ m. Fits m r) down (fits x.level (block_of rows x) r reach)
