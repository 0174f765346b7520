use Rattle.std.proofs.Common.{◌≡◌, ◌∙◌, ap, refl, ℕ, ◌+◌, ◌<◌, List, ◌∷◌, length, drop, get_or, drop-cons, add-one}
use Rattle.std.specs.Prelude.{Bool, ◌&&◌}
use Rattle.generations_rule.specs.Place.{is_before}
use Rattle.pattern_cells.specs.declared.cell.Cell.{Cell}
use Rattle.pattern_cells.specs.Cells.{is_sorted, place_of}
use Rattle.tile_cells.proofs.order.are_sorted_behind.Goals as goal

-- how the next cell stands behind the last, and then the rest
next_behind : (last : Cell) (cells : List Cell) (i : ℕ) (none : Cell) (before : Bool) → i < length cells → before ≡ is_before (place_of last) (place_of (get_or cells i none)) →
    before && is_sorted (get_or cells i none ∷ drop (i + 1) cells) ≡ is_sorted (last ∷ drop i cells)
next_behind last cells i none before within is =
    ap (λ before. before && is_sorted (get_or cells i none ∷ drop (i + 1) cells)) is ∙ rw (add-one, drop-cons cells i none) refl

pub returns-then-not-precedes : goal.returns-then-not-precedes
returns-then-not-precedes c = next_behind c.loop-cell.last c.args.rest.now c.loop-cell.cell-index _ _ c.loop-cell-test.true c.if-not-precedes.ensures ∙ c.loop-cell.invariant

pub loop-cell-preserved : goal.loop-cell-preserved
loop-cell-preserved c = next_behind c.loop-cell.last c.args.rest.now c.loop-cell.cell-index _ _ c.loop-cell-test.true c.if-not-precedes.ensures ∙ c.loop-cell.invariant
