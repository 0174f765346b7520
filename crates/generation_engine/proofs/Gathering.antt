-- Cells of the middle that are gathered, from those of its parts.
use Rattle.std.proofs.Common.{ℕ, ◌<◌, List, arith}
use Rattle.std.specs.Prelude.{slice_index_or}
use Rattle.std.proofs.lemmas.List.{get_or_default}
use Rattle.square_store.specs.Squares.{Held, grid_at}
use Rattle.stamped_tree.specs.declared.cells.ListedCell.{ListedCell}
use Rattle.stamped_tree.specs.Walk.{IsNonzeroCell, Gathers}
use Rattle.stamped_tree.proofs.Gathering.{gathers_four}
use Rattle.generation_engine.specs.declared.leaf_kind.EngineLeaf.{EngineLeaf}
use Rattle.generation_engine.specs.EngineLeaf.{leaf_grid}
use Rattle.generation_engine.specs.Walk.{AreMiddleParts, middle_grid}

-- the middle of a root, by its four parts
pub gathers_middle : (s : Held EngineLeaf) (root : ℕ) (parts : List ℕ) (ra rb rc rd : ℕ) (l0 l1 l2 l3 l4 : List ListedCell) → AreMiddleParts s 30 root parts
    → Gathers (IsNonzeroCell 2147483648 (grid_at leaf_grid 8 s 28 (slice_index_or parts 0 ra)) 0 0) l0 l1 → Gathers (IsNonzeroCell 2147483648 (grid_at leaf_grid 8 s 28 (slice_index_or parts 1 rb)) 2147483648 0) l1 l2
    → Gathers (IsNonzeroCell 2147483648 (grid_at leaf_grid 8 s 28 (slice_index_or parts 2 rc)) 0 2147483648) l2 l3 → Gathers (IsNonzeroCell 2147483648 (grid_at leaf_grid 8 s 28 (slice_index_or parts 3 rd)) 2147483648 2147483648) l3 l4
    → Gathers (IsNonzeroCell 4294967296 (middle_grid s root) 0 0) l0 l4
gathers_middle s root parts ra rb rc rd l0 l1 l2 l3 l4 mid ga gb gc gd =
    let at_part = λ (i r : ℕ) (l : i < 4). get_or_default parts i r 0 (let h = mid.four in omega (arith, l, h)) in
    let at = λ (q : ℕ). grid_at leaf_grid 8 s 28 q in
    let a = slice_index_or parts 0 ra in let b = slice_index_or parts 1 rb in let c = slice_index_or parts 2 rc in let d = slice_index_or parts 3 rd in
    gathers_four 2147483648 (at a) (at b) (at c) (at d) (middle_grid s root) 0 0
    (λ u v hu hv. rw (at_part 0 ra (omega arith), at_part 1 rb (omega arith), at_part 2 rc (omega arith), at_part 3 rd (omega arith)) (mid.same u v (omega (arith, hu)) (omega (arith, hv))))
    l0 l1 l2 l3 l4 ga gb gc gd
