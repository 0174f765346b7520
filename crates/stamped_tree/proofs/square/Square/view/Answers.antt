use Rattle.std.proofs.Common.{arith, refl}
use Rattle.stamped_tree.proofs.Parts.{part_held, four_by_parts}
use Rattle.stamped_tree.proofs.square.Square.view.Goals as goal

pub at-requires : goal.at-requires
at-requires c = part_held c.self.inside.store.now c.in-Four.level _ c.in-Four.parts c.in-Four.ensures 0 _ (omega arith)

pub at-requires-in-Four : goal.at-requires-in-Four
at-requires-in-Four c = part_held c.self.inside.store.now c.in-Four.level _ c.in-Four.parts c.in-Four.ensures 1 _ (omega arith)

pub at-requires-in-Four-2 : goal.at-requires-in-Four-2
at-requires-in-Four-2 c = part_held c.self.inside.store.now c.in-Four.level _ c.in-Four.parts c.in-Four.ensures 2 _ (omega arith)

pub at-requires-in-Four-3 : goal.at-requires-in-Four-3
at-requires-in-Four-3 c = part_held c.self.inside.store.now c.in-Four.level _ c.in-Four.parts c.in-Four.ensures 3 _ (omega arith)

pub returns-in-Blank : goal.returns-in-Blank
returns-in-Blank c = rw (← c.self.view_is) c.in-Blank.ensures

pub returns-in-Four : goal.returns-in-Four
returns-in-Four c =
    let four = four_by_parts c.self.inside.store.now c.in-Four.level _ c.in-Four.parts c.in-Four.ensures _ _ _ _ in
    rw (c.at.ensures, c.at-in-Four.ensures, c.at-in-Four-2.ensures, c.at-in-Four-3.ensures, ← c.self.view_is) (record { level = c.in-Four.level; four = four; nw_store = refl; ne_store = refl; sw_store = refl; se_store = refl })
