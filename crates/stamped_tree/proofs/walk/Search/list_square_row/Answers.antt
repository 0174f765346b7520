use Rattle.std.proofs.Common.{◌+◌, ◌++◌, map, sym, ap, ◌∙◌, arith}
use Rattle.square_store.proofs.Places.{at_within}
use Rattle.stamped_tree.specs.RowOrder.{square_row}
use Rattle.stamped_tree.specs.Sought.{seeks}
use Rattle.stamped_tree.specs.Walk.{cell_of_plane}
use Rattle.stamped_tree.proofs.BandLaws.{blank_row, leaf_row, row_listed_none}
use Rattle.stamped_tree.proofs.walk.Search.list_square_row.Goals as goal

pub square-requires : goal.square-requires
square-requires c = at_within c.args.self.now.store.now 0 c.args.square.now.at.part c.requires.square.stands

pub returns-in-Blank : goal.returns-in-Blank
returns-in-Blank c =
    let a = c.args in let s = a.self.now.store.now in let f = seeks a.self.now.sought.now in
    row_listed_none a.found.now.items (square_row s f 0 a.square.now.at a.row (a.top + a.row)) (blank_row s f 0 a.square.now.at c.in-Blank.field-0 a.row (a.top + a.row) c.in-Blank.ensures (let h = c.requires.row in omega (arith, h)))

pub returns-in_ok-list_leaf_row-in-Leaf : goal.returns-in_ok-list_leaf_row-in-Leaf
returns-in_ok-list_leaf_row-in-Leaf c =
    let a = c.args in let s = a.self.now.store.now in let f = seeks a.self.now.sought.now in
    c.in_ok-list_leaf_row-in-Leaf.ensures ∙ ap (λ cells. a.found.now.items ++ map cell_of_plane cells) (sym (leaf_row s f a.top a.square.now c.in-Leaf.leaf.now a.row c.requires.row c.requires.square c.in-Leaf.ensures))
