use Rattle.stamped_tree.proofs.Shown.{shows_its_tree, show_same_where_same}
use Rattle.stamped_tree.proofs.TreeLaws.{one_tree, one_map}
use Rattle.stamped_tree.proofs.plane.Plane.plane_laws.Goals as goal

pub returns-clause-shows : goal.returns-clause-shows
returns-clause-shows c = rw (← c.self.view_is) (shows_its_tree _ c.store_laws.ensures.store c.self.invariant.root)

pub returns-clause-same : goal.returns-clause-same
returns-clause-same c = rw (← c.self.view_is, ← c.other.view_is)
    (show_same_where_same _ _ (shows_its_tree _ c.store_laws.ensures.store c.self.invariant.root) (shows_its_tree _ c.store_laws-2.ensures.store c.other.invariant.root))

pub returns-clause-one_tree : goal.returns-clause-one_tree
returns-clause-one_tree c = one_tree

pub returns-clause-one_map : goal.returns-clause-one_map
returns-clause-one_map c = one_map
