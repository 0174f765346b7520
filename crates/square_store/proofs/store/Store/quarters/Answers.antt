use Rattle.square_store.proofs.Places.{at_within}
use Rattle.square_store.proofs.Drawn.{blank_cut}
use Rattle.square_store.proofs.store.Store.quarters.Goals as goal

pub square-requires : goal.square-requires
square-requires g c = at_within c.args.self.now c.args.level c.args.part c.requires.stands

pub returns-in-Blank : goal.returns-in-Blank
returns-in-Blank g c = blank_cut g.L.LeafKind.write g.L.LeafKind.side c.args.self.now c.in-Blank.field-0 c.args.level c.args.part c.requires.level c.in-Blank.ensures
