use Rattle.square_store.proofs.Places.{at_within}
use Rattle.stamped_tree.specs.Sought.{seeks}
use Rattle.stamped_tree.proofs.BandLaws.{put_none}
use Rattle.stamped_tree.proofs.walk.Search.push_quarter.Goals as goal

pub square-requires : goal.square-requires
square-requires c = at_within c.args.self.now.store.now c.args.rows.level c.args.quarter.part c.requires.stands

pub returns-in-Blank : goal.returns-in-Blank
returns-in-Blank c = put_none c.args.self.now.store.now (seeks c.args.self.now.sought.now) c.args.rows.level c.args.rows.top c.args.quarter c.in-Blank.field-0 c.args.band.now.items c.in-Blank.ensures
