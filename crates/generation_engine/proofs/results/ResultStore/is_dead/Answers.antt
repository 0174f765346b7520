use Rattle.square_store.proofs.Places.{at_within}
use Rattle.generation_engine.proofs.KeptLaws.{blank_dead}
use Rattle.generation_engine.proofs.results.ResultStore.is_dead.Goals as goal

pub returns-in-Blank : goal.returns-in-Blank
returns-in-Blank c = λ h. rw (← c.self.view_is) (blank_dead c.self.inside.store c.in-Blank.field-0 c.args.part c.in-Blank.ensures)

pub square-requires : goal.square-requires
square-requires c = at_within c.self.inside.store c.args.level c.args.part (rw (← c.self.view_is) at c.requires)
