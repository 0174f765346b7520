use Rattle.generation_engine.proofs.Leaves.{not_blank}
use Rattle.generation_engine.proofs.leaf_kind.EngineLeafLeafKind.blank_stamp.Goals as goal

pub returns-else-is_dead-clause-blank : goal.returns-else-is_dead-clause-blank
returns-else-is_dead-clause-blank c = not_blank c.args.self.now c.is_dead.result c.is_dead.ensures.dead c.if-is_dead.false
