use Rattle.std.proofs.Common.{subst}
use Rattle.generation_engine.specs.Window.{IsExtent}
use Rattle.macrocell_lines.proofs.Levels.{dead_level, window_level}
use Rattle.macrocell_lines.proofs.level.root_level.Goals as goal

pub returns-in-Some-clause-level : goal.returns-in-Some-clause-level
returns-in-Some-clause-level c = λ f is reach. window_level c.args.least c.level_of.result f c.in-Some.window (subst (λ w. IsExtent f w) c.in-Some.is is) c.level_of.ensures.least c.level_of.ensures.most reach c.level_of.ensures.inside c.level_of.ensures.no_less

pub returns-in-None-clause-level : goal.returns-in-None-clause-level
returns-in-None-clause-level c = λ f is reach. dead_level c.args.least f (subst (λ w. IsExtent f w) c.in-None.is is)
