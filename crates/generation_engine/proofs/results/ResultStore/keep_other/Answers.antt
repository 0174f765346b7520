use Rattle.generation_engine.specs.Kept.{AreKept, IsKept}
use Rattle.generation_engine.proofs.KeptLaws.{kept_more}
use Rattle.generation_engine.proofs.results.ResultStore.keep_other.Goals.{in-Ok, in-Err}
use Rattle.generation_engine.proofs.results.ResultStore.keep_other.Goals as goal

pub invariant_of-self : goal.invariant_of-self
invariant_of-self c =
    let asked : IsKept c.args.self.now.rule c.args.self.now.store (record { level = c.args.level; part = c.args.part; exponent = c.args.exponent }) c.args.later =
    record { stands = c.requires.stands; later = c.requires.later } in
    let is : IsKept c.self.inside.rule c.self.inside.store (record { level = c.args.level; part = c.args.part; exponent = c.args.exponent }) c.args.later = rw (← c.self.view_is) at asked in
    elim c.match-insert.branch [
      | in-Ok w ↦ kept_more _ _ _ _ _ (record { level = c.args.level; part = c.args.part; exponent = c.args.exponent }) c.args.later c.self.invariant is w.in-Ok.ensures.updates.0
      | in-Err w ↦ (let same = w.in-Err.ensures.err in let are : AreKept c.self.inside.rule c.self.inside.store c.self.inside.store.firsts c.insert.new.self = record { rule = c.self.invariant.rule; first = c.self.invariant.first; other = λ key q e. c.self.invariant.other key q (rw same at e) } in are)
    ]
