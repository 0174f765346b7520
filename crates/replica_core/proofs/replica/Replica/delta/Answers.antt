use Rattle.std.proofs.Common.{subst}
use Rattle.std.specs.Prelude.{take, drop}
use Rattle.delta_exchange.specs.Delta.{AreTellable}
use Rattle.replica_core.proofs.ExchangeLaws.{entries_tellable}
use Rattle.replica_core.proofs.replica.Replica.delta.Goals as goal

pub returns-clause-edits : goal.returns-clause-edits
returns-clause-edits c =
    subst (λ r. AreTellable r.rule.states (take c.args.count (drop c.args.from r.journal))) c.self.view_is
    (entries_tellable c.self.inside.rule.states c.args.from c.args.count c.self.inside.journal c.ranges.count.fits
    c.self.invariant.journal.edits c.self.invariant.noted)

pub returns-in_err-write_delta-clause-edits : goal.returns-in_err-write_delta-clause-edits
returns-in_err-write_delta-clause-edits c =
    subst (λ r. AreTellable r.rule.states (take c.args.count (drop c.args.from r.journal))) c.self.view_is
    (entries_tellable c.self.inside.rule.states c.args.from c.args.count c.self.inside.journal c.ranges.count.fits
    c.self.invariant.journal.edits c.self.invariant.noted)
