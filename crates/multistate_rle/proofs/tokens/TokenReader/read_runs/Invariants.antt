use Rattle.std.proofs.Common.{◌≡◌, ◌-◌, length}
use Rattle.std.specs.Prelude.{Ok}
use Rattle.multistate_rle.specs.declared.line.LineProgress.TheVariants.{Inside}
use Rattle.multistate_rle.specs.Reading.{fresh}
use Rattle.multistate_rle.specs.Steps.{ReadsOn}
use Rattle.multistate_rle.proofs.tokens.TokenReader.read_runs.Given as goal

abbrev pub invariant-loop-next : goal.invariant-loop-next
invariant-loop-next l = record {
  begun : l.self.begun ≡ fresh;
  reads : ReadsOn Inside l.text l.start l.fn.self (Ok l.place) l.self;
}

abbrev pub decreases-loop-next : goal.decreases-loop-next
decreases-loop-next l = length l.text - l.place
