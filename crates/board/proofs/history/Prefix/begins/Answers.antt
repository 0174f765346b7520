use Rattle.std.proofs.Common.{ap, subst, arith, List}
use mathlib.Core.List.{IsPrefix}
use Rattle.board.specs.declared.entry.Entry.{Entry}
use Rattle.board.proofs.Fronts.{prefix_shorter}
use Rattle.board.proofs.history.Prefix.begins.Goals as goal

pub returns-then-self-other-clause-begins : goal.returns-then-self-other-clause-begins
returns-then-self-other-clause-begins c =
    let both = c.learn.new.self.log in
    let this : IsPrefix c.args.self.now.seen.log both = subst (λ (l : List Entry). IsPrefix l both) (ap (λ s. s.log) c.again-both.ensures) c.learn.ensures.2 in
    prefix_shorter c.args.self.now.seen.log c.args.other.now.seen.log both this c.learn.ensures.3 (omega (arith, c.args.self.now.counted, c.args.other.now.counted))

pub returns-clause-begins : goal.returns-clause-begins
returns-clause-begins c =
    let both = c.learn.new.self.log in
    let this : IsPrefix c.args.self.now.seen.log both = subst (λ (l : List Entry). IsPrefix l both) (ap (λ s. s.log) c.again-both.ensures) c.learn.ensures.2 in
    prefix_shorter c.args.other.now.seen.log c.args.self.now.seen.log both c.learn.ensures.3 this (omega (arith, c.args.self.now.counted, c.args.other.now.counted))
