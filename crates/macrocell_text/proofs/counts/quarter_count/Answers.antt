use Rattle.std.proofs.Common.{◌∙◌, arith}
use Rattle.macrocell_text.proofs.Prefixes.{count_standing, nothing_stands}
use Rattle.macrocell_text.proofs.counts.quarter_count.Goals as goal

pub returns-then-number-eq0-clause-count : goal.returns-then-number-eq0-clause-count
returns-then-number-eq0-clause-count c = λ squares is. (let e = nothing_stands c.args.level c.args.number squares c.if-number-eq0.true in omega (arith, e))

pub returns-clause-count : goal.returns-clause-count
returns-clause-count c = λ squares is. c.count_at.ensures.count ∙ count_standing c.args.level c.args.number squares c.args.counts.now c.if-level-eq0.false c.if-number-eq0.false is
