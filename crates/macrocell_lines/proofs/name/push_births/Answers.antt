use Rattle.std.proofs.Common.{◌≡◌, ◌∙◌, ap, ◌++◌, arith, append_assoc, append-nil}
use Rattle.generations_rule.proofs.SetLaws.{text_below, text_none, text_more, text_whole}
use Rattle.macrocell_lines.proofs.name.push_births.Goals as goal
use Rattle.macrocell_lines.proofs.name.push_births.Goals.{then-born+in_ok-push, else-born}

pub loop-n-init : goal.loop-n-init
loop-n-init c = rw (text_none c.args.rule.now.birth, append-nil)

pub loop-n-preserved : goal.loop-n-preserved
loop-n-preserved c = elim c.if-born.branch [ then-born+in_ok-push w ↦ grind (arith, text_more, append_assoc, append-nil) | else-born w ↦ grind (arith, text_more, append_assoc, append-nil) ]

pub returns : goal.returns
returns c = rw (text_whole c.args.rule.now.birth) (let e : c.loop-n.n ≡ 9 = omega arith in c.loop-n.invariant ∙ ap (λ n. c.args.name.now.items ++ text_below c.args.rule.now.birth n) e)
