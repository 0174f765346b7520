use Rattle.std.proofs.Common.{◌≡◌, ◌∙◌, ap, ◌++◌, arith, append_assoc, append-nil}
use Rattle.generations_rule.proofs.SetLaws.{text_below, text_none, text_more, text_whole}
use Rattle.macrocell_lines.proofs.name.push_survivals.Goals as goal
use Rattle.macrocell_lines.proofs.name.push_survivals.Goals.{then-survives+in_ok-push, else-survives}

pub loop-n-init : goal.loop-n-init
loop-n-init c = rw (text_none c.args.rule.now.survival, append-nil)

pub loop-n-preserved : goal.loop-n-preserved
loop-n-preserved c = elim c.if-survives.branch [ then-survives+in_ok-push w ↦ grind (arith, text_more, append_assoc, append-nil) | else-survives w ↦ grind (arith, text_more, append_assoc, append-nil) ]

pub returns : goal.returns
returns c = rw (text_whole c.args.rule.now.survival) (let e : c.loop-n.n ≡ 9 = omega arith in c.loop-n.invariant ∙ ap (λ n. c.args.name.now.items ++ text_below c.args.rule.now.survival n) e)
