use Rattle.std.proofs.Common.{◌≡◌, ◌∙◌, ap, ◌++◌, arith, append_assoc, append-nil}
use Rattle.generations_rule.proofs.SetLaws.{text_below, text_none, text_more, text_whole}
use Rattle.generations_rule.proofs.text.push_set.Goals as goal
use Rattle.generations_rule.proofs.text.push_set.Goals.{then-set-from+in_ok-push, else-set-from}

pub loop-n-init : goal.loop-n-init
loop-n-init c = rw (text_none c.args.set.now, append-nil)

pub loop-n-preserved : goal.loop-n-preserved
loop-n-preserved c = elim c.if-set-from.branch [ then-set-from+in_ok-push w ↦ grind (arith, text_more, append_assoc, append-nil) | else-set-from w ↦ grind (arith, text_more, append_assoc, append-nil) ]

pub returns : goal.returns
returns c = rw (text_whole c.args.set.now) (let e : c.loop-n.n ≡ 9 = omega arith in c.loop-n.invariant ∙ ap (λ n. c.args.text.now.items ++ text_below c.args.set.now n) e)
