use Rattle.std.proofs.Common.{◌≡◌, ◌∙◌, ◌+◌, ◌≤◌, [], ◌∷◌, ◌++◌, length, length-append, ap, sym, subst, arith}
use Rattle.macrocell_universes.specs.Reaches.{AreReached}
use Rattle.macrocell_universes.proofs.reaches.reaches_of.Goals as goal

pub next_reach-reach-requires-clause-reaches : goal.next_reach-reach-requires-clause-reaches
next_reach-reach-requires-clause-reaches c = subst (AreReached c.args.entries.now) (sym c.deref.ensures.value) c.loop-reaches.invariant.1

pub loop-reaches-preserved : goal.loop-reaches-preserved
loop-reaches-preserved c =
    let items = c.in_ok-push.ensures.items in
    let low = c.loop-reaches.invariant.0 in (
      omega (arith, ap length items, length-append c.loop-reaches.reaches.items (c.next_reach-reach.result ∷ []), c.loop-reaches-test.true, c.len.ensures),
      subst (AreReached c.args.entries.now) (sym items) (subst (λ rs. AreReached c.args.entries.now (rs ++ c.next_reach-reach.result ∷ [])) c.deref.ensures.value c.next_reach-reach.ensures),
    )
