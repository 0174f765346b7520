use Rattle.std.proofs.Common.{◌≡◌, ◌<◌, ◌+◌, ◌++◌, ◌∷◌, [], length, Some, sym, ap, subst, ◌∙◌, arith, slice_get, take}
use Rattle.std.proofs.lemmas.List.{length-append}
use Rattle.board.specs.declared.entry.Entry.{Entry}
use Rattle.board_keeper.specs.Kept.{AreMade}
use Rattle.board_keeper.proofs.Doing.{one_made}
use Rattle.board_keeper.proofs.keeper.write_bodies.Goals as goal

pub loop-at-preserved : goal.loop-at-preserved
loop-at-preserved g c =
    let a = c.args.relay.now in
    let bodies = c.loop-at.bodies.items in
    let v = c.in_ok-body.body in
    let e : Entry = c.in-Some.entry.now in
    let pushed : c.push.new.self.items ≡ bodies ++ v ∷ [] = c.in_ok-push.ensures.items in
    let many : length bodies ≡ c.loop-at.at = c.loop-at.invariant.1 in
    let lt : length bodies < a.ready = omega (arith, many, c.loop-at-test.true, c.count_ready-at-end.ensures) in
    let here : slice_get (take a.ready a.kept) (length bodies) ≡ Some e = ap (λ n. slice_get (take a.ready a.kept) n) many ∙ sym c.in-Some.ensures in
    let made : AreMade c.args.rule.now a.kept a.ready (bodies ++ v ∷ []) = one_made c.args.rule.now a.kept a.ready bodies v e c.loop-at.invariant.0 lt here c.in_ok-body.ensures.text c.in_ok-body.ensures.short in
    (subst (AreMade c.args.rule.now a.kept a.ready) (sym pushed) made, ap length pushed ∙ length-append bodies (v ∷ []) ∙ ap (λ n. n + 1) many)
