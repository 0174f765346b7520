use Rattle.std.proofs.Common.{◌≡◌, ◌++◌, ◌∷◌, [], List, Some, slice_get, ap, subst, sym, ◌∙◌}
use Rattle.board.specs.declared.entry.Entry.{Entry}
use mathlib.Core.List.{IsPrefix}
use Rattle.relay_board.specs.Seating.{Seating}
use Rattle.board_keeper.proofs.Loads.{same_entry}
use Rattle.board_keeper.proofs.loading.brought.Goals as goal

pub returns-then-begins-clause-published : goal.returns-then-begins-clause-published
returns-then-begins-clause-published g c =
    let old : List Entry = c.args.relay.now.list in
    let e : Entry = c.in-Ok-published.ensures.published.0 in
    let p : Entry = c.in-Ok.pending in
    let now : List Entry = c.published.new.relay.list in
    let seen : List Entry = c.learn.new.self.seen in
    let told : List Entry = c.in-Ok-try_receive.receipt.list in
    let list : now ≡ old ++ e ∷ [] = c.in-Ok-published.ensures.published.1 in
    let begun : IsPrefix now c.seat.result.now.seen = c.begins.ensures.exact.0 c.if-begins.true in
    let begins : IsPrefix now seen = subst (λ (s : Seating). IsPrefix now s.seen) c.seat.ensures begun in
    let here : slice_get told c.args.count ≡ Some p = ap (λ n. slice_get told n) (sym c.if-place-count.true) ∙ (c.place.ensures ∙ ap Some c.in-Ok-try_receive.ensures.receipt) in
    let same : e ≡ p = same_entry old seen told e p c.args.count (subst (λ (l : List Entry). IsPrefix l seen) list begins) c.learn.ensures.learnt.begins.1 here c.requires.count in
    let kept = c.learn.ensures.same.0.mine ∙ ap (λ (s : Seating). s.mine) c.try_receive.ensures.same in
    let put = c.in-Ok.ensures.put.1 ∙ ap (λ (l : List Entry). l ++ p ∷ []) c.requires.mine in
    kept ∙ (put ∙ (ap (λ (x : Entry). old ++ x ∷ []) (sym same) ∙ sym list))
