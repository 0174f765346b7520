use Rattle.std.proofs.Common.{rules}
use Rattle.std.proofs.lemmas.Fn.{dedup_same}
use Rattle.std.proofs.lemmas.List.Sorted.{answers_always}
use Rattle.edit_stamps.proofs.SettleLaws.{key, same_key, settles}
use Rattle.cell_changes.proofs.settling.settled_cells.Goals as goal

pub returns : goal.returns
returns c =
    settles c.args.cells.items c.reverse.new.self.items c.sort_by_key.new.self.items c.dedup_by_key.new.self.items
    (search rules)
    (c.in_ok-sort_by_key.ensures.sorted key (answers_always _ _ _ (λ f a r g h. search rules)))
    (c.sort_by_key.ensures.stable key (answers_always _ _ _ (λ f a r g h. search rules)))
    (dedup_same _ same_key _ (λ x y b f x2 y2 k. search rules) _ _ c.dedup_by_key.ensures.filtered)
