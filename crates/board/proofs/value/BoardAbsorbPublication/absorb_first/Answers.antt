use Rattle.std.proofs.Common.{◌≡◌, List, [], ◌∷◌, ◌++◌, sym, ap, ◌∙◌, subst}
use Rattle.edit_stamps.specs.Edit.{greatest}
use Rattle.stamped_writes.specs.Write.{AreSame}
use Rattle.stamped_tree.specs.Plane.{map_of}
use Rattle.circular_buffer.specs.Buffer.{keep_last}
use Rattle.board.specs.declared.entry.Entry.{Entry}
use Rattle.board.specs.Entries.{edits_of, last_of}
use Rattle.board.proofs.Lists.{greatest_more, last_more}
use Rattle.board.proofs.value.BoardAbsorbPublication.absorb_first.Goals as goal

pub invariant_of-self-2 : goal.invariant_of-self-2
invariant_of-self-2 c =
    let e : Entry = c.args.operation.now.entry in
    let old : List Entry = c.self.inside.prefix.seen.log in
    let new : c.add-2.new.prefix.seen.log ≡ old ++ e ∷ [] = c.in-Ok-add.ensures.added in record {
      own = c.in-Ok-add.ensures.book ∙ c.self.invariant.own;
      plane = subst (λ (l : List Entry). AreSame (map_of c.set_root.new.self) (greatest (edits_of l))) (sym new)
          (greatest_more old e (map_of c.self.inside.plane) (map_of c.set_root.new.self) c.self.invariant.plane (λ at. c.set_root.ensures.map at ∙ (rw c.from_ref.ensures.value at c.in-Ok.ensures.joins.joins at)));
      room = c.set_root.ensures.room ∙ (c.in-Ok.ensures.before.room ∙ c.self.invariant.room);
      last = c.push.ensures ∙ ((λ i. keep_last 1024 (c.self.invariant.last i ++ c.in_ok-edit.ensures i ∷ [])) ∙ (last_more old e ∙ ap (λ (l : List Entry). last_of (edits_of l)) (sym new)));
    }
