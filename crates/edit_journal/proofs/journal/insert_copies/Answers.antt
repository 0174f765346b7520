use Rattle.std.proofs.Common.{◌≡◌, ◌∷◌, [], ◌∙◌, subst}
use Rattle.edit_stamps.specs.Edit.{PlaneEdit}
use Rattle.edit_journal.specs.Journal.{noted}
use Rattle.edit_journal.proofs.SeenEdits.{noted_next, one_seen, still_begins}
use Rattle.edit_journal.proofs.journal.insert_copies.Goals as goal

pub loop-edit-preserved : goal.loop-edit-preserved
loop-edit-preserved c =
    let before = c.loop-edit.journal.keys in
    let after = c.insert.new.self.keys in
    let item = c.edit-item.result in
    let next : after ≡ noted before (item ∷ []) = subst (λ (e : PlaneEdit). after ≡ noted before (e ∷ [])) c.in_ok-copy.ensures c.in_ok-insert.ensures.keys in
    record {
      noted = noted_next before after c.args.edits.now c.loop-edit.edit-index item c.loop-edit-test.true c.edit-item.is next ∙ c.loop-edit.invariant.noted;
      seen = one_seen c.args.edits.now c.loop-edit.edit-index item c.edit-item.is c.loop-edit-test.true c.listed_cells-listed.ensures.edit c.loop-edit.invariant.seen;
      begins = still_begins c.args.journal.now.keys before after item next c.loop-edit.invariant.begins;
    }
