use Rattle.std.proofs.Common.{◌≡◌, List, sym, subst, ◌∙◌, ap}
use Rattle.pattern_cells.specs.declared.cell.Cell.{Cell}
use Rattle.std.specs.Prelude.{filter}
use Rattle.edit_stamps.specs.Making.{settled}
use Rattle.stamped_tree.specs.Plane.{map_of}
use Rattle.cell_changes.specs.Changes.{AreChanges}
use Rattle.cell_changes.specs.Put.{has_changed}
use Rattle.cell_changes.proofs.Lists.{if_ok}
use Rattle.cell_changes.proofs.Changing.{were_changes}
use Rattle.cell_changes.proofs.watched.Watched.earlier.Goals as goal

pub returns : goal.returns
returns c =
    let after = map_of c.args.now.now in
    let told : c.in_ok-outdated.outdated.items ≡ filter (has_changed after) c.args.self.now =
    c.in_ok-outdated.ensures ∙ ap (λ (cells : List Cell). filter (has_changed after) cells) (c.deref.ensures.value ∙ c.self.view_is) in
    if_ok c.settled_cells.result (λ ordered e before are. subst (λ cells. AreChanges after before cells) (sym (e ∙ ap settled told)) (were_changes c.args.self.now before after are)) c.settled_cells.ensures
