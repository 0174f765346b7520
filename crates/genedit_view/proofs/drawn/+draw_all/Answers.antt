use Rattle.std.proofs.Common.{◌≡◌, ◌++◌, rules}
use Rattle.stamped_tree.specs.Plane.{map_of}
use Rattle.genedit_view.proofs.DrawnLaws.{behind_cells, drawn_both, front_cells, whole_of}
use Rattle.genedit_view.proofs.SeenLaws.{on_done}
use Rattle.genedit_view.proofs.drawn.+draw_all.Goals as goal

pub draw_all-requires : goal.draw_all-requires
draw_all-requires t c =
    let whole : c.args.cells.now ≡ c.split_at.result.0.now ++ c.split_at.result.1.now = whole_of 1048576 c.args.cells.now _ _ c.split_at.ensures.front c.split_at.ensures.back in
    (search rules, behind_cells c.args.rule.now c.args.cells.now c.split_at.result.0.now c.split_at.result.1.now whole c.requires)

pub draw_some-requires-2-clause-cells : goal.draw_some-requires-2-clause-cells
draw_some-requires-2-clause-cells t c =
    let whole : c.args.cells.now ≡ c.split_at.result.0.now ++ c.split_at.result.1.now = whole_of 1048576 c.args.cells.now _ _ c.split_at.ensures.front c.split_at.ensures.back in
    front_cells c.args.rule.now c.args.cells.now c.split_at.result.0.now c.split_at.result.1.now whole c.requires

pub returns : goal.returns
returns t c =
    let whole : c.args.cells.now ≡ c.split_at.result.0.now ++ c.split_at.result.1.now = whole_of 1048576 c.args.cells.now _ _ c.split_at.ensures.front c.split_at.ensures.back in
    on_done c.draw_some-2.result _ _ c.draw_some-2.ensures
    (λ drawn. drawn_both c.split_at.result.0.now c.split_at.result.1.now c.args.cells.now (map_of c.args.plane.now) (map_of c.draw_all.new.plane) (map_of c.draw_some-2.new.plane) whole c.in_ok-draw_all.ensures drawn)
