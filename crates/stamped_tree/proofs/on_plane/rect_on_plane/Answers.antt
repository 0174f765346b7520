use Rattle.std.proofs.Common.{◌≡◌, rules}
use Rattle.stamped_tree.specs.Plane.{from_edge}
use Rattle.stamped_tree.proofs.OnPlaneLaws.{rect_columns}
use Rattle.stamped_tree.proofs.on_plane.rect_on_plane.Goals as goal

pub returns : goal.returns
returns c =
    let left : c.columns_from_edge-left.result ≡ from_edge c.args.rect.x = search rules in
    let top : c.columns_from_edge-top.result ≡ from_edge c.args.rect.y = search rules in
    λ u v hu hv. rw (left, top) (rect_columns c.args.rect u v c.requires)
