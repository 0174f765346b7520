use Rattle.std.proofs.Common.{rules, w32, SFits}
use Rattle.std.proofs.lemmas.Int.{to_z-of_z}
use Rattle.generation_engine.proofs.WindowLaws.{window_region}
use Rattle.generation_engine.proofs.region.Region.of_window.Goals as goal

pub returns : goal.returns
returns c =
    let column : SFits w32 c.args.window.x = search rules in
    let row : SFits w32 c.args.window.y = search rules in
    window_region c.args.window c.from_middle_edge-left.result c.from_middle_edge-top.result _ _ (simp to_z-of_z at c.from_middle_edge-left.ensures) (simp to_z-of_z at c.from_middle_edge-top.ensures) c.from.ensures c.from-2.ensures
