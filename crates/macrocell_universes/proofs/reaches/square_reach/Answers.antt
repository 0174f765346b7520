use Rattle.std.proofs.Common.{◌≡◌, ◌∙◌, ◌≤◌, ◌-◌, ap, sym, subst, arith}
use Rattle.macrocell_universes.proofs.EntryReaches.{quarter_reached, quarters_reach, rows_reach, side_fits}
use Rattle.macrocell_universes.proofs.reaches.square_reach.Goals as goal

pub returns-in-Rows : goal.returns-in-Rows
returns-in-Rows c = rows_reach c.args.entries.now c.args.square c.in-Rows.rows c.block_reach.result c.in-Rows.ensures.0 c.in-Rows.ensures.1 c.block_reach.ensures

pub returns-in-Four : goal.returns-in-Four
returns-in-Four c =
    let es = c.args.entries.now in let rs = c.args.reaches.now in let q = c.args.square in let four = c.in-Four.four in let are = c.in-Four.ensures in
    quarters_reach es q four c.half_side.result c.reach_numbered-nw.result c.reach_numbered-ne.result c.reach_numbered-sw.result c.reach_numbered-se.result c.joined.result c.requires.above c.requires.is are c.half_side.ensures.half c.joined.ensures
    (quarter_reached es rs q c.quarter.result four.nw c.reach_numbered-nw.result c.quarter.ensures are.nw c.requires.reaches c.requires.few c.requires.count c.requires.above c.reach_numbered-nw.ensures)
    (quarter_reached es rs q c.quarter-in-Four.result four.ne c.reach_numbered-ne.result c.quarter-in-Four.ensures are.ne c.requires.reaches c.requires.few c.requires.count c.requires.above c.reach_numbered-ne.ensures)
    (quarter_reached es rs q c.quarter-in-Four-2.result four.sw c.reach_numbered-sw.result c.quarter-in-Four-2.ensures are.sw c.requires.reaches c.requires.few c.requires.count c.requires.above c.reach_numbered-sw.ensures)
    (quarter_reached es rs q c.quarter-in-Four-3.result four.se c.reach_numbered-se.result c.quarter-in-Four-3.ensures are.se c.requires.reaches c.requires.few c.requires.count c.requires.above c.reach_numbered-se.ensures)

pub joined-requires : goal.joined-requires
joined-requires c =
    let es = c.args.entries.now in let rs = c.args.reaches.now in let q = c.args.square in let four = c.in-Four.four in let are = c.in-Four.ensures in let half = c.half_side.ensures.half in
    record {
      side = c.half_side.ensures.most;
      nw = side_fits (q.level - 1) c.half_side.result _ c.reach_numbered-nw.result half (quarter_reached es rs q c.quarter.result four.nw c.reach_numbered-nw.result c.quarter.ensures are.nw c.requires.reaches c.requires.few c.requires.count c.requires.above c.reach_numbered-nw.ensures);
      ne = side_fits (q.level - 1) c.half_side.result _ c.reach_numbered-ne.result half (quarter_reached es rs q c.quarter-in-Four.result four.ne c.reach_numbered-ne.result c.quarter-in-Four.ensures are.ne c.requires.reaches c.requires.few c.requires.count c.requires.above c.reach_numbered-ne.ensures);
      sw = side_fits (q.level - 1) c.half_side.result _ c.reach_numbered-sw.result half (quarter_reached es rs q c.quarter-in-Four-2.result four.sw c.reach_numbered-sw.result c.quarter-in-Four-2.ensures are.sw c.requires.reaches c.requires.few c.requires.count c.requires.above c.reach_numbered-sw.ensures);
      se = side_fits (q.level - 1) c.half_side.result _ c.reach_numbered-se.result half (quarter_reached es rs q c.quarter-in-Four-3.result four.se c.reach_numbered-se.result c.quarter-in-Four-3.ensures are.se c.requires.reaches c.requires.few c.requires.count c.requires.above c.reach_numbered-se.ensures);
    }
