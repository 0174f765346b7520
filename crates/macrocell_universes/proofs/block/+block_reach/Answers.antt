use Rattle.std.proofs.Common.{◌≡◌, ◌∙◌, ◌^◌, ◌-◌, ◌≤◌, ap, sym, subst, arith}
use Rattle.macrocell_universes.specs.Reaches.{IsReach, joined}
use Rattle.macrocell_universes.proofs.BlockReaches.{block_cell, block_four, block_of, quarter_fits}
use Rattle.macrocell_universes.proofs.block.+block_reach.Goals as goal

pub returns-then-block-eq0 : goal.returns-then-block-eq0
returns-then-block-eq0 t c = block_cell c.args.rows c.state_of_bit.result c.args.block c.of_cell.result c.if-block-eq0.true c.state_of_bit.ensures c.of_cell.ensures

pub joined-requires : goal.joined-requires
joined-requires t c =
    let half = c.half_of-half.ensures.half in
    record {
      side = omega (arith, c.from.ensures, c.half_of-half.ensures.most);
      nw = quarter_fits c.args.rows c.half_of-half.result c.from.result c.args.block c.quarter.result _ _ c.block_reach-nw.result half c.from.ensures c.quarter.ensures c.block_reach-nw.ensures;
      ne = quarter_fits c.args.rows c.half_of-half.result c.from.result c.args.block c.quarter-2.result _ _ c.block_reach-ne.result half c.from.ensures c.quarter-2.ensures c.block_reach-ne.ensures;
      sw = quarter_fits c.args.rows c.half_of-half.result c.from.result c.args.block c.quarter-3.result _ _ c.block_reach-sw.result half c.from.ensures c.quarter-3.ensures c.block_reach-sw.ensures;
      se = quarter_fits c.args.rows c.half_of-half.result c.from.result c.args.block c.quarter-4.result _ _ c.block_reach-se.result half c.from.ensures c.quarter-4.ensures c.block_reach-se.ensures;
    }

pub returns : goal.returns
returns t c =
    subst (IsReach c.args.block.level (block_of c.args.rows c.args.block))
    (sym (c.joined.ensures ∙ ap (λ n. joined n c.block_reach-nw.result c.block_reach-ne.result c.block_reach-sw.result c.block_reach-se.result) c.from.ensures))
    (block_four c.args.rows c.half_of-half.result c.args.block c.quarter.result c.quarter-2.result c.quarter-3.result c.quarter-4.result
    c.block_reach-nw.result c.block_reach-ne.result c.block_reach-sw.result c.block_reach-se.result (omega (arith, c.if-block-eq0.false)) c.half_of-half.ensures.half
    c.quarter.ensures c.quarter-2.ensures c.quarter-3.ensures c.quarter-4.ensures c.block_reach-nw.ensures c.block_reach-ne.ensures c.block_reach-sw.ensures c.block_reach-se.ensures)
