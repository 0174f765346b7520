use Rattle.std.proofs.Common.{◌==◌, ap, sym, ◌∙◌}
use Rattle.stamped_tree.proofs.SoughtLaws.{covering_agree, met_agree, no_items, none_agree}
use Rattle.stamped_tree.proofs.sought.on_square_of.Goals as goal

pub returns-then-is_covered : goal.returns-then-is_covered
returns-then-is_covered c = covering_agree c.args.corner.left c.args.corner.top c.args.side c.args.areas.now (sym c.is_covered.ensures ∙ c.if-is_covered.true)

pub returns-then-is_empty : goal.returns-then-is_empty
returns-then-is_empty c = none_agree c.args.corner.left c.args.corner.top c.args.side c.args.areas.now c.in_ok-met.met.items c.in_ok-met.ensures (no_items c.in_ok-met.met.items (c.if-is_empty.ensures ∙ ap (λ n. n == 0) c.in_ok-met.met.ok.0))

pub returns : goal.returns
returns c = met_agree c.args.corner.left c.args.corner.top c.args.side c.args.areas.now c.in_ok-met.met.items c.in_ok-met.ensures
