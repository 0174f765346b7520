use Rattle.std.proofs.Common.{◌≡◌, ◌+◌, ◌-◌, arith}
use Rattle.macrocell_text.specs.Maps.{map_of_root}
use Rattle.macrocell_universes.specs.Numbered.{square_of}
use Rattle.macrocell_universes.proofs.Abouts.{six_about, six_grown}
use Rattle.macrocell_universes.proofs.Numbers.{zero_numbered}
use Rattle.macrocell_universes.proofs.lowering.Lowering.lower_middle.Goals as goal

pub returns-clause-grows : goal.returns-clause-grows
returns-clause-grows c =
    six_grown c.args.entries.now (map_of_root (square_of c.args.entries.now c.args.root)) c.args.middle (c.args.middle.level - 3) c.from.result c.requires.middle (omega (arith, c.requires.least)) c.requires.most c.from.ensures
    c.args.self.now c.lower_squares.new.self c.lower_squares-2.new.self c.lower_squares-3.new.self c.lower_squares-4.new.self c.lower_squares-5.new.self c.lower_squares-6.new.self
    c.in_ok-nw.nw c.in_ok-ne.ne c.in_ok-sw.sw c.in_ok-se.se c.in_ok-below_sw.below_sw c.in_ok-below_se.below_se
    c.in_ok-nw.ensures c.in_ok-ne.ensures c.in_ok-sw.ensures c.in_ok-se.ensures c.in_ok-below_sw.ensures c.in_ok-below_se.ensures

pub returns-clause-about : goal.returns-clause-about
returns-clause-about c =
    six_about c.args.entries.now (map_of_root (square_of c.args.entries.now c.args.root)) c.args.middle (c.args.middle.level - 3) c.from.result c.requires.middle (omega (arith, c.requires.least)) c.requires.most c.from.ensures
    c.args.self.now c.lower_squares.new.self c.lower_squares-2.new.self c.lower_squares-3.new.self c.lower_squares-4.new.self c.lower_squares-5.new.self c.lower_squares-6.new.self
    c.in_ok-nw.nw c.in_ok-ne.ne c.in_ok-sw.sw c.in_ok-se.se c.in_ok-below_sw.below_sw c.in_ok-below_se.below_se
    c.in_ok-nw.ensures c.in_ok-ne.ensures c.in_ok-sw.ensures c.in_ok-se.ensures c.in_ok-below_sw.ensures c.in_ok-below_se.ensures

pub lower_squares-requires-clause-upper : goal.lower_squares-requires-clause-upper
lower_squares-requires-clause-upper c = zero_numbered c.args.entries.now c.args.middle.level

pub lower_squares-requires-2-clause-upper : goal.lower_squares-requires-2-clause-upper
lower_squares-requires-2-clause-upper c = zero_numbered c.args.entries.now c.args.middle.level

pub lower_squares-requires-5-clause-lower : goal.lower_squares-requires-5-clause-lower
lower_squares-requires-5-clause-lower c = zero_numbered c.args.entries.now c.args.middle.level

pub lower_squares-requires-6-clause-lower : goal.lower_squares-requires-6-clause-lower
lower_squares-requires-6-clause-lower c = zero_numbered c.args.entries.now c.args.middle.level
