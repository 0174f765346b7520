use Rattle.std.proofs.Common.{◌≡◌}
use Rattle.macrocell_text.specs.Maps.{map_of_root}
use Rattle.macrocell_universes.specs.Numbered.{square_of}
use Rattle.macrocell_universes.proofs.Corners.{leaf_block}
use Rattle.macrocell_universes.proofs.root.add_corner.Goals as goal

pub returns-clause-block : goal.returns-clause-block
returns-clause-block c =
    leaf_block (map_of_root (square_of c.args.entries.now c.args.root)) c.add_leaf.new.self (record { leaf = c.of_states.result }) c.states_about-states.result c.args.column c.args.row c.in_ok-part.part
    c.of_states.ensures c.states_about-states.ensures c.in_ok-part.ensures.draws
