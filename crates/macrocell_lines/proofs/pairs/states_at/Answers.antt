use Rattle.std.proofs.Common.{◌∙◌, ◌/◌, ◌%◌, sym, ap, arith}
use Rattle.square_store.proofs.Places.{at_within}
use Rattle.stamped_writes.specs.declared.write.Write.{Write}
use Rattle.macrocell_lines.proofs.pairs.states_at.Goals as goal

pub square-requires : goal.square-requires
square-requires c = at_within c.args.store.now 0 c.args.part c.requires

pub returns-in-Blank : goal.returns-in-Blank
returns-in-Blank c = λ i h. c.no_states.ensures i h ∙ sym (ap (λ (w : Write). w.state) ((c.in-Blank.ensures 0).same (i % 8) (i / 8) (omega arith) (omega (arith, h))))
