use Rattle.std.proofs.Common.{◌≡◌, ℕ, List, ◌∙◌, ap}
use Rattle.std.specs.Prelude.{replicate}
use Rattle.bitplane_kernel.specs.Square.{state_at}
use Rattle.square_store.proofs.Places.{at_within}
use Rattle.generation_engine.proofs.Blocks.{dead_leaf}
use Rattle.generation_engine.proofs.results.ResultStore.leaf.Goals as goal

pub square-requires : goal.square-requires
square-requires c = at_within c.self.inside.store 0 c.args.part (rw (← c.self.view_is) at c.requires)

pub returns-in-Blank : goal.returns-in-Blank
returns-in-Blank c = rw (← c.self.view_is) (λ u v hu hv.
    (let same : c.of_states.result ≡ replicate 64 0 = c.of_states.ensures in
    ap (λ (l : List ℕ). state_at 8 l u v) same ∙ dead_leaf c.self.inside.store c.in-Blank.field-0 c.args.part c.in-Blank.ensures u v hu hv))
