use Rattle.std.proofs.Common.{[], ◌∷◌, sym, subst}
use Rattle.tree_join.specs.Squares.{AreQuarters}
use Rattle.tree_join.proofs.Comparing.{quarters_of_blank}
use Rattle.tree_join.proofs.quarters.quarter_parts.Goals as goal

pub returns-in-Blank : goal.returns-in-Blank
returns-in-Blank c = subst (λ q. AreQuarters c.args.square.now.store c.args.above c.args.square.now.part (q ∷ q ∷ q ∷ q ∷ [])) (sym c.part.ensures) (quarters_of_blank _ _ _ _ c.requires.above c.in-Blank.ensures)
