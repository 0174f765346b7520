use Rattle.std.proofs.Common.{◌-◌, refl, arith}
use Rattle.std.proofs.lemmas.Nat.{and_le_r}
use Rattle.square_store.specs.Groups.{head_of}
use Rattle.square_store.proofs.groups.head_of.Goals as goal

pub returns : goal.returns
unfolding head_of
returns c = record { head = refl; within = omega (arith, and_le_r c.args.hash (c.args.heads - 1), c.requires) }
