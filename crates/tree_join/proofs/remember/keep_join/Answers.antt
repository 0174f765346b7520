use Rattle.tree_join.specs.Remembered.{is_part_pair}
use Rattle.tree_join.specs.Squares.{IsSquareJoin}
use Rattle.tree_join.proofs.Keeping.{kept_more, pair_is}
use Rattle.tree_join.proofs.remember.keep_join.Goals as goal

pub returns-in-Ok-clause-joins : goal.returns-in-Ok-clause-joins
returns-in-Ok-clause-joins c = record {
  each = λ q p e. kept_more is_part_pair pair_is (λ k w. IsSquareJoin c.args.plane.now.store c.args.other.now.store k.above k.here k.there w) c.args.pair q c.args.part p _ _ (c.in-Ok.ensures.updates.0 q) e c.requires.joined (c.requires.joins.each q p);
}

pub returns-in-Err-clause-joins : goal.returns-in-Err-clause-joins
returns-in-Err-clause-joins c = let same = c.in-Err.ensures.err in record { each = λ q p e. c.requires.joins.each q p (rw same at e) }
