use Rattle.stamped_tree.specs.Filled.{IsFilled}
use Rattle.stamped_tree.specs.declared.filled.AreaKey.{AreaKey}
use Rattle.stamped_tree.proofs.Kept.{kept_more}
use Rattle.stamped_tree.proofs.filled.keep.Goals as goal

pub returns-in-Ok-clause-kept : goal.returns-in-Ok-clause-kept
returns-in-Ok-clause-kept c =
    let key : AreaKey = c.args.key in
    record {
      each = λ q p e. kept_more (λ k w. IsFilled c.args.store.now c.args.stamp k.level k.area k.part w) key q c.args.drawn p _ _ (c.in-Ok.ensures.updates.0 q) e c.requires.filled (c.requires.kept.each q p);
    }

pub returns-in-Err-clause-kept : goal.returns-in-Err-clause-kept
returns-in-Err-clause-kept c = let same = c.in-Err.ensures.err in record { each = λ q p e. c.requires.kept.each q p (rw same at e) }
