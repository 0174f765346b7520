use Rattle.std.proofs.Common.{rules, ◌∙◌, nat_lt}
use Rattle.std.proofs.lemmas.List.Sorted.{IsPartitionPoint-from_clause, IsPartitionedBy-ltb}
use Rattle.stamped_tree.specs.Morton.{digit_at}
use Rattle.stamped_tree.proofs.Morton.{cut_is, from_not_below}
use Rattle.stamped_tree.proofs.cells.cut.Goals as goal

pub returns-clause-below : goal.returns-clause-below
returns-clause-below c =
    let parted = IsPartitionedBy-ltb (digit_at c.args.bit) c.args.cells.now c.args.least c.requires.order in
    let point = IsPartitionPoint-from_clause (λ cell. nat_lt (digit_at c.args.bit cell) c.args.least) c.args.cells.now _ c.partition_point-place.ensures.partitioned parted (λ a r q k. search rules) in
    c.split_at.ensures.front ∙ (cut_is (λ cell. nat_lt (digit_at c.args.bit cell) c.args.least) c.args.cells.now c.partition_point-place.result c.partition_point-place.ensures.bound point).0

pub returns-clause-from : goal.returns-clause-from
returns-clause-from c =
    let parted = IsPartitionedBy-ltb (digit_at c.args.bit) c.args.cells.now c.args.least c.requires.order in
    let point = IsPartitionPoint-from_clause (λ cell. nat_lt (digit_at c.args.bit cell) c.args.least) c.args.cells.now _ c.partition_point-place.ensures.partitioned parted (λ a r q k. search rules) in
    c.split_at.ensures.back ∙ (cut_is (λ cell. nat_lt (digit_at c.args.bit cell) c.args.least) c.args.cells.now c.partition_point-place.result c.partition_point-place.ensures.bound point).1 ∙ from_not_below c.args.bit c.args.least c.args.cells.now
