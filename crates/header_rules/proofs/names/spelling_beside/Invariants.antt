use Rattle.std.proofs.Common.{◌≡◌, length, map}
use Rattle.header_rules.specs.Names.{beside}
use Rattle.header_rules.proofs.names.spelling_beside.Given as goal

abbrev pub invariant-loop-rows : goal.invariant-loop-rows
invariant-loop-rows l = beside (map (λ row. (row.0.now, row.1.now)) l.rows) l.name ≡ beside (map (λ row. (row.0.now, row.1.now)) l.initial.rows) l.name

abbrev pub decreases-loop-rows : goal.decreases-loop-rows
decreases-loop-rows l = length l.rows
