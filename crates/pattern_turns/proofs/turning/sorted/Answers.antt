use Rattle.std.proofs.Common.{ℕ, rules}
use Rattle.std.proofs.lemmas.List.Sorted.{answers_always}
use Rattle.pattern_cells.specs.declared.pattern.PatternCell.{PatternCell}
use Rattle.pattern_turns.proofs.TurningLaws.{sorted_by_rows}
use Rattle.pattern_turns.proofs.turning.sorted.Goals as goal

abbrev key : PatternCell → ℕ × ℕ
key cell = (cell.row, cell.column)

pub returns-clause-sorted : goal.returns-clause-sorted
returns-clause-sorted c = sorted_by_rows c.sort_unstable_by_key.new.self.items (c.sort_unstable_by_key.ensures.sorted key (answers_always _ _ _ (λ f a r g h. search rules)))
