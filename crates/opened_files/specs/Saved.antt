-- What a text of a saved board tells.
use Rattle.std.specs.Prelude.{◌≡◌, ℕ, List}
use Rattle.generations_rule.specs.Rule.{GenerationsRule}
use Rattle.pattern_cells.specs.declared.cell.Cell.{Cell}
use Rattle.stamped_writes.specs.Write.{Writes}
use Rattle.edit_stamps.specs.PlaneMap.{IsGreatestStamp}
use Rattle.edit_stamps.specs.Stamp.{counter_in}
use Rattle.stamped_tree.specs.Walk.{AreNonzeroCells}
use Rattle.delta_exchange.specs.State.{IsTellableMap}
use Rattle.delta_exchange.specs.Versions.{IsReadableStateText}

-- a text is that of a map of a rule, these are its cells that are not dead, and this is the greatest counter of its writes
pub record IsSaved (r : GenerationsRule) (text : List ℕ) (cells : List Cell) (counter : ℕ) : Type 0 where
  pub map : Writes
  pub tellable : IsTellableMap r.states map
  pub spelt : IsReadableStateText r map text
  pub listed : AreNonzeroCells map cells
  pub stamp : ℕ
  pub greatest : IsGreatestStamp stamp map
  pub counts : counter ≡ counter_in stamp
