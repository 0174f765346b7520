use Rattle.std.proofs.Common.{◌≡◌, List, ℕ, length}
use Rattle.multistate_rle.specs.Position.{ItemsValue}
use Rattle.text_scan.specs.Bytes.{is_space_or_tab, past_prefix}
use Rattle.multistate_rle.specs.Position.{items_in, no_items}
use Rattle.text_scan.specs.Words.{words}
use Rattle.multistate_rle.proofs.origin.items_of.Given as goal

-- what was read, with the words still to come behind it
pub record Read (line rest : List ℕ) (items : ItemsValue) : Type 0 where
  pub items_are : items_in items (words rest) ≡ items_in no_items (words line)
  pub trimmed : past_prefix is_space_or_tab rest ≡ rest

abbrev pub invariant-loop-rest : goal.invariant-loop-rest
invariant-loop-rest l = Read l.line l.rest l.items

abbrev pub decreases-loop-rest : goal.decreases-loop-rest
decreases-loop-rest l = length l.rest
