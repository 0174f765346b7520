-- What was seen once a list is learnt.
use Rattle.std.specs.Prelude.{◌≡◌, ◌≤◌, ◌<◌, List, length}
use mathlib.Core.List.{IsPrefix}
use Rattle.board.specs.declared.entry.Entry.{Entry}

-- no less was seen than before, and no less than was learnt: of two lists of which one begins the other, it is the longer
pub record HasLearnt (seen learnt now : List Entry) : Type 0 where
  pub longer : length seen ≤ length learnt → now ≡ learnt
  pub kept : length learnt < length seen → now ≡ seen
  pub begins : IsPrefix seen now × IsPrefix learnt now
