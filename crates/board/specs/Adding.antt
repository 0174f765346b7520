-- Why a history takes no entry.
use Rattle.std.specs.Prelude.{◌≡◌, ◌<◌, ◌≤◌, ◌^◌, List, length}
use mathlib.Core.List.{IsPrefix}
use Rattle.logbook.specs.Pages.{Book}
use Rattle.board.specs.declared.entry.Entry.{Entry}
use Rattle.board.specs.declared.history.AddFault.{AddFault}
use Rattle.board.specs.declared.history.AddFault.TheVariants.{Full, Longer}
use Rattle.board.specs.declared.history.Prefix.{Prefix}

-- a prefix of the history that goes on behind a list
pub record IsLonger (book : Book) (list : List Entry) (prefix : Prefix) : Type 0 where
  pub same : prefix.seen.book ≡ book
  pub begins : IsPrefix list prefix.seen.log
  pub more : length list < length prefix.seen.log

-- an entry is not added behind a list: it has 2^62 entries; or more of the history is there, and was seen
abbrev pub IsAddFault : Book → List Entry → AddFault → Type 0
IsAddFault book list Full = 2 ^ 62 ≤ length list
IsAddFault book list (Longer prefix) = IsLonger book list prefix
