-- What the hub over a seat does.
use Rattle.std.specs.Prelude.{◌≡◌, ◌⊎◌, ℕ, ◌+◌, List, [], ◌∷◌, ◌++◌, length, Some, slice_get, Result, Ok, Err}
use Rattle.edit_stamps.specs.Edit.{PlaneEdit, greatest}
use Rattle.stamped_writes.specs.Write.{AreSame}
use Rattle.stamped_tree.specs.Plane.{map_of}
use Rattle.board.specs.declared.entry.Entry.{Entry}
use Rattle.board.specs.Entries.{edits_of}
use Rattle.inbox.specs.Counts.{counted}
use Rattle.inbox.specs.Hands.{entry}
use Rattle.relay_board.specs.declared.fault.SubmitFault.TheVariants as refusals
use Rattle.relay_board.specs.Refusals.{Passes, looks_at}
use Rattle.relay_board.specs.Seating.{Seating, IsSame, HasRead}
use Rattle.session_hub.specs.declared.fault.HubFault.TheVariants.{NotYours, StateRange, OldStamp, Full, Closed, StoreFull, Memory}
use Rattle.session_hub.specs.HubCall.{HubCall, Pushes, Polls, Shows, Hands}
use Rattle.board.specs.Handing.{IsNews}
use Rattle.seat_hub.specs.Refusals.{IsRefused}

-- the entry that a seat's next edit becomes
abbrev pub entry_of : Seating → PlaneEdit → Entry
entry_of a edit = entry a.place (counted (length a.mine + 1)) edit

-- an edit was accepted
pub record Submits (a b : Seating) (edit : PlaneEdit) : Type 0 where
  pub same : IsSame a b
  pub passes : Passes (looks_at a edit)
  pub mine : b.mine ≡ a.mine ++ entry_of a edit ∷ []
  pub full : b.full ≡ a.full
  pub seen : b.seen ≡ a.seen
  pub handed : b.handed ≡ a.handed

-- an edit was accepted, and its entry is seen
pub record IsPushed (a b : Seating) (edit : PlaneEdit) : Type 0 where
  pub mid : Seating
  pub submits : Submits a mid edit
  pub read : HasRead mid b
  pub handed : b.handed ≡ a.handed
  pub at : ℕ
  pub stands : slice_get b.seen at ≡ Some (entry_of a edit)

-- nothing was handed to the caller
pub record IsUnread (a b : Seating) : Type 0 where
  pub read : HasRead a b
  pub handed : b.handed ≡ a.handed

-- all that is seen was handed to the caller
pub record IsHanded (a b : Seating) : Type 0 where
  pub read : HasRead a b
  pub handed : b.handed ≡ length b.seen

abbrev pub IsSeatCall : Seating → HubCall → Seating → Type 0
IsSeatCall a (Pushes edit (Ok done)) b = IsPushed a b edit
IsSeatCall a (Pushes edit (Err NotYours)) b = IsRefused a b edit refusals.NotYours
IsSeatCall a (Pushes edit (Err StateRange)) b = IsRefused a b edit refusals.StateRange
IsSeatCall a (Pushes edit (Err OldStamp)) b = IsRefused a b edit refusals.OldStamp
IsSeatCall a (Pushes edit (Err Full)) b = IsRefused a b edit refusals.Full
IsSeatCall a (Pushes edit (Err Memory)) b = IsRefused a b edit refusals.Memory
-- accepted without a receipt, or refused
IsSeatCall a (Pushes edit (Err Closed)) b = Submits a b edit ⊎ IsRefused a b edit refusals.Closed
IsSeatCall a (Pushes edit (Err StoreFull)) b = ⊥
IsSeatCall a (Polls (Ok news)) b = IsHanded a b × IsNews (edits_of b.seen) a.handed news
IsSeatCall a (Polls (Err Closed)) b = IsUnread a b × (b.seen ≡ a.seen)
IsSeatCall a (Polls (Err Memory)) b = IsUnread a b
IsSeatCall a (Polls (Err _)) b = ⊥
IsSeatCall a (Hands (Ok given)) b = IsHanded a b × AreSame (map_of given.0) (greatest (edits_of b.seen)) × (given.1 ≡ length b.seen)
IsSeatCall a (Hands (Err Closed)) b = IsUnread a b × (b.seen ≡ a.seen)
IsSeatCall a (Hands (Err Memory)) b = IsUnread a b
IsSeatCall a (Hands (Err _)) b = ⊥
IsSeatCall a (Shows (Ok plane)) b = IsUnread a b × AreSame (map_of plane) (greatest (edits_of b.seen))
IsSeatCall a (Shows (Err Closed)) b = IsUnread a b × (b.seen ≡ a.seen)
IsSeatCall a (Shows (Err Memory)) b = IsUnread a b
IsSeatCall a (Shows (Err _)) b = ⊥
