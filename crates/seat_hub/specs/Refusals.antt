-- Refusals of a seat, and how a hub tells them.
use Rattle.std.specs.Prelude.{◌≡◌}
use Rattle.edit_stamps.specs.Edit.{PlaneEdit}
use Rattle.board.specs.declared.fault.SeatFault.{SeatFault}
use Rattle.board.specs.declared.fault.SeatFault.TheVariants as reads
use Rattle.relay_board.specs.declared.fault.SubmitFault.{SubmitFault}
use Rattle.relay_board.specs.declared.fault.SubmitFault.TheVariants.{NotYours, StateRange, OldStamp, Closed, Memory, Full}
use Rattle.relay_board.specs.Refusals.{Refuses, Lasts, looks_at}
use Rattle.relay_board.specs.Seating.{Seating, IsSame}
use Rattle.session_hub.specs.declared.fault.HubFault.{HubFault}
use Rattle.session_hub.specs.declared.fault.HubFault.TheVariants as hub

-- a submission was refused for the first cause that held: but for the count of full inboxes the seat is as it was
pub record IsRefused (a b : Seating) (edit : PlaneEdit) (fault : SubmitFault) : Type 0 where
  pub same : IsSame a b
  pub mine : b.mine ≡ a.mine
  pub seen : b.seen ≡ a.seen
  pub handed : b.handed ≡ a.handed
  pub cause : Refuses fault (looks_at a edit) a.full b.full (Lasts a.room a.place a.mine)

abbrev pub hub_fault_of_submit : SubmitFault → HubFault
hub_fault_of_submit NotYours = hub.NotYours
hub_fault_of_submit StateRange = hub.StateRange
hub_fault_of_submit OldStamp = hub.OldStamp
hub_fault_of_submit Closed = hub.Closed
hub_fault_of_submit Full = hub.Full
hub_fault_of_submit Memory = hub.Memory

abbrev pub hub_fault_of_seat : SeatFault → HubFault
hub_fault_of_seat reads.Closed = hub.Closed
hub_fault_of_seat reads.Memory = hub.Memory
