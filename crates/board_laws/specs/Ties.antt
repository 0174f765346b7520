-- A replica that takes a published list.
use Rattle.std.specs.Prelude.{◌≡◌, ℕ, ℤ, List, [], ◌∷◌, ◌++◌, Result, Ok}
use Rattle.generations_rule.specs.Place.{at_place}
use Rattle.generations_rule.specs.Rule.{GenerationsRule}
use Rattle.edit_stamps.specs.Edit.{PlaneEdit, greatest}
use Rattle.stamped_writes.specs.Write.{AreSame}
use Rattle.stamped_writes.specs.declared.write.Write.{Write}
use Rattle.generation_engine.specs.Universe.{states_in_writes}
use Rattle.export.specs.declared.fault.ExportFault.{ExportFault}
use Rattle.export.specs.Export.{IsExport, most_cells}
use Rattle.replica_events.specs.declared.event.Event.{Event}
use Rattle.replica_events.specs.declared.event.Event.TheVariants.{Deliver, Show}
use Rattle.replica_core.specs.declared.event.Reply.TheVariants as replies
use Rattle.replica_core.specs.Exporting.{IsExportOf}
use Rattle.replica_core.specs.Headline.{HaveSameEdits, IsAt}
use Rattle.replica_core.specs.World.{Delta, History, IsReply, ReplicaHistory, after, message, replica}
use Rattle.stamped_tree.specs.Plane.{StampedPlane, map_of}
use Rattle.delta_exchange.specs.declared.message.Content.TheVariants.{Edits}
use Rattle.replica_core.specs.Replica.{ReplicaState, IsNew, Takes}

-- from one state to another by taking each edit of a list, in order, in a delta of that edit alone
abbrev pub TakesEach : ReplicaState → List PlaneEdit → ReplicaState → Type 0
TakesEach r [] s = s ≡ r
TakesEach r (e ∷ edits) s = (next : ReplicaState) × Takes r next (Edits (e ∷ [])) × TakesEach next edits s

-- a new replica that took each edit of a list holds at each place the greatest write of the list
abbrev pub HoldsGreatest : Type 0
HoldsGreatest = (rule : GenerationsRule) (number nodes : ℕ) (r s : ReplicaState) (edits : List PlaneEdit)
    → IsNew rule number nodes r → TakesEach r edits s → AreSame (map_of s.plane) (greatest edits)

-- so a plane that stands for a list has its map
abbrev pub HasMapOfReplica : Type 0
HasMapOfReplica = (rule : GenerationsRule) (number nodes : ℕ) (r s : ReplicaState) (edits : List PlaneEdit) (plane : StampedPlane)
    → IsNew rule number nodes r → TakesEach r edits s → AreSame (map_of plane) (greatest edits) → AreSame (map_of plane) (map_of s.plane)

-- and where planes stand for a list and for that list with one edit more, the second has the map of that replica after it took that edit too
abbrev pub PublishesAsDelivered : Type 0
PublishesAsDelivered = (rule : GenerationsRule) (number nodes : ℕ) (r s t : ReplicaState) (edits : List PlaneEdit) (e : PlaneEdit) (after : StampedPlane)
    → IsNew rule number nodes r → TakesEach r edits s → Takes s t (Edits (e ∷ [])) → AreSame (map_of after) (greatest (edits ++ e ∷ [])) → AreSame (map_of after) (map_of t.plane)

-- ---- in a world of replicas

-- a replica of a world has taken these edits, in this order
pub record HasTaken (w : History) (number : ℕ) (edits : List PlaneEdit) : Type 0 where
  pub history : ReplicaHistory
  pub there : replica w number ≡ Ok history
  pub taken : history.taken ≡ edits

-- A publication is a delivery: a replica that has taken the published list, and is delivered a message of the next edit
-- alone, has taken the list with that edit.
abbrev pub PublishIsDeliver : Type 0
PublishIsDeliver = (w : History) (m number : ℕ) (edits : List PlaneEdit) (e : PlaneEdit)
    → HasTaken w number edits → message w m ≡ Ok (Delta (e ∷ [])) → HasTaken (after w (Deliver m number)) number (edits ++ e ∷ [])

-- A view is a show: what a seat sees at a place of a list is what a replica that has taken the list answers there. It
-- changes nothing.
abbrev pub ViewIsShow : Type 0
ViewIsShow = (w : History) (number : ℕ) (edits : List PlaneEdit) (x y : ℤ) (seen : Write)
    → HasTaken w number edits → seen ≡ greatest edits (at_place x y) → IsReply w (Show number x y) (replies.Shown seen) × (after w (Show number x y) ≡ w)

-- An export of the plane of a list is the export of a replica that took the same edits, in whatever order and however often:
-- the same bytes, or the same refusal.
abbrev pub ExportsAsReplica : Type 0
ExportsAsReplica = (rule : GenerationsRule) (n : ℕ) (events : List Event) (number : ℕ) (h : ReplicaHistory) (held : ReplicaState)
    (edits : List PlaneEdit) (plane : StampedPlane) (g : ℕ) (a b : Result (List ℕ) ExportFault)
    → IsAt rule n events number h held → HaveSameEdits edits h.taken → AreSame (map_of plane) (greatest edits)
    → IsExport rule (states_in_writes (map_of plane)) g most_cells a → IsExportOf held g b → a ≡ b

-- The board's plane is a replica's that took the published list; in a world of replicas one publication is one delivery,
-- one view is one show, and an export of a seat's plane is a replica's.
pub record IsTied : Type 0 where
  pub greatest : HoldsGreatest
  pub map : HasMapOfReplica
  pub publishes : PublishesAsDelivered
  pub delivers : PublishIsDeliver
  pub shows : ViewIsShow
  pub exports : ExportsAsReplica
