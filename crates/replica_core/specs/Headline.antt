-- What holds of every world after every list of events: whatever is sent, lost, repeated or reordered.
use Rattle.std.specs.Prelude.{◌≡◌, ◌⊎◌, ◌↔◌, ℕ, ◌^◌, ◌<◌, IsTrue, List, ◌++◌, Contains, Result, Ok, Some}
use Rattle.generations_rule.specs.Place.{Place}
use Rattle.generations_rule.specs.Rule.{GenerationsRule}
use Rattle.stamped_writes.specs.declared.write.Write.{Write}
use Rattle.edit_stamps.specs.Edit.{PlaneEdit, greatest, writes_of}
use Rattle.stamped_tree.specs.Plane.{map_of}
use Rattle.stamped_writes.specs.Write.{unwritten, at_most, AreSame, IsBelow}
use Rattle.delta_exchange.specs.StateText.{IsStateText}
use Rattle.generation_engine.specs.Universe.{states_in_writes}
use Rattle.export.specs.declared.fault.ExportFault.{ExportFault}
use Rattle.export.specs.Export.{IsExport, most_cells}
use Rattle.replica_events.specs.declared.event.Event.{Event}
use Rattle.replica_core.specs.declared.event.Reply.{Reply}
use Rattle.replica_core.specs.declared.event.Reply.TheVariants.{Refused}
use Rattle.replica_core.specs.declared.fault.Fault.{Fault}
use Rattle.replica_core.specs.declared.event.Question.{Question}
use Rattle.replica_core.specs.Exporting.{IsExportOf, Tells}
use Rattle.replica_core.specs.Replica.{ReplicaState}
use Rattle.replica_core.specs.World.{History, ReplicaHistory, Sent, WorldState, AreReplies, IsIn, IsReply, IsTextOfSent, StandsForWorld, after, after_all, message, numbered, opening, replica}

-- a replica of a world that was run through events, and what it took
pub record IsAt (rule : GenerationsRule) (n : ℕ) (events : List Event) (r : ℕ) (h : ReplicaHistory) (held : ReplicaState) : Type 0 where
  pub world : WorldState
  pub stands : StandsForWorld (after_all (opening rule n) events) world
  pub history : replica (after_all (opening rule n) events) r ≡ Ok h
  pub state : numbered world.replicas r ≡ Some held

-- a write that one of the edits makes at a place, or that none of them makes, and that no other's is above
pub record IsGreatestOf (edits : List PlaneEdit) (c : Place) (w : Write) : Type 0 where
  pub above : (e : PlaneEdit) → Contains edits e → IsTrue (at_most (writes_of e c) w)
  pub made : (w ≡ unwritten) ⊎ ((e : PlaneEdit) × Contains edits e × (writes_of e c ≡ w))

-- two lists have the same edits, in whatever order and however often
abbrev pub HaveSameEdits : List PlaneEdit → List PlaneEdit → Type 0
HaveSameEdits es fs = (e : PlaneEdit) → Contains es e ↔ Contains fs e

-- each replica holds at each place the greatest write of the edits that it took
abbrev pub HoldsGreatest : Type 0
HoldsGreatest = (rule : GenerationsRule) (n : ℕ) (events : List Event) (r : ℕ) (h : ReplicaHistory) (held : ReplicaState)
    → IsAt rule n events r h held → (c : Place) → IsGreatestOf h.taken c (map_of held.plane c)

-- two replicas that took the same edits hold the same write at every place, whichever worlds and events brought them there
abbrev pub Agrees : Type 0
Agrees = (rule other_rule : GenerationsRule) (n m : ℕ) (events others : List Event) (r s : ℕ) (h k : ReplicaHistory) (held other : ReplicaState)
    → IsAt rule n events r h held → IsAt other_rule m others s k other → HaveSameEdits h.taken k.taken
    → AreSame (map_of held.plane) (map_of other.plane)

-- two replicas of one rule that took the same edits write the same state bytes
abbrev pub WritesSameBytes : Type 0
WritesSameBytes = (rule : GenerationsRule) (n m : ℕ) (events others : List Event) (r s : ℕ) (h k : ReplicaHistory) (held other : ReplicaState) (a b : List ℕ)
    → IsAt rule n events r h held → IsAt rule m others s k other → HaveSameEdits h.taken k.taken
    → IsStateText held.rule (map_of held.plane) a → IsStateText other.rule (map_of other.plane) b → a ≡ b

-- Each replica exports what the rule, applied cell by cell, makes of the greatest writes of the edits that it took, at
-- every generation.
abbrev pub ExportsGreatest : Type 0
ExportsGreatest = (rule : GenerationsRule) (n : ℕ) (events : List Event) (r : ℕ) (h : ReplicaHistory) (held : ReplicaState) (g : ℕ) (answer : Result (List ℕ) ExportFault)
    → IsAt rule n events r h held → IsExportOf held g answer → IsExport rule (states_in_writes (greatest h.taken)) g most_cells answer

-- two replicas of one rule that took the same edits export the same RLE bytes of every generation, or refuse it alike
abbrev pub ExportsSameBytes : Type 0
ExportsSameBytes = (rule : GenerationsRule) (n m : ℕ) (events others : List Event) (r s : ℕ) (h k : ReplicaHistory) (held other : ReplicaState) (g : ℕ) (a b : Result (List ℕ) ExportFault)
    → IsAt rule n events r h held → IsAt rule m others s k other → HaveSameEdits h.taken k.taken
    → IsExportOf held g a → IsExportOf other g b → a ≡ b

-- and they tell the same of every generation that is exported, cut by a window, or counted
abbrev pub AnswersAlike : Type 0
AnswersAlike = (rule : GenerationsRule) (n m : ℕ) (events others : List Event) (r s : ℕ) (h k : ReplicaHistory) (held other : ReplicaState) (question : Question) (a b : Reply)
    → IsAt rule n events r h held → IsAt rule m others s k other → HaveSameEdits h.taken k.taken
    → Tells held.rule (states_in_writes (map_of held.plane)) question a → Tells other.rule (states_in_writes (map_of other.plane)) question b → a ≡ b

-- the bytes of each message are the text of what was sent
abbrev pub SendsTexts : Type 0
SendsTexts = (rule : GenerationsRule) (n : ℕ) (events : List Event) (world : WorldState) (m : ℕ) (sent : Sent) (text : List ℕ)
    → StandsForWorld (after_all (opening rule n) events) world → message (after_all (opening rule n) events) m ≡ Ok sent → numbered world.messages m ≡ Some text
    → IsTextOfSent rule sent text

-- two edits of one stamp in one world are one edit
abbrev pub HasOneEditAStamp : Type 0
HasOneEditAStamp = (rule : GenerationsRule) (n : ℕ) (events : List Event) (e f : PlaneEdit) → n < 2 ^ 16
    → IsIn (after_all (opening rule n) events) e → IsIn (after_all (opening rule n) events) f → e.stamp ≡ f.stamp → e ≡ f

-- so what a replica holds at a place where something was written is one edit's write
abbrev pub HasOneWinner : Type 0
HasOneWinner = (rule : GenerationsRule) (n : ℕ) (events : List Event) (r : ℕ) (h : ReplicaHistory) (held : ReplicaState) (c : Place) (e f : PlaneEdit)
    → n < 2 ^ 16 → IsAt rule n events r h held → Contains h.taken e → Contains h.taken f
    → writes_of e c ≡ map_of held.plane c → writes_of f c ≡ map_of held.plane c → 0 < (map_of held.plane c).stamp → e ≡ f

-- what a replica holds never goes down as more happens
abbrev pub NeverGoesDown : Type 0
NeverGoesDown = (rule : GenerationsRule) (n : ℕ) (events more : List Event) (r : ℕ) (h k : ReplicaHistory) (held later : ReplicaState)
    → IsAt rule n events r h held → IsAt rule n (events ++ more) r k later → IsBelow (map_of held.plane) (map_of later.plane)

-- a refused event changes nothing
abbrev pub RefusalsChangeNothing : Type 0
RefusalsChangeNothing = (w : History) (event : Event) (fault : Fault) → IsReply w event (Refused fault) → after w event ≡ w

-- a list of events has one list of replies
abbrev pub HasOneListOfReplies : Type 0
HasOneListOfReplies = (w : History) (events : List Event) (a b : List Reply) → AreReplies w events a → AreReplies w events b → a ≡ b
