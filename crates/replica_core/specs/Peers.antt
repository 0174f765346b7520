-- Replicas whose messages go by any route: what each of them holds is what it took, whoever sent it.
use Rattle.std.specs.Prelude.{◌≡◌, ℕ, List, [], ◌∷◌, ◌++◌, Result}
use Rattle.generations_rule.specs.Rule.{GenerationsRule}
use Rattle.edit_stamps.specs.Edit.{PlaneEdit, greatest}
use Rattle.stamped_tree.specs.Plane.{map_of}
use Rattle.stamped_writes.specs.Write.{Writes, AreSame}
use Rattle.delta_exchange.specs.declared.message.Content.TheVariants.{Edits}
use Rattle.delta_exchange.specs.Message.{Shared}
use Rattle.delta_exchange.specs.MessageReading.{HasMap}
use Rattle.delta_exchange.specs.State.{IsTellableMap}
use Rattle.delta_exchange.specs.StateText.{IsStateText}
use Rattle.export.specs.declared.fault.ExportFault.{ExportFault}
use Rattle.replica_core.specs.Exchange.{TakesSome}
use Rattle.replica_core.specs.Exporting.{IsExportOf}
use Rattle.replica_core.specs.Headline.{HaveSameEdits}
use Rattle.replica_core.specs.Replica.{ReplicaState, DrawsAs, IsNew, IsSnapshot, IsUnchanged}

-- a replica of a rule that holds at each place the greatest write of some edits
pub record HoldsEdits (rule : GenerationsRule) (edits : List PlaneEdit) (r : ReplicaState) : Type 0 where
  pub same_rule : r.rule ≡ rule
  pub map : AreSame (map_of r.plane) (greatest edits)

-- A new replica holds no edits; a draw holds one more, and what was taken holds those of the message more, be they edits or a map
-- of edits that another holds; a refusal leaves what is held; and a snapshot and the state bytes are of the edits that are held.
pub record HoldsWhatItTook : Type 0 where
  pub new : (rule : GenerationsRule) (number nodes : ℕ) (r : ReplicaState) → IsNew rule number nodes r → HoldsEdits rule [] r
  pub drawn : (rule : GenerationsRule) (E : List PlaneEdit) (r s : ReplicaState) (e : PlaneEdit) → HoldsEdits rule E r → DrawsAs r s e → HoldsEdits rule (E ++ e ∷ []) s
  pub edits : (rule : GenerationsRule) (E F : List PlaneEdit) (r s : ReplicaState) → HoldsEdits rule E r → TakesSome r s (λ content. content ≡ Edits F) → HoldsEdits rule (E ++ F) s
  pub map : (rule : GenerationsRule) (E F : List PlaneEdit) (r s : ReplicaState) (p : Writes) → HoldsEdits rule E r → AreSame p (greatest F) → TakesSome r s (λ content. HasMap content p) → HoldsEdits rule (E ++ F) s
  pub refused : (rule : GenerationsRule) (E : List PlaneEdit) (r s : ReplicaState) → HoldsEdits rule E r → IsUnchanged r s → HoldsEdits rule E s
  pub snapshot : (rule : GenerationsRule) (E : List PlaneEdit) (r : ReplicaState) (m : Shared) → HoldsEdits rule E r → IsSnapshot r m → HasMap m.content (greatest E)
  pub state : (rule : GenerationsRule) (E : List PlaneEdit) (r : ReplicaState) (text : List ℕ) → HoldsEdits rule E r → IsStateText r.rule (map_of r.plane) text → IsStateText rule (greatest E) text
  pub tellable : (rule : GenerationsRule) (E : List PlaneEdit) (r : ReplicaState) → HoldsEdits rule E r → IsTellableMap r.rule.states (map_of r.plane) → IsTellableMap rule.states (greatest E)

-- Two replicas that hold the same edits, in whatever order and however often each was taken, hold the same map; of one rule they
-- write the same state bytes, and export the same bytes of every generation, or refuse it alike.
pub record PeersAgree : Type 0 where
  pub maps : (rule other : GenerationsRule) (E F : List PlaneEdit) (r s : ReplicaState) → HoldsEdits rule E r → HoldsEdits other F s → HaveSameEdits E F → AreSame (map_of r.plane) (map_of s.plane)
  pub bytes : (rule : GenerationsRule) (E F : List PlaneEdit) (r s : ReplicaState) (a b : List ℕ) → HoldsEdits rule E r → HoldsEdits rule F s → HaveSameEdits E F
      → IsStateText r.rule (map_of r.plane) a → IsStateText s.rule (map_of s.plane) b → a ≡ b
  pub exports : (rule : GenerationsRule) (E F : List PlaneEdit) (r s : ReplicaState) (g : ℕ) (a b : Result (List ℕ) ExportFault) → HoldsEdits rule E r → HoldsEdits rule F s → HaveSameEdits E F
      → IsExportOf r g a → IsExportOf s g b → a ≡ b
