-- What a client's replica stands for: the edits that it was handed, and those of its own that the board has.
use Rattle.std.specs.Prelude.{◌≡◌, ⊤, ℕ, max, ◌<◌, List, [], ◌∷◌, ◌++◌, Ok}
use Rattle.std.specs.List.{Contains}
use Rattle.generations_rule.specs.Rule.{GenerationsRule}
use Rattle.edit_stamps.specs.Edit.{PlaneEdit, IsEdit, greatest}
use Rattle.edit_stamps.specs.PlaneMap.{IsGreatestStamp}
use Rattle.edit_stamps.specs.Stamp.{counter_in}
use Rattle.delta_exchange.specs.Delta.{AreTellable}
use Rattle.delta_exchange.specs.Spelling.{delta_text}
use Rattle.delta_exchange.specs.State.{IsTellableMap}
use Rattle.delta_exchange.specs.Versions.{IsReadableStateText}
use Rattle.replica_core.specs.Peers.{HoldsEdits}
use Rattle.replica_core.specs.Replica.{ReplicaState, edit_drawn}
use Rattle.replica_events.specs.declared.edit_spec.EditSpec.{EditSpec}
use Rattle.stamped_tree.specs.Plane.{map_of}
use Rattle.board_client.specs.Client.{LineState}
use Rattle.frame_line.specs.Receiving.{bytes_in}
use Rattle.board_client.specs.Drawing.{IsPublished, IsPublishedEnd}
use Rattle.board_client.specs.Pieces.{BringsPieces}
use Rattle.board_client.specs.Polling.{BringsEdits, BringsWhole}

-- each text tells one of these edits, in order
abbrev pub TellEdits : GenerationsRule → List PlaneEdit → List (List ℕ) → Type 0
TellEdits r [] [] = ⊤
TellEdits r (e ∷ edits) (text ∷ texts) = AreTellable r.states (e ∷ []) × (text ≡ delta_text r (e ∷ [])) × TellEdits r edits texts
TellEdits r _ _ = ⊥

-- A replica that holds some edits holds, behind a poll that brought others, those more, whether its reply was heard at once or
-- awaited; behind one that brought the plane of some list, whole or in pieces, those of that list more, whichever of the lists it
-- stands for is meant; and behind a drawing that the board has, that edit more. So clients that were handed the same edits, or planes of them, show, write and export the same.
pub record HoldsWhatItHeard : Type 0 where
  pub edits : (said : List (List ℕ)) (rule : GenerationsRule) (E F : List PlaneEdit) (count : ℕ) (a b : LineState) (r s : ReplicaState) → HoldsEdits rule E r → (p : BringsEdits said count a b r s) → TellEdits rule F p.texts → HoldsEdits rule (E ++ F) s
  pub whole : (said : List (List ℕ)) (rule : GenerationsRule) (E F : List PlaneEdit) (a b : LineState) (r s : ReplicaState) → HoldsEdits rule E r → (p : BringsWhole said a b r s) → IsTellableMap rule.states (greatest F)
      → IsReadableStateText rule (greatest F) p.text → HoldsEdits rule (E ++ F) s
  pub pieces : (rule : GenerationsRule) (E F : List PlaneEdit) (a b : LineState) (r s : ReplicaState) → HoldsEdits rule E r → (p : BringsPieces a b r s) → IsTellableMap rule.states (greatest F)
      → IsReadableStateText rule (greatest F) (bytes_in p.pieces) → HoldsEdits rule (E ++ F) s
  pub drawn : (rule : GenerationsRule) (E : List PlaneEdit) (e : PlaneEdit) (a b : LineState) (r s : ReplicaState) → HoldsEdits rule E r → IsPublished e a b r s (Ok tt) → HoldsEdits rule (E ++ e ∷ []) s
  pub drawn_behind : (rule : GenerationsRule) (E : List PlaneEdit) (e : PlaneEdit) (a b : LineState) (r s : ReplicaState) → HoldsEdits rule E r → IsPublishedEnd e a b r s (Ok tt) → HoldsEdits rule (E ++ e ∷ []) s

-- The counter of an edit that a client draws is above the one that it was given, and above that of each edit that its replica
-- holds, so above those of its own drawings before it that the board has: no two of those have one stamp.
pub record DrawsAbove : Type 0 where
  pub given : (rule : GenerationsRule) (number after n : ℕ) (spec : EditSpec) (e : PlaneEdit) → edit_drawn rule (max after (counter_in n)) number spec ≡ Ok e → after < counter_in e.stamp
  pub above : (rule : GenerationsRule) (E : List PlaneEdit) (r : ReplicaState) (after n : ℕ) (spec : EditSpec) (e held : PlaneEdit) → HoldsEdits rule E r → IsGreatestStamp n (map_of r.plane)
      → edit_drawn r.rule (max after (counter_in n)) r.number spec ≡ Ok e → Contains E held → IsEdit held → counter_in held.stamp < counter_in e.stamp
