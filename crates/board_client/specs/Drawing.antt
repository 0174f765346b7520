-- What a drawing does.
use Rattle.std.specs.Prelude.{◌≡◌, ℕ, max, List, [], ◌∷◌, Result, Ok, Err}
use Rattle.std.specs.Result.{IsOk}
use Rattle.edit_stamps.specs.Edit.{PlaneEdit}
use Rattle.edit_stamps.specs.PlaneMap.{IsGreatestStamp}
use Rattle.edit_stamps.specs.Stamp.{counter_in}
use Rattle.delta_exchange.specs.declared.message.Content.{Content}
use Rattle.delta_exchange.specs.declared.message.Content.TheVariants as content
use Rattle.replica_core.specs.declared.fault.Fault.{Fault}
use Rattle.replica_core.specs.Exchange.{IsTakingOf}
use Rattle.replica_core.specs.Replica.{ReplicaState, edit_drawn}
use Rattle.replica_events.specs.declared.edit_spec.EditSpec.{EditSpec}
use Rattle.stamped_tree.specs.Plane.{map_of}
use Rattle.board_client.specs.declared.publishing.Drawing.{Drawing}
use Rattle.board_client.specs.declared.publishing.Drawing.TheVariants.{Drawn, Refused, Unpublished}
use Rattle.board_client.specs.declared.fault.ClientFault.{ClientFault}
use Rattle.board_client.specs.declared.fault.ClientFault.TheVariants.{Line, NoReply, Text, Memory}
use Rattle.board_client.specs.declared.pushing.Pushing.{Pushing}
use Rattle.board_client.specs.declared.pushing.Pushing.TheVariants as pushing
use Rattle.board_client.specs.Client.{LineState}
pub use Rattle.board_client.specs.Pushing.{push_bytes}
use Rattle.board_client.specs.Pushing.{IsPush, IsPushEnd}

-- what comes of a push's request on the line
abbrev pub Pushes : Type 1
Pushes = List ℕ → LineState → LineState → Result Pushing ClientFault → Type 0

-- an edit, and no other content
abbrev pub IsEditAlone : PlaneEdit → Content → Type 0
IsEditAlone e c = c ≡ content.Edits (e ∷ [])

-- the request was pushed, and ended so; the replica is as it was
abbrev pub IsPushedAs : Pushes → List ℕ → LineState → LineState → ReplicaState → ReplicaState → Result Pushing ClientFault → Type 0
IsPushedAs P request a b old new result = P request a b result × (new ≡ old)

-- the board has the edit, and the replica took it, or did not
abbrev pub IsPublishedBy : Pushes → PlaneEdit → LineState → LineState → ReplicaState → ReplicaState → Result (Unit {0}) Fault → Type 0
IsPublishedBy P e a b old new result = P (push_bytes old.rule e) a b (Ok pushing.Done) × IsTakingOf old new (IsEditAlone e) result

-- what came of an edit that was to be published
abbrev pub IsPublishingBy : Pushes → PlaneEdit → LineState → LineState → ReplicaState → ReplicaState → Result Drawing ClientFault → Type 0
IsPublishingBy P e a b old new (Ok (Drawn counter)) = (counter ≡ counter_in e.stamp) × IsPublishedBy P e a b old new (Ok tt)
IsPublishingBy P e a b old new (Ok (Unpublished number)) = IsPushedAs P (push_bytes old.rule e) a b old new (Ok (pushing.Refused number))
IsPublishingBy P e a b old new (Ok (Refused fault)) = ⊥
IsPublishingBy P e a b old new (Err Memory) = ⊥
IsPublishingBy P e a b old new (Err (Text fault)) = IsPublishedBy P e a b old new (Err fault)
IsPublishingBy P e a b old new (Err (Line fault)) = IsPushedAs P (push_bytes old.rule e) a b old new (Err (Line fault))
IsPublishingBy P e a b old new (Err NoReply) = IsPushedAs P (push_bytes old.rule e) a b old new (Err NoReply)

-- an edit that the board has was taken, or was not
abbrev pub IsOwnTaken : PlaneEdit → ReplicaState → ReplicaState → Result Drawing ClientFault → Type 0
IsOwnTaken e old new (Ok (Drawn counter)) = (counter ≡ counter_in e.stamp) × IsTakingOf {A = Unit {0}} old new (IsEditAlone e) (Ok tt)
IsOwnTaken e old new (Err (Text fault)) = IsTakingOf {A = Unit {0}} old new (IsEditAlone e) (Err fault)
IsOwnTaken e old new result = ⊥

-- its push was said and answered
abbrev pub IsPublished : PlaneEdit → LineState → LineState → ReplicaState → ReplicaState → Result (Unit {0}) Fault → Type 0
IsPublished e a b old new result = IsPublishedBy IsPush e a b old new result

abbrev pub IsPublishing : PlaneEdit → LineState → LineState → ReplicaState → ReplicaState → Result Drawing ClientFault → Type 0
IsPublishing e a b old new result = IsPublishingBy IsPush e a b old new result

-- the same behind the saying of its push
abbrev pub IsPublishedEnd : PlaneEdit → LineState → LineState → ReplicaState → ReplicaState → Result (Unit {0}) Fault → Type 0
IsPublishedEnd e a b old new result = IsPublishedBy IsPushEnd e a b old new result

abbrev pub IsPublishingEnd : PlaneEdit → LineState → LineState → ReplicaState → ReplicaState → Result Drawing ClientFault → Type 0
IsPublishingEnd e a b old new result = IsPublishingBy IsPushEnd e a b old new result

-- nothing was pushed, and the replica is as it was
abbrev pub IsUntouched : LineState → LineState → ReplicaState → ReplicaState → Type 0
IsUntouched a b old new = (b ≡ a) × (new ≡ old)

-- the edit that is meant was to be published; or it is refused, and nothing pushed; or memory is wanting, for an edit that nothing refuses
abbrev pub Draws : Result PlaneEdit Fault → LineState → LineState → ReplicaState → ReplicaState → Result Drawing ClientFault → Type 0
Draws meant a b old new (Ok (Refused fault)) = (meant ≡ Err fault) × IsUntouched a b old new
Draws meant a b old new (Err Memory) = IsOk meant × IsUntouched a b old new
Draws meant a b old new result = (e : PlaneEdit) × (meant ≡ Ok e) × IsPublishing e a b old new result

-- the edit is the one that a draw would make at the greatest stamp that the replica holds, or at a given counter where that is greater
abbrev pub IsDrawing : ℕ → EditSpec → LineState → LineState → ReplicaState → ReplicaState → Result Drawing ClientFault → Type 0
IsDrawing after spec a b old new result = (n : ℕ) × IsGreatestStamp n (map_of old.plane) × Draws (edit_drawn old.rule (max after (counter_in n)) old.number spec) a b old new result
