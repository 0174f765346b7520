-- What is asked and heard, and taken by the replica.
use Rattle.std.specs.Prelude.{◌≡◌, ◌⊎◌, ⊤, ℕ, Bool, true, false, ◌<◌, ◌^◌, List, [], ◌∷◌, length, Result, Ok, Err}
use Rattle.devices.specs.Count.{one_more}
use Rattle.delta_exchange.specs.declared.message.Content.TheVariants as content
use Rattle.delta_exchange.specs.Delta.{AreTellable}
use Rattle.delta_exchange.specs.MessageReading.{HasMap, begins_as_delta, message_of}
use Rattle.delta_exchange.specs.Spelling.{delta_text}
use Rattle.delta_exchange.specs.State.{IsTellableMap}
use Rattle.delta_exchange.specs.Versions.{IsReadableStateText}
use Rattle.edit_stamps.specs.Edit.{PlaneEdit}
use Rattle.stamped_writes.specs.Write.{Writes}
use Rattle.frame_line.specs.declared.fault.LineFault.{LineFault}
use Rattle.frame_line.specs.declared.fault.LineFault.TheVariants as lines
use Rattle.frame_line.specs.Receiving.{IsReceived}
use Rattle.replica_core.specs.Exchange.{IsTakingText, TakesSome}
use Rattle.replica_core.specs.Replica.{ReplicaState}
use Rattle.replica_core.specs.declared.fault.Fault.{Fault}
use Rattle.board_client.specs.declared.fault.ClientFault.{ClientFault}
use Rattle.board_client.specs.declared.fault.ClientFault.TheVariants.{Line, Memory, NoReply, Text}
use Rattle.board_client.specs.declared.hearing.Announced.{Announced}
use Rattle.board_client.specs.declared.hearing.Announced.TheVariants.{Edits, Plane}
use Rattle.board_client.specs.Client.{LineState, IsTalk}

-- ---- the line

-- the next body does not come
pub record IsUnheard (fault : LineFault) (a b : LineState) : Type 0 where
  pub received : IsReceived {B = List ℕ} (λ body. body) (2 ^ 32) a.frames b.frames a.source b.source (Err fault)
  pub sink : b.sink ≡ a.sink

-- the sink failed, so that a request could not be said, or not all of it
pub record IsSinkFailure (fault : LineFault) (a b : LineState) : Type 0 where
  pub write : fault ≡ lines.Write
  pub failed : b.sink.failures ≡ one_more a.sink.failures
  pub frames : b.frames ≡ a.frames
  pub source : b.source ≡ a.source

-- that only where something was to be said
abbrev pub IsUnsaid : List (List ℕ) → LineFault → LineState → LineState → Type 0
IsUnsaid [] fault a b = ⊥
IsUnsaid (request ∷ more) fault a b = IsSinkFailure fault a b

-- a request was said; or the line failed
abbrev pub IsSaid : {A : Type 0} → List ℕ → LineState → LineState → Result A ClientFault → Type 0
IsSaid request a b (Ok done) = IsTalk a b (request ∷ []) []
IsSaid request a b (Err (Line fault)) = IsSinkFailure fault a b
IsSaid request a b (Err fault) = ⊥

-- or memory for it was wanting, and nothing said
abbrev pub IsSaidOrWanting : {A : Type 0} → List ℕ → LineState → LineState → Result A ClientFault → Type 0
IsSaidOrWanting request a b (Err Memory) = b ≡ a
IsSaidOrWanting request a b result = IsSaid request a b result

-- a body was heard; or none came
abbrev pub IsHeard : {B : Type 0} → (B → List ℕ) → LineState → LineState → Result B ClientFault → Type 0
IsHeard bytes_of a b (Ok body) = IsTalk a b [] (bytes_of body ∷ [])
IsHeard bytes_of a b (Err (Line fault)) = IsUnheard fault a b
IsHeard bytes_of a b (Err fault) = ⊥

-- this was said, and then nothing came
pub record IsUnanswered (said : List (List ℕ)) (fault : LineFault) (a b : LineState) : Type 0 where
  pub mid : LineState
  pub talk : IsTalk a mid said []
  pub unheard : IsUnheard fault mid b

-- this was said, a request or nothing, and the first body of a reply heard; or the line failed
abbrev pub IsAsked : {B : Type 0} → (B → List ℕ) → List (List ℕ) → LineState → LineState → Result B ClientFault → Type 0
IsAsked bytes_of said a b (Ok body) = IsTalk a b said (bytes_of body ∷ [])
IsAsked bytes_of said a b (Err (Line fault)) = IsUnsaid said fault a b ⊎ IsUnanswered said fault a b
IsAsked bytes_of said a b (Err fault) = ⊥

-- ---- what is taken

-- what a text tells is taken whole: the edits of a delta, or the map of a state in either version
pub record IsTaken (old : ReplicaState) (text : List ℕ) (new : ReplicaState) : Type 0 where
  pub told : IsTakingText {A = Unit {0}} old new text (message_of old.rule text) (Ok tt)
  pub edits : (meant : List PlaneEdit) → AreTellable old.rule.states meant → text ≡ delta_text old.rule meant → TakesSome old new (λ c. c ≡ content.Edits meant)
  pub map : (meant : Writes) → IsTellableMap old.rule.states meant → IsReadableStateText old.rule meant text → TakesSome old new (λ c. HasMap c meant)

-- a text is not taken
abbrev pub IsNotTaken : ReplicaState → List ℕ → ReplicaState → Fault → Type 0
IsNotTaken old text new fault = IsTakingText {A = Unit {0}} old new text (message_of old.rule text) (Err fault)

-- texts are taken one after another
abbrev pub AreTaken : ReplicaState → List (List ℕ) → ReplicaState → Type 0
AreTaken old [] new = new ≡ old
AreTaken old (text ∷ texts) new = (next : ReplicaState) × IsTaken old text next × AreTaken next texts new

-- a text was heard, and P holds of it
pub record HasHeard (P : List ℕ → Type 0) (a b : LineState) : Type 0 where
  pub text : List ℕ
  pub talk : IsTalk a b [] (text ∷ [])
  pub told : P text

-- ---- what was announced

-- edits were, and no plane
abbrev pub is_of_edits : Announced → Bool
is_of_edits Edits = true
is_of_edits Plane = false

-- a text is of the kind that was announced, by the bytes that it begins with
abbrev pub IsAsAnnounced : Announced → List ℕ → Type 0
IsAsAnnounced announced text = begins_as_delta text ≡ Ok (is_of_edits announced)

-- each text is one of edits
abbrev pub AreDeltas : List (List ℕ) → Type 0
AreDeltas [] = ⊤
AreDeltas (text ∷ texts) = IsAsAnnounced Edits text × AreDeltas texts

-- a text that was announced was heard and taken; or none came, or one of the other kind, or the one that came is not taken
abbrev pub IsTextHeard : {A : Type 0} → Announced → LineState → LineState → ReplicaState → ReplicaState → Result A ClientFault → Type 0
IsTextHeard announced a b old new (Ok done) = HasHeard (λ text. IsAsAnnounced announced text × IsTaken old text new) a b
IsTextHeard announced a b old new (Err (Line fault)) = IsUnheard fault a b × (new ≡ old)
IsTextHeard announced a b old new (Err NoReply) = HasHeard (λ text. IsAsAnnounced announced text → ⊥) a b × (new ≡ old)
IsTextHeard announced a b old new (Err (Text fault)) = HasHeard (λ text. IsAsAnnounced announced text × IsNotTaken old text new fault) a b
IsTextHeard announced a b old new (Err Memory) = ⊥

-- so many texts of edits were heard, and each was taken before the next was heard
pub record AreHeard (count : ℕ) (a b : LineState) (old new : ReplicaState) : Type 0 where
  pub texts : List (List ℕ)
  pub number : length texts ≡ count
  pub talk : IsTalk a b [] texts
  pub deltas : AreDeltas texts
  pub taken : AreTaken old texts new

-- fewer than so many were heard and taken, and the next one did not come, or is none, or is not taken
pub record AreCutShort (count : ℕ) (fault : ClientFault) (a b : LineState) (old new : ReplicaState) : Type 0 where
  pub few : ℕ
  pub fewer : few < count
  pub mid : LineState
  pub between : ReplicaState
  pub first : AreHeard few a mid old between
  pub next : IsTextHeard {A = Unit {0}} Edits mid b between new (Err fault)

-- all of them; or fewer
abbrev pub AreTextsHeard : {A : Type 0} → ℕ → LineState → LineState → ReplicaState → ReplicaState → Result A ClientFault → Type 0
AreTextsHeard count a b old new (Ok done) = AreHeard count a b old new
AreTextsHeard count a b old new (Err fault) = AreCutShort count fault a b old new
