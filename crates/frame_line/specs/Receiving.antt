-- What receiving a body does.
use Rattle.std.specs.Prelude.{◌≡◌, ◌≢◌, ◌⊎◌, ⊤, ℕ, ◌+◌, ◌<◌, ◌≤◌, true, false, List, [], ◌∷◌, ◌++◌, length, flat_map, Option, Some, None, Result, Ok, Err, IsOk, IsTrue}
use Rattle.std.specs.Io.KnownBytes.{Consumes, Keeps, IsAtEnd}
use Rattle.devices.specs.Count.{so_many_more}
use Rattle.devices.specs.Source.{KnownSource}
use Rattle.message_frames.specs.Frames.{FrameStream, frame_at, frame_text, is_body, unfinished, too_long}
use Rattle.frame_line.specs.declared.fault.LineFault.{LineFault}
use Rattle.frame_line.specs.declared.fault.LineFault.TheVariants.{FrameTooLong, Ended, Cut, Turns, Read, Write, Memory}

-- how a source was used: so many pulls, failures and ends more
pub record IsUsed (pulls failures ends_met : ℕ) (old new : KnownSource) : Type 0 where
  pub pulls_on : new.pulls ≡ so_many_more pulls old.pulls
  pub failures_on : new.failures ≡ so_many_more failures old.failures
  pub ends_on : new.ends_met ≡ so_many_more ends_met old.ends_met

-- ---- one pull

-- what an end of the input is, by what is pending
abbrev pub IsEnd : List ℕ → LineFault → Type 0
IsEnd pending Ended = pending ≡ []
IsEnd pending Cut = pending ≢ []
IsEnd pending fault = ⊥

-- a piece came, which is not empty
pub record HasCome (piece : List ℕ) (old new : KnownSource) : Type 0 where
  pub some : piece ≢ []
  pub bytes : Consumes old.left new.left piece
  pub used : IsUsed 1 0 0 old new

-- the input ended, and nothing more came
pub record HasEnded (old new : KnownSource) : Type 0 where
  pub kept : Keeps old.left new.left
  pub at_end : IsAtEnd new.left
  pub used : IsUsed 1 0 1 old new

-- the source failed, and nothing more came
pub record HasFailed (old new : KnownSource) : Type 0 where
  pub kept : Keeps old.left new.left
  pub used : IsUsed 1 1 0 old new

-- a piece that came stands behind what is pending, or found no memory; or none came
abbrev pub IsPulled : {D : Type 0} → FrameStream → FrameStream → KnownSource → KnownSource → Result D LineFault → Type 0
IsPulled old new from to (Ok done) = (piece : List ℕ) × HasCome piece from to × (new ≡ record { pending = old.pending ++ piece; is_spent = false })
IsPulled old new from to (Err Memory) = (piece : List ℕ) × HasCome piece from to × (new ≡ old)
IsPulled old new from to (Err Read) = HasFailed from to × (new ≡ old)
IsPulled old new from to (Err fault) = HasEnded from to × IsEnd old.pending fault × (new ≡ old)

-- ---- the body that stands next

-- a body stands next in some bytes, and these are behind its frame
pub record StandsNext (bytes body rest : List ℕ) : Type 0 where
  pub reads : frame_at bytes ≡ Ok (body, rest)
  pub fits : IsTrue (is_body body)
  pub spelt : bytes ≡ frame_text body ++ rest

-- a body is taken where its frame stands next; without one all stays as it is
abbrev pub IsNext : {B : Type 0} → (B → List ℕ) → FrameStream → FrameStream → Result (Option B) LineFault → Type 0
IsNext bytes_of old new (Ok (Some body)) = StandsNext old.pending (bytes_of body) new.pending × (new.is_spent ≡ false) × (old.is_spent ≡ false)
IsNext bytes_of old new (Ok None) = (frame_at old.pending ≡ Err unfinished) × (new.pending ≡ old.pending) × (new.is_spent ≡ false)
IsNext bytes_of old new (Err FrameTooLong) = (frame_at old.pending ≡ Err too_long) × (new ≡ old)
IsNext bytes_of old new (Err Memory) = (old.is_spent ≡ true) ⊎ IsOk (frame_at old.pending)
IsNext bytes_of old new (Err fault) = ⊥

-- ---- pulls, until a body stands next

-- pieces came one after another, none empty, each where no whole frame stood next and no length that is too great
abbrev pub AreNeeded : List ℕ → List (List ℕ) → Type 0
AreNeeded pending [] = ⊤
AreNeeded pending (piece ∷ pieces) = (frame_at pending ≡ Err unfinished) × (piece ≢ []) × AreNeeded (pending ++ piece) pieces

-- pieces, one after another
abbrev pub bytes_in : List (List ℕ) → List ℕ
bytes_in pieces = flat_map (λ (piece : List ℕ). piece) pieces

-- how it fails, by all that is pending behind the last piece
abbrev pub FailsAs : ℕ → ℕ → List ℕ → FrameStream → FrameStream → KnownSource → KnownSource → LineFault → Type 0
FailsAs turns pieces all old new from to FrameTooLong = (frame_at all ≡ Err too_long) × (new.pending ≡ all) × IsUsed pieces 0 0 from to
FailsAs turns pieces all old new from to Ended = (all ≡ []) × (new.pending ≡ []) × IsAtEnd to.left × IsUsed (pieces + 1) 0 1 from to
FailsAs turns pieces all old new from to Cut = (frame_at all ≡ Err unfinished) × (all ≢ []) × (new.pending ≡ all) × IsAtEnd to.left × IsUsed (pieces + 1) 0 1 from to
FailsAs turns pieces all old new from to Turns = (frame_at all ≡ Err unfinished) × (pieces ≡ turns) × (new.pending ≡ all) × IsUsed pieces 0 0 from to
FailsAs turns pieces all old new from to Read = (frame_at all ≡ Err unfinished) × (new.pending ≡ all) × IsUsed (pieces + 1) 1 0 from to
FailsAs turns pieces all old new from to Write = ⊥
FailsAs turns pieces all old new from to Memory = ((old.is_spent ≡ true) ⊎ ((0 < pieces) ⊎ IsOk (frame_at all))) × IsUsed pieces 0 0 from to

-- how it ends: a body stands next, or it fails
abbrev pub EndsAs : {B : Type 0} → (B → List ℕ) → ℕ → ℕ → List ℕ → FrameStream → FrameStream → KnownSource → KnownSource → Result B LineFault → Type 0
EndsAs bytes_of turns pieces all old new from to (Ok body) = StandsNext all (bytes_of body) new.pending × IsUsed pieces 0 0 from to
EndsAs bytes_of turns pieces all old new from to (Err fault) = FailsAs turns pieces all old new from to fault

-- so many pieces at most were pulled, each where it was needed, and it ended
pub record IsReceived {B : Type 0} (bytes_of : B → List ℕ) (turns : ℕ) (old new : FrameStream) (from to : KnownSource) (result : Result B LineFault) : Type 0 where
  pub pieces : List (List ℕ)
  pub needed : AreNeeded old.pending pieces
  pub bytes : Consumes from.left to.left (bytes_in pieces)
  pub within : length pieces ≤ turns
  pub ends : EndsAs bytes_of turns (length pieces) (old.pending ++ bytes_in pieces) old new from to result
