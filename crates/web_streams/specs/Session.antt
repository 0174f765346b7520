-- What a session pulls from a socket, however often it reads and asks.
use Rattle.std.specs.Prelude.{◌≡◌, ℕ, List, [], ◌++◌, take}
use Rattle.message_frames.specs.Frames.{stream_of}
use Rattle.web_streams.specs.Hearing.{Comes, IsOpened, Listens, pending, Pulls, PullsNothing}
use Rattle.web_streams.specs.declared.came.Came.{Came}
use Rattle.web_streams.specs.declared.reader.SocketReader.{SocketReader}

-- These bytes were pulled from a reader: what was pending and the frames of the bodies that were brought, in order, up to what
-- is pending.
pub record IsPulled {S : Type 0} (old new : SocketReader S) (bytes : List ℕ) : Type 0 where
  pub bodies : List (List ℕ)
  pub listens : Listens old new bodies
  pub spelt : pending old ++ stream_of bodies ≡ bytes ++ pending new

-- However often a reader is read and asked, what is pulled from it are the frames of the bodies that were brought; and from its
-- opening on, where nothing is pending, these and no more.
pub record PullsFrames (S : Type 0) : Type 0 where
  pub read : (a b : SocketReader S) (count : ℕ) (piece : List ℕ) → Pulls a b count piece → IsPulled a b (take count piece)
  pub blocked : (a b : SocketReader S) → PullsNothing a b → IsPulled a b []
  pub asked : (a b : SocketReader S) (came : Came) → Comes a b came → IsPulled a b []
  pub again : (a b c : SocketReader S) (xs ys : List ℕ) → IsPulled a b xs → IsPulled b c ys → IsPulled a c (xs ++ ys)
  pub whole : (connection : S) (behind : List ℕ) (a b : SocketReader S) (bytes : List ℕ) → IsOpened connection behind a → IsPulled a b bytes → pending b ≡ []
      → (bodies : List (List ℕ)) × Listens a b bodies × (bytes ≡ stream_of bodies)
