-- What a server of a board does that is kept in a file.
use Rattle.std.specs.Prelude.{⊤, ◌≡◌, ◌⊎◌, ◌+◌, ℕ, List, map, length, Option, Result, Ok, Err, Vec}
use Rattle.std.specs.declared.alloc.Global.{Global}
use Rattle.board.specs.Entries.{edits_of}
use Rattle.board.specs.Showing.{Origin}
use Rattle.board_keeper.specs.Loading.{raised}
use Rattle.devices.specs.Sink.{KnownSink}
use Rattle.document_bodies.specs.Counters.{AreNewestOf}
use Rattle.document_bodies.specs.Newest.{RiseByReplica}
use Rattle.board_keeper.specs.Opening.{HasHead}
use Rattle.generations_rule.specs.Rule.{GenerationsRule, IsRule}
use Rattle.kept_log.specs.Found.{IsReadTo, listed}
use Rattle.genedit_io.specs.declared.fault.RunFault.{RunFault}
use Rattle.genedit_io.specs.declared.fault.RunFault.TheVariants.{Script, Refused, Read, Turns, Write, Memory, StoreFull}
use Rattle.kept_server.specs.Serving.{IsServedBeside}
use Rattle.relay_board.specs.Seating.{Numbered, Seating}
use Rattle.seat_server.specs.Serving.{FinishedValue}
use Rattle.genedit_serve.specs.Closing.{address_text, closing_text, kept_line}
use Rattle.genedit_serve.specs.Serving.{AreFreshSeats, Fails, Pushes}
use Rattle.genedit_serve.specs.declared.address.Address.{Address}
use Rattle.document_files.specs.declared.refusal.FileRefusal.{FileRefusal}

-- the line of the file was pushed, and then what tells where it listens
pub record TellsKept (edits lost : ℕ) (told : List ℕ) (from to : KnownSink) : Type 0 where
  pub between : KnownSink
  pub keeps : Pushes from between (kept_line edits lost)
  pub listens : Pushes between to told

-- a file of these bytes is read up to a place: it has the head of a document under the rule and these bodies, or it has none
pub record IsKeptFile (r : GenerationsRule) (first : Option (Vec ℕ Global)) (bodies : List (Vec ℕ Global)) (bytes : List ℕ) (whole : ℕ) : Type 0 where
  pub rule : IsRule r
  pub head : HasHead r first bodies
  pub read : IsReadTo bytes (listed first bodies) whole

-- no fault of a script
abbrev pub IsUnopened : RunFault → Type 0
IsUnopened (Script line) = ⊥
IsUnopened (Refused number place) = ⊤
IsUnopened Read = ⊤
IsUnopened Turns = ⊥
IsUnopened Write = ⊤
IsUnopened Memory = ⊤
IsUnopened StoreFull = ⊤

-- the line of the file and what is told behind it were not pushed, for this cause; the first may have been
abbrev pub IsUntold : ℕ → ℕ → KnownSink → KnownSink → RunFault → Type 0
IsUntold edits lost from to (Script line) = ⊥
IsUntold edits lost from to (Refused number place) = ⊥
IsUntold edits lost from to Read = ⊥
IsUntold edits lost from to Turns = ⊥
IsUntold edits lost from to Write = Fails from to ⊎ ((between : KnownSink) × Pushes from between (kept_line edits lost) × Fails between to)
IsUntold edits lost from to Memory = (to ≡ from) ⊎ Pushes from to (kept_line edits lost)
IsUntold edits lost from to StoreFull = ⊥

-- The file's seat brought what the file had, no two edits of one stamp. Nothing was done with the seats of sessions; each
-- edit of theirs has to be newer than those of its number that the file had.
pub record AreKeptSeats (r : GenerationsRule) (first sessions : ℕ) (seats : List Seating) (file : Seating) : Type 0 where
  pub rise : RiseByReplica (edits_of file.mine)
  pub newest : List ℕ
  pub counters : AreNewestOf (edits_of file.mine) newest
  pub unused : List Seating
  pub fresh : AreFreshSeats r first sessions unused
  pub raised : seats ≡ map (raised newest) unused

-- the seats stand at their places, the file's behind them, and there are no others
pub record AreInOrder (made : ℕ) (seats : List Seating) (file : Seating) : Type 0 where
  pub all : made ≡ length seats + 1
  pub order : Numbered 0 seats
  pub last : file.place ≡ length seats

-- A board under the rule was served to its end, with what its file had: of so many seats each was served over streams that
-- nobody had used before, one after another. The lines were pushed that tell how many edits were opened again, and where it listens; behind them those of the sessions and
-- of the published list, in which stands what was opened.
pub record IsServedKept (r : GenerationsRule) (first sessions : ℕ) (told : List ℕ) (from to : KnownSink) : Type 0 where
  pub board : Origin
  pub states : board.states ≡ r.states
  pub seats : List Seating
  pub file : Seating
  pub are : AreKeptSeats r first sessions seats file
  pub finished : FinishedValue
  pub served : IsServedBeside board seats file finished
  pub lost : ℕ
  pub between : KnownSink
  pub tells : TellsKept (length file.mine) lost told from between
  pub closes : Pushes between to (closing_text first finished)

-- nothing was pushed; or the line of the file, or what tells where it listens too
abbrev pub IsToldSoFar : List ℕ → KnownSink → KnownSink → Type 0
IsToldSoFar told from to = (to ≡ from) ⊎ ((edits : ℕ) × (lost : ℕ) × (Pushes from to (kept_line edits lost) ⊎ TellsKept edits lost told from to))

-- Why a kept board was not served to its end, and what was pushed by then. A failed push is told as that of the file is.
abbrev pub IsKeptGivenUp : List ℕ → KnownSink → KnownSink → RunFault → Type 0
IsKeptGivenUp told from to (Script line) = ⊥
IsKeptGivenUp told from to (Refused number place) = IsToldSoFar told from to
IsKeptGivenUp told from to Read = IsToldSoFar told from to
IsKeptGivenUp told from to Turns = ⊥
IsKeptGivenUp told from to Write = IsToldSoFar told from to ⊎ ((between : KnownSink) × IsToldSoFar told from between × Fails between to)
IsKeptGivenUp told from to Memory = IsToldSoFar told from to
IsKeptGivenUp told from to StoreFull = IsToldSoFar told from to

-- by its result, where this tells where it listens
abbrev pub ServesKeptAt : {A : Type 0} → GenerationsRule → ℕ → ℕ → List ℕ → KnownSink → KnownSink → Result A FileRefusal → Type 0
ServesKeptAt r first sessions told from to (Ok done) = IsServedKept r first sessions told from to
ServesKeptAt r first sessions told from to (Err refusal) = IsKeptGivenUp told from to refusal.fault

-- the same at its address; of the port of its listener contracts know nothing
abbrev pub ServesKept : {A : Type 0} → GenerationsRule → ℕ → ℕ → Address → KnownSink → KnownSink → Result A FileRefusal → Type 0
ServesKept r first sessions address from to result = (port : ℕ) × ServesKeptAt r first sessions (address_text address port) from to result
