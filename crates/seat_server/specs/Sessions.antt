-- What a session does to its seat.
use Rattle.std.specs.Prelude.{◌≡◌, ⊤, ℕ, ◌^◌, List, [], ◌∷◌, map, Option, Some, None, Result}
use Rattle.devices.specs.Source.{KnownSource}
use Rattle.devices.specs.Sink.{KnownSink}
use Rattle.generations_rule.specs.Rule.{GenerationsRule}
use Rattle.frame_service.specs.declared.fault.ServeFault.{ServeFault}
use Rattle.frame_service.specs.declared.served.Served.{Served}
use Rattle.frame_service.specs.Service.{IsService}
use Rattle.relay_board.specs.Seating.{Seating, again}
use Rattle.replica_sessions.specs.Answer.{AnswersAs, SessionState}
use Rattle.seat_hub.specs.SeatCalls.{IsSeatCall}
use Rattle.session_hub.specs.Replies.{Kept, nothing_kept}

abbrev pub rule_of : Seating → GenerationsRule
rule_of s = s.rule

-- its number: the replica whose edits it puts
abbrev pub number_of : Seating → ℕ
number_of s = s.number

-- a session over a seat
abbrev pub session_at : Seating → Kept → SessionState Seating
session_at s kept = record { hub = s; kept = kept }

-- a stream, as it was before a session and as the session left it, and how the session ended
pub record VisitValue : Type 0 where
  pub source : KnownSource
  pub source' : KnownSource
  pub from : KnownSink
  pub to : KnownSink
  pub end : Result Served ServeFault

-- A seat was served over a stream: the requests in the bytes that were pulled from it were answered one after another,
-- each by one call of the seat at most, and their replies pushed to it, up to the end.
pub record IsVisit (before : Seating) (v : VisitValue) (after : Seating) : Type 0 where
  pub kept : Kept
  pub service : IsService (AnswersAs IsSeatCall rule_of number_of) (2 ^ 32) v.end (session_at before nothing_kept) (session_at after kept) v.source v.source' v.from v.to

-- nothing was pulled from a source, and it did not fail
pub record IsUnusedSource (source : KnownSource) : Type 0 where
  pub pulls : source.pulls ≡ 0
  pub ends_met : source.ends_met ≡ 0
  pub failures : source.failures ≡ 0

-- nothing was pushed to a sink
pub record IsUnusedSink (sink : KnownSink) : Type 0 where
  pub pushes : sink.pushes ≡ 0
  pub failures : sink.failures ≡ 0

-- a seat was served over a stream that nobody had used before
pub record IsFirstVisit (before : Seating) (v : VisitValue) (after : Seating) : Type 0 where
  pub visit : IsVisit before v after
  pub source : IsUnusedSource v.source
  pub sink : IsUnusedSink v.from

-- A seat was served over these streams, one after another: each session begins over the seat as the one before left it, of
-- which nothing counts as handed out any more.
abbrev pub AreVisits : Seating → List VisitValue → Seating → Type 0
AreVisits before [] after = after ≡ before
AreVisits before (v ∷ visits) after = (mid : Seating) × IsFirstVisit before v mid × AreVisits (again mid) visits after

-- each of these seats was served over the streams at its place
abbrev pub AreAttended : List Seating → List (List VisitValue) → List Seating → Type 0
AreAttended [] [] [] = ⊤
AreAttended (a ∷ before) (visits ∷ all) (b ∷ after) = AreVisits a visits b × AreAttended before all after
AreAttended _ _ _ = ⊥

-- ---- how sessions ended

abbrev pub SessionEnd : Type 0
SessionEnd = Result Served ServeFault

-- how the last of these sessions ended; where there is none, this is known of the one before
abbrev pub last_end_behind : Option SessionEnd → List VisitValue → Option SessionEnd
last_end_behind end [] = end
last_end_behind end (v ∷ visits) = last_end_behind (Some v.end) visits

-- how the last of these sessions ended, if there is any
abbrev pub last_end : List VisitValue → Option SessionEnd
last_end = last_end_behind None

-- a seat was served over some streams, one after another, and so the last session ended
pub record IsSeated (before : Seating) (end : Option SessionEnd) (after : Seating) : Type 0 where
  pub visits : List VisitValue
  pub are : AreVisits before visits after
  pub last : end ≡ last_end visits

-- each of these seats was served over some streams, one after another, and so the last sessions ended
pub record AreServed (before : List Seating) (ends : List (Option SessionEnd)) (after : List Seating) : Type 0 where
  pub visits : List (List VisitValue)
  pub attended : AreAttended before visits after
  pub last : ends ≡ map last_end visits
