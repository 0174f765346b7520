-- A session over a hub that has a seat is a session over the seat, and leaves it at its place.
use Rattle.std.proofs.Common.{◌≡◌, ℕ, ◌^◌, ◌++◌, List, [], ◌∷◌, Option, Some, None, inl, inr, ap, refl, sym, subst, ◌∙◌}
use Rattle.std.specs.Prelude.{Result, Ok, Err}
use Rattle.devices.specs.Source.{KnownSource}
use Rattle.devices.specs.Sink.{KnownSink}
use Rattle.generations_rule.specs.Rule.{GenerationsRule}
use Rattle.frame_service.specs.Exchanges.{AreAnswered, Exchange}
use Rattle.frame_service.specs.declared.fault.ServeFault.{ServeFault}
use Rattle.frame_service.specs.declared.reply.Reply.{Reply}
use Rattle.frame_service.specs.declared.served.Served.{Served}
use Rattle.frame_service.specs.Service.{IsService}
use Rattle.relay_board.specs.Seating.{Seating, again}
use Rattle.replica_sessions.specs.Answer.{AnswersAs, IsAnswered, SessionState}
use Rattle.seat_hub.specs.SeatCalls.{IsSeatCall}
use Rattle.session_hub.specs.HubCall.{AllowsAtMost, Hands, HubCall, Polls, Pushes, Shows}
use Rattle.session_hub.specs.declared.fault.HubFault.TheVariants.{NotYours, StateRange, OldStamp, Full, Closed, StoreFull, Memory}
use Rattle.session_hub.specs.Replies.{Kept, nothing_kept}
use Rattle.session_hub.specs.Request.{Request, request_of}
use Rattle.seat_server.specs.Sessions.{AreVisits, IsFirstVisit, IsSeated, IsVisit, SessionEnd, VisitValue, last_end_behind, number_of, rule_of, session_at}

module _ {H : Type 0} (seat_of : H → Seating) where
  abbrev allows_over : H → HubCall → H → Type 0
  allows_over a call b = IsSeatCall (seat_of a) call (seat_of b)

  abbrev OverHub : SessionState H → List ℕ → Option Reply → SessionState H → Type 0
  OverHub = AnswersAs allows_over (λ h. rule_of (seat_of h)) (λ h. number_of (seat_of h))

  abbrev OverSeat : SessionState Seating → List ℕ → Option Reply → SessionState Seating → Type 0
  OverSeat = AnswersAs IsSeatCall rule_of number_of

  abbrev seen : SessionState H → SessionState Seating
  seen s = record { hub = seat_of s.hub; kept = s.kept }

  at_most : (a b : H) (call : Option HubCall) → AllowsAtMost allows_over a call b → AllowsAtMost IsSeatCall (seat_of a) call (seat_of b)
  at_most a b None same = ap seat_of same
  at_most a b (Some call) allowed = allowed

  answered : (r : GenerationsRule) (seat : ℕ) (request : Request) (reply : Option Reply) (a : H) (kept : Kept) (b : H) (left : Kept)
      → IsAnswered allows_over r seat request reply a kept b left → IsAnswered IsSeatCall r seat request reply (seat_of a) kept (seat_of b) left
  answered r seat request None a kept b left same = (ap seat_of same.0, same.1)
  answered r seat request (Some reply) a kept b left answer = (
    record {
      call = answer.0.call;
      allowed = at_most a b answer.0.call answer.0.allowed;
      replied = answer.0.replied;
    },
    answer.1,
  )

  answers : (s : SessionState H) (request : List ℕ) (reply : Option Reply) (t : SessionState H) → OverHub s request reply t → OverSeat (seen s) request reply (seen t)
  answers s request reply t one = record {
    answered = answered (rule_of (seat_of s.hub)) (number_of (seat_of s.hub)) (request_of request) reply s.hub s.kept t.hub t.kept one.answered;
    rule = one.rule;
    number = one.number;
  }

  all_answered : (xs : List Exchange) (s t : SessionState H) → AreAnswered OverHub s xs t → AreAnswered OverSeat (seen s) xs (seen t)
  all_answered [] s t same = ap seen same
  all_answered (x ∷ xs) s t (next, first, rest) = (seen next, answers s x.request x.reply next first, all_answered xs next t rest)

  pub seat_served : (turns : ℕ) (end : Result Served ServeFault) (s t : SessionState H) (source source' : KnownSource) (from to : KnownSink)
      → IsService OverHub turns end s t source source' from to → IsService OverSeat turns end (seen s) (seen t) source source' from to
  seat_served turns end s t source source' from to service = record {
    pulled = service.pulled;
    exchanges = service.exchanges;
    left = service.left;
    bytes = service.bytes;
    exchanged = record { cut = service.exchanged.cut; answered = all_answered service.exchanges s t service.exchanged.answered };
    ends = service.ends;
  }

  -- a service over a hub that had the one seat first, and has the other now
  pub visited : (before after : Seating) (end : Result Served ServeFault) (s t : SessionState H) (source source' : KnownSource) (from to : KnownSink)
      → seen s ≡ session_at before nothing_kept → seat_of t.hub ≡ after → IsService OverHub (2 ^ 32) end s t source source' from to
      → IsVisit before (record { source = source; source' = source'; from = from; to = to; end = end }) after
  visited before after end s t source source' from to begins leaves service = record {
    kept = t.kept;
    service = subst (λ (a : SessionState Seating). IsService OverSeat (2 ^ 32) end a (session_at after t.kept) source source' from to) begins
        (subst (λ (b : Seating). IsService OverSeat (2 ^ 32) end (seen s) (session_at b t.kept) source source' from to) leaves
        (seat_served (2 ^ 32) end s t source source' from to service));
  }

-- ---- a seat stays at its place

call_stays : (a b : Seating) (call : HubCall) → IsSeatCall a call b → b.place ≡ a.place
call_stays a b (Pushes edit (Ok done)) did = did.read.same.place ∙ did.submits.same.place
call_stays a b (Pushes edit (Err NotYours)) did = did.same.place
call_stays a b (Pushes edit (Err StateRange)) did = did.same.place
call_stays a b (Pushes edit (Err OldStamp)) did = did.same.place
call_stays a b (Pushes edit (Err Full)) did = did.same.place
call_stays a b (Pushes edit (Err Closed)) (inl did) = did.same.place
call_stays a b (Pushes edit (Err Closed)) (inr did) = did.same.place
call_stays a b (Pushes edit (Err StoreFull)) did = absurd did
call_stays a b (Pushes edit (Err Memory)) did = did.same.place
call_stays a b (Polls (Ok news)) did = did.0.read.same.place
call_stays a b (Polls (Err NotYours)) did = absurd did
call_stays a b (Polls (Err StateRange)) did = absurd did
call_stays a b (Polls (Err OldStamp)) did = absurd did
call_stays a b (Polls (Err Full)) did = absurd did
call_stays a b (Polls (Err Closed)) did = did.0.read.same.place
call_stays a b (Polls (Err StoreFull)) did = absurd did
call_stays a b (Polls (Err Memory)) did = did.read.same.place
call_stays a b (Hands (Ok given)) did = did.0.read.same.place
call_stays a b (Hands (Err NotYours)) did = absurd did
call_stays a b (Hands (Err StateRange)) did = absurd did
call_stays a b (Hands (Err OldStamp)) did = absurd did
call_stays a b (Hands (Err Full)) did = absurd did
call_stays a b (Hands (Err Closed)) did = did.0.read.same.place
call_stays a b (Hands (Err StoreFull)) did = absurd did
call_stays a b (Hands (Err Memory)) did = did.read.same.place
call_stays a b (Shows (Ok plane)) did = did.0.read.same.place
call_stays a b (Shows (Err NotYours)) did = absurd did
call_stays a b (Shows (Err StateRange)) did = absurd did
call_stays a b (Shows (Err OldStamp)) did = absurd did
call_stays a b (Shows (Err Full)) did = absurd did
call_stays a b (Shows (Err Closed)) did = did.0.read.same.place
call_stays a b (Shows (Err StoreFull)) did = absurd did
call_stays a b (Shows (Err Memory)) did = did.read.same.place

at_most_stays : (a b : Seating) (call : Option HubCall) → AllowsAtMost IsSeatCall a call b → b.place ≡ a.place
at_most_stays a b None same = ap (λ (s : Seating). s.place) same
at_most_stays a b (Some call) did = call_stays a b call did

answer_stays : (r : GenerationsRule) (seat : ℕ) (request : Request) (reply : Option Reply) (a : Seating) (kept : Kept) (b : Seating) (left : Kept)
    → IsAnswered IsSeatCall r seat request reply a kept b left → b.place ≡ a.place
answer_stays r seat request None a kept b left same = ap (λ (s : Seating). s.place) same.0
answer_stays r seat request (Some reply) a kept b left answer = at_most_stays a b answer.0.call answer.0.allowed

all_stay : (xs : List Exchange) (s t : SessionState Seating) → AreAnswered (AnswersAs IsSeatCall rule_of number_of) s xs t → t.hub.place ≡ s.hub.place
all_stay [] s t same = ap (λ (u : SessionState Seating). u.hub.place) same
all_stay (x ∷ xs) s t (next, first, rest) =
    all_stay xs next t rest ∙ answer_stays (rule_of s.hub) (number_of s.hub) (request_of x.request) x.reply s.hub s.kept next.hub next.kept first.answered

place_stays : (a b : Seating) (v : VisitValue) → IsVisit a v b → b.place ≡ a.place
place_stays a b v one = all_stay one.service.exchanges _ _ one.service.exchanged.answered

pub places_stay : (visits : List VisitValue) (a b : Seating) → AreVisits a visits b → b.place ≡ a.place
places_stay [] a b same = ap (λ (s : Seating). s.place) same
places_stay (v ∷ visits) a b (mid, first, rest) = places_stay visits (again mid) b rest ∙ place_stays a mid v first.visit

-- ---- one session more

-- behind the others
more_visits : (visits : List VisitValue) (a b : Seating) (v : VisitValue) (mid : Seating) → AreVisits a visits b → IsFirstVisit b v mid → AreVisits a (visits ++ v ∷ []) (again mid)
more_visits [] a b v mid same next = (mid, subst (λ (s : Seating). IsFirstVisit s v mid) same next, refl)
more_visits (w ∷ visits) a b v mid (one, first, rest) next = (one, first, more_visits visits (again one) b v mid rest next)

last_of_more : (end : Option SessionEnd) (visits : List VisitValue) (v : VisitValue) → last_end_behind end (visits ++ v ∷ []) ≡ Some v.end
last_of_more end [] v = refl
last_of_more end (w ∷ visits) v = last_of_more (Some w.end) visits v

-- no session yet
pub unseated : (a : Seating) → IsSeated a None a
unseated a = record { visits = []; are = refl; last = refl }

pub seated_more : (a b : Seating) (end : Option SessionEnd) (v : VisitValue) (mid c : Seating) (last : SessionEnd) → IsSeated a end b → IsFirstVisit b v mid → v.end ≡ last → c ≡ again mid
    → IsSeated a (Some last) c
seated_more a b end v mid c last so next ends is = record {
  visits = so.visits ++ v ∷ [];
  are = subst (λ (s : Seating). AreVisits a (so.visits ++ v ∷ []) s) (sym is) (more_visits so.visits a b v mid so.are next);
  last = sym (last_of_more None so.visits v ∙ ap (λ (e : SessionEnd). Some e) ends);
}
