-- All that the clients of a served board are told is of one list.
use Rattle.std.proofs.Common.{◌≡◌, ◌∙◌, ◌++◌, ◌+◌, ◌-◌, ◌≤◌, ℕ, zero, suc, Bool, true, false, List, [], ◌∷◌, Option, Some, None, ap, refl, sym, subst, inl, inr, length, arith, append_assoc}
use Rattle.std.specs.Prelude.{Result, Ok, Err, take, drop, slice_get, nat_le}
use Rattle.std.proofs.lemmas.Bool.Decides.{nat_tests}
use Rattle.std.proofs.lemmas.List.{append-nil, length-drop, length-map, map-append, take-append-drop, take-append-le}
use mathlib.Core.List.{IsPrefix}
use Rattle.generations_rule.specs.Place.{Place}
use Rattle.generations_rule.specs.Rule.{GenerationsRule}
use Rattle.edit_stamps.specs.Edit.{PlaneEdit, greatest}
use Rattle.stamped_writes.specs.Write.{AreSame, Writes}
use Rattle.stamped_tree.specs.Plane.{StampedPlane, map_of}
use Rattle.generation_engine.specs.Universe.{states_in_writes}
use Rattle.export.specs.declared.fault.ExportFault.{ExportFault}
use Rattle.export.specs.Asking.{IsCut, IsCutRefused}
use Rattle.export.specs.Export.{IsExport, IsExportRefused, most_cells}
use Rattle.pattern_cells.specs.declared.window.Window.{Window}
use Rattle.export_workers.specs.Exports.{AreExportAnswers, IsExportAnswer}
use Rattle.frame_service.specs.declared.reply.Reply.{Reply}
use Rattle.frame_service.specs.Exchanges.{AreAnswered, Exchange, frames_of}
use Rattle.board.specs.declared.entry.Entry.{Entry}
use Rattle.board.specs.Entries.{edits_of, last_of}
use Rattle.board.specs.Origins.{list_of}
use Rattle.board.proofs.Fronts.{prefix_get, prefix_length, prefix_self, prefix_trans}
use Rattle.poll_news.specs.declared.news.News.{News}
use Rattle.poll_news.specs.declared.news.News.TheVariants as news
use Rattle.relay_board.specs.Seating.{BeginsWithAll, Seating, again}
use Rattle.replica_sessions.specs.Answer.{AnswersAs, IsAnswered, SessionState}
use Rattle.seat_hub.specs.SeatCalls.{IsSeatCall}
use Rattle.session_hub.specs.declared.fault.HubFault.{HubFault}
use Rattle.session_hub.specs.declared.fault.HubFault.TheVariants.{NotYours, StateRange, OldStamp, Full, Closed, StoreFull, Memory}
use Rattle.session_hub.specs.HubFault.{hub_fault_number}
use Rattle.session_hub.specs.HubCall.{AllowsAtMost, Hands, HubCall, Polls, Pushes, Shows}
use Rattle.session_hub.specs.Request.{Await, Bye, Cut, Export, Faulty, Hello, Many, Pieces, Poll, Push, Request, Whole, request_of}
use Rattle.session_hub.specs.Replies.{IsCutAnswer, IsKeptReply, IsPiecesReply, IsPollReply, IsPushReply, IsReply, IsReplyOf, IsShownReply, IsWanting, IsWholeReply, KeepsAll, KeepsNews, Kept, RepliesOrWants, edits_frames, edits_left, edits_reply, most_edits, nothing_kept, pushed_of, refusal, with_plane}
use Rattle.seat_server.specs.Sessions.{AreAttended, AreVisits, VisitValue, number_of, rule_of, session_at}
use Rattle.seat_server.specs.OneList.{AreTextsOf, AreToldBehind, AreToldSeats, AreToldVisits, BeginsWithWant, Counted, CutText, Edits, HasAccepted, HaveSeenHanded, IsAccepted, IsCutTextOf, IsForNews, IsTextOf, IsToldBehind, IsToldOf, Nothing, Plane, Telling, Tells, TellsNothing, TellsOfOneList, Texts}

-- ---- beginnings

edits_taken : (n : ℕ) (es : List Entry) → take n (edits_of es) ≡ edits_of (take n es)
edits_taken zero es = refl
edits_taken (suc n) [] = refl
edits_taken (suc n) (e ∷ es) = ap (λ xs. e.edit ∷ xs) (edits_taken n es)

taken : (n : ℕ) (xs ys : List Entry) → IsPrefix xs ys → n ≤ length xs → take n ys ≡ take n xs
taken n xs ys p le = ap (take n) (sym p.1) ∙ take-append-le n xs p.0 le

taken_all : (n : ℕ) (xs : List Entry) → n ≡ length xs → take n xs ≡ xs
taken_all zero [] same = refl
taken_all zero (x ∷ xs) same = absurd (omega (arith, same))
taken_all (suc n) [] same = absurd (omega (arith, same))
taken_all (suc n) (x ∷ xs) same = ap (λ ys. x ∷ ys) (taken_all n xs (omega (arith, same)))

edits_begin : (xs ys : List Entry) → IsPrefix xs ys → IsPrefix (edits_of xs) (edits_of ys)
edits_begin xs ys p = (edits_of p.0, sym (map-append (λ (e : Entry). e.edit) xs p.0) ∙ ap edits_of p.1)

-- ---- edits that were pushed

HasEdit : List PlaneEdit → PlaneEdit → Type 0
HasEdit edits e = (at : ℕ) × (slice_get edits at ≡ Some e)

accepted_grows : (r : GenerationsRule) (xs : List Exchange) (some all : List PlaneEdit) → IsPrefix some all → HasAccepted r some xs → HasAccepted r all xs
accepted_grows r [] some all p has = tt
accepted_grows r (x ∷ xs) some all p has = (
  λ e is. let found = has.0 e is in (found.0, prefix_get some all found.0 e p found.1),
  accepted_grows r xs some all p has.1,
)

accepted_more : (r : GenerationsRule) (xs : List Exchange) (x : Exchange) (edits : List PlaneEdit) → HasAccepted r edits xs
    → ((e : PlaneEdit) → IsAccepted r x e → (at : ℕ) × (slice_get edits at ≡ Some e)) → HasAccepted r edits (xs ++ x ∷ [])
accepted_more r [] x edits has own = (own, tt)
accepted_more r (y ∷ xs) x edits has own = (has.0, accepted_more r xs x edits has.1 own)

want_more : (later : List Exchange) (x : Exchange) → BeginsWithWant later → BeginsWithWant (later ++ x ∷ [])
want_more [] x want = absurd want
want_more (y ∷ later) x want = want

-- ---- what a session keeps

-- a plane that is kept for a reply: of what was handed out by then
record IsOlder (r : GenerationsRule) (earlier : List Exchange) (handed : List Entry) (p : StampedPlane) : Type 0 where
  pub counted : List Exchange
  pub later : List Exchange
  pub parts : earlier ≡ counted ++ later
  pub want : BeginsWithWant later
  pub map : AreSame (map_of p) (greatest (edits_of handed))
  pub has : HasAccepted r (edits_of handed) counted

abbrev KeepsOf : GenerationsRule → List Exchange → List Entry → List PlaneEdit → Option StampedPlane → Type 0
KeepsOf r earlier handed edits None = (before : List PlaneEdit) × (edits_of handed ≡ before ++ edits)
KeepsOf r earlier handed edits (Some p) = IsOlder r earlier handed p

keeps_more : (r : GenerationsRule) (earlier : List Exchange) (x : Exchange) (handed : List Entry) (edits : List PlaneEdit) (plane : Option StampedPlane)
    → KeepsOf r earlier handed edits plane → KeepsOf r (earlier ++ x ∷ []) handed edits plane
keeps_more r earlier x handed edits None keeps = keeps
keeps_more r earlier x handed edits (Some p) keeps = record {
  counted = keeps.counted;
  later = keeps.later ++ x ∷ [];
  parts = ap (λ xs. xs ++ x ∷ []) keeps.parts ∙ append_assoc keeps.counted keeps.later (x ∷ []);
  want = want_more keeps.later x keeps.want;
  map = keeps.map;
  has = keeps.has;
}

-- behind some exchanges
record Holds (r : GenerationsRule) (earlier : List Exchange) (a : Seating) (kept : Kept) : Type 0 where
  pub handed : a.handed ≤ length a.seen
  pub accepted : HasAccepted r (edits_of a.seen) earlier
  pub keeps : KeepsOf r earlier (take a.handed a.seen) kept.edits kept.plane

-- an exchange tells of what is seen behind it
record Steps (r : GenerationsRule) (seat : ℕ) (earlier : List Exchange) (x : Exchange) (a b : Seating) (left : Kept) : Type 0 where
  pub told : IsToldBehind r seat b.seen earlier x
  pub holds : Holds r (earlier ++ x ∷ []) b left
  pub grows : IsPrefix a.seen b.seen

-- ---- exports of one map

states_same : (p q : Writes) → AreSame p q → states_in_writes p ≡ states_in_writes q
states_same p q same = λ i c. (same c i).state

text_of : (r : GenerationsRule) (p : StampedPlane) (edits : List PlaneEdit) (g : ℕ) (answer : Result (List ℕ) ExportFault) → AreSame (map_of p) (greatest edits)
    → IsExportAnswer r p g answer → IsTextOf r edits g answer
text_of r p edits g (Ok text) same is = subst (λ (f : Place → ℕ). IsExport r f g most_cells (Ok text)) (states_same (map_of p) (greatest edits) same) is
text_of r p edits g (Err fault) same is = subst (λ (f : Place → ℕ). IsExportRefused r f g most_cells fault) (states_same (map_of p) (greatest edits) same) is.0

cut_text_of : (r : GenerationsRule) (p : StampedPlane) (edits : List PlaneEdit) (w : Window) (g : ℕ) (answer : Result (List ℕ) ExportFault) → AreSame (map_of p) (greatest edits)
    → IsCutAnswer r p w g answer → IsCutTextOf r edits w g answer
cut_text_of r p edits w g (Ok text) same is = subst (λ (f : Place → ℕ). IsCut r f w g most_cells (Ok text)) (states_same (map_of p) (greatest edits) same) is
cut_text_of r p edits w g (Err fault) same is = subst (λ (f : Place → ℕ). IsCutRefused r f w g most_cells fault) (states_same (map_of p) (greatest edits) same) is.0

texts_of : (r : GenerationsRule) (p : StampedPlane) (edits : List PlaneEdit) (gs : List ℕ) (answers : List (Result (List ℕ) ExportFault)) → AreSame (map_of p) (greatest edits)
    → AreExportAnswers r p gs answers → AreTextsOf r edits gs answers
texts_of r p edits [] [] same are = tt
texts_of r p edits (g ∷ gs) (answer ∷ answers) same are = (text_of r p edits g answer same are.0, texts_of r p edits gs answers same are.1)
texts_of r p edits [] (answer ∷ answers) same are = absurd are
texts_of r p edits (g ∷ gs) [] same are = absurd are

-- ---- one exchange

module _ (r : GenerationsRule) (seat : ℕ) (earlier : List Exchange) (bytes : List ℕ) (reply : Option Reply) (a : Seating) (kept : Kept) (holds : Holds r earlier a kept) where
  abbrev x : Exchange
  x = record { request = bytes; reply = reply }

  abbrev Own : Seating → Type 0
  Own b = (e : PlaneEdit) → IsAccepted r x e → (at : ℕ) × (slice_get (edits_of b.seen) at ≡ Some e)

  -- behind a call that handed nothing out
  still : (b : Seating) (left : Kept) → IsPrefix a.seen b.seen → b.handed ≡ a.handed → left ≡ kept → Own b → Holds r (earlier ++ x ∷ []) b left
  still b left grows handed same own = record {
    handed = omega (arith, handed, holds.handed, prefix_length a.seen b.seen grows);
    accepted = accepted_more r earlier x (edits_of b.seen) (accepted_grows r earlier (edits_of a.seen) (edits_of b.seen) (edits_begin a.seen b.seen grows) holds.accepted) own;
    keeps = subst (λ (k : Kept). KeepsOf r (earlier ++ x ∷ []) (take b.handed b.seen) k.edits k.plane) (sym same)
        (subst (λ (h : List Entry). KeepsOf r (earlier ++ x ∷ []) h kept.edits kept.plane)
        (sym (ap (λ n. take n b.seen) handed ∙ taken a.handed a.seen b.seen grows holds.handed))
        (keeps_more r earlier x (take a.handed a.seen) kept.edits kept.plane holds.keeps));
  }

  -- what is told of all that is seen
  of_all : (b : Seating) → IsPrefix a.seen b.seen → (told : Telling) → Tells r seat (request_of bytes) told (frames_of reply) → IsToldOf r (edits_of b.seen) told
      → IsToldBehind r seat b.seen earlier x
  of_all b grows told tells of = record {
    told = told;
    tells = tells;
    seen = b.seen;
    published = prefix_self b.seen;
    of = of;
    counted = earlier;
    later = [];
    parts = sym (append-nil earlier);
    why = inl refl;
    has = accepted_grows r earlier (edits_of a.seen) (edits_of b.seen) (edits_begin a.seen b.seen grows) holds.accepted;
  }

  -- what is told to a request is told to the bytes that are that request
  asked : (q : Request) (told : Telling) → request_of bytes ≡ q → Tells r seat q told (frames_of reply) → Tells r seat (request_of bytes) told (frames_of reply)
  asked q told is tells = subst (λ (p : Request). Tells r seat p told (frames_of reply)) (sym is) tells

  -- a call that handed nothing out, and what is told of all that is seen
  quiet : (b : Seating) (left : Kept) → IsPrefix a.seen b.seen → b.handed ≡ a.handed → left ≡ kept → Own b → (told : Telling)
      → Tells r seat (request_of bytes) told (frames_of reply) → IsToldOf r (edits_of b.seen) told → Steps r seat earlier x a b left
  quiet b left grows handed same own told tells of = record { told = of_all b grows told tells of; holds = still b left grows handed same own; grows = grows }

  -- no call
  idle : (b : Seating) (left : Kept) → b ≡ a → left ≡ kept → Own b → TellsNothing r seat (request_of bytes) (frames_of reply) → Steps r seat earlier x a b left
  idle b left same kept_same own nothing =
      quiet b left (subst (λ (c : Seating). IsPrefix a.seen c.seen) (sym same) (prefix_self a.seen)) (ap (λ (c : Seating). c.handed) same) kept_same own Nothing nothing tt

  -- a call that handed all out; what is kept is of all that is seen
  handed_out : (b : Seating) (left : Kept) → IsPrefix a.seen b.seen → b.handed ≡ length b.seen → Own b → KeepsOf r (earlier ++ x ∷ []) b.seen left.edits left.plane
      → (told : Telling) → Tells r seat (request_of bytes) told (frames_of reply) → IsToldOf r (edits_of b.seen) told → Steps r seat earlier x a b left
  handed_out b left grows all own keeps told tells of = record {
    told = of_all b grows told tells of;
    holds = record {
      handed = omega (arith, all);
      accepted = accepted_more r earlier x (edits_of b.seen) (accepted_grows r earlier (edits_of a.seen) (edits_of b.seen) (edits_begin a.seen b.seen grows) holds.accepted) own;
      keeps = subst (λ (h : List Entry). KeepsOf r (earlier ++ x ∷ []) h left.edits left.plane) (sym (taken_all b.handed b.seen all)) keeps;
    };
    grows = grows;
  }

  -- what is no push has no edit
  no_push : (b : Seating) (q : Request) → request_of bytes ≡ q → ((text : List ℕ) → q ≡ Push text → ⊥) → Own b
  no_push b q is other e accepted = absurd (other accepted.text (sym is ∙ accepted.push))

  -- another answer than 0 has accepted none
  not_done : (b : Seating) (number : ℕ) → frames_of reply ≡ refusal (suc number) → Own b
  not_done b number is e accepted = let clash : refusal (suc number) ≡ refusal 0 = sym is ∙ accepted.answer in absurd (cc)

  -- ---- polls

  -- it is so of a poll, and of one that waits
  abbrev AtPolls : (Request → Type 0) → Type 0
  AtPolls P = P Poll × ((milliseconds : ℕ) → P (Await milliseconds))

  -- a poll, or one that waits: what is so of both is so of it
  abbrev IsPolling : Request → Type 1
  IsPolling q = (P : Request → Type 0) → AtPolls P → P q

  polls : IsPolling Poll
  polls P at = at.0

  awaits : (milliseconds : ℕ) → IsPolling (Await milliseconds)
  awaits milliseconds P at = at.1 milliseconds

  -- it pushes nothing
  poll_own : (b : Seating) (q : Request) → IsPolling q → request_of bytes ≡ q → Own b
  poll_own b q poll is = poll (λ p. request_of bytes ≡ p → Own b) (
    λ same. no_push b Poll same (λ text clash. cc),
    λ milliseconds same. no_push b (Await milliseconds) same (λ text clash. cc),
  ) is

  poll_edits : (q : Request) (edits : List PlaneEdit) → IsPolling q → request_of bytes ≡ q → length edits ≤ most_edits → frames_of reply ≡ edits_frames r edits
      → Tells r seat (request_of bytes) (Edits edits) (frames_of reply)
  poll_edits q edits poll is fits out = asked q (Edits edits) is (poll (λ p. Tells r seat p (Edits edits) (frames_of reply)) ((fits, out), λ milliseconds. (fits, out)))

  poll_plane : (q : Request) (p : StampedPlane) → IsPolling q → request_of bytes ≡ q → IsWholeReply r p (frames_of reply) → Tells r seat (request_of bytes) (Plane (map_of p)) (frames_of reply)
  poll_plane q p poll is whole = asked q (Plane (map_of p)) is
      (poll (λ asking. Tells r seat asking (Plane (map_of p)) (frames_of reply)) ((whole.text, whole.is_text, whole.frames), λ milliseconds. (whole.text, whole.is_text, whole.frames)))

  poll_for_news : (q : Request) → IsPolling q → request_of bytes ≡ q → IsForNews (request_of bytes)
  poll_for_news q poll is = subst IsForNews (sym is) (poll IsForNews (tt, λ milliseconds. tt))

  -- a plane that was handed out is kept for a reply
  plane_kept : (b : Seating) (left : Kept) (p : StampedPlane) → IsForNews (request_of bytes) → frames_of reply ≡ refusal 255 → IsPrefix a.seen b.seen → b.handed ≡ length b.seen
      → AreSame (map_of p) (greatest (edits_of b.seen)) → left ≡ with_plane p → Steps r seat earlier x a b left
  plane_kept b left p asks out grows all map is =
      let older : IsOlder r (earlier ++ x ∷ []) b.seen p = record {
        counted = earlier;
        later = x ∷ [];
        parts = refl;
        want = (asks, out);
        map = map;
        has = accepted_grows r earlier (edits_of a.seen) (edits_of b.seen) (edits_begin a.seen b.seen grows) holds.accepted;
      } in
      handed_out b left grows all (not_done b 254 out) (subst (λ (k : Kept). KeepsOf r (earlier ++ x ∷ []) b.seen k.edits k.plane) (sym is) older) Nothing (inl (255, out)) tt

  -- the edits that are kept and those that are handed out are the last ones
  last_edits : (b : Seating) (edits : List PlaneEdit) → IsPrefix a.seen b.seen → take a.handed (edits_of b.seen) ++ edits ≡ edits_of b.seen
      → KeepsOf r earlier (take a.handed a.seen) kept.edits None → (before : List PlaneEdit) × (edits_of b.seen ≡ before ++ (kept.edits ++ edits))
  last_edits b edits grows all keeps = (
    keeps.0,
    sym all
        ∙ (ap (λ es. es ++ edits) (edits_taken a.handed b.seen ∙ (ap edits_of (taken a.handed a.seen b.seen grows holds.handed) ∙ keeps.1))
        ∙ append_assoc keeps.0 kept.edits edits),
  )

  edits_told : (b : Seating) (left : Kept) (edits : List PlaneEdit) (fit : Bool) (q : Request) → nat_le (length (kept.edits ++ edits)) most_edits ≡ fit → IsPolling q → request_of bytes ≡ q
      → IsPrefix a.seen b.seen → b.handed ≡ length b.seen
      → frames_of reply ≡ edits_reply r (kept.edits ++ edits) → left ≡ edits_left (kept.edits ++ edits)
      → (before : List PlaneEdit) × (edits_of b.seen ≡ before ++ (kept.edits ++ edits)) → Steps r seat earlier x a b left
  edits_told b left edits true q fit poll is grows all out same last =
      let kept_is : left ≡ nothing_kept = same ∙ rw fit refl in
      let out_is : frames_of reply ≡ edits_frames r (kept.edits ++ edits) = out ∙ rw fit refl in
      let fits : length (kept.edits ++ edits) ≤ most_edits = grind (arith, nat_tests, fit) in
      handed_out b left grows all (poll_own b q poll is)
      (subst (λ (k : Kept). KeepsOf r (earlier ++ x ∷ []) b.seen k.edits k.plane) (sym kept_is) (edits_of b.seen, sym (append-nil (edits_of b.seen))))
      (Edits (kept.edits ++ edits)) (poll_edits q (kept.edits ++ edits) poll is fits out_is) last
  edits_told b left edits false q fit poll is grows all out same last =
      let kept_is : left ≡ record { edits = kept.edits ++ edits; plane = None } = same ∙ rw fit refl in
      let out_is : frames_of reply ≡ refusal 21 = out ∙ rw fit refl in
      handed_out b left grows all (poll_own b q poll is)
      (subst (λ (k : Kept). KeepsOf r (earlier ++ x ∷ []) b.seen k.edits k.plane) (sym kept_is) last)
      Nothing (inl (21, out_is)) tt

  poll_failed : (b : Seating) (left : Kept) (fault : HubFault) (q : Request) → IsPolling q → request_of bytes ≡ q → IsSeatCall a (Polls (Err fault)) b
      → frames_of reply ≡ refusal (hub_fault_number fault) → left ≡ kept → Steps r seat earlier x a b left
  poll_failed b left Closed q poll is call out same = quiet b left call.0.read.seen call.0.handed same (poll_own b q poll is) Nothing (inl (hub_fault_number Closed, out)) tt
  poll_failed b left Memory q poll is call out same = quiet b left call.read.seen call.handed same (poll_own b q poll is) Nothing (inl (hub_fault_number Memory, out)) tt
  poll_failed b left NotYours q poll is call out same = absurd call
  poll_failed b left StateRange q poll is call out same = absurd call
  poll_failed b left OldStamp q poll is call out same = absurd call
  poll_failed b left Full q poll is call out same = absurd call
  poll_failed b left StoreFull q poll is call out same = absurd call

  -- without a kept plane
  polled : (b : Seating) (left : Kept) (call : Option HubCall) (q : Request) → IsPolling q → request_of bytes ≡ q → KeepsOf r earlier (take a.handed a.seen) kept.edits None
      → AllowsAtMost IsSeatCall a call b → IsPollReply r kept call (frames_of reply) left → Steps r seat earlier x a b left
  polled b left None q poll is keeps allowed of = absurd of
  polled b left (Some (Pushes e answer)) q poll is keeps allowed of = absurd of
  polled b left (Some (Shows answer)) q poll is keeps allowed of = absurd of
  polled b left (Some (Hands answer)) q poll is keeps allowed of = absurd of
  polled b left (Some (Polls (Err fault))) q poll is keeps allowed of = poll_failed b left fault q poll is allowed of.0 of.1
  polled b left (Some (Polls (Ok (news.Edits edits)))) q poll is keeps allowed of =
      edits_told b left edits (nat_le (length (kept.edits ++ edits)) most_edits) q refl poll is allowed.0.read.seen allowed.0.handed of.0 of.1
      (last_edits b edits allowed.0.read.seen allowed.1.1 keeps)
  polled b left (Some (Polls (Ok (news.Whole plane count)))) q poll is keeps allowed of =
      handed_out b left allowed.0.read.seen allowed.0.handed (poll_own b q poll is)
      (subst (λ (k : Kept). KeepsOf r (earlier ++ x ∷ []) b.seen k.edits k.plane) (sym of.1) (edits_of b.seen, sym (append-nil (edits_of b.seen))))
      (Plane (map_of plane)) (poll_plane q plane poll is of.0) allowed.1.1

  -- with one or without
  poll_replied : (plane : Option StampedPlane) → kept.plane ≡ plane → (b : Seating) (left : Kept) (call : Option HubCall) (q : Request) → IsPolling q → request_of bytes ≡ q
      → AllowsAtMost IsSeatCall a call b → IsKeptReply r kept plane call (frames_of reply) left → Steps r seat earlier x a b left
  poll_replied None none b left call q poll is allowed of =
      polled b left call q poll is (subst (λ (p : Option StampedPlane). KeepsOf r earlier (take a.handed a.seen) kept.edits p) none holds.keeps) allowed of
  poll_replied (Some p) some b left (Some call) q poll is allowed of = absurd of
  poll_replied (Some p) some b left None q poll is allowed of =
      let older : IsOlder r earlier (take a.handed a.seen) p = subst (λ (p : Option StampedPlane). KeepsOf r earlier (take a.handed a.seen) kept.edits p) some holds.keeps in
      let same : b ≡ a = allowed in
      let grows : IsPrefix a.seen b.seen = subst (λ (c : Seating). IsPrefix a.seen c.seen) (sym same) (prefix_self a.seen) in
      record {
        told = record {
          told = Plane (map_of p);
          tells = poll_plane q p poll is of.0;
          seen = take a.handed a.seen;
          published = subst (λ (c : Seating). IsPrefix (take a.handed a.seen) c.seen) (sym same) (drop a.handed a.seen, take-append-drop a.handed a.seen);
          of = older.map;
          counted = older.counted;
          later = older.later;
          parts = older.parts;
          why = inr older.want;
          has = older.has;
        };
        holds = record {
          handed = subst (λ (c : Seating). c.handed ≤ length c.seen) (sym same) holds.handed;
          accepted = accepted_more r earlier x (edits_of b.seen) (accepted_grows r earlier (edits_of a.seen) (edits_of b.seen) (edits_begin a.seen b.seen grows) holds.accepted) (poll_own b q poll is);
          keeps = subst (λ (k : Kept). KeepsOf r (earlier ++ x ∷ []) (take b.handed b.seen) k.edits k.plane) (sym of.1)
              (edits_of (take b.handed b.seen), sym (append-nil (edits_of (take b.handed b.seen))));
        };
        grows = grows;
      }

  -- a poll's news for whose reply there was no memory
  news_kept : (b : Seating) (left : Kept) (given : News) (q : Request) → IsPolling q → request_of bytes ≡ q → frames_of reply ≡ refusal 255 → kept.plane ≡ None → IsSeatCall a (Polls (Ok given)) b
      → KeepsNews kept given left → Steps r seat earlier x a b left
  news_kept b left (news.Edits edits) q poll is out none call of =
      let keeps : KeepsOf r earlier (take a.handed a.seen) kept.edits None = subst (λ (p : Option StampedPlane). KeepsOf r earlier (take a.handed a.seen) kept.edits p) none holds.keeps in
      handed_out b left call.0.read.seen call.0.handed (poll_own b q poll is)
      (subst (λ (k : Kept). KeepsOf r (earlier ++ x ∷ []) b.seen k.edits k.plane) (sym of) (last_edits b edits call.0.read.seen call.1.1 keeps))
      Nothing (inl (255, out)) tt
  news_kept b left (news.Whole plane count) q poll is out none call of =
      plane_kept b left plane (poll_for_news q poll is) out call.0.read.seen call.0.handed call.1.1 of

  -- ---- the plane in pieces

  hand_failed : (b : Seating) (left : Kept) (fault : HubFault) → Own b → IsSeatCall a (Hands (Err fault)) b → frames_of reply ≡ refusal (hub_fault_number fault) → left ≡ kept → Steps r seat earlier x a b left
  hand_failed b left Closed own call out same = quiet b left call.0.read.seen call.0.handed same own Nothing (inl (hub_fault_number Closed, out)) tt
  hand_failed b left Memory own call out same = quiet b left call.read.seen call.handed same own Nothing (inl (hub_fault_number Memory, out)) tt
  hand_failed b left NotYours own call out same = absurd call
  hand_failed b left StateRange own call out same = absurd call
  hand_failed b left OldStamp own call out same = absurd call
  hand_failed b left Full own call out same = absurd call
  hand_failed b left StoreFull own call out same = absurd call

  in_pieces : (b : Seating) (left : Kept) (call : Option HubCall) → request_of bytes ≡ Pieces → Own b → AllowsAtMost IsSeatCall a call b → IsPiecesReply r kept call (frames_of reply) left
      → Steps r seat earlier x a b left
  in_pieces b left None is own allowed of = absurd of
  in_pieces b left (Some (Pushes e answer)) is own allowed of = absurd of
  in_pieces b left (Some (Polls answer)) is own allowed of = absurd of
  in_pieces b left (Some (Shows answer)) is own allowed of = absurd of
  in_pieces b left (Some (Hands (Err fault))) is own allowed of = hand_failed b left fault own allowed of.0 of.1
  in_pieces b left (Some (Hands (Ok given))) is own allowed of =
      handed_out b left allowed.0.read.seen allowed.0.handed own
      (subst (λ (k : Kept). KeepsOf r (earlier ++ x ∷ []) b.seen k.edits k.plane) (sym of.1) (edits_of b.seen, sym (append-nil (edits_of b.seen))))
      (Counted (map_of given.0) given.1) (asked Pieces (Counted (map_of given.0) given.1) is (of.0.text, of.0.pieces, of.0.is_text, of.0.cut, of.0.frames))
      (allowed.1, allowed.2 ∙ sym (length-map b.seen (λ (e : Entry). e.edit)))

  -- ---- requests that show the plane

  show_failed : (b : Seating) (left : Kept) (fault : HubFault) → Own b → IsSeatCall a (Shows (Err fault)) b → frames_of reply ≡ refusal (hub_fault_number fault) → left ≡ kept → Steps r seat earlier x a b left
  show_failed b left Closed own call out same = quiet b left call.0.read.seen call.0.handed same own Nothing (inl (hub_fault_number Closed, out)) tt
  show_failed b left Memory own call out same = quiet b left call.read.seen call.handed same own Nothing (inl (hub_fault_number Memory, out)) tt
  show_failed b left NotYours own call out same = absurd call
  show_failed b left StateRange own call out same = absurd call
  show_failed b left OldStamp own call out same = absurd call
  show_failed b left Full own call out same = absurd call
  show_failed b left StoreFull own call out same = absurd call

  plane_told : (b : Seating) (left : Kept) (p : StampedPlane) (q : Request) → request_of bytes ≡ q → Own b → IsSeatCall a (Shows (Ok p)) b → left ≡ kept → IsReplyOf r q p (frames_of reply)
      → Steps r seat earlier x a b left
  plane_told b left p Whole is own call same of =
      quiet b left call.0.read.seen call.0.handed same own (Plane (map_of p)) (asked Whole (Plane (map_of p)) is (of.text, of.is_text, of.frames)) call.1
  plane_told b left p (Export g) is own call same of =
      quiet b left call.0.read.seen call.0.handed same own (Texts (g ∷ []) (of.answer ∷ [])) (asked (Export g) (Texts (g ∷ []) (of.answer ∷ [])) is (refl, of.frames))
      (text_of r p (edits_of b.seen) g of.answer call.1 of.is_export, tt)
  plane_told b left p (Cut w g) is own call same of =
      quiet b left call.0.read.seen call.0.handed same own (CutText w g of.answer) (asked (Cut w g) (CutText w g of.answer) is (refl, refl, of.frames))
      (cut_text_of r p (edits_of b.seen) w g of.answer call.1 of.is_cut)
  plane_told b left p (Many gs) is own call same of =
      quiet b left call.0.read.seen call.0.handed same own (Texts gs of.answers) (asked (Many gs) (Texts gs of.answers) is (refl, of.frames))
      (texts_of r p (edits_of b.seen) gs of.answers call.1 of.are_exports)
  plane_told b left p Faulty is own call same of = absurd of
  plane_told b left p Hello is own call same of = absurd of
  plane_told b left p (Push text) is own call same of = absurd of
  plane_told b left p Poll is own call same of = absurd of
  plane_told b left p (Await milliseconds) is own call same of = absurd of
  plane_told b left p Pieces is own call same of = absurd of
  plane_told b left p Bye is own call same of = absurd of

  shown : (b : Seating) (left : Kept) (q : Request) (call : Option HubCall) → request_of bytes ≡ q → Own b → AllowsAtMost IsSeatCall a call b → left ≡ kept → IsShownReply r q call (frames_of reply)
      → Steps r seat earlier x a b left
  shown b left q None is own allowed same of = absurd of
  shown b left q (Some (Pushes e answer)) is own allowed same of = absurd of
  shown b left q (Some (Polls answer)) is own allowed same of = absurd of
  shown b left q (Some (Hands answer)) is own allowed same of = absurd of
  shown b left q (Some (Shows (Err fault))) is own allowed same of = show_failed b left fault own allowed of same
  shown b left q (Some (Shows (Ok p))) is own allowed same of = plane_told b left p q is own allowed same of

  -- ---- pushes

  push_refused : (b : Seating) (left : Kept) (e : PlaneEdit) (fault : HubFault) → IsSeatCall a (Pushes e (Err fault)) b → frames_of reply ≡ refusal (hub_fault_number fault) → left ≡ kept
      → Steps r seat earlier x a b left
  push_refused b left e NotYours call out same = quiet b left (subst (IsPrefix a.seen) (sym call.seen) (prefix_self a.seen)) call.handed same (not_done b 27 out) Nothing (inl (28, out)) tt
  push_refused b left e StateRange call out same = quiet b left (subst (IsPrefix a.seen) (sym call.seen) (prefix_self a.seen)) call.handed same (not_done b 10 out) Nothing (inl (11, out)) tt
  push_refused b left e OldStamp call out same = quiet b left (subst (IsPrefix a.seen) (sym call.seen) (prefix_self a.seen)) call.handed same (not_done b 39 out) Nothing (inl (40, out)) tt
  push_refused b left e Full call out same = quiet b left (subst (IsPrefix a.seen) (sym call.seen) (prefix_self a.seen)) call.handed same (not_done b 28 out) Nothing (inl (29, out)) tt
  push_refused b left e Memory call out same = quiet b left (subst (IsPrefix a.seen) (sym call.seen) (prefix_self a.seen)) call.handed same (not_done b 254 out) Nothing (inl (255, out)) tt
  push_refused b left e StoreFull call out same = absurd call
  push_refused b left e Closed (inl call) out same = quiet b left (subst (IsPrefix a.seen) (sym call.seen) (prefix_self a.seen)) call.handed same (not_done b 29 out) Nothing (inl (30, out)) tt
  push_refused b left e Closed (inr call) out same = quiet b left (subst (IsPrefix a.seen) (sym call.seen) (prefix_self a.seen)) call.handed same (not_done b 29 out) Nothing (inl (30, out)) tt

  pushed : (b : Seating) (left : Kept) (text : List ℕ) (call : Option HubCall) → request_of bytes ≡ Push text → AllowsAtMost IsSeatCall a call b → left ≡ kept → IsPushReply r text call (frames_of reply)
      → Steps r seat earlier x a b left
  pushed b left text None is allowed same of =
      idle b left allowed same
      (λ e accepted.
      let texts : text ≡ accepted.text = let same_push : Push text ≡ Push accepted.text = sym is ∙ accepted.push in cc in
      let clash : Err of.0 ≡ Ok e = sym of.1 ∙ (ap (pushed_of r) texts ∙ accepted.edit) in absurd (cc))
      (inl (of.0, of.2))
  pushed b left text (Some (Pushes e (Err fault))) is allowed same of = push_refused b left e fault allowed of.1 same
  pushed b left text (Some (Pushes e (Ok done_))) is allowed same of =
      let grows : IsPrefix a.seen b.seen = subst (λ (es : List Entry). IsPrefix es b.seen) allowed.submits.seen allowed.read.seen in
      quiet b left grows allowed.handed same
      (λ other accepted.
      let texts : text ≡ accepted.text = let same_push : Push text ≡ Push accepted.text = sym is ∙ accepted.push in cc in
      let edits : e ≡ other = cc (sym of.0 ∙ (ap (pushed_of r) texts ∙ accepted.edit)) in
      (allowed.at, get_edit b.seen allowed.at allowed.stands ∙ ap (λ d. Some d) edits))
      Nothing (inl (0, of.1)) tt
    where
      get_edit : (es : List Entry) (at : ℕ) {entry : Entry} → slice_get es at ≡ Some entry → slice_get (edits_of es) at ≡ Some entry.edit
      get_edit [] at is = absurd cc
      get_edit (f ∷ es) zero is = cc
      get_edit (f ∷ es) (suc at) is = get_edit es at is
  pushed b left text (Some (Polls answer)) is allowed same of = absurd of
  pushed b left text (Some (Shows answer)) is allowed same of = absurd of
  pushed b left text (Some (Hands answer)) is allowed same of = absurd of

  -- ---- all requests

  replied : (b : Seating) (left : Kept) (q : Request) (call : Option HubCall) → request_of bytes ≡ q → AllowsAtMost IsSeatCall a call b → IsReply r seat kept q call (frames_of reply) left
      → Steps r seat earlier x a b left
  replied b left Faulty None is allowed of = idle b left allowed of.1 (no_push b Faulty is (λ text clash. cc)) (inl (33, of.0))
  replied b left Faulty (Some call) is allowed of = absurd of
  replied b left Hello None is allowed of = idle b left allowed of.1 (no_push b Hello is (λ text clash. cc)) (inr (is, of.0))
  replied b left Hello (Some call) is allowed of = absurd of
  replied b left Bye None is allowed of = idle b left allowed of.1 (no_push b Bye is (λ text clash. cc)) (inl (0, of.0))
  replied b left Bye (Some call) is allowed of = absurd of
  replied b left (Push text) call is allowed of = pushed b left text call is allowed of.1 of.0
  replied b left Poll call is allowed of = poll_replied kept.plane refl b left call Poll polls is allowed of
  replied b left (Await milliseconds) call is allowed of = poll_replied kept.plane refl b left call (Await milliseconds) (awaits milliseconds) is allowed of
  replied b left Pieces call is allowed of = in_pieces b left call is (no_push b Pieces is (λ text clash. cc)) allowed of
  replied b left Whole call is allowed of = shown b left Whole call is (no_push b Whole is (λ text clash. cc)) allowed of.1 of.0
  replied b left (Export g) call is allowed of = shown b left (Export g) call is (no_push b (Export g) is (λ text clash. cc)) allowed of.1 of.0
  replied b left (Cut w g) call is allowed of = shown b left (Cut w g) call is (no_push b (Cut w g) is (λ text clash. cc)) allowed of.1 of.0
  replied b left (Many gs) call is allowed of = shown b left (Many gs) call is (no_push b (Many gs) is (λ text clash. cc)) allowed of.1 of.0

  -- a want of memory
  show_wanted : (b : Seating) (left : Kept) (p : StampedPlane) → IsSeatCall a (Shows (Ok p)) b → frames_of reply ≡ refusal 255 → left ≡ kept → Steps r seat earlier x a b left
  show_wanted b left p call out same = quiet b left call.0.read.seen call.0.handed same (not_done b 254 out) Nothing (inl (255, out)) tt

  wanted : (b : Seating) (left : Kept) (q : Request) (call : Option HubCall) → request_of bytes ≡ q → AllowsAtMost IsSeatCall a call b → frames_of reply ≡ refusal 255 → KeepsAll kept q call left
      → Steps r seat earlier x a b left
  wanted b left Hello None is allowed out keeps = idle b left allowed keeps (not_done b 254 out) (inl (255, out))
  wanted b left Poll None is allowed out keeps = idle b left allowed keeps (not_done b 254 out) (inl (255, out))
  wanted b left (Many gs) None is allowed out keeps = idle b left allowed keeps (not_done b 254 out) (inl (255, out))
  wanted b left (Push text) None is allowed out keeps = idle b left allowed keeps (not_done b 254 out) (inl (255, out))
  wanted b left Poll (Some (Polls (Ok given))) is allowed out keeps = news_kept b left given Poll polls is out keeps.0 allowed keeps.1
  wanted b left (Await milliseconds) None is allowed out keeps = idle b left allowed keeps (not_done b 254 out) (inl (255, out))
  wanted b left (Await milliseconds) (Some (Polls (Ok given))) is allowed out keeps = news_kept b left given (Await milliseconds) (awaits milliseconds) is out keeps.0 allowed keeps.1
  wanted b left Pieces (Some (Hands (Ok given))) is allowed out keeps =
      plane_kept b left given.0 (subst IsForNews (sym is) tt) out allowed.0.read.seen allowed.0.handed allowed.1 keeps
  wanted b left Whole (Some (Shows (Ok p))) is allowed out keeps = show_wanted b left p allowed out keeps
  wanted b left (Export g) (Some (Shows (Ok p))) is allowed out keeps = show_wanted b left p allowed out keeps
  wanted b left (Cut w g) (Some (Shows (Ok p))) is allowed out keeps = show_wanted b left p allowed out keeps
  wanted b left (Many gs) (Some (Shows (Ok p))) is allowed out keeps = show_wanted b left p allowed out keeps
  wanted b left Faulty call is allowed out keeps = absurd keeps
  wanted b left Bye call is allowed out keeps = absurd keeps
  wanted b left Hello (Some call) is allowed out keeps = absurd keeps
  wanted b left (Push text) (Some call) is allowed out keeps = absurd keeps
  wanted b left Poll (Some (Polls (Err fault))) is allowed out keeps = absurd keeps
  wanted b left Poll (Some (Pushes e answer)) is allowed out keeps = absurd keeps
  wanted b left Poll (Some (Shows answer)) is allowed out keeps = absurd keeps
  wanted b left Poll (Some (Hands answer)) is allowed out keeps = absurd keeps
  wanted b left (Await milliseconds) (Some (Polls (Err fault))) is allowed out keeps = absurd keeps
  wanted b left (Await milliseconds) (Some (Pushes e answer)) is allowed out keeps = absurd keeps
  wanted b left (Await milliseconds) (Some (Shows answer)) is allowed out keeps = absurd keeps
  wanted b left (Await milliseconds) (Some (Hands answer)) is allowed out keeps = absurd keeps
  wanted b left Pieces None is allowed out keeps = absurd keeps
  wanted b left Pieces (Some (Hands (Err fault))) is allowed out keeps = absurd keeps
  wanted b left Pieces (Some (Pushes e answer)) is allowed out keeps = absurd keeps
  wanted b left Pieces (Some (Polls answer)) is allowed out keeps = absurd keeps
  wanted b left Pieces (Some (Shows answer)) is allowed out keeps = absurd keeps
  wanted b left Whole None is allowed out keeps = absurd keeps
  wanted b left Whole (Some (Shows (Err fault))) is allowed out keeps = absurd keeps
  wanted b left Whole (Some (Pushes e answer)) is allowed out keeps = absurd keeps
  wanted b left Whole (Some (Polls answer)) is allowed out keeps = absurd keeps
  wanted b left Whole (Some (Hands answer)) is allowed out keeps = absurd keeps
  wanted b left (Export g) None is allowed out keeps = absurd keeps
  wanted b left (Export g) (Some (Shows (Err fault))) is allowed out keeps = absurd keeps
  wanted b left (Export g) (Some (Pushes e answer)) is allowed out keeps = absurd keeps
  wanted b left (Export g) (Some (Polls answer)) is allowed out keeps = absurd keeps
  wanted b left (Export g) (Some (Hands answer)) is allowed out keeps = absurd keeps
  wanted b left (Cut w g) None is allowed out keeps = absurd keeps
  wanted b left (Cut w g) (Some (Shows (Err fault))) is allowed out keeps = absurd keeps
  wanted b left (Cut w g) (Some (Pushes e answer)) is allowed out keeps = absurd keeps
  wanted b left (Cut w g) (Some (Polls answer)) is allowed out keeps = absurd keeps
  wanted b left (Cut w g) (Some (Hands answer)) is allowed out keeps = absurd keeps
  wanted b left (Many gs) (Some (Shows (Err fault))) is allowed out keeps = absurd keeps
  wanted b left (Many gs) (Some (Pushes e answer)) is allowed out keeps = absurd keeps
  wanted b left (Many gs) (Some (Polls answer)) is allowed out keeps = absurd keeps
  wanted b left (Many gs) (Some (Hands answer)) is allowed out keeps = absurd keeps

  by_want : (b : Seating) (left : Kept) (q : Request) (call : Option HubCall) → request_of bytes ≡ q → AllowsAtMost IsSeatCall a call b → IsWanting r q (frames_of reply) → KeepsAll kept q call left
      → Steps r seat earlier x a b left
  by_want b left (Push text) call is allowed (inl out) keeps = wanted b left (Push text) call is allowed out keeps
  by_want b left (Push text) None is allowed (inr room) keeps = idle b left allowed keeps (not_done b 12 room.0) (inl (13, room.0))
  by_want b left (Push text) (Some call) is allowed (inr room) keeps = absurd keeps
  by_want b left Faulty call is allowed out keeps = absurd keeps
  by_want b left Bye call is allowed out keeps = absurd keeps
  by_want b left Hello call is allowed out keeps = wanted b left Hello call is allowed out keeps
  by_want b left Poll call is allowed out keeps = wanted b left Poll call is allowed out keeps
  by_want b left (Await milliseconds) call is allowed out keeps = wanted b left (Await milliseconds) call is allowed out keeps
  by_want b left Pieces call is allowed out keeps = wanted b left Pieces call is allowed out keeps
  by_want b left Whole call is allowed out keeps = wanted b left Whole call is allowed out keeps
  by_want b left (Export g) call is allowed out keeps = wanted b left (Export g) call is allowed out keeps
  by_want b left (Cut w g) call is allowed out keeps = wanted b left (Cut w g) call is allowed out keeps
  by_want b left (Many gs) call is allowed out keeps = wanted b left (Many gs) call is allowed out keeps

  either : (b : Seating) (left : Kept) (call : Option HubCall) → AllowsAtMost IsSeatCall a call b → RepliesOrWants r seat kept (request_of bytes) call (frames_of reply) left
      → Steps r seat earlier x a b left
  either b left call allowed (inl of) = replied b left (request_of bytes) call refl allowed of
  either b left call allowed (inr of) = by_want b left (request_of bytes) call refl allowed of.0 of.1

-- one exchange of a session
step : (r : GenerationsRule) (seat : ℕ) (earlier : List Exchange) (bytes : List ℕ) (reply : Option Reply) (a : Seating) (kept : Kept) (b : Seating) (left : Kept) → Holds r earlier a kept
    → IsAnswered IsSeatCall r seat (request_of bytes) reply a kept b left → Steps r seat earlier (record { request = bytes; reply = reply }) a b left
step r seat earlier bytes None a kept b left holds same =
    idle r seat earlier bytes None a kept holds b left same.0 same.1 (not_done r seat earlier bytes None a kept holds b 254 refl) (inl (255, refl))
step r seat earlier bytes (Some reply) a kept b left holds answer =
    either r seat earlier bytes (Some reply) a kept holds b left answer.0.call answer.0.allowed answer.0.replied

-- ---- sessions

told_of_more : (r : GenerationsRule) (seat : ℕ) (some all : List Entry) (earlier : List Exchange) (x : Exchange) → IsPrefix some all → IsToldBehind r seat some earlier x → IsToldBehind r seat all earlier x
told_of_more r seat some all earlier x more told = record {
  told = told.told;
  tells = told.tells;
  seen = told.seen;
  published = prefix_trans told.seen some all told.published more;
  of = told.of;
  counted = told.counted;
  later = told.later;
  parts = told.parts;
  why = told.why;
  has = told.has;
}

abbrev SeatState : Type 0
SeatState = SessionState Seating

-- all exchanges of a session from some on
record Tellings (r : GenerationsRule) (seat : ℕ) (earlier xs : List Exchange) (s t : SeatState) : Type 0 where
  pub told : (list : List Entry) → IsPrefix t.hub.seen list → AreToldBehind r seat list earlier xs
  pub accepted : HasAccepted r (edits_of t.hub.seen) (earlier ++ xs)
  pub grows : IsPrefix s.hub.seen t.hub.seen
  pub handed : t.hub.handed ≤ length t.hub.seen
  pub rule : rule_of t.hub ≡ r
  pub number : number_of t.hub ≡ seat

tellings : (r : GenerationsRule) (seat : ℕ) (xs earlier : List Exchange) (s t : SeatState) → rule_of s.hub ≡ r → number_of s.hub ≡ seat → Holds r earlier s.hub s.kept
    → AreAnswered (AnswersAs IsSeatCall rule_of number_of) s xs t → Tellings r seat earlier xs s t
tellings r seat [] earlier s t rule number holds same = record {
  told = λ list begins. tt;
  accepted = subst (λ (u : SeatState). HasAccepted r (edits_of u.hub.seen) (earlier ++ [])) (sym same) (subst (HasAccepted r (edits_of s.hub.seen)) (sym (append-nil earlier)) holds.accepted);
  grows = subst (λ (u : SeatState). IsPrefix s.hub.seen u.hub.seen) (sym same) (prefix_self s.hub.seen);
  handed = subst (λ (u : SeatState). u.hub.handed ≤ length u.hub.seen) (sym same) holds.handed;
  rule = ap (λ (u : SeatState). rule_of u.hub) same ∙ rule;
  number = ap (λ (u : SeatState). number_of u.hub) same ∙ number;
}
tellings r seat (x ∷ xs) earlier s t rule number holds (next, first, rest) =
    let answered : IsAnswered IsSeatCall r seat (request_of x.request) x.reply s.hub s.kept next.hub next.kept =
    subst (λ (q : GenerationsRule). IsAnswered IsSeatCall q seat (request_of x.request) x.reply s.hub s.kept next.hub next.kept) rule
    (subst (λ (n : ℕ). IsAnswered IsSeatCall (rule_of s.hub) n (request_of x.request) x.reply s.hub s.kept next.hub next.kept) number first.answered) in
    let one : Steps r seat earlier x s.hub next.hub next.kept = step r seat earlier x.request x.reply s.hub s.kept next.hub next.kept holds answered in
    let others : Tellings r seat (earlier ++ x ∷ []) xs next t = tellings r seat xs (earlier ++ x ∷ []) next t (first.rule ∙ rule) (first.number ∙ number) one.holds rest in
    record {
      told = λ list begins. (
        told_of_more r seat next.hub.seen list earlier x (prefix_trans next.hub.seen t.hub.seen list others.grows begins) one.told,
        others.told list begins,
      );
      accepted = subst (HasAccepted r (edits_of t.hub.seen)) (append_assoc earlier (x ∷ []) xs) others.accepted;
      grows = prefix_trans s.hub.seen next.hub.seen t.hub.seen one.grows others.grows;
      handed = others.handed;
      rule = others.rule;
      number = others.number;
    }

-- a session that begins keeps nothing
begun : (r : GenerationsRule) (a : Seating) → a.handed ≤ length a.seen → Holds r [] a nothing_kept
begun r a handed = record { handed = handed; accepted = tt; keeps = (edits_of (take a.handed a.seen), sym (append-nil (edits_of (take a.handed a.seen)))) }

-- what sessions leave of a seat, and what they told
record Visited (r : GenerationsRule) (seat : ℕ) (visits : List VisitValue) (a b : Seating) : Type 0 where
  pub told : (list : List Entry) → IsPrefix b.seen list → AreToldVisits r seat list visits
  pub grows : IsPrefix a.seen b.seen

visited_all : (r : GenerationsRule) (seat : ℕ) (visits : List VisitValue) (a b : Seating) → rule_of a ≡ r → number_of a ≡ seat → a.handed ≤ length a.seen → AreVisits a visits b
    → Visited r seat visits a b
visited_all r seat [] a b rule number handed same = record { told = λ list begins. tt; grows = subst (λ (c : Seating). IsPrefix a.seen c.seen) (sym same) (prefix_self a.seen) }
visited_all r seat (v ∷ visits) a b rule number handed (mid, first, rest) =
    let service = first.visit.service in
    let one : Tellings r seat [] service.exchanges (session_at a nothing_kept) (session_at mid first.visit.kept) =
    tellings r seat service.exchanges [] _ _ rule number (begun r a handed) service.exchanged.answered in
    let others : Visited r seat visits (again mid) b = visited_all r seat visits (again mid) b one.rule one.number (omega arith) rest in
    record {
      told = λ list begins. (
        record {
          pulled = service.pulled;
          exchanges = service.exchanges;
          left = service.left;
          bytes = service.bytes;
          cut = service.exchanged.cut;
          ends = service.ends;
          told = one.told list (prefix_trans mid.seen b.seen list others.grows begins);
          has = accepted_grows r service.exchanges (edits_of mid.seen) (edits_of list) (edits_begin mid.seen list (prefix_trans mid.seen b.seen list others.grows begins)) one.accepted;
        },
        others.told list begins,
      );
      grows = prefix_trans a.seen mid.seen b.seen one.grows others.grows;
    }

pub seats_told : (list : List Entry) (before : List Seating) (all : List (List VisitValue)) (after : List Seating) → HaveSeenHanded before → AreAttended before all after → BeginsWithAll list after
    → AreToldSeats list before all
seats_told list [] [] [] handed met begins = tt
seats_told list (a ∷ before) (visits ∷ all) (b ∷ after) handed met begins = (
  (visited_all (rule_of a) (number_of a) visits a b refl refl handed.0 met.0).told list (begins 0 b refl),
  seats_told list before all after handed.1 met.1 (λ k s stands. begins (suc k) s stands),
)
seats_told list [] [] (b ∷ after) handed met begins = absurd met
seats_told list [] (vs ∷ all) after handed met begins = absurd met
seats_told list (a ∷ before) [] after handed met begins = absurd met
seats_told list (a ∷ before) (vs ∷ all) [] handed met begins = absurd met

-- ---- the account

-- the last 1,024 of a list, and how many come before them
pub counts_all : (list : List Entry) → length list - 1024 + length (last_of (edits_of list)) ≡ length list
counts_all list = omega (arith, length-drop (length (edits_of list) - 1024) (edits_of list), length-map list (λ (e : Entry). e.edit))

pub tells_of_one_list : TellsOfOneList
tells_of_one_list board seats f handed s = record {
  long = ap (λ n. n + length f.account.published) s.whole.account.before
      ∙ (ap (λ (es : List PlaneEdit). length (list_of f.account.front) - 1024 + length es) s.whole.account.published ∙ counts_all (list_of f.account.front));
  told = seats_told (list_of f.account.front) seats s.served.visits s.after handed s.served.attended s.whole.seen;
}
