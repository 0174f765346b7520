-- What clients do is turns.
use Rattle.std.proofs.Common.{◌≡◌, ◌∙◌, ◌++◌, ◌<◌, ℕ, List, [], ◌∷◌, length, map, replicate, refl, sym, ap, subst, arith, append-nil, inl, inr}
use Rattle.std.specs.Prelude.{Ok, Result}
use Rattle.std.proofs.lemmas.List.{map-append}
use Rattle.std.proofs.lemmas.Grind.{flat_map-append}
use Rattle.generations_rule.specs.Rule.{GenerationsRule}
use Rattle.edit_stamps.specs.Edit.{PlaneEdit}
use Rattle.replica_core.specs.declared.fault.Fault.{Fault}
use Rattle.replica_core.specs.Replica.{ReplicaState}
use Rattle.replica_core.specs.World.{IsEditUnder}
use Rattle.board_client.specs.declared.publishing.Drawing.TheVariants.{Drawn, Unpublished}
use Rattle.board_client.specs.declared.polling.Polling.{Polling}
use Rattle.board_client.specs.declared.polling.Polling.TheVariants as polls
use Rattle.board_client.specs.declared.pushing.Pushing.{Pushing}
use Rattle.board_client.specs.declared.pushing.Pushing.TheVariants as pushes
use Rattle.client_protocol.specs.Spelling.{polled_body}
use Rattle.client_protocol.specs.declared.greeting.Greeting.TheVariants.{Seat}
use Rattle.board_client.specs.Client.{LineState, IsTalk}
use Rattle.board_client.specs.Drawing.{IsPublishing, IsPublishingEnd, push_bytes}
use Rattle.board_client.specs.Greeting.{IsGreeting, IsLeaving, IsMomentaryGreetingRefusal}
use Rattle.board_client.specs.Pieces.{IsPieces, IsPiecesOnce}
use Rattle.board_client.specs.Polling.{BringsEdits, BringsWhole, IsFallenBack, IsNewsHeard, IsPoll, IsPollOnce, IsReplyTaken, poll_request}
use Rattle.board_client.specs.Pushing.{IsAnswering, IsMomentaryPushRefusal, IsPushEnd, IsPushWithin}
use Rattle.board_client.specs.Refusal.{BringsRefusal, IsMomentaryPollRefusal}
use Rattle.board_client.specs.Tries.{AreAll, IsRefused}
use Rattle.board_client.proofs.PollingLaws.{rule_stays}
use Rattle.board_client.proofs.TryLaws.{both, nothing}
use Rattle.shown_laws.specs.Turns.{AreTurns, Asking, Await, Done, Edits, Farewell, Greeting, Hearing, IsAskable, IsTurn, Late, Offered, Pieced, Pieces, Plane, Poll, Push, Refused, Turn, heard_by, heard_in, request_in, said_by}
use Rattle.shown_laws.specs.Shown.{AreTurnsOfClients, AreTurnsOn, IsDue, IsPollRequest, IsHeardBefore, IsSaidAlone}

abbrev turn : Asking → Hearing → Turn
turn asking hearing = record { asking = asking; hearing = hearing }

-- ---- one after another

turns_on : (r : GenerationsRule) (xs ys : List Turn) (old mid new : ReplicaState) → AreTurns r xs old mid → AreTurns r ys mid new → AreTurns r (xs ++ ys) old new
turns_on r [] ys old mid new are more = subst (λ s. AreTurns r ys s new) are more
turns_on r (t ∷ xs) ys old mid new (askable, (next, one, rest)) more = (askable, (next, one, turns_on r xs ys next mid new rest more))

onwards : (r : GenerationsRule) (a b c : LineState) (old mid new : ReplicaState) → AreTurnsOn r a b old mid → AreTurnsOn r b c mid new → AreTurnsOn r a c old new
onwards r a b c old mid new p q = record {
  turns = p.turns ++ q.turns;
  talk = subst (λ said. IsTalk a c said (heard_by (p.turns ++ q.turns))) (sym (map-append (λ (t : Turn). request_in r t.asking) p.turns q.turns))
      (subst (IsTalk a c (said_by r p.turns ++ said_by r q.turns)) (sym (flat_map-append (λ (t : Turn). heard_in t.hearing) p.turns q.turns))
      (both a b c (said_by r p.turns) (said_by r q.turns) (heard_by p.turns) (heard_by q.turns) p.talk q.talk));
  turned = turns_on r p.turns q.turns old mid new p.turned q.turned;
}

none : (r : GenerationsRule) (a : LineState) (s : ReplicaState) → AreTurnsOn r a a s s
none r a s = record { turns = []; talk = nothing a; turned = refl }

-- one turn
one : (r : GenerationsRule) (asking : Asking) (hearing : Hearing) (a b : LineState) (old new : ReplicaState) → IsAskable r asking → IsTalk a b (request_in r asking ∷ []) (heard_in hearing)
    → IsTurn r asking hearing old new → AreTurnsOn r a b old new
one r asking hearing a b old new askable talk is = record {
  turns = turn asking hearing ∷ [];
  talk = subst (IsTalk a b (request_in r asking ∷ [])) (sym (append-nil (heard_in hearing))) talk;
  turned = (askable, (new, is, refl));
}

-- ---- a reply, and turns behind it

-- this was said, a request or nothing, where that was said before; and its reply was heard
record IsReplied (r : GenerationsRule) (asking : Asking) (said : List (List ℕ)) (a b : LineState) (old new : ReplicaState) : Type 0 where
  pub hearing : Hearing
  pub talk : IsTalk a b said (heard_in hearing)
  pub is : IsTurn r asking hearing old new

-- turns stand behind that
record IsBegun (r : GenerationsRule) (asking : Asking) (said : List (List ℕ)) (a b : LineState) (old new : ReplicaState) : Type 0 where
  pub mid : LineState
  pub between : ReplicaState
  pub first : IsReplied r asking said a mid old between
  pub rest : AreTurnsOn r mid b between new

replied_alone : (r : GenerationsRule) (asking : Asking) (said : List (List ℕ)) (a b : LineState) (old new : ReplicaState) → IsReplied r asking said a b old new → IsBegun r asking said a b old new
replied_alone r asking said a b old new first = record { mid = b; between = new; first = first; rest = none r b new }

-- a request, its reply, and what stands behind it
begun : (r : GenerationsRule) (asking : Asking) (a b : LineState) (old new : ReplicaState) → IsAskable r asking → IsBegun r asking (request_in r asking ∷ []) a b old new → AreTurnsOn r a b old new
begun r asking a b old new askable is =
    onwards r a is.mid b old is.between new (one r asking is.first.hearing a is.mid old is.between askable is.first.talk is.first.is) is.rest

-- the same where the request was said before
begun_before : (r : GenerationsRule) (asking : Asking) (a mid b : LineState) (old new : ReplicaState) → IsAskable r asking → IsTalk a mid (request_in r asking ∷ []) [] → IsBegun r asking [] mid b old new
    → AreTurnsOn r a b old new
begun_before r asking a mid b old new askable said is = begun r asking a b old new askable (record {
  mid = is.mid;
  between = is.between;
  first = record { hearing = is.first.hearing; talk = both a mid is.mid (request_in r asking ∷ []) [] [] (heard_in is.first.hearing) said is.first.talk; is = is.first.is };
  rest = is.rest;
})

-- two requests were said before a reply to either was heard
in_order : (r : GenerationsRule) (asking next : Asking) (a l m n b : LineState) (old between new : ReplicaState) → IsAskable r asking → IsAskable r next → IsTalk a l (request_in r asking ∷ []) []
    → IsTalk l m (request_in r next ∷ []) [] → IsReplied r asking [] m n old between → IsBegun r next [] n b between new → AreTurnsOn r a b old new
in_order r asking next a l m n b old between new askable more_askable asked more reply is =
    let requests : List (List ℕ) = request_in r asking ∷ request_in r next ∷ [] in
    let said : IsTalk a m requests [] = both a l m (request_in r asking ∷ []) (request_in r next ∷ []) [] [] asked more in
    let heard : IsTalk a n requests (heard_in reply.hearing) = both a m n requests [] [] (heard_in reply.hearing) said reply.talk in
    let behind : IsTalk n b (said_by r is.rest.turns) (heard_in is.first.hearing ++ heard_by is.rest.turns) =
    both n is.mid b [] (said_by r is.rest.turns) (heard_in is.first.hearing) (heard_by is.rest.turns) is.first.talk is.rest.talk in
    record {
      turns = turn asking reply.hearing ∷ turn next is.first.hearing ∷ is.rest.turns;
      talk = both a n b requests (said_by r is.rest.turns) (heard_in reply.hearing) (heard_in is.first.hearing ++ heard_by is.rest.turns) heard behind;
      turned = (askable, (between, reply.is, (more_askable, (is.between, is.first.is, is.rest.turned))));
    }

-- ---- refusals that were tried again

abbrev refusals : Asking → List ℕ → List Turn
refusals asking numbers = map (λ (number : ℕ). turn asking (Refused number)) numbers

said_again : (r : GenerationsRule) (asking : Asking) (numbers : List ℕ) → replicate (length numbers) (request_in r asking) ≡ said_by r (refusals asking numbers)
said_again r asking [] = refl
said_again r asking (number ∷ numbers) = ap (λ said. request_in r asking ∷ said) (said_again r asking numbers)

heard_again : (asking : Asking) (numbers : List ℕ) → map (λ (number : ℕ). number ∷ []) numbers ≡ heard_by (refusals asking numbers)
heard_again asking [] = refl
heard_again asking (number ∷ numbers) = ap (λ heard. (number ∷ []) ∷ heard) (heard_again asking numbers)

kept : (r : GenerationsRule) (asking : Asking) (P : ℕ → Type 0) (numbers : List ℕ) (s : ReplicaState) → IsAskable r asking → ((number : ℕ) → P number → 0 < number) → AreAll P numbers
    → AreTurns r (refusals asking numbers) s s
kept r asking P [] s askable some all = refl
kept r asking P (number ∷ numbers) s askable some all = (askable, (s, (some number all.0, refl), kept r asking P numbers s askable some all.1))

tried : (r : GenerationsRule) (asking : Asking) (request : List ℕ) (P : ℕ → Type 0) (times : ℕ) (a b : LineState) (s : ReplicaState) → IsAskable r asking → request ≡ request_in r asking
    → ((number : ℕ) → P number → 0 < number) → IsRefused P request times a b → AreTurnsOn r a b s s
tried r asking request P times a b s askable same some is = record {
  turns = refusals asking is.numbers;
  talk = subst (λ said. IsTalk a b said (heard_by (refusals asking is.numbers))) (ap (replicate (length is.numbers)) same ∙ said_again r asking is.numbers)
      (subst (IsTalk a b (replicate (length is.numbers) request)) (heard_again asking is.numbers) is.refused.talk);
  turned = kept r asking P is.numbers s askable some is.refused.each;
}

by_poll : (number : ℕ) → IsMomentaryPollRefusal number → 0 < number
by_poll number (inl is) = omega (arith, is)
by_poll number (inr is) = omega (arith, is)

by_push : (number : ℕ) → IsMomentaryPushRefusal number → 0 < number
by_push number (inl is) = omega (arith, is)
by_push number (inr is) = omega (arith, is)

by_greeting : (number : ℕ) → IsMomentaryGreetingRefusal number → 0 < number
by_greeting number is = omega (arith, is)

-- ---- what clients do

greeted : (r rule : GenerationsRule) (number : ℕ) (a b : LineState) (s : ReplicaState) → IsGreeting a b (Ok (Seat number rule)) → AreTurnsOn r a b s s
greeted r rule number a b s is =
    onwards r a is.mid b s s s (tried r Greeting _ IsMomentaryGreetingRefusal is.times a is.mid s tt refl by_greeting is.refusals)
    (one r Greeting (Offered is.last.body) is.mid b s s tt is.last.talk refl)

-- ---- polls

news_askable : (r : GenerationsRule) (asking : Asking) → IsPollRequest asking → IsAskable r asking
news_askable r Poll news = tt
news_askable r (Await milliseconds) news = tt
news_askable r Greeting news = absurd news
news_askable r Pieces news = absurd news
news_askable r (Push e) news = absurd news
news_askable r Farewell news = absurd news

-- a poll that waits takes what one does that does not
news_turn : (r : GenerationsRule) (asking : Asking) (hearing : Hearing) (old new : ReplicaState) → IsPollRequest asking → IsTurn r Poll hearing old new → IsTurn r asking hearing old new
news_turn r asking (Refused number) old new news is = is
news_turn r Poll (Edits texts) old new news is = is
news_turn r Poll (Plane text) old new news is = is
news_turn r (Await milliseconds) (Edits texts) old new news is = is
news_turn r (Await milliseconds) (Plane text) old new news is = is
news_turn r Greeting (Edits texts) old new news is = absurd news
news_turn r Greeting (Plane text) old new news is = absurd news
news_turn r Pieces (Edits texts) old new news is = absurd news
news_turn r Pieces (Plane text) old new news is = absurd news
news_turn r (Push e) (Edits texts) old new news is = absurd news
news_turn r (Push e) (Plane text) old new news is = absurd news
news_turn r Farewell (Edits texts) old new news is = absurd news
news_turn r Farewell (Plane text) old new news is = absurd news
news_turn r asking (Offered body) old new news is = absurd is
news_turn r asking (Pieced count pieces) old new news is = absurd is
news_turn r asking Done old new news is = absurd is
news_turn r asking Late old new news is = absurd is

module _ (r : GenerationsRule) where
  pieced : (polling : Polling) (a b : LineState) (old new : ReplicaState) → IsPieces a b old new (Ok polling) → AreTurnsOn r a b old new
  pieced polling a b old new is =
      onwards r a is.mid b old old new (tried r Pieces _ IsMomentaryPollRefusal is.times a is.mid old tt refl by_poll is.refusals) (last polling is.mid is.last)
    where
      last : (polling : Polling) (mid : LineState) → IsPiecesOnce mid b old new (Ok polling) → AreTurnsOn r mid b old new
      last (polls.Edits count) mid is = absurd is
      last polls.Whole mid is = one r Pieces (Pieced is.edits is.pieces) mid b old new tt is.talk (is.few, is.taken)
      last (polls.Refused number) mid is = one r Pieces (Refused number) mid b old new tt is.talk (is.some, is.kept)

  module _ (asking : Asking) (news : IsPollRequest asking) (said : List (List ℕ)) (a b : LineState) (old new : ReplicaState) where
    edits_brought : (count : ℕ) → BringsEdits said count a b old new → IsReplied r asking said a b old new
    edits_brought count is = record {
      hearing = Edits is.texts;
      talk = subst (λ n. IsTalk a b said (polled_body n ∷ is.texts)) (sym is.number) is.talk;
      is = news_turn r asking (Edits is.texts) old new news (omega (arith, is.some, is.number), is.taken);
    }

    plane_brought : BringsWhole said a b old new → IsReplied r asking said a b old new
    plane_brought is = record { hearing = Plane is.text; talk = is.talk; is = news_turn r asking (Plane is.text) old new news is.taken }

    refusal_brought : (number : ℕ) → BringsRefusal said number a b old new → IsReplied r asking said a b old new
    refusal_brought number is = record { hearing = Refused number; talk = is.talk; is = (is.some, is.kept) }

    replied : (polling : Polling) → IsReplyTaken said a b old new (Ok polling) → IsReplied r asking said a b old new
    replied (polls.Edits count) is = edits_brought count is
    replied polls.Whole is = plane_brought is
    replied (polls.Refused number) is = refusal_brought number is

  fallen_back : (polling : Polling) (a b : LineState) (old new : ReplicaState) → IsFallenBack a b old new (Ok polling) → AreTurnsOn r a b old new
  fallen_back (polls.Edits count) a b old new is = pieced (polls.Edits count) a b old new is
  fallen_back polls.Whole a b old new is = pieced polls.Whole a b old new is
  fallen_back (polls.Refused number) a b old new is = pieced (polls.Refused is.1.0) a b old new is.1.1

  -- behind a refusal by 21 the plane was asked for in pieces
  fallen : (asking : Asking) (news : IsPollRequest asking) (said : List (List ℕ)) (polling : Polling) (a mid b : LineState) (old between new : ReplicaState) → BringsRefusal said 21 a mid old between
      → IsFallenBack mid b between new (Ok polling) → IsBegun r asking said a b old new
  fallen asking news said polling a mid b old between new refused back =
      record { mid = mid; between = between; first = refusal_brought asking news said a mid old between 21 refused; rest = fallen_back polling mid b between new back }

  heard : (asking : Asking) (news : IsPollRequest asking) (said : List (List ℕ)) (polling : Polling) (a b : LineState) (old new : ReplicaState) → IsNewsHeard said a b old new (Ok polling)
      → IsBegun r asking said a b old new
  heard asking news said (polls.Edits count) a b old new is = replied_alone r asking said a b old new (edits_brought asking news said a b old new count is)
  heard asking news said polls.Whole a b old new (inl is) = replied_alone r asking said a b old new (plane_brought asking news said a b old new is)
  heard asking news said polls.Whole a b old new (inr fall) = fallen asking news said polls.Whole a fall.mid b old fall.between new fall.refused fall.pieces
  heard asking news said (polls.Refused number) a b old new (inl is) = replied_alone r asking said a b old new (refusal_brought asking news said a b old new number is.1)
  heard asking news said (polls.Refused number) a b old new (inr fall) = fallen asking news said (polls.Refused number) a fall.mid b old fall.between new fall.refused fall.pieces

  polled : (polling : Polling) (a b : LineState) (old new : ReplicaState) → IsPoll a b old new (Ok polling) → AreTurnsOn r a b old new
  polled polling a b old new is =
      onwards r a is.mid b old old new (tried r Poll _ IsMomentaryPollRefusal is.times a is.mid old tt refl by_poll is.refusals)
      (begun r Poll is.mid b old new tt (heard Poll tt (poll_request ∷ []) polling is.mid b old new (once polling is.mid is.last)))
    where
      once : (polling : Polling) (mid : LineState) → IsPollOnce mid b old new (Ok polling) → IsNewsHeard (poll_request ∷ []) mid b old new (Ok polling)
      once polling mid is = is

-- ---- drawings

module _ (r : GenerationsRule) (e : PlaneEdit) (old : ReplicaState) (rule : old.rule ≡ r) (under : IsEditUnder r e) where
  same_push : push_bytes old.rule e ≡ push_bytes r e
  same_push = ap (λ g. push_bytes g e) rule

  -- tries that were refused, and then an answer
  pushed : (most : ℕ) (pushing : Pushing) (hearing : Hearing) (a b : LineState) (new : ReplicaState) → IsPushWithin most (push_bytes old.rule e) a b (Ok pushing)
      → ((mid : LineState) → IsAnswering (push_bytes old.rule e ∷ []) mid b (Ok pushing) → IsTalk mid b (push_bytes old.rule e ∷ []) (heard_in hearing)) → IsTurn r (Push e) hearing old new → AreTurnsOn r a b old new
  pushed most pushing hearing a b new push talk is =
      onwards r a push.mid b old old new (tried r (Push e) _ IsMomentaryPushRefusal push.times a push.mid old under same_push by_push push.refusals)
      (one r (Push e) hearing push.mid b old new under (subst (λ request. IsTalk push.mid b (request ∷ []) (heard_in hearing)) same_push (talk push.mid push.last)) is)

  -- the push was said before
  pushed_before : (pushing : Pushing) (hearing : Hearing) (a b : LineState) (new : ReplicaState) → IsPushEnd (push_bytes old.rule e) a b (Ok pushing)
      → ((said : List (List ℕ)) (mid : LineState) → IsAnswering said mid b (Ok pushing) → IsTalk mid b said (heard_in hearing)) → IsTurn r (Push e) hearing old new → IsBegun r (Push e) [] a b old new
  pushed_before pushing hearing a b new (inl final) talk is = replied_alone r (Push e) [] a b old new (record { hearing = hearing; talk = talk [] a final.1; is = is })
  pushed_before pushing hearing a b new (inr again) talk is = record {
    mid = again.mid;
    between = old;
    first = record { hearing = Refused again.number; talk = again.talk; is = (by_push again.number again.brief, refl) };
    rest = pushed 8 pushing hearing again.mid b new again.again (talk (push_bytes old.rule e ∷ [])) is;
  }

  module _ (a b : LineState) (new : ReplicaState) where
    drawn : (counter : ℕ) → IsPublishing e a b old new (Ok (Drawn counter)) → AreTurnsOn r a b old new
    drawn counter is = pushed 9 pushes.Done Done a b new is.1.0 (λ mid talk. talk) is.1.1

    unpublished : (number : ℕ) → IsPublishing e a b old new (Ok (Unpublished number)) → AreTurnsOn r a b old new
    unpublished number is = pushed 9 (pushes.Refused number) (Refused number) a b new is.0 (λ mid answer. answer.1) (refused is.0.last, is.1) where
      refused : {mid : LineState} → IsAnswering (push_bytes old.rule e ∷ []) mid b (Ok (pushes.Refused number)) → 0 < number
      refused answer = answer.0

    drawn_before : (counter : ℕ) → IsPublishingEnd e a b old new (Ok (Drawn counter)) → IsBegun r (Push e) [] a b old new
    drawn_before counter is = pushed_before pushes.Done Done a b new is.1.0 (λ said mid talk. talk) is.1.1

    some_refusal : (number : ℕ) → IsPushEnd (push_bytes old.rule e) a b (Ok (pushes.Refused number)) → 0 < number
    some_refusal number (inl final) = final.1.0
    some_refusal number (inr again) = again.again.last.0

    unpublished_before : (number : ℕ) → IsPublishingEnd e a b old new (Ok (Unpublished number)) → IsBegun r (Push e) [] a b old new
    unpublished_before number is = pushed_before (pushes.Refused number) (Refused number) a b new is.0 (λ said mid answer. answer.1) (some_refusal number is.0, is.1)

-- ---- answers by which nothing is taken

answered : (r : GenerationsRule) (asking : Asking) (hearing : Hearing) (pushing : Pushing) (said : List (List ℕ)) (a b : LineState) (s : ReplicaState) → heard_in hearing ≡ (0 ∷ []) ∷ []
    → IsTurn r asking hearing s s → IsAnswering said a b (Ok pushing) → IsBegun r asking said a b s s
answered r asking hearing pushes.Done said a b s told done is =
    replied_alone r asking said a b s s (record { hearing = hearing; talk = subst (IsTalk a b said) (sym told) is; is = done })
answered r asking hearing (pushes.Refused number) said a b s told done is = replied_alone r asking said a b s s (record { hearing = Refused number; talk = is.1; is = (is.0, refl) })

left : (r : GenerationsRule) (pushing : Pushing) (a b : LineState) (s : ReplicaState) → IsLeaving a b (Ok pushing) → AreTurnsOn r a b s s
left r pushing a b s is = begun r Farewell a b s s tt (answered r Farewell Done pushing (request_in r Farewell ∷ []) a b s refl refl is)

-- ---- what was said before its reply was heard

said_alone : (r : GenerationsRule) (asking : Asking) (a b : LineState) → IsSaidAlone r asking a b → IsTalk a b (request_in r asking ∷ []) []
said_alone r Greeting a b is = is
said_alone r Poll a b is = is
said_alone r (Await milliseconds) a b is = is
said_alone r Pieces a b is = is
said_alone r Farewell a b is = is
said_alone r (Push e) a b is = subst (λ f. IsTalk a b (push_bytes r f ∷ []) []) (own (Ok e) e is.0.edit refl is.1.0) is.1.2 where
  own : (meant : Result PlaneEdit Fault) (e f : PlaneEdit) → meant ≡ Ok e → meant ≡ Ok f → f ≡ e
  own meant e f one other = cc

behind : (r : GenerationsRule) (poll asking : Asking) (a mid b : LineState) (old between new : ReplicaState) → IsAskable r asking → IsHeardBefore r poll asking a mid old between
    → IsBegun r asking [] mid b between new → AreTurnsOn r a b old new
behind r poll asking a mid b old between new askable is end =
    in_order r poll asking a is.first is.second mid b old between new (news_askable r poll is.news) askable (said_alone r poll a is.first is.polled) (said_alone r asking is.first is.second is.asked)
    (replied r poll is.news [] is.second mid old between is.polling is.heard) end

due : (r : GenerationsRule) (asking : Asking) (a mid b : LineState) (old between new : ReplicaState) → IsAskable r asking → IsDue r asking a mid old between → IsBegun r asking [] mid b between new
    → AreTurnsOn r a b old new
due r asking a mid b old between new askable (inl alone) end =
    subst (λ s. AreTurnsOn r a b s new) alone.1 (begun_before r asking a mid b between new askable (said_alone r asking a mid alone.0) end)
due r asking a mid b old between new askable (inr waits) end = behind r waits.0 asking a mid b old between new askable waits.1 end

-- the replica stays of its rule
rule_due : (r : GenerationsRule) (asking : Asking) (a b : LineState) (old new : ReplicaState) → old.rule ≡ r → IsDue r asking a b old new → new.rule ≡ r
rule_due r asking a b old new rule (inl alone) = ap (λ (s : ReplicaState). s.rule) alone.1 ∙ rule
rule_due r asking a b old new rule (inr waits) = rule_stays [] waits.1.second b old new (Ok waits.1.polling) waits.1.heard ∙ rule

pub turns_of_clients : AreTurnsOfClients
turns_of_clients = record {
  nothing = none;
  onwards = onwards;
  greeting = greeted;
  edits = λ r count. polled r (polls.Edits count);
  plane = λ r. polled r polls.Whole;
  refused = λ r number. polled r (polls.Refused number);
  drawn = λ r counter e a b old new rule under. drawn r e old rule under a b new counter;
  unpublished = λ r number e a b old new rule under. unpublished r e old rule under a b new number;
  pieces = pieced;
  fallen_back = fallen_back;
  leaving = left;
  news_due = λ r asking polling a mid b old between new news is end.
      due r asking a mid b old between new (news_askable r asking news) is (heard r asking news [] polling mid b between new end);
  drawn_due = λ r counter e a mid b old between new rule under is end.
      due r (Push e) a mid b old between new under is (drawn_before r e between (rule_due r (Push e) a mid old between rule is) under mid b new counter end);
  unpublished_due = λ r number e a mid b old between new rule under is end.
      due r (Push e) a mid b old between new under is (unpublished_before r e between (rule_due r (Push e) a mid old between rule is) under mid b new number end);
  answered_late = λ r pushing e a mid b old new under is end. due r (Push e) a mid b old new new under is (answered r (Push e) Late pushing [] mid b new refl refl end);
  left_due = λ r pushing a mid b old new is end. due r Farewell a mid b old new new tt is (answered r Farewell Done pushing [] mid b new refl refl end);
}
