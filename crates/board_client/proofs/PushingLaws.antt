-- Pushes again and again.
use Rattle.std.proofs.Common.{◌≡◌, ℕ, ◌+◌, List, [], ◌∷◌, Result, Ok, Err, arith, inl, inr}
use Rattle.std.specs.Prelude.{IfOk}
use Rattle.board_client.specs.declared.fault.ClientFault.{ClientFault}
use Rattle.board_client.specs.declared.fault.ClientFault.TheVariants.{Line, NoReply, Text, Memory}
use Rattle.board_client.specs.declared.pushing.Pushing.{Pushing}
use Rattle.board_client.specs.declared.pushing.Pushing.TheVariants.{Done, Refused}
use Rattle.board_client.specs.Client.{LineState, IsTalk}
use Rattle.board_client.specs.Hearing.{IsSaid}
use Rattle.board_client.specs.Pushing.{IsAnswering, IsFinal, IsMomentaryPushRefusal, IsPush, IsPushEnd, IsPushRefusedForAMoment, IsPushOnce}
use Rattle.board_client.specs.Tries.{IsRefused}
use Rattle.board_client.proofs.TryLaws.{both, never_refused, refused_again, refused_before}

-- one push more that was refused for a moment
pub push_again : (request : List ℕ) (times : ℕ) (a m b : LineState) (pushing : Pushing) → IsRefused IsMomentaryPushRefusal request times a m → IsPushRefusedForAMoment pushing → IsPushOnce request m b (Ok pushing) → IsRefused IsMomentaryPushRefusal request (times + 1) a b
push_again request times a m b (Refused number) p brief once = refused_again IsMomentaryPushRefusal request times number a m b p brief once.1
push_again request times a m b Done p brief once = absurd brief

final_once : (result : Result Pushing ClientFault) → IsFinal result → IfOk result (λ heard. IsPushRefusedForAMoment heard → ◌≡◌ {A = ℕ} 0 9)
final_once (Ok pushing) final = λ brief. absurd (final brief)
final_once (Err fault) final = tt

patient_on : (result : Result Pushing ClientFault) (times : ℕ) → IfOk result (λ heard. IsPushRefusedForAMoment heard → times ≡ 8) → IfOk result (λ heard. IsPushRefusedForAMoment heard → times + 1 ≡ 9)
patient_on (Ok pushing) times patient = λ brief. omega (arith, patient brief)
patient_on (Err fault) times patient = tt

-- the answer to a request that was said just before
said_first : (request : List ℕ) (a m b : LineState) (result : Result Pushing ClientFault) → IsTalk a m (request ∷ []) [] → IsAnswering [] m b result → IsAnswering (request ∷ []) a b result
said_first request a m b (Ok Done) talk is = both a m b (request ∷ []) [] [] ((0 ∷ []) ∷ []) talk is
said_first request a m b (Ok (Refused number)) talk is = (is.0, both a m b (request ∷ []) [] [] ((number ∷ []) ∷ []) talk is.1)
said_first request a m b (Err NoReply) talk is = record { body = is.body; faulty = is.faulty; talk = both a m b (request ∷ []) [] [] (is.body ∷ []) talk is.talk }
said_first request a m b (Err (Line fault)) talk (inl unsaid) = absurd unsaid
said_first request a m b (Err (Line fault)) talk (inr is) = inr (record { mid = is.mid; talk = both a m is.mid (request ∷ []) [] [] [] talk is.talk; unheard = is.unheard })
said_first request a m b (Err (Text fault)) talk is = absurd is
said_first request a m b (Err Memory) talk is = absurd is

-- a push that was said, and then answered
pub pushed_first : (request : List ℕ) (a m b : LineState) (result : Result Pushing ClientFault) → IsTalk a m (request ∷ []) [] → IsPushEnd request m b result → IsPush request a b result
pushed_first request a m b result talk (inl is) = record {
  times = 0;
  mid = a;
  refusals = never_refused IsMomentaryPushRefusal request a;
  few = omega arith;
  last = said_first request a m b result talk is.1;
  patient = final_once result is.0;
}
pushed_first request a m b result talk (inr is) = record {
  times = is.again.times + 1;
  mid = is.again.mid;
  refusals = refused_before IsMomentaryPushRefusal request is.again.times is.number a is.mid is.again.mid is.brief
      (both a m is.mid (request ∷ []) [] [] ((is.number ∷ []) ∷ []) talk is.talk) is.again.refusals;
  few = omega (arith, is.again.few);
  last = is.again.last;
  patient = patient_on result is.again.times is.again.patient;
}

-- one that could not be said
pub push_unsaid : (request : List ℕ) (a b : LineState) (fault : ClientFault) → IsSaid {A = Unit {0}} request a b (Err fault) → IsPush request a b (Err fault)
push_unsaid request a b (Line fault) said = record { times = 0; mid = a; refusals = never_refused IsMomentaryPushRefusal request a; few = omega arith; last = inl said; patient = tt }
push_unsaid request a b NoReply said = absurd said
push_unsaid request a b (Text fault) said = absurd said
push_unsaid request a b Memory said = absurd said
