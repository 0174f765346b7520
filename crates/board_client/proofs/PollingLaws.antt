-- What is heard behind the first body of a poll's reply.
use Rattle.std.proofs.Common.{◌≡◌, ℕ, ◌+◌, List, [], ◌∷◌, ◌++◌, append-nil, Result, Ok, Err, sym, ap, subst, ◌∙◌, inl, inr, arith}
use Rattle.client_protocol.specs.Spelling.{polled_body}
use Rattle.session_hub.specs.Replies.{whole_mark}
use Rattle.replica_core.specs.Replica.{ReplicaState}
use Rattle.board_client.specs.declared.fault.ClientFault.{ClientFault}
use Rattle.board_client.specs.declared.fault.ClientFault.TheVariants.{Line, NoReply, Text, Memory}
use Rattle.board_client.specs.Client.{LineState, IsTalk}
use Rattle.std.specs.Prelude.{OnOk}
use Rattle.board_client.specs.Hearing.{IsAsked, IsTaken}
use Rattle.board_client.specs.declared.polling.Polling.{Polling}
use Rattle.board_client.specs.declared.polling.Polling.TheVariants.{Edits, Whole, Refused}
use Rattle.board_client.specs.Polling.{FailsBehind, FallsBack, IsCutBehind, IsFallenBack, IsNewsHeard, IsPollOnce, IsReplyBehind, IsReplyTaken, poll_request}
use Rattle.board_client.specs.Refusal.{IsMomentaryPollRefusal, IsPollRefusedForAMoment}
use Rattle.board_client.specs.Tries.{IsRefused}
use Rattle.board_client.proofs.HearingLaws.{rule_kept}
use Rattle.board_client.proofs.TryLaws.{both, refused_again}

-- ---- a reply

module _ (said : List (List ℕ)) (a m b : LineState) (old new : ReplicaState) where
  -- what the first body says, by its bytes
  first_as : (first body : List ℕ) → IsTalk a m said (first ∷ []) → first ≡ body → IsTalk a m said (body ∷ [])
  first_as first body talk is = subst (λ heard. IsTalk a m said (heard ∷ [])) is talk

  -- nothing more was heard
  stays : (first : List ℕ) → IsTalk a m said (first ∷ []) → b ≡ m → IsTalk a b said (first ∷ [])
  stays first talk same = subst (λ end. IsTalk a end said (first ∷ [])) (sym same) talk

  -- nothing was said behind it
  alone : (heard : List (List ℕ)) → IsTalk a b (said ++ []) heard → IsTalk a b said heard
  alone heard talk = subst (λ s. IsTalk a b s heard) (append-nil said) talk

  cut_behind : (first : List ℕ) (fault : ClientFault) → IsTalk a m said (first ∷ []) → IsCutBehind first fault m b old new → FailsBehind said fault a b old new
  cut_behind first fault talk cut = record { mid = m; count = cut.count; talk = first_as first (polled_body cut.count) talk cut.spelt; fails = cut.fails }

  never_wanting : (first : List ℕ) → IsCutBehind first Memory m b old new → ⊥
  never_wanting first cut = elim cut.fails [ inl whole ↦ whole.1 | inr edits ↦ edits.1.next ]

  pub replied : (first : List ℕ) (result : Result Polling ClientFault) → IsTalk a m said (first ∷ []) → IsReplyBehind first m b old new result → IsReplyTaken said a b old new result
  replied first (Ok (Edits count)) talk is = record {
    some = is.0;
    texts = is.2.texts;
    number = is.2.number;
    talk = alone (polled_body count ∷ is.2.texts) (both a m b said [] (polled_body count ∷ []) is.2.texts (first_as first (polled_body count) talk is.1) is.2.talk);
    deltas = is.2.deltas;
    taken = is.2.taken;
  }
  replied first (Ok Whole) talk is = record {
    text = is.1.text;
    talk = alone (polled_body whole_mark ∷ is.1.text ∷ []) (both a m b said [] (polled_body whole_mark ∷ []) (is.1.text ∷ []) (first_as first (polled_body whole_mark) talk is.0) is.1.talk);
    plane = is.1.told.0;
    taken = is.1.told.1;
  }
  replied first (Ok (Refused number)) talk is = record {
    some = is.0.0;
    talk = subst (λ heard. IsTalk a b said (heard ∷ [])) is.0.1 (stays first talk is.1.0);
    kept = is.1.1;
  }
  replied first (Err NoReply) talk (inl is) = inl (record { body = first; faulty = is.1; talk = stays first talk is.2.0; kept = is.2.1 })
  replied first (Err NoReply) talk (inr cut) = inr (cut_behind first NoReply talk cut)
  replied first (Err (Text fault)) talk (inl is) = absurd (no_text fault is.0) where
    no_text : (fault : _) → Text fault ≡ NoReply → ⊥
    no_text fault is = cc
  replied first (Err (Text fault)) talk (inr cut) = cut_behind first (Text fault) talk cut
  replied first (Err (Line fault)) talk (inl is) = absurd (no_line fault is.0) where
    no_line : (fault : _) → Line fault ≡ NoReply → ⊥
    no_line fault is = cc
  replied first (Err (Line fault)) talk (inr cut) = inr (cut_behind first (Line fault) talk cut)
  replied first (Err Memory) talk (inl is) = absurd (no_memory is.0) where
    no_memory : Memory ≡ NoReply → ⊥
    no_memory is = cc
  replied first (Err Memory) talk (inr cut) = absurd (never_wanting first cut)

-- the same of its bytes as they were read
pub replied_so : (said : List (List ℕ)) (a m b : LineState) (old new : ReplicaState) (first read : List ℕ) (result : Result Polling ClientFault) → IsTalk a m said (first ∷ []) → read ≡ first
    → IsReplyBehind read m b old new result → IsReplyTaken said a b old new result
replied_so said a m b old new first read result talk same behind =
    replied said a m b old new read result (subst (λ body. IsTalk a m said (body ∷ [])) (sym same) talk) behind

-- a replica that took a reply stays of its rule
pub rule_stays : (said : List (List ℕ)) (a b : LineState) (old new : ReplicaState) (result : Result Polling ClientFault) → IsReplyTaken said a b old new result → OnOk result (new.rule ≡ old.rule)
rule_stays said a b old new (Ok (Edits count)) taken = rule_kept taken.texts old new taken.taken
rule_stays said a b old new (Ok Whole) taken = let one : IsTaken old taken.text new = taken.taken in one.told.2.2.one.rule
rule_stays said a b old new (Ok (Refused number)) taken = ap (λ (r : ReplicaState). r.rule) taken.kept
rule_stays said a b old new (Err fault) taken = tt

-- no reply came
pub unreplied : {B : Type 0} (bytes_of : B → List ℕ) (said : List (List ℕ)) (a b : LineState) (old new : ReplicaState) (fault : ClientFault) → new ≡ old → IsAsked bytes_of said a b (Err fault)
    → IsReplyTaken said a b old new (Err fault)
unreplied bytes_of said a b old new (Line fault) kept asked = inl (record { failed = asked; kept = kept })
unreplied bytes_of said a b old new NoReply kept asked = absurd asked
unreplied bytes_of said a b old new (Text fault) kept asked = absurd asked
unreplied bytes_of said a b old new Memory kept asked = absurd asked

-- ---- a poll

module _ (said : List (List ℕ)) (a : LineState) where
  pub news_taken : (b : LineState) (old new : ReplicaState) (polling : Polling) → (polling ≡ Refused 21 → ⊥) → IsReplyTaken said a b old new (Ok polling) → IsNewsHeard said a b old new (Ok polling)
  news_taken b old new (Edits count) other taken = taken
  news_taken b old new Whole other taken = inl taken
  news_taken b old new (Refused number) other taken = inl (λ is. other (ap Refused is), taken)

  fallen : (m b : LineState) (old between new : ReplicaState) (polling : Polling) (result : Result Polling ClientFault) → polling ≡ Refused 21
      → IsReplyTaken said a m old between (Ok polling) → IsFallenBack m b between new result → FallsBack said a b old new result
  fallen m b old between new polling result is taken back =
      record { mid = m; between = between; refused = subst (λ p. IsReplyTaken said a m old between (Ok p)) is taken; pieces = back }

  pub falls_back : (m b : LineState) (old between new : ReplicaState) (polling : Polling) (result : Result Polling ClientFault) → polling ≡ Refused 21
      → IsReplyTaken said a m old between (Ok polling) → IsFallenBack m b between new result → IsNewsHeard said a b old new result
  falls_back m b old between new polling (Ok (Edits count)) is taken back = absurd back.last
  falls_back m b old between new polling (Ok Whole) is taken back = inr (fallen m b old between new polling (Ok Whole) is taken back)
  falls_back m b old between new polling (Ok (Refused number)) is taken back = inr (fallen m b old between new polling (Ok (Refused number)) is taken back)
  falls_back m b old between new polling (Err fault) is taken back = inr (fallen m b old between new polling (Err fault) is taken back)

-- a poll that was said
pub polled_so : (a b : LineState) (old new : ReplicaState) (result : Result Polling ClientFault) → IsNewsHeard (poll_request ∷ []) a b old new result → IsPollOnce a b old new result
polled_so a b old new (Ok (Edits count)) heard = heard
polled_so a b old new (Ok Whole) heard = heard
polled_so a b old new (Ok (Refused number)) heard = heard
polled_so a b old new (Err Memory) heard = inr heard
polled_so a b old new (Err NoReply) heard = heard
polled_so a b old new (Err (Text fault)) heard = heard
polled_so a b old new (Err (Line fault)) heard = heard

too_long : (number : ℕ) → IsMomentaryPollRefusal number → number ≡ 21 → ⊥
too_long number (inl is) same = omega (arith, is, same)
too_long number (inr is) same = omega (arith, is, same)

-- one poll more that was refused for a moment
pub poll_again : (times : ℕ) (a m b : LineState) (old between new : ReplicaState) (polling : Polling) → IsRefused IsMomentaryPollRefusal poll_request times a m × (between ≡ old) → IsPollRefusedForAMoment polling → IsPollOnce m b between new (Ok polling)
    → IsRefused IsMomentaryPollRefusal poll_request (times + 1) a b × (new ≡ old)
poll_again times a m b old between new (Refused number) p brief (inl once) =
    (refused_again IsMomentaryPollRefusal poll_request times number a m b p.0 brief once.1.talk, once.1.kept ∙ p.1)
poll_again times a m b old between new (Refused number) p brief (inr back) = absurd (too_long number brief back.pieces.0)
poll_again times a m b old between new (Edits count) p brief once = absurd brief
poll_again times a m b old between new Whole p brief once = absurd brief
