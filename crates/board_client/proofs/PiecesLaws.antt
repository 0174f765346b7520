-- Planes in pieces.
use Rattle.std.proofs.Common.{◌≡◌, ℕ, ◌+◌, ◌<◌, ◌^◌, List, [], ◌∷◌, ◌++◌, length, Ok, Err, refl, sym, ap, subst, ◌∙◌, arith, append-nil, length-append}
use Rattle.std.proofs.lemmas.Grind.{flat_map-append}
use Rattle.client_protocol.specs.Spelling.{pieced_body}
use Rattle.frame_line.specs.Receiving.{bytes_in}
use Rattle.replica_core.specs.Replica.{ReplicaState}
use Rattle.board_client.specs.declared.fault.ClientFault.{ClientFault}
use Rattle.board_client.specs.declared.fault.ClientFault.TheVariants.{Line, NoReply, Text, Memory}
use Rattle.board_client.specs.declared.polling.Polling.{Polling}
use Rattle.board_client.specs.declared.polling.Polling.TheVariants.{Edits, Whole, Refused}
use Rattle.board_client.specs.Client.{LineState, IsTalk}
use Rattle.board_client.specs.Hearing.{IsHeard}
use Rattle.board_client.specs.Pieces.{ArePiecesHeard, ArePiecesWanting, ArePutTogether, BringsPieces, IsPiecesOnce, IsPlaneHeard, pieces_request}
use Rattle.board_client.specs.Refusal.{IsMomentaryPollRefusal, IsPollRefusedForAMoment}
use Rattle.board_client.specs.Tries.{IsRefused}
use Rattle.board_client.proofs.TryLaws.{both, nothing, refused_again}

-- ---- pieces, one after another

abbrev Is : List ℕ → List ℕ → Type 0
Is text whole = text ≡ whole

pub no_pieces : (a : LineState) (text : List ℕ) → text ≡ [] → ArePiecesHeard (Is text) 0 a a
no_pieces a text none = record { pieces = []; number = refl; talk = nothing a; told = none }

longer : (text piece : List ℕ) (pieces : List (List ℕ)) → text ≡ bytes_in pieces → text ++ piece ≡ bytes_in (pieces ++ piece ∷ [])
longer text piece pieces is =
    ap (λ t. t ++ piece) is ∙ ap (λ t. bytes_in pieces ++ t) (sym (append-nil piece)) ∙ sym (flat_map-append (λ (p : List ℕ). p) pieces (piece ∷ []))

-- one piece more
pub pieces_on : (count : ℕ) (a b c : LineState) (text piece now : List ℕ) → now ≡ text ++ piece → ArePiecesHeard (Is text) count a b → IsTalk b c [] (piece ∷ []) → ArePiecesHeard (Is now) (count + 1) a c
pieces_on count a b c text piece now is p talk = record {
  pieces = p.pieces ++ piece ∷ [];
  number = length-append p.pieces (piece ∷ []) ∙ ap (λ n. n + 1) p.number;
  talk = both a b c [] [] p.pieces (piece ∷ []) p.talk talk;
  told = is ∙ longer text piece p.pieces p.told;
}

some_pieces : (count : ℕ) (a b : LineState) (text : List ℕ) → ArePiecesHeard (Is text) count a b → ArePiecesHeard (λ whole. Unit {0}) count a b
some_pieces count a b text p = record { pieces = p.pieces; number = p.number; talk = p.talk; told = tt }

-- the next one does not come
pub cut_short : (count frames : ℕ) (a m b : LineState) (text : List ℕ) (fault : ClientFault) → count < frames → ArePiecesHeard (Is text) count a m
    → IsHeard {B = List ℕ} (λ body. body) m b (Err fault) → ArePutTogether {B = List ℕ} (λ whole. whole) frames a b (Err fault)
cut_short count frames a m b text (Line fault) fewer p heard = record { few = count; fewer = fewer; mid = m; heard = some_pieces count a m text p; unheard = heard }
cut_short count frames a m b text NoReply fewer p heard = absurd heard
cut_short count frames a m b text (Text fault) fewer p heard = absurd heard
cut_short count frames a m b text Memory fewer p heard = absurd heard

-- memory for it is wanting
pub wanting : (count frames : ℕ) (a m b : LineState) (text piece : List ℕ) → count < frames → ArePiecesHeard (Is text) count a m → IsTalk m b [] (piece ∷ []) → ArePiecesWanting frames a b
wanting count frames a m b text piece fewer p talk = record {
  few = count + 1;
  some = omega arith;
  most = omega (arith, fewer);
  heard = some_pieces (count + 1) a b (text ++ piece) (pieces_on count a m b text piece (text ++ piece) refl p talk);
}

-- what holds of the text that was put together holds of the pieces
pub whole_text : (P : List ℕ → Type 0) (frames : ℕ) (a b : LineState) (text : List ℕ) → ArePiecesHeard (Is text) frames a b → P text → ArePiecesHeard P frames a b
whole_text P frames a b text p holds = record { pieces = p.pieces; number = p.number; talk = p.talk; told = subst P p.told holds }

-- ---- the reply

pub brings_pieces : (a m b : LineState) (old new : ReplicaState) (request first read : List ℕ) (edits frames : ℕ) → IsTalk a m (request ∷ []) (first ∷ []) → request ≡ pieces_request → read ≡ first
    → read ≡ pieced_body edits frames → frames < 2 ^ 32 → IsPlaneHeard {A = Unit {0}} frames m b old new (Ok tt) → BringsPieces a b old new
brings_pieces a m b old new request first read edits frames talk is same spelt few heard = record {
  edits = edits;
  pieces = heard.pieces;
  few = omega (arith, few, heard.number);
  talk = both a m b (pieces_request ∷ []) [] (pieced_body edits (length heard.pieces) ∷ []) heard.pieces
      (subst (λ said. IsTalk a m (said ∷ []) (pieced_body edits (length heard.pieces) ∷ [])) is
      (subst (λ body. IsTalk a m (request ∷ []) (body ∷ [])) (sym same ∙ spelt ∙ ap (pieced_body edits) (sym heard.number)) talk)) heard.talk;
  plane = heard.told.0;
  taken = heard.told.1;
}

-- once more they were refused for a moment
pub fetch_again : (times : ℕ) (a m b : LineState) (old between new : ReplicaState) (polling : Polling) → IsRefused IsMomentaryPollRefusal pieces_request times a m × (between ≡ old) → IsPollRefusedForAMoment polling
    → IsPiecesOnce m b between new (Ok polling) → IsRefused IsMomentaryPollRefusal pieces_request (times + 1) a b × (new ≡ old)
fetch_again times a m b old between new (Refused number) p brief once =
    (refused_again IsMomentaryPollRefusal pieces_request times number a m b p.0 brief once.talk, once.kept ∙ p.1)
fetch_again times a m b old between new (Edits count) p brief once = absurd brief
fetch_again times a m b old between new Whole p brief once = absurd brief
