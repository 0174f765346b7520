-- Texts in pieces, and answers with them.
use Rattle.std.proofs.Common.{◌≡◌, ◌≢◌, ℕ, ◌<◌, List, [], ◌∷◌, ◌++◌, length, take, drop, min, Some, Ok, Err, refl, inl, inr, sym, ap, subst, ◌∙◌, arith, append-nil, append_assoc}
use Rattle.std.proofs.lemmas.Grind.{common_steps}
use Rattle.message_frames.specs.Frames.{most_body}
use Rattle.generations_rule.specs.Rule.{GenerationsRule}
use Rattle.stamped_tree.specs.Plane.{StampedPlane}
use Rattle.session_hub.specs.declared.fault.HubFault.{HubFault}
use Rattle.session_hub.specs.HubCall.{Hands}
use Rattle.session_hub.specs.HubFault.{hub_fault_number}
use Rattle.session_hub.specs.Request.{Pieces}
use Rattle.session_hub.specs.Replies.{Kept, RepliesOrWants, IsInPieces, IsInPiecesReply, nothing_kept, refusal, with_plane}

front : (n : ℕ) (rest piece others : List ℕ) → rest ≡ piece ++ others → length piece ≡ min n (length rest) → piece ≡ take n rest
front n rest piece others cut len = grind (arith, common_steps)

back : (n : ℕ) (rest piece others : List ℕ) → rest ≡ piece ++ others → length piece ≡ min n (length rest) → others ≡ drop n rest
back n rest piece others cut len = grind (arith, common_steps)

-- a piece in front of the pieces of what is behind it
piece_before : (rest piece others : List ℕ) (later : List (List ℕ)) → rest ≡ piece ++ others → length piece ≡ min most_body (length rest) → 0 < length rest → IsInPieces others later → IsInPieces rest (piece ∷ later)
piece_before rest piece others later cut len some is =
    let full : piece ≢ [] = λ none. omega (arith, ap length none) in
    (full, front most_body rest piece others cut len, subst (λ l. IsInPieces l later) (back most_body rest piece others cut len) is)

-- one piece more
pub piece_more : (text rest piece others framed : List ℕ) (now more : List (List ℕ)) (size : ℕ) → size ≡ most_body → ((later : List (List ℕ)) → IsInPieces rest later → IsInPieces text (now ++ later))
    → rest ≡ piece ++ others → length piece ≡ min size (length rest) → 0 < length rest → framed ≡ piece → more ≡ now ++ framed ∷ [] → (later : List (List ℕ)) → IsInPieces others later → IsInPieces text (more ++ later)
piece_more text rest piece others framed now more size most was cut len some same put later is =
    let all : more ++ later ≡ now ++ (piece ∷ later) = ap (λ l. l ++ later) put ∙ append_assoc now (framed ∷ []) later ∙ ap (λ p. now ++ (p ∷ later)) same in
    let short : length piece ≡ min most_body (length rest) = len ∙ ap (λ n. min n (length rest)) most in
    subst (λ l. IsInPieces text l) (sym all) (was (piece ∷ later) (piece_before rest piece others later cut short some is))

-- all pieces
pub pieces_all : (text rest : List ℕ) (now : List (List ℕ)) → ((later : List (List ℕ)) → IsInPieces rest later → IsInPieces text (now ++ later)) → length rest ≡ 0 → IsInPieces text now
pieces_all text [] now was none = subst (λ l. IsInPieces text l) (append-nil now) (was [] refl)
pieces_all text (x ∷ xs) now was none = absurd (omega arith)

module _ (r : GenerationsRule) (seat : ℕ) (kept : Kept) (out : List (List ℕ)) (left : Kept) where
  pub refused_pieces : (fault : HubFault) (n : ℕ) → n ≡ hub_fault_number fault → out ≡ refusal n → left ≡ kept → RepliesOrWants r seat kept Pieces (Some (Hands (Err fault))) out left
  refused_pieces fault n number is same = inl (rw number at is, same)

  module _ (given : StampedPlane × ℕ) where
    pub told_pieces : IsInPiecesReply r given.0 given.1 out → left ≡ nothing_kept → RepliesOrWants r seat kept Pieces (Some (Hands (Ok given))) out left
    told_pieces is none = inl (is, none)

    pub wanting_pieces : out ≡ refusal 255 → left ≡ with_plane given.0 → RepliesOrWants r seat kept Pieces (Some (Hands (Ok given))) out left
    wanting_pieces is same = inr (is, same)
