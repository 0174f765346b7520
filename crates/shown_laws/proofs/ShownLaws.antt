-- What a client shows is of the list that it is told of.
use Rattle.std.proofs.Common.{◌≡◌, ◌∙◌, ◌++◌, ◌<◌, ◌≤◌, ℕ, zero, suc, Bool, true, false, List, [], ◌∷◌, length, refl, sym, ap, subst, arith, append_assoc, inl, inr}
use Rattle.std.specs.Prelude.{Ok, Some, drop, map, nat_le, nat_lt, slice_get, take, ◌&&◌, ◌==◌, ◌⊎◌, ◌^◌}
use Rattle.std.specs.List.{AllByRecursion, Contains, list_all}
use Rattle.std.specs.Int.{w32, w64, from_be_bytes, to_be_bytes}
use Rattle.std.proofs.lemmas.List.{length-map, take-append-drop}
use Rattle.std.proofs.lemmas.List.Elements.{Contains-append_cases, Contains-append_left, Contains-append_right}
use Rattle.std.proofs.lemmas.Bool.Decides.{nat_tests}
use Rattle.std.proofs.lemmas.Nat.{from_be_bytes-to_be_bytes_4}
use mathlib.Core.List.{IsPrefix, map-append}
use Rattle.generations_rule.specs.Place.{Place}
use Rattle.generations_rule.specs.Rule.{GenerationsRule, IsRule}
use Rattle.edit_stamps.specs.Edit.{PlaneEdit, greatest}
use Rattle.stamped_writes.specs.Write.{AreSame, Writes}
use Rattle.stamped_tree.specs.Plane.{map_of}
use Rattle.generation_engine.specs.Universe.{states_in_writes}
use Rattle.export.specs.Export.{IsExport, most_cells}
use Rattle.delta_exchange.specs.Spelling.{delta_text}
use Rattle.delta_exchange.specs.StateText.{IsStateText}
use Rattle.delta_exchange.proofs.DeltaLaws.{read_again}
use Rattle.delta_exchange.proofs.MessageLaws.{delta_begins}
use Rattle.message_frames.specs.Frames.{bodies_of, is_body, most_body, stream_of}
use Rattle.message_frames.specs.FrameLaws.{IsTakenTo}
use Rattle.message_frames.proofs.StreamLaws.{has_one_cut}
use Rattle.frame_service.specs.Exchanges.{Exchange, frames_of, pushed_of as all_pushed, requests_of}
use Rattle.board.specs.declared.entry.Entry.{Entry}
use Rattle.board.specs.Entries.{edits_of}
use Rattle.client_protocol.specs.Spelling.{pieced_body, polled_body}
use Rattle.session_hub.specs.Request.{Await, Bye, Cut, Export, Faulty, Hello, Many, Pieces, Poll, Push, Request, Whole, await_of, most_wait, request_of}
use Rattle.session_hub.specs.Replies.{IsInPieces, hello_body, most_edits, pieces_frames, pieces_reply, pushed_of, refusal, whole_frames, whole_mark}
use Rattle.replica_core.specs.Peers.{HoldsEdits}
use Rattle.replica_core.specs.Replica.{ReplicaState}
use Rattle.replica_core.specs.World.{IsEditUnder}
use Rattle.replica_core.proofs.PeerLaws.{holds_what_it_took}
use Rattle.replica_core.proofs.SameMaps.{same_text}
use Rattle.replica_core.specs.Exchange.{IsTakingOf}
use Rattle.board_client.specs.Drawing.{IsEditAlone}
use Rattle.board_client.specs.Hearing.{AreTaken, IsTaken}
use Rattle.board_client.specs.Laws.{TellEdits}
use Rattle.board_client.proofs.ClientLaws.{taken_edits, taken_plane}
use Rattle.seat_server.specs.OneList.{AreToldBehind, Counted, CutText, Edits, HasAccepted, IsAccepted, IsToldBehind, IsToldOf, Nothing, Plane, Telling, Tells, Texts}
use Rattle.shown_laws.specs.Turns as turns
use Rattle.shown_laws.specs.Turns.{AreTurns, Asking, Hearing, IsAskable, IsTurn, Turn, heard_by, heard_in, put_together, request_in, said_by}
use Rattle.shown_laws.specs.Shown.{ShowsOf, ShowsOfOneList}
use Rattle.shown_laws.proofs.Bodies.{asks_body, both, edits_bodies, exports_bodies, hello_bodies, pieces_bodies, text_is_body, whole_bodies}
use Rattle.shown_laws.proofs.Held.{all_each, contains_at, map_tellable, tellable}

-- ---- lists that begin alike

-- lists as long as one another, each before another, are the same, and so are the others
split_same : {X : Type 0} (xs ys rest more : List X) → length xs ≡ length ys → xs ++ rest ≡ ys ++ more → (xs ≡ ys) × (rest ≡ more)
split_same [] [] rest more long same = (refl, same)
split_same [] (y ∷ ys) rest more long same = absurd (omega (arith, long))
split_same (x ∷ xs) [] rest more long same = absurd (omega (arith, long))
split_same (x ∷ xs) (y ∷ ys) rest more long same =
    let tail : xs ++ rest ≡ ys ++ more = cc in
    let head : x ≡ y = cc in
    let others = split_same xs ys rest more (omega (arith, long)) tail in
    ((λ i. head i ∷ others.0 i), others.1)

-- a reply of one frame, of which one body was heard
alone : (body frame : List ℕ) (frames rest more : List (List ℕ)) → frames ≡ frame ∷ [] → body ∷ rest ≡ frames ++ more → (frames ≡ body ∷ []) × (rest ≡ more)
alone body frame frames rest more is same =
    let one : body ∷ rest ≡ frame ∷ more = same ∙ ap (λ fs. fs ++ more) is in
    let head : body ≡ frame = cc in
    (is ∙ ap (λ f. f ∷ []) (sym head), cc)

-- one byte is no count
no_count : (n count : ℕ) → n ∷ [] ≡ polled_body count → ⊥
no_count n count same = absurd (omega (arith, ap length same))

-- one count is told in one way
same_count : (m n : ℕ) → m < 2 ^ 32 → n < 2 ^ 32 → polled_body m ≡ polled_body n → m ≡ n
same_count m n few fewer same =
    let bytes : to_be_bytes w32 m ≡ to_be_bytes w32 n = cc in
    sym (from_be_bytes-to_be_bytes_4 m few) ∙ ap (from_be_bytes w32) bytes ∙ from_be_bytes-to_be_bytes_4 n fewer

-- how many edits a plane is of, and in how many pieces: thirteen bytes are no refusal, and the pieces are told in one way
no_counts : (n count pieces : ℕ) → n ∷ [] ≡ pieced_body count pieces → ⊥
no_counts n count pieces same = absurd (omega (arith, ap length same))

same_pieces : (m n k l : ℕ) → k < 2 ^ 32 → l < 2 ^ 32 → pieced_body m k ≡ pieced_body n l → k ≡ l
same_pieces m n k l few fewer same =
    let counts : to_be_bytes w64 m ++ to_be_bytes w32 k ≡ to_be_bytes w64 n ++ to_be_bytes w32 l = cc in
    let bytes : to_be_bytes w32 k ≡ to_be_bytes w32 l = (split_same (to_be_bytes w64 m) (to_be_bytes w64 n) (to_be_bytes w32 k) (to_be_bytes w32 l) (omega arith) counts).1 in
    sym (from_be_bytes-to_be_bytes_4 k few) ∙ ap (from_be_bytes w32) bytes ∙ from_be_bytes-to_be_bytes_4 l fewer

-- a text's pieces, put together, are the text
whole_again : (text : List ℕ) (pieces : List (List ℕ)) → IsInPieces text pieces → put_together pieces ≡ text
whole_again text [] cut = sym cut
whole_again text (piece ∷ pieces) cut =
    ap (λ l. l ++ put_together pieces) cut.1 ∙ ap (λ l. take most_body text ++ l) (whole_again (drop most_body text) pieces cut.2) ∙ take-append-drop most_body text

-- a poll that waits for too long is no request
await_or_faulty : (rest : List ℕ) (short : Bool) → (length rest == 4 && nat_le (from_be_bytes w32 rest) most_wait) ≡ short → ((milliseconds : ℕ) × (await_of rest ≡ Await milliseconds)) ⊎ (await_of rest ≡ Faulty)
await_or_faulty rest true short = inl (from_be_bytes w32 rest, rw short refl)
await_or_faulty rest false short = inr (rw short refl)

-- ---- bodies of a line

-- the bodies that were cut from the beginning of a stream are the first of its bodies
begins : (fed : List ℕ) (bodies : List (List ℕ)) (pending : List ℕ) (all : List (List ℕ)) → IsTakenTo fed bodies pending → list_all is_body all ≡ true → IsPrefix fed (stream_of all) → IsPrefix bodies all
begins fed bodies pending all taken fits p =
    let whole : IsTakenTo (stream_of all) bodies (pending ++ p.0) = record {
      are_bodies = taken.are_bodies;
      spelt = sym p.1 ∙ ap (λ l. l ++ p.0) taken.spelt ∙ append_assoc (stream_of bodies) pending p.0;
    } in
    (bodies_of (pending ++ p.0), sym (has_one_cut.first (stream_of all) bodies (pending ++ p.0) whole).0 ∙ (has_one_cut.again all fits).0)

-- ---- what is told

edits_begin : (xs ys : List Entry) → IsPrefix xs ys → IsPrefix (edits_of xs) (edits_of ys)
edits_begin xs ys p = (edits_of p.0, sym (map-append (λ (e : Entry). e.edit) xs p.0) ∙ ap edits_of p.1)

module _ (r : GenerationsRule) (seat : ℕ) (list : List Entry) (rule : IsRule r) (under : (e : PlaneEdit) → Contains (edits_of list) e → IsEditUnder r e) where
  abbrev all : List PlaneEdit
  all = edits_of list

  abbrev Within : List PlaneEdit → Type 0
  Within edits = (e : PlaneEdit) → Contains edits e → Contains all e

  seen_within : (seen : List Entry) → IsPrefix seen list → Within (edits_of seen)
  seen_within seen p e here = let q = edits_begin seen list p in subst (λ es. Contains es e) q.1 (Contains-append_left (edits_of seen) q.0 e here)

  -- the edits that are told are of the list
  told_within : (seen : List Entry) (edits : List PlaneEdit) → IsPrefix seen list → IsToldOf r (edits_of seen) (Edits edits) → Within edits
  told_within seen edits p of e here = seen_within seen p e (subst (λ es. Contains es e) (sym of.1) (Contains-append_right of.0 edits e here))

  each_under : (edits : List PlaneEdit) → Within edits → AllByRecursion (IsEditUnder r) edits
  each_under edits within = all_each (IsEditUnder r) edits (λ e here. under e (within e here))

  texts_told : (edits : List PlaneEdit) → AllByRecursion (IsEditUnder r) edits → TellEdits r edits (map (λ e. delta_text r (e ∷ [])) edits)
  texts_told [] are = tt
  texts_told (e ∷ edits) are = (tellable r e are.0, refl, texts_told edits are.1)

  -- ---- each frame of a reply is a body

  frames_fit : (q : Request) (told : Telling) (frames : List (List ℕ)) → Tells r seat q told frames → ((edits : List PlaneEdit) → told ≡ Edits edits → Within edits) → list_all is_body frames ≡ true
  frames_fit q Nothing frames (inl number) within = rw number.1 refl
  frames_fit q Nothing frames (inr hello) within = rw hello.1 (hello_bodies r seat rule)
  frames_fit Poll (Edits edits) frames tells within = rw tells.1 (edits_bodies r edits rule (each_under edits (within edits refl)))
  frames_fit Poll (Plane m) frames tells within = rw tells.2 (whole_bodies tells.0)
  frames_fit (Await milliseconds) (Edits edits) frames tells within = rw tells.1 (edits_bodies r edits rule (each_under edits (within edits refl)))
  frames_fit (Await milliseconds) (Plane m) frames tells within = rw tells.2 (whole_bodies tells.0)
  frames_fit Pieces (Counted m count) frames tells within = rw tells.4 (pieces_bodies count tells.0 tells.1 tells.3)
  frames_fit Whole (Plane m) frames tells within = rw (tells.2, text_is_body tells.0) refl
  frames_fit (Export g) (Texts gs answers) frames tells within = rw tells.1 (exports_bodies answers)
  frames_fit (Many asked) (Texts gs answers) frames tells within = rw tells.1 (exports_bodies answers)
  frames_fit (Cut w g) (CutText v n answer) frames tells within = rw tells.2 (exports_bodies (answer ∷ []))
  frames_fit Hello (Edits edits) frames tells within = absurd tells
  frames_fit (Push text) (Edits edits) frames tells within = absurd tells
  frames_fit Whole (Edits edits) frames tells within = absurd tells
  frames_fit (Export g) (Edits edits) frames tells within = absurd tells
  frames_fit Bye (Edits edits) frames tells within = absurd tells
  frames_fit (Many asked) (Edits edits) frames tells within = absurd tells
  frames_fit Faulty (Edits edits) frames tells within = absurd tells
  frames_fit Hello (Plane m) frames tells within = absurd tells
  frames_fit (Push text) (Plane m) frames tells within = absurd tells
  frames_fit (Export g) (Plane m) frames tells within = absurd tells
  frames_fit Bye (Plane m) frames tells within = absurd tells
  frames_fit (Many asked) (Plane m) frames tells within = absurd tells
  frames_fit Faulty (Plane m) frames tells within = absurd tells
  frames_fit Hello (Texts gs answers) frames tells within = absurd tells
  frames_fit (Push text) (Texts gs answers) frames tells within = absurd tells
  frames_fit Poll (Texts gs answers) frames tells within = absurd tells
  frames_fit Whole (Texts gs answers) frames tells within = absurd tells
  frames_fit Bye (Texts gs answers) frames tells within = absurd tells
  frames_fit Faulty (Texts gs answers) frames tells within = absurd tells
  frames_fit Pieces (Edits edits) frames tells within = absurd tells
  frames_fit Pieces (Plane m) frames tells within = absurd tells
  frames_fit (Await milliseconds) (Texts gs answers) frames tells within = absurd tells
  frames_fit Pieces (Texts gs answers) frames tells within = absurd tells
  frames_fit Hello (Counted m count) frames tells within = absurd tells
  frames_fit (Push text) (Counted m count) frames tells within = absurd tells
  frames_fit Poll (Counted m count) frames tells within = absurd tells
  frames_fit Whole (Counted m count) frames tells within = absurd tells
  frames_fit (Export g) (Counted m count) frames tells within = absurd tells
  frames_fit Bye (Counted m count) frames tells within = absurd tells
  frames_fit (Many asked) (Counted m count) frames tells within = absurd tells
  frames_fit (Await milliseconds) (Counted m count) frames tells within = absurd tells
  frames_fit Faulty (Counted m count) frames tells within = absurd tells
  frames_fit (Cut w g) (Edits edits) frames tells within = absurd tells
  frames_fit (Cut w g) (Plane m) frames tells within = absurd tells
  frames_fit (Cut w g) (Texts gs answers) frames tells within = absurd tells
  frames_fit (Cut w g) (Counted m count) frames tells within = absurd tells
  frames_fit Hello (CutText v n answer) frames tells within = absurd tells
  frames_fit (Push text) (CutText v n answer) frames tells within = absurd tells
  frames_fit Poll (CutText v n answer) frames tells within = absurd tells
  frames_fit Whole (CutText v n answer) frames tells within = absurd tells
  frames_fit (Export g) (CutText v n answer) frames tells within = absurd tells
  frames_fit Bye (CutText v n answer) frames tells within = absurd tells
  frames_fit (Many asked) (CutText v n answer) frames tells within = absurd tells
  frames_fit (Await milliseconds) (CutText v n answer) frames tells within = absurd tells
  frames_fit Pieces (CutText v n answer) frames tells within = absurd tells
  frames_fit Faulty (CutText v n answer) frames tells within = absurd tells

  reply_fits : (earlier : List Exchange) (x : Exchange) → IsToldBehind r seat list earlier x → list_all is_body (frames_of x.reply) ≡ true
  reply_fits earlier x behind =
      frames_fit (request_of x.request) behind.told (frames_of x.reply) behind.tells (λ edits is. told_within behind.seen edits behind.published (subst (IsToldOf r (edits_of behind.seen)) is behind.of))

  replies_fit : (earlier xs : List Exchange) → AreToldBehind r seat list earlier xs → list_all is_body (all_pushed xs) ≡ true
  replies_fit earlier [] are = refl
  replies_fit earlier (x ∷ xs) are = both (frames_of x.reply) (all_pushed xs) (reply_fits earlier x are.0) (replies_fit (earlier ++ x ∷ []) xs are.1)

  said_fit : (ts : List Turn) (old new : ReplicaState) → AreTurns r ts old new → list_all is_body (said_by r ts) ≡ true
  said_fit [] old new are = refl
  said_fit (t ∷ ts) old new (askable, (next, one, rest)) = rw (asks_body r t.asking rule askable) (said_fit ts next new rest)

  -- ---- replies of one frame

  hello_alone : (told : Telling) (frames : List (List ℕ)) → Tells r seat Hello told frames → (f : List ℕ) × (frames ≡ f ∷ [])
  hello_alone Nothing frames (inl number) = (number.0 ∷ [], number.1)
  hello_alone Nothing frames (inr hello) = (hello_body r seat, hello.1)
  hello_alone (Edits edits) frames tells = absurd tells
  hello_alone (Plane m) frames tells = absurd tells
  hello_alone (Texts gs answers) frames tells = absurd tells
  hello_alone (CutText v n answer) frames tells = absurd tells
  hello_alone (Counted m count) frames tells = absurd tells

  push_alone : (text : List ℕ) (told : Telling) (frames : List (List ℕ)) → Tells r seat (Push text) told frames → (f : List ℕ) × (frames ≡ f ∷ [])
  push_alone text Nothing frames (inl number) = (number.0 ∷ [], number.1)
  push_alone text Nothing frames (inr hello) = absurd (let clash = hello.0 in cc)
  push_alone text (Edits edits) frames tells = absurd tells
  push_alone text (Plane m) frames tells = absurd tells
  push_alone text (Texts gs answers) frames tells = absurd tells
  push_alone text (CutText v n answer) frames tells = absurd tells
  push_alone text (Counted m count) frames tells = absurd tells

  bye_alone : (told : Telling) (frames : List (List ℕ)) → Tells r seat Bye told frames → (f : List ℕ) × (frames ≡ f ∷ [])
  bye_alone Nothing frames (inl number) = (number.0 ∷ [], number.1)
  bye_alone Nothing frames (inr hello) = absurd (let clash = hello.0 in cc)
  bye_alone (Edits edits) frames tells = absurd tells
  bye_alone (Plane m) frames tells = absurd tells
  bye_alone (Texts gs answers) frames tells = absurd tells
  bye_alone (CutText v n answer) frames tells = absurd tells
  bye_alone (Counted m count) frames tells = absurd tells

  -- ---- what is heard of a poll

  -- one that waits is told what one is that does not, or else refused
  awaits : (q : Request) (told : Telling) (frames : List (List ℕ)) → ((milliseconds : ℕ) × (q ≡ Await milliseconds)) ⊎ (q ≡ Faulty) → Tells r seat q told frames → Tells r seat Poll told frames
  awaits q told frames (inl wait) tells = waiting told (subst (λ p. Tells r seat p told frames) wait.1 tells) where
    waiting : (told : Telling) → Tells r seat (Await wait.0) told frames → Tells r seat Poll told frames
    waiting Nothing (inl number) = inl number
    waiting Nothing (inr hello) = absurd (let clash = hello.0 in cc)
    waiting (Edits edits) tells = tells
    waiting (Plane m) tells = tells
    waiting (Texts gs answers) tells = absurd tells
    waiting (CutText v n answer) tells = absurd tells
    waiting (Counted m count) tells = absurd tells
  awaits q told frames (inr faulty) tells = refused told (subst (λ p. Tells r seat p told frames) faulty tells) where
    refused : (told : Telling) → Tells r seat Faulty told frames → Tells r seat Poll told frames
    refused Nothing (inl number) = inl number
    refused Nothing (inr hello) = absurd (let clash = hello.0 in cc)
    refused (Edits edits) tells = absurd tells
    refused (Plane m) tells = absurd tells
    refused (Texts gs answers) tells = absurd tells
    refused (CutText v n answer) tells = absurd tells
    refused (Counted m count) tells = absurd tells

  -- a whole plane's frames, or their refusal
  either_whole : (text : List ℕ) (fit : Bool) → nat_le (length text) most_body ≡ fit → (whole_frames text ≡ polled_body whole_mark ∷ text ∷ []) ⊎ (whole_frames text ≡ refusal 21)
  either_whole text true fit = inl (rw fit refl)
  either_whole text false fit = inr (rw fit refl)

  refusal_heard : (number : ℕ) (told : Telling) (frames rest more : List (List ℕ)) → Tells r seat Poll told frames → (number ∷ []) ∷ rest ≡ frames ++ more
      → (frames ≡ (number ∷ []) ∷ []) × (rest ≡ more)
  refusal_heard number Nothing frames rest more (inl n) same = alone (number ∷ []) (n.0 ∷ []) frames rest more n.1 same
  refusal_heard number Nothing frames rest more (inr hello) same = absurd (let clash = hello.0 in cc)
  refusal_heard number (Edits edits) frames rest more tells same =
      let one : (number ∷ []) ∷ rest ≡ polled_body (length edits) ∷ (map (λ e. delta_text r (e ∷ [])) edits ++ more) = same ∙ ap (λ fs. fs ++ more) tells.1 in
      absurd (no_count number (length edits) cc)
  refusal_heard number (Plane m) frames rest more tells same = elim (either_whole tells.0 (nat_le (length tells.0) most_body) refl) [
    | inl whole ↦ (let one : (number ∷ []) ∷ rest ≡ polled_body whole_mark ∷ (tells.0 ∷ [] ++ more) = same ∙ ap (λ fs. fs ++ more) (tells.2 ∙ whole) in absurd (no_count number whole_mark cc))
    | inr refused ↦ alone (number ∷ []) (21 ∷ []) frames rest more (tells.2 ∙ refused) same
  ]
  refusal_heard number (Texts gs answers) frames rest more tells same = absurd tells
  refusal_heard number (CutText v n answer) frames rest more tells same = absurd tells
  refusal_heard number (Counted m count) frames rest more tells same = absurd tells

  -- a count of edits, and their texts
  record AreEdits (texts : List (List ℕ)) (told : Telling) (frames rest more : List (List ℕ)) : Type 0 where
    pub edits : List PlaneEdit
    pub told_is : told ≡ Edits edits
    pub texts_are : texts ≡ map (λ e. delta_text r (e ∷ [])) edits
    pub frames_are : frames ≡ polled_body (length texts) ∷ texts
    pub rest_is : rest ≡ more

  edits_heard : (texts : List (List ℕ)) (told : Telling) (frames rest more : List (List ℕ)) → length texts ≤ most_edits → Tells r seat Poll told frames
      → (polled_body (length texts) ∷ texts) ++ rest ≡ frames ++ more → AreEdits texts told frames rest more
  edits_heard texts Nothing frames rest more few (inl n) same =
      let one : polled_body (length texts) ∷ (texts ++ rest) ≡ (n.0 ∷ []) ∷ more = same ∙ ap (λ fs. fs ++ more) n.1 in
      absurd (no_count n.0 (length texts) cc)
  edits_heard texts Nothing frames rest more few (inr hello) same = absurd (let clash = hello.0 in cc)
  edits_heard texts (Edits edits) frames rest more few tells same =
      let one : polled_body (length texts) ∷ (texts ++ rest) ≡ polled_body (length edits) ∷ (map (λ e. delta_text r (e ∷ [])) edits ++ more) = same ∙ ap (λ fs. fs ++ more) tells.1 in
      let count : length texts ≡ length edits = same_count (length texts) (length edits) (omega (arith, few)) (omega (arith, tells.0)) cc in
      let parts = split_same texts (map (λ e. delta_text r (e ∷ [])) edits) rest more (count ∙ sym (length-map edits (λ e. delta_text r (e ∷ [])))) cc in
      record {
        edits = edits;
        told_is = refl;
        texts_are = parts.0;
        frames_are = tells.1 ∙ (λ i. polled_body (sym count i) ∷ sym parts.0 i);
        rest_is = parts.1;
      }
  edits_heard texts (Plane m) frames rest more few tells same = elim (either_whole tells.0 (nat_le (length tells.0) most_body) refl) [
    | inl whole ↦ (let one : polled_body (length texts) ∷ (texts ++ rest) ≡ polled_body whole_mark ∷ (tells.0 ∷ [] ++ more) = same ∙ ap (λ fs. fs ++ more) (tells.2 ∙ whole) in
        let count : length texts ≡ whole_mark = same_count (length texts) whole_mark (omega (arith, few)) (omega arith) cc in absurd (omega (arith, count, few)))
    | inr refused ↦ (let one : polled_body (length texts) ∷ (texts ++ rest) ≡ (21 ∷ []) ∷ more = same ∙ ap (λ fs. fs ++ more) (tells.2 ∙ refused) in absurd (no_count 21 (length texts) cc))
  ]
  edits_heard texts (Texts gs answers) frames rest more few tells same = absurd tells
  edits_heard texts (CutText v n answer) frames rest more few tells same = absurd tells
  edits_heard texts (Counted m count) frames rest more few tells same = absurd tells

  -- the mark, and the text of a plane
  record IsPlane (text : List ℕ) (told : Telling) (frames rest more : List (List ℕ)) : Type 0 where
    pub written : Writes
    pub told_is : told ≡ Plane written
    pub is_text : IsStateText r written text
    pub frames_are : frames ≡ polled_body whole_mark ∷ text ∷ []
    pub rest_is : rest ≡ more

  plane_heard : (text : List ℕ) (told : Telling) (frames rest more : List (List ℕ)) → Tells r seat Poll told frames
      → (polled_body whole_mark ∷ text ∷ []) ++ rest ≡ frames ++ more → IsPlane text told frames rest more
  plane_heard text Nothing frames rest more (inl n) same =
      let one : polled_body whole_mark ∷ (text ∷ rest) ≡ (n.0 ∷ []) ∷ more = same ∙ ap (λ fs. fs ++ more) n.1 in
      absurd (no_count n.0 whole_mark cc)
  plane_heard text Nothing frames rest more (inr hello) same = absurd (let clash = hello.0 in cc)
  plane_heard text (Edits edits) frames rest more tells same =
      let one : polled_body whole_mark ∷ (text ∷ rest) ≡ polled_body (length edits) ∷ (map (λ e. delta_text r (e ∷ [])) edits ++ more) = same ∙ ap (λ fs. fs ++ more) tells.1 in
      let count : whole_mark ≡ length edits = same_count whole_mark (length edits) (omega arith) (omega (arith, tells.0)) cc in
      absurd (omega (arith, count, tells.0))
  plane_heard text (Plane m) frames rest more tells same = elim (either_whole tells.0 (nat_le (length tells.0) most_body) refl) [
    | inl whole ↦ (let one : polled_body whole_mark ∷ (text ∷ rest) ≡ polled_body whole_mark ∷ (tells.0 ∷ more) = same ∙ ap (λ fs. fs ++ more) (tells.2 ∙ whole) in
        let text_is : text ≡ tells.0 = cc in
        record {
          written = m;
          told_is = refl;
          is_text = subst (IsStateText r m) (sym text_is) tells.1;
          frames_are = tells.2 ∙ whole ∙ ap (λ t. polled_body whole_mark ∷ t ∷ []) (sym text_is);
          rest_is = cc;
        })
    | inr refused ↦ (let one : polled_body whole_mark ∷ (text ∷ rest) ≡ (21 ∷ []) ∷ more = same ∙ ap (λ fs. fs ++ more) (tells.2 ∙ refused) in absurd (no_count 21 whole_mark cc))
  ]
  plane_heard text (Texts gs answers) frames rest more tells same = absurd tells
  plane_heard text (CutText v n answer) frames rest more tells same = absurd tells
  plane_heard text (Counted m count) frames rest more tells same = absurd tells

  -- ---- what is heard of a plane in pieces

  -- its frames, or their refusal
  either_pieces : (count : ℕ) (pieces : List (List ℕ)) (few : Bool) → nat_lt (length pieces) (2 ^ 32) ≡ few
      → ((length pieces < 2 ^ 32) × (pieces_reply count pieces ≡ pieces_frames count pieces)) ⊎ (pieces_reply count pieces ≡ refusal 21)
  either_pieces count pieces true few = inl (grind (arith, nat_tests, few), rw few refl)
  either_pieces count pieces false few = inr (rw few refl)

  pieces_refused : (number : ℕ) (told : Telling) (frames rest more : List (List ℕ)) → Tells r seat Pieces told frames → (number ∷ []) ∷ rest ≡ frames ++ more
      → (frames ≡ (number ∷ []) ∷ []) × (rest ≡ more)
  pieces_refused number Nothing frames rest more (inl n) same = alone (number ∷ []) (n.0 ∷ []) frames rest more n.1 same
  pieces_refused number Nothing frames rest more (inr hello) same = absurd (let clash = hello.0 in cc)
  pieces_refused number (Counted m count) frames rest more tells same = elim (either_pieces count tells.1 (nat_lt (length tells.1) (2 ^ 32)) refl) [
    | inl whole ↦ (let one : (number ∷ []) ∷ rest ≡ pieced_body count (length tells.1) ∷ (tells.1 ++ more) = same ∙ ap (λ fs. fs ++ more) (tells.4 ∙ whole.1) in absurd (no_counts number count (length tells.1) cc))
    | inr refused ↦ alone (number ∷ []) (21 ∷ []) frames rest more (tells.4 ∙ refused) same
  ]
  pieces_refused number (Edits edits) frames rest more tells same = absurd tells
  pieces_refused number (Plane m) frames rest more tells same = absurd tells
  pieces_refused number (Texts gs answers) frames rest more tells same = absurd tells
  pieces_refused number (CutText v n answer) frames rest more tells same = absurd tells

  -- how many edits and pieces, and the pieces, which are the text of a plane together
  record ArePieces (count : ℕ) (pieces : List (List ℕ)) (told : Telling) (frames rest more : List (List ℕ)) : Type 0 where
    pub written : Writes
    pub number : ℕ
    pub told_is : told ≡ Counted written number
    pub is_text : IsStateText r written (put_together pieces)
    pub frames_are : frames ≡ pieced_body count (length pieces) ∷ pieces
    pub rest_is : rest ≡ more

  pieces_heard : (count : ℕ) (pieces : List (List ℕ)) (told : Telling) (frames rest more : List (List ℕ)) → length pieces < 2 ^ 32 → Tells r seat Pieces told frames
      → (pieced_body count (length pieces) ∷ pieces) ++ rest ≡ frames ++ more → ArePieces count pieces told frames rest more
  pieces_heard count pieces Nothing frames rest more few (inl n) same =
      let one : pieced_body count (length pieces) ∷ (pieces ++ rest) ≡ (n.0 ∷ []) ∷ more = same ∙ ap (λ fs. fs ++ more) n.1 in
      absurd (no_counts n.0 count (length pieces) cc)
  pieces_heard count pieces Nothing frames rest more few (inr hello) same = absurd (let clash = hello.0 in cc)
  pieces_heard count pieces (Counted m number) frames rest more few tells same = elim (either_pieces number tells.1 (nat_lt (length tells.1) (2 ^ 32)) refl) [
    | inl whole ↦ (let one : pieced_body count (length pieces) ∷ (pieces ++ rest) ≡ pieced_body number (length tells.1) ∷ (tells.1 ++ more) = same ∙ ap (λ fs. fs ++ more) (tells.4 ∙ whole.1) in
        let first : pieced_body count (length pieces) ≡ pieced_body number (length tells.1) = cc in
        let tail : pieces ++ rest ≡ tells.1 ++ more = cc in
        let parts = split_same pieces tells.1 rest more (same_pieces count number (length pieces) (length tells.1) few whole.0 first) tail in
        record {
          written = m;
          number = number;
          told_is = refl;
          is_text = subst (IsStateText r m) (sym (ap put_together parts.0 ∙ whole_again tells.0 tells.1 tells.3)) tells.2;
          frames_are = tells.4 ∙ whole.1 ∙ (λ i. sym first i ∷ sym parts.0 i);
          rest_is = parts.1;
        })
    | inr refused ↦ (let one : pieced_body count (length pieces) ∷ (pieces ++ rest) ≡ (21 ∷ []) ∷ more = same ∙ ap (λ fs. fs ++ more) (tells.4 ∙ refused) in absurd (no_counts 21 count (length pieces) cc))
  ]
  pieces_heard count pieces (Edits edits) frames rest more few tells same = absurd tells
  pieces_heard count pieces (Plane m) frames rest more few tells same = absurd tells
  pieces_heard count pieces (Texts gs answers) frames rest more few tells same = absurd tells
  pieces_heard count pieces (CutText v n answer) frames rest more few tells same = absurd tells

  -- ---- one turn

  -- what a turn leaves: its reply was heard whole, and the replica holds edits of the list
  record Turned (frames heard rest more : List (List ℕ)) (new : ReplicaState) : Type 0 where
    pub frames_are : frames ≡ heard
    pub rest_is : rest ≡ more
    pub edits : List PlaneEdit
    pub holds : HoldsEdits r edits new
    pub within : Within edits

  joined_within : (E F : List PlaneEdit) → Within E → Within F → Within (E ++ F)
  joined_within E F first then e here = elim (Contains-append_cases E F e here) [ inl in_first ↦ first e in_first | inr in_then ↦ then e in_then ]

  -- a reply of one frame, by which nothing is taken
  still : (body frame : List ℕ) (frames rest more : List (List ℕ)) (E : List PlaneEdit) (old new : ReplicaState) → frames ≡ frame ∷ [] → body ∷ rest ≡ frames ++ more → new ≡ old
      → HoldsEdits r E old → Within E → Turned frames (body ∷ []) rest more new
  still body frame frames rest more E old new is same kept holds within =
      let heard = alone body frame frames rest more is same in
      record { frames_are = heard.0; rest_is = heard.1; edits = E; holds = subst (HoldsEdits r E) (sym kept) holds; within = within }

  -- the text of a pushed edit is that edit's
  pushed_again : (e : PlaneEdit) → IsEditUnder r e → pushed_of r (delta_text r (e ∷ [])) ≡ Ok e
  pushed_again e is = rw (delta_begins r (e ∷ []), read_again r (e ∷ []) rule (tellable r e is)) refl

  module _ (earlier : List Exchange) (x : Exchange) (behind : IsToldBehind r seat list earlier x) (accepted : (e : PlaneEdit) → IsAccepted r x e → (at : ℕ) × (slice_get all at ≡ Some e))
      (E : List PlaneEdit) (old new : ReplicaState) (holds : HoldsEdits r E old) (within : Within E) (rest more : List (List ℕ)) where
    abbrev frames : List (List ℕ)
    frames = frames_of x.reply

    told_to : (q : Request) (request : List ℕ) → x.request ≡ request → request_of request ≡ q → Tells r seat q behind.told frames
    told_to q request is of = subst (λ (p : Request). Tells r seat p behind.told frames) (ap request_of is ∙ of) behind.tells

    done : (e : PlaneEdit) → IsEditUnder r e → x.request ≡ request_in r (turns.Push e) → (0 ∷ []) ∷ rest ≡ frames ++ more → IsTakingOf {A = Unit {0}} old new (IsEditAlone e) (Ok tt) → Turned frames ((0 ∷ []) ∷ []) rest more new
    done e is request same taken =
        let one = push_alone (delta_text r (e ∷ [])) behind.told frames (told_to (Push (delta_text r (e ∷ []))) _ request refl) in
        let heard = alone (0 ∷ []) one.0 frames rest more one.1 same in
        let found = accepted e (record { text = delta_text r (e ∷ []); push = ap request_of request; edit = pushed_again e is; answer = heard.0 }) in
        record {
          frames_are = heard.0;
          rest_is = heard.1;
          edits = E ++ e ∷ [];
          holds = holds_what_it_took.edits r E (e ∷ []) old new holds taken;
          within = joined_within E (e ∷ []) within (λ f here. subst (Contains all) (only e f here) (contains_at all found.0 e found.1));
        }
      where
        only : (e f : PlaneEdit) → Contains (e ∷ []) f → e ≡ f
        only e f (zero, few, here) = here
        only e f (suc k, few, here) = absurd (omega (arith, few))

    polls : (milliseconds : ℕ) → x.request ≡ request_in r (turns.Await milliseconds) → Tells r seat Poll behind.told frames
    polls milliseconds request =
        let rest : List ℕ = to_be_bytes w32 milliseconds in
        awaits (request_of (request_in r (turns.Await milliseconds))) behind.told frames (await_or_faulty rest (length rest == 4 && nat_le (from_be_bytes w32 rest) most_wait) refl) (told_to _ _ request refl)

    brought : (texts : List (List ℕ)) → Tells r seat Poll behind.told frames → (polled_body (length texts) ∷ texts) ++ rest ≡ frames ++ more → length texts ≤ most_edits → AreTaken old texts new
        → Turned frames (polled_body (length texts) ∷ texts) rest more new
    brought texts tells same few taken =
        let are = edits_heard texts behind.told frames rest more few tells same in
        let of : Within are.edits = told_within behind.seen are.edits behind.published (subst (IsToldOf r (edits_of behind.seen)) are.told_is behind.of) in
        record {
          frames_are = are.frames_are;
          rest_is = are.rest_is;
          edits = E ++ are.edits;
          holds = taken_edits r E are.edits texts old new holds taken (subst (TellEdits r are.edits) (sym are.texts_are) (texts_told are.edits (each_under are.edits of)));
          within = joined_within E are.edits within of;
        }

    -- the text of a plane of what was seen was taken
    seen_taken : (text : List ℕ) (written : Writes) → AreSame written (greatest (edits_of behind.seen)) → IsStateText r written text → IsTaken old text new → HoldsEdits r (E ++ edits_of behind.seen) new
    seen_taken text written map_is is_text taken =
        let seen : List PlaneEdit = edits_of behind.seen in
        let of : Within seen = seen_within behind.seen behind.published in
        taken_plane r E seen text old new holds taken (map_tellable r seen rule (λ e here. under e (of e here))) (inr (same_text r written (greatest seen) text map_is is_text))

    brought_plane : (text : List ℕ) → Tells r seat Poll behind.told frames → (polled_body whole_mark ∷ text ∷ []) ++ rest ≡ frames ++ more → IsTaken old text new
        → Turned frames (polled_body whole_mark ∷ text ∷ []) rest more new
    brought_plane text tells same taken =
        let is = plane_heard text behind.told frames rest more tells same in
        record {
          frames_are = is.frames_are;
          rest_is = is.rest_is;
          edits = E ++ edits_of behind.seen;
          holds = seen_taken text is.written (subst (IsToldOf r (edits_of behind.seen)) is.told_is behind.of) is.is_text taken;
          within = joined_within E (edits_of behind.seen) within (seen_within behind.seen behind.published);
        }

    brought_pieces : (count : ℕ) (pieces : List (List ℕ)) → Tells r seat Pieces behind.told frames → (pieced_body count (length pieces) ∷ pieces) ++ rest ≡ frames ++ more → length pieces < 2 ^ 32
        → IsTaken old (put_together pieces) new → Turned frames (pieced_body count (length pieces) ∷ pieces) rest more new
    brought_pieces count pieces tells same few taken =
        let is = pieces_heard count pieces behind.told frames rest more few tells same in
        let of : IsToldOf r (edits_of behind.seen) (Counted is.written is.number) = subst (IsToldOf r (edits_of behind.seen)) is.told_is behind.of in
        record {
          frames_are = is.frames_are;
          rest_is = is.rest_is;
          edits = E ++ edits_of behind.seen;
          holds = seen_taken (put_together pieces) is.written of.0 is.is_text taken;
          within = joined_within E (edits_of behind.seen) within (seen_within behind.seen behind.published);
        }

    poll_refused : (number : ℕ) → Tells r seat Poll behind.told frames → (number ∷ []) ∷ rest ≡ frames ++ more → new ≡ old → Turned frames ((number ∷ []) ∷ []) rest more new
    poll_refused number tells same kept =
        let heard = refusal_heard number behind.told frames rest more tells same in still (number ∷ []) (number ∷ []) frames rest more E old new heard.0 same kept holds within

    refused : (asking : Asking) (number : ℕ) → x.request ≡ request_in r asking → (number ∷ []) ∷ rest ≡ frames ++ more → new ≡ old → Turned frames ((number ∷ []) ∷ []) rest more new
    refused turns.Greeting number request same kept =
        let one = hello_alone behind.told frames (told_to Hello _ request refl) in still (number ∷ []) one.0 frames rest more E old new one.1 same kept holds within
    refused turns.Poll number request same kept = poll_refused number (told_to Poll _ request refl) same kept
    refused (turns.Await milliseconds) number request same kept = poll_refused number (polls milliseconds request) same kept
    refused turns.Pieces number request same kept =
        let heard = pieces_refused number behind.told frames rest more (told_to Pieces _ request refl) same in
        still (number ∷ []) (number ∷ []) frames rest more E old new heard.0 same kept holds within
    refused (turns.Push e) number request same kept =
        let one = push_alone _ behind.told frames (told_to (Push (delta_text r (e ∷ []))) _ request refl) in still (number ∷ []) one.0 frames rest more E old new one.1 same kept holds within
    refused turns.Farewell number request same kept =
        let one = bye_alone behind.told frames (told_to Bye _ request refl) in still (number ∷ []) one.0 frames rest more E old new one.1 same kept holds within

    turned : (asking : Asking) (hearing : Hearing) → IsAskable r asking → x.request ≡ request_in r asking → heard_in hearing ++ rest ≡ frames ++ more → IsTurn r asking hearing old new
        → Turned frames (heard_in hearing) rest more new
    turned asking (turns.Refused number) askable request same is = refused asking number request same is.1
    turned turns.Greeting (turns.Offered body) askable request same is =
        let one = hello_alone behind.told frames (told_to Hello _ request refl) in still body one.0 frames rest more E old new one.1 same is holds within
    turned turns.Poll (turns.Edits texts) askable request same is = brought texts (told_to Poll _ request refl) same is.0 is.1
    turned turns.Poll (turns.Plane text) askable request same is = brought_plane text (told_to Poll _ request refl) same is
    turned (turns.Await milliseconds) (turns.Edits texts) askable request same is = brought texts (polls milliseconds request) same is.0 is.1
    turned (turns.Await milliseconds) (turns.Plane text) askable request same is = brought_plane text (polls milliseconds request) same is
    turned turns.Pieces (turns.Pieced count pieces) askable request same is = brought_pieces count pieces (told_to Pieces _ request refl) same is.0 is.1
    turned (turns.Push e) turns.Done askable request same taken = done e askable request same taken
    turned (turns.Push e) turns.Late askable request same kept =
        let one = push_alone _ behind.told frames (told_to (Push (delta_text r (e ∷ []))) _ request refl) in still (0 ∷ []) one.0 frames rest more E old new one.1 same kept holds within
    turned turns.Farewell turns.Done askable request same is =
        let one = bye_alone behind.told frames (told_to Bye _ request refl) in still (0 ∷ []) one.0 frames rest more E old new one.1 same is holds within
    turned turns.Greeting (turns.Edits texts) askable request same is = absurd is
    turned turns.Greeting (turns.Plane text) askable request same is = absurd is
    turned turns.Greeting (turns.Pieced count pieces) askable request same is = absurd is
    turned turns.Greeting turns.Done askable request same is = absurd is
    turned turns.Greeting turns.Late askable request same is = absurd is
    turned turns.Poll (turns.Offered body) askable request same is = absurd is
    turned turns.Poll (turns.Pieced count pieces) askable request same is = absurd is
    turned turns.Poll turns.Done askable request same is = absurd is
    turned turns.Poll turns.Late askable request same is = absurd is
    turned (turns.Await milliseconds) (turns.Offered body) askable request same is = absurd is
    turned (turns.Await milliseconds) (turns.Pieced count pieces) askable request same is = absurd is
    turned (turns.Await milliseconds) turns.Done askable request same is = absurd is
    turned (turns.Await milliseconds) turns.Late askable request same is = absurd is
    turned turns.Pieces (turns.Offered body) askable request same is = absurd is
    turned turns.Pieces (turns.Edits texts) askable request same is = absurd is
    turned turns.Pieces (turns.Plane text) askable request same is = absurd is
    turned turns.Pieces turns.Done askable request same is = absurd is
    turned turns.Pieces turns.Late askable request same is = absurd is
    turned (turns.Push e) (turns.Offered body) askable request same is = absurd is
    turned (turns.Push e) (turns.Edits texts) askable request same is = absurd is
    turned (turns.Push e) (turns.Plane text) askable request same is = absurd is
    turned (turns.Push e) (turns.Pieced count pieces) askable request same is = absurd is
    turned turns.Farewell (turns.Offered body) askable request same is = absurd is
    turned turns.Farewell (turns.Edits texts) askable request same is = absurd is
    turned turns.Farewell (turns.Plane text) askable request same is = absurd is
    turned turns.Farewell (turns.Pieced count pieces) askable request same is = absurd is
    turned turns.Farewell turns.Late askable request same is = absurd is

  -- ---- one turn after another

  heard_some : (hearing : Hearing) (rest : List (List ℕ)) → heard_in hearing ++ rest ≡ [] → ⊥
  heard_some (turns.Refused number) rest none = absurd cc
  heard_some (turns.Offered body) rest none = absurd cc
  heard_some (turns.Edits texts) rest none = absurd cc
  heard_some (turns.Plane text) rest none = absurd cc
  heard_some (turns.Pieced count pieces) rest none = absurd cc
  heard_some turns.Done rest none = absurd cc
  heard_some turns.Late rest none = absurd cc

  shown : (E : List PlaneEdit) (s : ReplicaState) → HoldsEdits r E s → Within E → ShowsOf r all s
  shown E s holds within = record {
    edits = E;
    of = within;
    holds = holds;
    exports = λ g text is. subst (λ (f : Place → ℕ). IsExport r f g most_cells (Ok text)) (λ i c. (holds.map c i).state) (subst (λ (q : GenerationsRule). IsExport q (states_in_writes (map_of s.plane)) g most_cells (Ok text)) holds.same_rule is);
  }

  shows : (ts : List Turn) (earlier xs : List Exchange) (E : List PlaneEdit) (old new : ReplicaState) → AreToldBehind r seat list earlier xs → HasAccepted r all xs
      → IsPrefix (requests_of xs) (said_by r ts) → IsPrefix (heard_by ts) (all_pushed xs) → HoldsEdits r E old → Within E → AreTurns r ts old new → ShowsOf r all new
  shows [] earlier xs E old new told has asked heard holds within same = shown E new (subst (HoldsEdits r E) (sym same) holds) within
  shows (t ∷ ts) earlier [] E old new told has asked heard holds within are =
      absurd (heard_some t.hearing (heard_by ts ++ heard.0) (sym (append_assoc (heard_in t.hearing) (heard_by ts) heard.0) ∙ heard.1))
  shows (t ∷ ts) earlier (x ∷ xs) E old new told has asked heard holds within (askable, (next, one, rest)) =
      let asked_is : x.request ∷ (requests_of xs ++ asked.0) ≡ request_in r t.asking ∷ said_by r ts = asked.1 in
      let request : x.request ≡ request_in r t.asking = cc in
      let first = turned earlier x told.0 has.0 E old next holds within (heard_by ts ++ heard.0) (all_pushed xs) t.asking t.hearing askable request
      (sym (append_assoc (heard_in t.hearing) (heard_by ts) heard.0) ∙ heard.1) one in
      shows ts (earlier ++ x ∷ []) xs first.edits next new told.1 has.1 (asked.0, cc) (heard.0, first.rest_is) first.holds first.within rest

pub shows_of_one_list : ShowsOfOneList
shows_of_one_list r seat list v visit a b old new rule under holds turned line =
    let ts : List Turn = turned.turns in
    let said = begins visit.pulled (requests_of visit.exchanges) visit.left (said_by r ts) visit.cut (said_fit r seat list rule under ts old new turned.turned) line.said_first in
    let cut : IsTakenTo turned.talk.pulled (heard_by ts) b.frames.pending = subst (λ pending. IsTakenTo (pending ++ turned.talk.pulled) (heard_by ts) b.frames.pending) line.fresh turned.talk.cut in
    let heard = begins turned.talk.pulled (heard_by ts) b.frames.pending (all_pushed visit.exchanges) cut (replies_fit r seat list rule under [] visit.exchanges visit.told) line.heard_first in
    shows r seat list rule under ts [] visit.exchanges [] old new visit.told visit.has said heard holds (λ e none. absurd (omega (arith, none.1))) turned.turned
