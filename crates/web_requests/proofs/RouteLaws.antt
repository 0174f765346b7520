-- Whom the table of routes lets in.
use Rattle.std.proofs.Common.{◌≡◌, ℕ, Bool, true, false, ◌&&◌, nat_eq, nat_le, List, ◌++◌, length, take, drop, Result, Ok, Err, refl, ◌⊎◌, sym, ◌∙◌, ap, subst, inl, inr, arith, append_assoc, take-append-drop, length-take}
use Rattle.std.proofs.lemmas.List.{length-map}
use Rattle.std.specs.Prelude.{bytes_eq, codes, if◌then◌else◌, IsTrue}
use Rattle.std.specs.List.{starts_with}
use Rattle.std.proofs.lemmas.Slice.Eq.{bytes_eq-Decides}
use Rattle.httparse.specs.Grammar.{RequestHead, ReadsRequest}
use Rattle.httparse.specs.Spans.{IsRequestAt, span_bytes}
use Rattle.httparse.specs.declared.spans.HeaderSpan.{HeaderSpan}
use Rattle.httparse.specs.declared.spans.RequestSpans.{RequestSpans}
use Rattle.websocket.specs.Handshake.{Answers}
use Rattle.websocket.specs.Headers.{Fields, fields_of}
use Rattle.websocket.specs.declared.handshake.failure.HandshakeError.{HandshakeError}
use Rattle.web_requests.specs.declared.asked.Wish.{Wish}
use Rattle.web_requests.specs.declared.asked.Wish.TheVariants.{Page, Seat}
use Rattle.web_requests.specs.declared.house.House.{House}
use Rattle.web_requests.specs.declared.refusal.Refusal.{Refusal}
use Rattle.web_requests.specs.declared.refusal.Refusal.TheVariants.{Malformed, Forbidden, NotFound, Method, Misdirected, Upgrade}
use Rattle.web_requests.specs.declared.visit.Visit.{Visit}
use Rattle.web_requests.specs.declared.visit.Visit.TheVariants as Visits
use Rattle.web_requests.specs.Head.{has_only, lines_of}
use Rattle.web_requests.specs.Letting.{AsksSeat, IsLetIn}
use Rattle.web_requests.specs.Routes.{asked_at, asked_board, asked_key, asked_of, asked_seat, is_dotted_key, AreAnswered, ComesTo, HasHead, IsWanted, OpensSeat}

-- ---- where something is given

-- what is given under a test that else refuses
given_if : {A E : Type 0} (b : Bool) (x : Result A E) (e : E) (a : A) → (if b then x else Err e) ≡ Ok a → (b ≡ true) × (x ≡ Ok a)
given_if true x e a h = (refl, h)
given_if false x e a h = absurd (cc h)

both_true : (a b : Bool) → (a && b) ≡ true → (a ≡ true) × (b ≡ true)
both_true true true h = (refl, refl)
both_true true false h = absurd (cc h)
both_true false b h = absurd (cc h)

-- a text that begins with another is that and the rest
front_and_rest : (words front : List ℕ) → starts_with nat_eq words front ≡ true → words ≡ front ++ drop (length front) words
front_and_rest words front begins =
    sym (take-append-drop (length front) words) ∙ ap (λ xs. xs ++ drop (length front) words) (sym ((bytes_eq-Decides front (take (length front) words)).0 begins))

-- the seat of this key stands behind a text
record Seats (front words : List ℕ) (wish : Wish) : Type 0 where
  key : List ℕ
  is_seat : wish ≡ Seat key
  spelt : words ≡ front ++ key

key_given : (words : List ℕ) (wish : Wish) → asked_key words ≡ Ok wish → Seats (codes ".") words wish
key_given words wish asked =
    let given = given_if (is_dotted_key words) (Ok (Seat (drop 1 words))) Malformed wish asked in
    let dotted = both_true _ _ (both_true _ _ given.0).0 in
    record { key = drop 1 words; is_seat = cc given.1; spelt = front_and_rest words (codes ".") dotted.0 }

seat_given : (house : House) (words : List ℕ) (wish : Wish) → asked_seat house words ≡ Ok wish → Seats (house.token ++ codes ".") words wish
seat_given house words wish asked =
    let given = given_if (nat_le 32 (length words) && bytes_eq (take 32 words) house.token) (asked_key (drop 32 words)) Forbidden wish asked in
    let behind = key_given (drop 32 words) wish given.1 in
    let front = (bytes_eq-Decides (take 32 words) house.token).0 (both_true _ _ given.0).1 in
    record {
      key = behind.key;
      is_seat = behind.is_seat;
      spelt = sym (take-append-drop 32 words) ∙ ap (λ xs. xs ++ drop 32 words) front ∙ ap (λ xs. house.token ++ xs) behind.spelt ∙ sym (append_assoc house.token (codes ".") behind.key);
    }

-- what is given at a path: the page, or a seat to a page of the house
abbrev Given : House → Fields → List ℕ → Wish → Type 0
Given house lines path Page = path ≡ codes "/"
Given house lines path (Seat key) = (path ≡ codes "/board?" ++ house.token ++ codes "." ++ key) × IsTrue (has_only lines (codes "Origin") house.origin.items)

one_of_two : {A : Type 0} (b : Bool) (x y a : A) → (if b then x else y) ≡ a → ((b ≡ true) × (x ≡ a)) ⊎ ((b ≡ false) × (y ≡ a))
one_of_two true x y a h = inl (refl, h)
one_of_two false x y a h = inr (refl, h)

seat_given_at : (house : House) (lines : Fields) (path : List ℕ) (wish : Wish) (key : List ℕ) → wish ≡ Seat key → path ≡ codes "/board?" ++ house.token ++ codes "." ++ key
    → has_only lines (codes "Origin") house.origin.items ≡ true → Given house lines path wish
seat_given_at house lines path wish key is spelt origin = subst (Given house lines path) (sym is) (spelt, origin)

board_given : (house : House) (lines : Fields) (path : List ℕ) (wish : Wish) → (if starts_with nat_eq path (codes "/board?") then asked_board house lines (drop 7 path) else Err NotFound) ≡ Ok wish
    → Given house lines path wish
board_given house lines path wish asked =
    let there = given_if (starts_with nat_eq path (codes "/board?")) (asked_board house lines (drop 7 path)) NotFound wish asked in
    let ours = given_if (has_only lines (codes "Origin") house.origin.items) (asked_seat house (drop 7 path)) Forbidden wish there.1 in
    let seat = seat_given house (drop 7 path) wish ours.1 in
    let spelt : path ≡ codes "/board?" ++ house.token ++ codes "." ++ seat.key =
    front_and_rest path (codes "/board?") there.0 ∙ ap (λ xs. codes "/board?" ++ xs) seat.spelt ∙ grind (arith, append_assoc) in
    seat_given_at house lines path wish seat.key seat.is_seat spelt ours.0

given_at : (house : House) (lines : Fields) (path : List ℕ) (wish : Wish) → asked_at house lines path ≡ Ok wish → Given house lines path wish
given_at house lines path wish asked =
    elim (one_of_two (bytes_eq path (codes "/")) (Ok Page) (if starts_with nat_eq path (codes "/board?") then asked_board house lines (drop 7 path) else Err NotFound) (Ok wish) asked) [
      | inl page ↦ (let is : Page ≡ wish = cc page.1 in subst (Given house lines path) is ((bytes_eq-Decides path (codes "/")).0 page.0))
      | inr other ↦ board_given house lines path wish other.1
    ]

-- ---- who is let in

record Admitted (house : House) (method path : List ℕ) (lines : Fields) (wish : Wish) : Type 0 where
  is_get : method ≡ codes "GET"
  host : IsTrue (has_only lines (codes "Host") house.host.items)
  given : Given house lines path wish

admitted : (house : House) (method path : List ℕ) (lines : Fields) (wish : Wish) → asked_of house method path lines ≡ Ok wish → Admitted house method path lines wish
admitted house method path lines wish asked =
    let there = given_if (has_only lines (codes "Host") house.host.items) (if bytes_eq method (codes "GET") then asked_at house lines path else Err Method) Misdirected wish asked in
    let gets = given_if (bytes_eq method (codes "GET")) (asked_at house lines path) Method wish there.1 in
    record { is_get = (bytes_eq-Decides method (codes "GET")).0 gets.0; host = there.0; given = given_at house lines path wish gets.1 }

opened : (bytes : List ℕ) (house : House) (key : List ℕ) (n : ℕ) (handshake : Result (List ℕ) HandshakeError) (visit : Visit) → AsksSeat bytes house key → OpensSeat key n handshake visit → IsLetIn bytes house visit
opened bytes house key n (Err e) visit asks is = subst (IsLetIn bytes house) (sym is) tt
opened bytes house key n (Ok asked) visit asks (inl opens) = subst (IsLetIn bytes house) (sym opens.1) asks
opened bytes house key n (Ok asked) visit asks (inr none) = subst (IsLetIn bytes house) (sym none.1) tt

let_in_by : (bytes : List ℕ) (house : House) (head : RequestHead) (rest : List ℕ) (n : ℕ) (handshake : Result (List ℕ) HandshakeError) (asked : Result Wish Refusal) (visit : Visit) → ReadsRequest bytes head rest
    → asked_of house head.method head.target (lines_of head) ≡ asked → ComesTo handshake n asked visit → IsLetIn bytes house visit
let_in_by bytes house head rest n handshake (Err refusal) visit reads is comes = subst (IsLetIn bytes house) (sym comes) tt
let_in_by bytes house head rest n handshake (Ok Page) visit reads is comes =
    let by = admitted house head.method head.target (lines_of head) Page is in
    subst (IsLetIn bytes house) (sym comes) (record { head = head; rest = rest; reads = reads; method = by.is_get; path_is = by.given; host = by.host })
let_in_by bytes house head rest n handshake (Ok (Seat key)) visit reads is comes =
    let by = admitted house head.method head.target (lines_of head) (Seat key) is in
    opened bytes house key n handshake visit
    (record { asks = record { head = head; rest = rest; reads = reads; method = by.is_get; path_is = by.given.0; host = by.host }; origin = by.given.1 })
    comes

-- the table lets in whom it should, and nobody else
pub let_in : (bytes : List ℕ) (house : House) (visit : Visit) → IsWanted bytes house visit → IsLetIn bytes house visit
let_in bytes house visit (inl whole) = let_in_by bytes house whole.head whole.rest _ _ _ visit whole.reads refl whole.answer
let_in bytes house visit (inr (inl waits)) = subst (IsLetIn bytes house) (sym waits.waits) tt
let_in bytes house visit (inr (inr none)) = subst (IsLetIn bytes house) (sym none.malformed) tt

-- ---- from the spans

-- an upgrade that is refused opens no seat
pub opens_none : (key : List ℕ) (n : ℕ) (e : HandshakeError) (r : Result (List ℕ) HandshakeError) → Answers (Err e) r → OpensSeat key n r (Visits.Refused Upgrade)
opens_none key n e (Err x) h = refl
opens_none key n e (Ok asked) h = inr (h.0, refl)

moved : (house : House) (visit : Visit) (m m' p p' : List ℕ) (v v' : ℕ) (ls ls' : Fields) (n n' : ℕ) → m ≡ m' → p ≡ p' → v ≡ v' → ls ≡ ls' → n ≡ n' → AreAnswered house m p v ls n visit → AreAnswered house m' p' v' ls' n' visit
moved house visit m m' p p' v v' ls ls' n n' em ep ev el en h =
    subst (λ x. AreAnswered house m' p' v' ls' x visit) en
    (subst (λ x. AreAnswered house m' p' v' x n visit) el
    (subst (λ x. AreAnswered house m' p' x ls n visit) ev
    (subst (λ x. AreAnswered house m' x v ls n visit) ep
    (subst (λ x. AreAnswered house x p v ls n visit) em h))))

-- what was answered by the spans of a head was answered to the head
pub answered_head : (bytes : List ℕ) (house : House) (spans : List HeaderSpan) (r : RequestSpans) (visit : Visit) (head : RequestHead) → length spans ≡ 64 → IsRequestAt bytes spans r head
    → AreAnswered house (span_bytes bytes r.method) (span_bytes bytes r.path) r.version (fields_of bytes (take r.headers spans)) r.len visit → HasHead bytes house visit
answered_head bytes house spans r visit head few at answered = record {
  head = head;
  rest = drop r.len bytes;
  reads = at.reads;
  few_lines = (let same : length (take r.headers spans) ≡ length head.fields = simp length-map at (ap length at.fields) in omega (arith, length-take r.headers spans));
  answer = moved house visit _ _ _ _ _ _ _ _ _ _ at.method at.path at.version at.fields at.len answered;
}
