-- The table of routes: what a head is answered, in the order in which its rows are looked at.
use Rattle.std.specs.Prelude.{◌≡◌, ℕ, ◌≤◌, ◌⊎◌, ◌==◌, ◌&&◌, Bool, nat_eq, nat_le, List, length, take, drop, codes, bytes_eq, if◌then◌else◌, Result, Ok, Err}
use Rattle.std.specs.Char.{is_ascii_hexdigit}
use Rattle.std.specs.List.{list_all, starts_with}
use Rattle.httparse.specs.Grammar.{RequestHead, print_request, ReadsRequest, HasNoRequest, NeverHasRequest, MayBecomeRequest}
use Rattle.httparse.specs.Spans.{RequestOverflows, RequestExceeds}
use Rattle.websocket.specs.Headers.{Fields}
use Rattle.websocket.specs.Handshake.{requested_key, IsValidKey, accept_key_of}
use Rattle.websocket.specs.declared.handshake.failure.HandshakeError.{HandshakeError}
use Rattle.web_requests.specs.declared.asked.Wish.{Wish}
use Rattle.web_requests.specs.declared.asked.Wish.TheVariants.{Page, Seat}
use Rattle.web_requests.specs.declared.house.House.{House}
use Rattle.web_requests.specs.declared.refusal.Refusal.{Refusal}
use Rattle.web_requests.specs.declared.refusal.Refusal.TheVariants.{Malformed, Forbidden, NotFound, Method, Misdirected, Upgrade}
use Rattle.web_requests.specs.declared.visit.Visit.{Visit}
use Rattle.web_requests.specs.declared.visit.Visit.TheVariants as Visits
use Rattle.web_requests.specs.Head.{has_only, lines_of}

-- ---- what is asked for

-- a dot and 32 hexadecimal digits
abbrev pub is_dotted_key : List ℕ → Bool
is_dotted_key words = starts_with nat_eq words (codes ".") && length words == 33 && list_all is_ascii_hexdigit (drop 1 words)

-- by what stands behind the token
abbrev pub asked_key : List ℕ → Result Wish Refusal
asked_key words = if is_dotted_key words then Ok (Seat (drop 1 words)) else Err Malformed

-- by what stands behind `/board?`
abbrev pub asked_seat : House → List ℕ → Result Wish Refusal
asked_seat house words = if nat_le 32 (length words) && bytes_eq (take 32 words) house.token then asked_key (drop 32 words) else Err Forbidden

-- by that and the origin
abbrev pub asked_board : House → Fields → List ℕ → Result Wish Refusal
asked_board house lines words = if has_only lines (codes "Origin") house.origin.items then asked_seat house words else Err Forbidden

-- by the path
abbrev pub asked_at : House → Fields → List ℕ → Result Wish Refusal
asked_at house lines path =
    if bytes_eq path (codes "/") then Ok Page
    else (if starts_with nat_eq path (codes "/board?") then asked_board house lines (drop 7 path) else Err NotFound)

-- by the method and the path, at the house's host
abbrev pub asked_of : House → (method path : List ℕ) → Fields → Result Wish Refusal
asked_of house method path lines =
    if has_only lines (codes "Host") house.host.items then (if bytes_eq method (codes "GET") then asked_at house lines path else Err Method)
    else Err Misdirected

-- ---- what is answered

-- a seat is given for an upgrade alone: by the key that the handshake asks with, if there is one (RFC 6455, section 4.2.1)
abbrev pub OpensSeat : List ℕ → ℕ → Result (List ℕ) HandshakeError → Visit → Type 0
OpensSeat key head_len (Err e) visit = visit ≡ Visits.Refused Upgrade
OpensSeat key head_len (Ok asked) visit =
    (IsValidKey asked × (visit ≡ Visits.Board (record { key = key; accept = accept_key_of asked; head_len = head_len })))
    ⊎ (¬ (IsValidKey asked) × (visit ≡ Visits.Refused Upgrade))

-- what who asks for this comes to
abbrev pub ComesTo : Result (List ℕ) HandshakeError → ℕ → Result Wish Refusal → Visit → Type 0
ComesTo handshake head_len (Err refusal) visit = visit ≡ Visits.Refused refusal
ComesTo handshake head_len (Ok Page) visit = visit ≡ Visits.Page
ComesTo handshake head_len (Ok (Seat key)) visit = OpensSeat key head_len handshake visit

-- the answer to a head of these parts
abbrev pub AreAnswered : House → (method path : List ℕ) → ℕ → Fields → ℕ → Visit → Type 0
AreAnswered house method path minor lines head_len visit = ComesTo (requested_key method minor lines) head_len (asked_of house method path lines) visit

-- the answer to a head
abbrev pub IsAnswered : House → RequestHead → Visit → Type 0
IsAnswered house head visit = AreAnswered house head.method head.target head.minor (lines_of head) (length (print_request head)) visit

-- ---- what some bytes come to

-- a head of at most 64 lines stands at the front
pub record HasHead (bytes : List ℕ) (house : House) (visit : Visit) : Type 0 where
  pub head : RequestHead
  pub rest : List ℕ
  pub reads : ReadsRequest bytes head rest
  pub few_lines : length head.fields ≤ 64
  pub answer : IsAnswered house head visit

-- no head stands at the front, but more bytes may make one, or the path is still being read
pub record MayHaveHead (bytes : List ℕ) (visit : Visit) : Type 0 where
  pub not_yet : HasNoRequest bytes
  pub unfinished : MayBecomeRequest bytes
  pub waits : visit ≡ Visits.Waits

-- whatever follows, no head of at most 64 lines stands at the front: no head at all, or more lines stand there already
pub record CannotHaveHead (bytes : List ℕ) (visit : Visit) : Type 0 where
  pub never : RequestOverflows 64 bytes
  pub why : NeverHasRequest bytes ⊎ RequestExceeds 64 bytes
  pub malformed : visit ≡ Visits.Refused Malformed

-- the answer to some bytes
abbrev pub IsWanted : List ℕ → House → Visit → Type 0
IsWanted bytes house visit = HasHead bytes house visit ⊎ MayHaveHead bytes visit ⊎ CannotHaveHead bytes visit
