-- The frames of replies and the requests of clients are bodies: none is too long.
use Rattle.std.proofs.Common.{◌≡◌, ◌∙◌, ◌+◌, ◌≤◌, ◌++◌, ℕ, Bool, true, false, List, [], ◌∷◌, ap, length, refl, arith, length-append}
use Rattle.std.specs.Prelude.{Result, Ok, Err, Option, Some, None, drop, map, nat_le, nat_lt, ◌^◌}
use Rattle.std.specs.List.{AllByRecursion, list_all}
use Rattle.std.specs.Int.{w32, to_be_bytes}
use Rattle.std.proofs.lemmas.List.Folds.{list_all-append}
use lib.ListN.{length-take}
use Rattle.std.proofs.lemmas.Bool.Decides.{nat_tests}
use Rattle.generations_rule.specs.Rule.{GenerationsRule, IsRule}
use Rattle.generations_rule.specs.RuleText.{text_of}
use Rattle.edit_stamps.specs.declared.rect.Rect.{Rect}
use Rattle.edit_stamps.specs.Edit.{PlaneEdit, IsEdit}
use Rattle.export.specs.declared.fault.ExportFault.{ExportFault}
use Rattle.delta_exchange.specs.Spelling.{area_text, delta_text, edit_text, head_text, delta_magic, place_text, rect_text, sides_text}
use Rattle.delta_exchange.proofs.DeltaCodec.{text_is_sized}
use Rattle.delta_exchange.proofs.TextLengths.{edit_text_len}
use Rattle.message_frames.specs.Frames.{is_body, most_body}
use Rattle.session_hub.specs.Replies.{IsInPieces, edits_frames, export_body, hello_body, pieces_reply, text_body, whole_frames}
use Rattle.replica_core.specs.World.{IsEditUnder}
use Rattle.board_client.specs.Drawing.{push_bytes}
use Rattle.board_client.specs.Awaiting.{await_request}
use Rattle.shown_laws.specs.Turns.{Asking, Await, Farewell, Greeting, IsAskable, Pieces, Poll, Push, request_in}

pub both : (xs ys : List (List ℕ)) → list_all is_body xs ≡ true → list_all is_body ys ≡ true → list_all is_body (xs ++ ys) ≡ true
both xs ys a b = list_all-append is_body xs ys ∙ rw (a, b) refl

-- a text of at most 2^24 bytes is a body
fits : (text : List ℕ) (n : ℕ) → length text ≡ n → n ≤ 16777216 → is_body text ≡ true
fits text n is few = grind (arith, nat_tests, is, few)

-- ---- one edit

rule_len : (r : GenerationsRule) → IsRule r → length (text_of r) ≤ 255
rule_len r rule = grind (arith, nat_tests, text_is_sized r rule)

head_len : (r : GenerationsRule) → length (head_text delta_magic 1 r) ≡ 6 + length (text_of r)
unfolding head_text
head_len r = omega arith

area_len : (area : Option Rect) → length (area_text area) ≤ 17
unfolding area_text rect_text place_text sides_text
area_len None = omega arith
area_len (Some rect) = omega arith

delta_len : (r : GenerationsRule) (e : PlaneEdit) → IsRule r → IsEdit e → length (delta_text r (e ∷ [])) ≤ 10000000
delta_len r e rule edit =
    let count : length e.cells ≤ 1048576 = edit.count in
    omega (
      arith,
      rule_len r rule,
      head_len r,
      area_len e.area,
      edit_text_len e,
      count,
      length-append (head_text delta_magic 1 r) (to_be_bytes w32 1 ++ (edit_text e ++ [])),
      length-append (edit_text e) [],
    )

pub delta_is_body : (r : GenerationsRule) (e : PlaneEdit) → IsRule r → IsEdit e → is_body (delta_text r (e ∷ [])) ≡ true
delta_is_body r e rule edit = fits (delta_text r (e ∷ [])) _ refl (omega (arith, delta_len r e rule edit))

push_is_body : (r : GenerationsRule) (e : PlaneEdit) → IsRule r → IsEdit e → is_body (push_bytes r e) ≡ true
push_is_body r e rule edit = fits (push_bytes r e) _ refl (omega (arith, delta_len r e rule edit))

-- ---- requests

pub asks_body : (r : GenerationsRule) (asking : Asking) → IsRule r → IsAskable r asking → is_body (request_in r asking) ≡ true
asks_body r Greeting rule is = refl
asks_body r Poll rule is = refl
asks_body r (Await milliseconds) rule is = fits (await_request milliseconds) _ refl (omega arith)
asks_body r Pieces rule is = refl
asks_body r (Push e) rule is = push_is_body r e rule is.edit
asks_body r Farewell rule is = refl

-- ---- replies

pub hello_bodies : (r : GenerationsRule) (seat : ℕ) → IsRule r → list_all is_body (hello_body r seat ∷ []) ≡ true
hello_bodies r seat rule = rw (fits (hello_body r seat) _ refl (omega (arith, rule_len r rule))) refl

texts_bodies : (r : GenerationsRule) (edits : List PlaneEdit) → IsRule r → AllByRecursion (IsEditUnder r) edits → list_all is_body (map (λ e. delta_text r (e ∷ [])) edits) ≡ true
texts_bodies r [] rule are = refl
texts_bodies r (e ∷ edits) rule are = rw (delta_is_body r e rule are.0.edit) (texts_bodies r edits rule are.1)

pub edits_bodies : (r : GenerationsRule) (edits : List PlaneEdit) → IsRule r → AllByRecursion (IsEditUnder r) edits → list_all is_body (edits_frames r edits) ≡ true
edits_bodies r edits rule are = texts_bodies r edits rule are

whole_by : (text : List ℕ) (fit : Bool) → nat_le (length text) most_body ≡ fit → list_all is_body (whole_frames text) ≡ true
whole_by text true fit = rw (fit, fit) refl
whole_by text false fit = rw fit refl

pub whole_bodies : (text : List ℕ) → list_all is_body (whole_frames text) ≡ true
whole_bodies text = whole_by text (nat_le (length text) most_body) refl

pieces_fit : (text : List ℕ) (pieces : List (List ℕ)) → IsInPieces text pieces → list_all is_body pieces ≡ true
pieces_fit text [] cut = refl
pieces_fit text (piece ∷ pieces) cut =
    rw (fits piece _ refl (omega (arith, ap length cut.1, length-take most_body text))) (pieces_fit (drop most_body text) pieces cut.2)

pieces_by : (count : ℕ) (text : List ℕ) (pieces : List (List ℕ)) (few : Bool) → nat_lt (length pieces) (2 ^ 32) ≡ few → IsInPieces text pieces → list_all is_body (pieces_reply count pieces) ≡ true
pieces_by count text pieces true few cut = rw (few, pieces_fit text pieces cut) refl
pieces_by count text pieces false few cut = rw few refl

pub pieces_bodies : (count : ℕ) (text : List ℕ) (pieces : List (List ℕ)) → IsInPieces text pieces → list_all is_body (pieces_reply count pieces) ≡ true
pieces_bodies count text pieces cut = pieces_by count text pieces (nat_lt (length pieces) (2 ^ 32)) refl cut

text_by : (text : List ℕ) (fit : Bool) → nat_le (length text + 1) most_body ≡ fit → is_body (text_body text) ≡ true
text_by text true fit = rw fit (fits (0 ∷ text) _ refl (grind (arith, nat_tests, fit)))
text_by text false fit = rw fit refl

pub text_is_body : (text : List ℕ) → is_body (text_body text) ≡ true
text_is_body text = text_by text (nat_le (length text + 1) most_body) refl

export_is_body : (answer : Result (List ℕ) ExportFault) → is_body (export_body answer) ≡ true
export_is_body (Ok text) = text_is_body text
export_is_body (Err fault) = refl

pub exports_bodies : (answers : List (Result (List ℕ) ExportFault)) → list_all is_body (map export_body answers) ≡ true
exports_bodies [] = refl
exports_bodies (answer ∷ answers) = rw (export_is_body answer) (exports_bodies answers)
