-- The texts of bodies: how long they are, and where a rule stands in a first one.
use Rattle.std.proofs.Common.{◌≡◌, ◌≤◌, ◌<◌, ◌+◌, ◌^◌, ℕ, List, [], ◌++◌, length, get_or, take, drop, refl, ap, ◌∙◌, arith, length-append}
use Rattle.std.specs.Prelude.{Option, Some, None}
use Rattle.std.specs.Int.{w32, to_be_bytes}
use Rattle.std.proofs.Math.Seq.{take-append_seam}
use Rattle.generations_rule.specs.Rule.{GenerationsRule, IsRule}
use Rattle.generations_rule.specs.RuleText.{text_of}
use Rattle.generations_rule.proofs.TextLaws.{has_short_text}
use Rattle.edit_stamps.specs.declared.rect.Rect.{Rect}
use Rattle.edit_stamps.specs.Edit.{PlaneEdit, IsEdit}
use Rattle.delta_exchange.specs.Spelling.{area_text, delta_magic, edit_text, head_text, place_text, rect_text, sides_text}
use Rattle.delta_exchange.proofs.TextLengths.{edit_text_len}
use Rattle.document_bodies.specs.Bodies.{edit_body, head_body}

-- ---- lengths

head_len : (r : GenerationsRule) → length (head_text delta_magic 1 r) ≡ 6 + length (text_of r)
unfolding head_text
head_len r = omega arith

area_len : (area : Option Rect) → length (area_text area) ≤ 17
unfolding area_text rect_text place_text sides_text
area_len None = omega arith
area_len (Some area) = omega arith

pub head_is_short : (r : GenerationsRule) → IsRule r → length (head_body r) < 2 ^ 24
head_is_short r is =
    let text : length (text_of r) ≤ 22 = has_short_text r is in
    omega (arith, text, head_len r, length-append (head_text delta_magic 1 r) (to_be_bytes w32 0))

pub edit_is_short : (r : GenerationsRule) (e : PlaneEdit) → IsRule r → IsEdit e → length (edit_body r e) < 2 ^ 24
edit_is_short r e is_rule is_edit =
    let text : length (text_of r) ≤ 22 = has_short_text r is_rule in
    let behind : List ℕ = to_be_bytes w32 1 ++ (edit_text e ++ []) in
    omega (arith, text, head_len r, area_len e.area, edit_text_len e, is_edit.count, length-append (head_text delta_magic 1 r) behind, length-append (edit_text e) [])

-- ---- where the rule stands

-- what stands behind the rule's text
abbrev behind_rule : List ℕ
behind_rule = to_be_bytes w32 0 ++ []

whole_len : (r : GenerationsRule) → length (head_body r) ≡ 10 + length (text_of r)
whole_len r = omega (arith, head_len r, length-append (head_text delta_magic 1 r) behind_rule)

told_size : (r : GenerationsRule) → IsRule r → get_or (take 6 (head_body r)) 5 0 ≡ length (text_of r)
unfolding head_text
told_size r is =
    let text : length (text_of r) ≤ 22 = has_short_text r is in
    omega (arith, text)

told_behind : (r : GenerationsRule) → drop 6 (head_body r) ≡ text_of r ++ behind_rule
unfolding head_text
told_behind r = refl

-- a first body is no shorter than what stands before the rule's text
pub is_long : (r : GenerationsRule) (head : List ℕ) → head ≡ head_body r → length head < 6 → ⊥
is_long r head e short = omega (arith, ap length e, whole_len r, short)

-- and has all of that text
pub has_text : (r : GenerationsRule) (head front behind : List ℕ) (size : ℕ) → IsRule r → head ≡ head_body r → front ≡ take 6 head → behind ≡ drop 6 head → size ≡ get_or front 5 0
    → (size ≡ length (text_of r)) × (behind ≡ text_of r ++ behind_rule)
has_text r head front behind size is e front_is behind_is size_is =
    (size_is ∙ ap (λ bytes. get_or bytes 5 0) (front_is ∙ ap (take 6) e) ∙ told_size r is, behind_is ∙ ap (drop 6) e ∙ told_behind r)

pub is_not_cut : (r : GenerationsRule) (behind : List ℕ) (size : ℕ) → size ≡ length (text_of r) → behind ≡ text_of r ++ behind_rule → length behind < size → ⊥
is_not_cut r behind size size_is behind_is short = omega (arith, size_is, ap length behind_is, length-append (text_of r) behind_rule, short)

pub is_text : (r : GenerationsRule) (behind text : List ℕ) (size : ℕ) → size ≡ length (text_of r) → behind ≡ text_of r ++ behind_rule → text ≡ take size behind → text ≡ text_of r
is_text r behind text size size_is behind_is text_is =
    text_is ∙ ap (λ n. take n behind) size_is ∙ ap (take (length (text_of r))) behind_is ∙ take-append_seam (text_of r) behind_rule
