-- Bodies of replies.
use Rattle.std.proofs.Common.{◌≡◌, ℕ, suc, ◌+◌, ◌-◌, ◌<◌, ◌≤◌, List, [], ◌∷◌, ◌++◌, length, take, drop, map, get_or, Option, Some, None, sym, ap, ◌∙◌, arith, append-nil, append_assoc, length-append}
use Rattle.std.specs.Int.{w32, to_be_bytes, from_be_bytes}
use Rattle.std.proofs.lemmas.List.{take_more, map-append}
use Rattle.generations_rule.specs.Rule.{GenerationsRule, IsRule}
use Rattle.generations_rule.specs.RuleText.{text_of}
use Rattle.generations_rule.proofs.TextLaws.{has_short_text}
use Rattle.edit_stamps.specs.declared.rect.Rect.{Rect}
use Rattle.edit_stamps.specs.Edit.{PlaneEdit, IsEdit}
use Rattle.delta_exchange.specs.Spelling.{area_text, delta_magic, delta_text, edit_text, head_text, place_text, rect_text, sides_text}
use Rattle.delta_exchange.proofs.TextLengths.{edit_text_len}
use Rattle.message_frames.specs.Frames.{most_body}
use Rattle.session_hub.specs.Request.{numbers}

area_len : (area : Option Rect) → length (area_text area) ≤ 17
unfolding area_text rect_text place_text sides_text
area_len None = omega arith
area_len (Some rect) = omega arith

head_len : (r : GenerationsRule) → length (head_text delta_magic 1 r) ≡ 6 + length (text_of r)
unfolding head_text
head_len r = omega arith

-- the text of one edit fits a frame
pub delta_fits : (r : GenerationsRule) (e : PlaneEdit) → IsRule r → IsEdit e → length (delta_text r (e ∷ [])) ≤ most_body
delta_fits r e rule is =
    omega (arith, length-append (head_text delta_magic 1 r) (to_be_bytes w32 1 ++ (edit_text e ++ [])), length-append (to_be_bytes w32 1) (edit_text e ++ []), length-append (edit_text e) [], head_len r, has_short_text r rule, edit_text_len e, area_len e.area, is.count)

-- one text more
pub map_more : {A B : Type 0} (f : A → B) (xs : List A) (front now more : List B) (i : ℕ) (x : A) (y : B) → i < length xs → x ≡ get_or xs i x → now ≡ front ++ map f (take i xs) → y ≡ f x → more ≡ now ++ y ∷ []
    → more ≡ front ++ map f (take (i + 1) xs)
map_more f xs front now more i x y below at was is put =
    let longer : take (i + 1) xs ≡ take i xs ++ x ∷ [] = take_more xs i x below ∙ ap (λ z. take i xs ++ z ∷ []) (sym at) in
    put ∙ ap (λ z. now ++ z ∷ []) is ∙ ap (λ l. l ++ f x ∷ []) was ∙ append_assoc front (map f (take i xs)) (f x ∷ [])
    ∙ ap (λ l. front ++ l) (sym (map-append f (take i xs) (x ∷ [])) ∙ ap (map f) (sym longer))

-- the same, by what is left
pub put_more : {A B : Type 0} (f : A → B) (all now more : List B) (left rest : List A) (x : A) (y : B) → now ++ map f left ≡ all → left ≡ x ∷ rest → y ≡ f x → more ≡ now ++ y ∷ [] → more ++ map f rest ≡ all
put_more f all now more left rest x y was at is put =
    ap (λ l. l ++ map f rest) put ∙ append_assoc now (y ∷ []) (map f rest) ∙ ap (λ z. now ++ (z ∷ map f rest)) is ∙ ap (λ l. now ++ map f l) (sym at) ∙ was

-- one number more
pub number_more : (all more bytes rest others first : List ℕ) (n : ℕ) (count k : ℕ) → k < count → all ++ numbers (count - k) rest ≡ numbers count bytes → first ≡ take 4 rest → others ≡ drop 4 rest → n ≡ from_be_bytes w32 first → more ≡ all ++ n ∷ []
    → more ++ numbers (count - (k + 1)) others ≡ numbers count bytes
number_more all more bytes rest others first n count k below was cut left is put =
    let next : count - k ≡ suc (count - (k + 1)) = omega arith in
    let here : numbers (count - k) rest ≡ n ∷ numbers (count - (k + 1)) others =
    ap (λ m. numbers m rest) next ∙ ap (λ l. from_be_bytes w32 l ∷ numbers (count - (k + 1)) (drop 4 rest)) (sym cut) ∙ ap (λ l. from_be_bytes w32 first ∷ numbers (count - (k + 1)) l) (sym left) ∙ ap (λ m. m ∷ numbers (count - (k + 1)) others) (sym is) in
    ap (λ l. l ++ numbers (count - (k + 1)) others) put ∙ append_assoc all (n ∷ []) (numbers (count - (k + 1)) others) ∙ ap (λ l. all ++ l) (sym here) ∙ was

-- all numbers
pub numbers_all : (all bytes rest : List ℕ) (count k : ℕ) → count ≤ k → all ++ numbers (count - k) rest ≡ numbers count bytes → all ≡ numbers count bytes
numbers_all all bytes rest count k past was =
    let none : count - k ≡ 0 = omega arith in
    sym (append-nil all) ∙ ap (λ m. all ++ numbers m rest) (sym none) ∙ was
