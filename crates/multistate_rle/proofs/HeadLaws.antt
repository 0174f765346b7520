-- The two lines in front of a written text are read back.
use Rattle.std.proofs.Common.{◌≡◌, ℕ, suc, ◌≤◌, ◌<◌, ◌^◌, Bool, true, false, List, [], ◌∷◌, ◌++◌, refl, sym, ◌∙◌, ap, arith, subst, length, take, drop, ℤ, pos, negsuc, one-add}
use Rattle.std.specs.Prelude.{Some, None, ◌==◌, not, nat_le, if◌then◌else◌, codes, filter, decimal, option_map, neg_ℤ}
use Rattle.std.specs.List.{list_all, prefix_len, slice_split}
use Rattle.std.specs.Str.Parse.{digits_value}
use Rattle.std.specs.Fmt.{signed_decimal}
use Rattle.std.proofs.lemmas.Fmt.{decimal_is_IsNumeral}
use Rattle.std.proofs.lemmas.Bool.{ne_eqb}
use Rattle.std.proofs.lemmas.Bool.Decides.{nat_tests}
use Rattle.text_scan.specs.Bytes.{is_decimal_digit, is_space_or_tab, ends_line, past_prefix, ◌>=>◌, text_behind, decimal_number, behind_symbol, is_comma}
use Rattle.std.proofs.lemmas.List.Folds.{list_all-append}
use Rattle.multistate_rle.specs.Header.{most_pattern_side, number_in_front, side_spelled, may_end_with, header_of}
use Rattle.multistate_rle.specs.Position.{position_in, generation_in, one_item_more, items_in, no_items, origin_from, origin_in_words, origin_in, item_by}
use Rattle.text_scan.specs.Words.{words, signed_number}
use Rattle.multistate_rle.specs.Laws.{IsSignedWord}
use Rattle.text_scan.proofs.SplitLemmas.{split_at, later_parts, has_bytes, has_some}
use Rattle.text_scan.proofs.NumberLemmas.{is_number}
use Rattle.multistate_rle.proofs.PatternLaws.{and_parts}
use Rattle.multistate_rle.proofs.BodyLaws.{digits_are}

-- ---- a part in front that passes a test

pub front_is : (p : ℕ → Bool) (xs : List ℕ) (y : ℕ) (ys : List ℕ) → list_all p xs ≡ true → p y ≡ false → take (prefix_len p (xs ++ y ∷ ys)) (xs ++ y ∷ ys) ≡ xs
front_is p [] y ys all stop = rw stop refl
front_is p (x ∷ xs) y ys all stop =
    let parts = and_parts (p x) (list_all p xs) all in
    rw (parts.0, one-add) (ap (λ rest. x ∷ rest) (front_is p xs y ys parts.1 stop))

pub past_is : (p : ℕ → Bool) (xs : List ℕ) (y : ℕ) (ys : List ℕ) → list_all p xs ≡ true → p y ≡ false → drop (prefix_len p (xs ++ y ∷ ys)) (xs ++ y ∷ ys) ≡ y ∷ ys
past_is p [] y ys all stop = rw stop refl
past_is p (x ∷ xs) y ys all stop =
    let parts = and_parts (p x) (list_all p xs) all in
    rw (parts.0, one-add) (past_is p xs y ys parts.1 stop)

pub front_all : (p : ℕ → Bool) (xs : List ℕ) → list_all p xs ≡ true → take (prefix_len p xs) xs ≡ xs
front_all p [] all = refl
front_all p (x ∷ xs) all =
    let parts = and_parts (p x) (list_all p xs) all in
    rw (parts.0, one-add) (ap (λ rest. x ∷ rest) (front_all p xs parts.1))

pub past_all : (p : ℕ → Bool) (xs : List ℕ) → list_all p xs ≡ true → drop (prefix_len p xs) xs ≡ []
past_all p [] all = refl
past_all p (x ∷ xs) all =
    let parts = and_parts (p x) (list_all p xs) all in
    rw (parts.0, one-add) (past_all p xs parts.1)

-- ---- numbers

pub record IsPrinted (n : ℕ) (ds : List ℕ) : Type 0 where
  pub some : 0 < length ds
  pub digits : list_all is_decimal_digit ds ≡ true
  pub value : digits_value 10 ds ≡ n

pub printed : (n : ℕ) → n < 2 ^ 64 → IsPrinted n (decimal n)
printed n small =
    let numeral = decimal_is_IsNumeral n small in
    record { some = numeral.0.0; digits = digits_are (decimal n) numeral.0.1; value = numeral.1 }

pub number_back : (most n : ℕ) (ds : List ℕ) → IsPrinted n ds → n ≤ most → decimal_number most ds ≡ Some n
number_back most n ds is le = is_number most ds is.some is.digits (subst (λ m. m ≤ most) (sym is.value) le) ∙ ap (λ m. Some m) is.value

pub digit_is_no : (c : ℕ) → is_decimal_digit c ≡ true → (k : ℕ) → k < 48 → (c == k) ≡ false
digit_is_no c digit k h =
    let parts = and_parts (nat_le 48 c) (nat_le c 57) digit in
    let low : 48 ≤ c = grind (arith, nat_tests, parts.0) in
    ne_eqb c k (omega arith)

signed_digits : (n : ℕ) (ds : List ℕ) → IsPrinted n ds → n ≤ 2147483647 → signed_number ds ≡ Some (pos n)
signed_digits n [] is le = absurd (let some = is.some in omega arith)
signed_digits n (c ∷ ds) is le =
    let parts = and_parts (is_decimal_digit c) (list_all is_decimal_digit ds) is.digits in
    rw (digit_is_no c parts.0 45 (omega arith)) (ap (option_map pos) (number_back 2147483647 n (c ∷ ds) is le))

pub signed_back : (z : ℤ) → IsSignedWord z → signed_number (signed_decimal z) ≡ Some z
signed_back (pos n) fits = signed_digits n (decimal n) (printed n (omega arith)) fits
signed_back (negsuc n) fits = ap (option_map (λ n. neg_ℤ (pos n))) (number_back 2147483648 (suc n) (decimal (suc n)) (printed (suc n) (omega arith)) (omega arith))

-- ---- the header

blank_past : (n : ℕ) (ds rest : List ℕ) → IsPrinted n ds → past_prefix is_space_or_tab (32 ∷ (ds ++ rest)) ≡ ds ++ rest
blank_past n [] rest is = absurd (let some = is.some in omega arith)
blank_past n (c ∷ ds) rest is =
    let parts = and_parts (is_decimal_digit c) (list_all is_decimal_digit ds) is.digits in
    rw (digit_is_no c parts.0 32 (omega arith), digit_is_no c parts.0 9 (omega arith)) refl

number_front : (n : ℕ) (ds rest : List ℕ) → IsPrinted n ds → n ≤ most_pattern_side → number_in_front (ds ++ 44 ∷ rest) ≡ Some (n, 44 ∷ rest)
number_front n ds rest is le =
    (λ i. option_map (λ m. (m, past_is is_decimal_digit ds 44 rest is.digits refl i)) (decimal_number most_pattern_side (front_is is_decimal_digit ds 44 rest is.digits refl i)))
    ∙ ap (option_map (λ m. (m, 44 ∷ rest))) (number_back most_pattern_side n ds is le)

pub header_back : (w h : ℕ) (rule : List ℕ) → w ≤ most_pattern_side → h ≤ most_pattern_side →
    header_of (codes "x = " ++ (decimal w ++ (codes ", y = " ++ (decimal h ++ (codes ", rule = " ++ rule))))) ≡ Some (w, h)
header_back w h rule wide high =
    let first = printed w (omega arith) in
    let second = printed h (omega arith) in
    let left : side_spelled 120 (codes "x = " ++ (decimal w ++ (codes ", y = " ++ (decimal h ++ (codes ", rule = " ++ rule))))) ≡ Some (w, codes ", y = " ++ (decimal h ++ (codes ", rule = " ++ rule))) =
    ap number_in_front (blank_past w (decimal w) (codes ", y = " ++ (decimal h ++ (codes ", rule = " ++ rule))) first)
    ∙ number_front w (decimal w) (codes " y = " ++ (decimal h ++ (codes ", rule = " ++ rule))) first wide in
    let right : side_spelled 121 (codes " y = " ++ (decimal h ++ (codes ", rule = " ++ rule))) ≡ Some (h, codes ", rule = " ++ rule) =
    ap number_in_front (blank_past h (decimal h) (codes ", rule = " ++ rule) second)
    ∙ number_front h (decimal h) (codes " rule = " ++ rule) second high in
    ap (λ o. o >=> λ w. behind_symbol 44 w.1 >=> λ rest. side_spelled 121 rest >=> λ h. (if may_end_with (past_prefix is_space_or_tab h.1) then Some (w.0, h.0) else None)) left
    ∙ ap (λ o. o >=> λ h. (if may_end_with (past_prefix is_space_or_tab h.1) then Some (w, h.0) else None)) right

-- ---- bytes that a line is made of

pub digits_pass : (p : ℕ → Bool) → ((c : ℕ) → is_decimal_digit c ≡ true → p c ≡ true) → (ds : List ℕ) → list_all is_decimal_digit ds ≡ true → list_all p ds ≡ true
digits_pass p each [] all = refl
digits_pass p each (d ∷ ds) all =
    let parts = and_parts (is_decimal_digit d) (list_all is_decimal_digit ds) all in
    rw (each d parts.0, digits_pass p each ds parts.1) refl

pub signed_pass : (p : ℕ → Bool) → ((c : ℕ) → is_decimal_digit c ≡ true → p c ≡ true) → p 45 ≡ true → (z : ℤ) → IsSignedWord z → list_all p (signed_decimal z) ≡ true
signed_pass p each minus (pos n) fits = digits_pass p each (decimal n) (printed n (omega arith)).digits
signed_pass p each minus (negsuc n) fits = rw minus (digits_pass p each (decimal (suc n)) (printed (suc n) (omega arith)).digits)

pub both_pass : (p : ℕ → Bool) (xs ys : List ℕ) → list_all p xs ≡ true → list_all p ys ≡ true → list_all p (xs ++ ys) ≡ true
both_pass p xs ys left right = list_all-append p xs ys ∙ rw (left, right) refl

digit_no_blank : (c : ℕ) → is_decimal_digit c ≡ true → not (is_space_or_tab c) ≡ true
digit_no_blank c digit = rw (digit_is_no c digit 32 (omega arith), digit_is_no c digit 9 (omega arith)) refl

pub digit_no_end : (c : ℕ) → is_decimal_digit c ≡ true → not (ends_line c) ≡ true
digit_no_end c digit = rw (digit_is_no c digit 10 (omega arith), digit_is_no c digit 13 (omega arith)) refl

digit_no_comma : (c : ℕ) → is_decimal_digit c ≡ true → not (is_comma c) ≡ true
digit_no_comma c digit = rw (digit_is_no c digit 44 (omega arith)) refl

-- ---- the line of an origin

split_blank : (xs rest : List ℕ) → list_all (λ c. not (is_space_or_tab c)) xs ≡ true → slice_split is_space_or_tab (xs ++ 32 ∷ rest) ≡ xs ∷ slice_split is_space_or_tab rest
unfolding later_parts
split_blank xs rest all =
    split_at is_space_or_tab (xs ++ 32 ∷ rest)
    ∙ (λ i. front_is (λ c. not (is_space_or_tab c)) xs 32 rest all refl i ∷ later_parts is_space_or_tab (past_is (λ c. not (is_space_or_tab c)) xs 32 rest all refl i))

split_last : (xs : List ℕ) → list_all (λ c. not (is_space_or_tab c)) xs ≡ true → slice_split is_space_or_tab xs ≡ xs ∷ []
unfolding later_parts
split_last xs all =
    split_at is_space_or_tab xs ∙ (λ i. front_all (λ c. not (is_space_or_tab c)) xs all i ∷ later_parts is_space_or_tab (past_all (λ c. not (is_space_or_tab c)) xs all i))

abbrev pub pos_word : ℤ → ℤ → List ℕ
pos_word x y = codes "Pos=" ++ (signed_decimal x ++ 44 ∷ signed_decimal y)

abbrev pub gen_word : ℕ → List ℕ
gen_word g = codes "Gen=" ++ decimal g

abbrev pub origin_line : ℤ → ℤ → ℕ → List ℕ
origin_line x y g = codes "#CXRLE" ++ 32 ∷ (pos_word x y ++ 32 ∷ gen_word g)

pos_no_blank : (x y : ℤ) → IsSignedWord x → IsSignedWord y → list_all (λ c. not (is_space_or_tab c)) (pos_word x y) ≡ true
pos_no_blank x y fx fy =
    both_pass (λ c. not (is_space_or_tab c)) (signed_decimal x) (44 ∷ signed_decimal y) (signed_pass (λ c. not (is_space_or_tab c)) digit_no_blank refl x fx) (signed_pass (λ c. not (is_space_or_tab c)) digit_no_blank refl y fy)

gen_no_blank : (g : ℕ) → g < 2 ^ 64 → list_all (λ c. not (is_space_or_tab c)) (gen_word g) ≡ true
gen_no_blank g small = digits_pass (λ c. not (is_space_or_tab c)) digit_no_blank (decimal g) (printed g small).digits

origin_words : (x y : ℤ) (g : ℕ) → IsSignedWord x → IsSignedWord y → g < 2 ^ 64 → words (origin_line x y g) ≡ codes "#CXRLE" ∷ pos_word x y ∷ gen_word g ∷ []
origin_words x y g fx fy small =
    ap (filter has_bytes)
    (split_blank (codes "#CXRLE") (pos_word x y ++ 32 ∷ gen_word g) refl
    ∙ ap (λ rest. codes "#CXRLE" ∷ rest) (split_blank (pos_word x y) (gen_word g) (pos_no_blank x y fx fy) ∙ ap (λ rest. pos_word x y ∷ rest) (split_last (gen_word g) (gen_no_blank g small))))
    ∙ rw (has_some 80 (codes "os=" ++ (signed_decimal x ++ 44 ∷ signed_decimal y)), has_some 71 (codes "en=" ++ decimal g)) refl

position_back : (x y : ℤ) → IsSignedWord x → IsSignedWord y → position_in (pos_word x y) ≡ Some (x, y)
position_back x y fx fy =
    let comma = signed_pass (λ c. not (is_comma c)) digit_no_comma refl x fx in
    (λ i. signed_number (front_is (λ c. not (is_comma c)) (signed_decimal x) 44 (signed_decimal y) comma refl i) >=> λ first.
    text_behind 44 (past_is (λ c. not (is_comma c)) (signed_decimal x) 44 (signed_decimal y) comma refl i) >=> λ rest. signed_number rest >=> λ second. Some (first, second))
    ∙ ap (λ o. o >=> λ first. signed_number (signed_decimal y) >=> λ second. Some (first, second)) (signed_back x fx)
    ∙ ap (λ o. o >=> λ second. Some (x, second)) (signed_back y fy)

generation_back : (g : ℕ) → g < 2 ^ 64 → generation_in (gen_word g) ≡ Some g
generation_back g small = number_back 18446744073709551615 g (decimal g) (printed g small) (omega arith)

no_position : (g : ℕ) → position_in (gen_word g) ≡ None
no_position g = refl

first_item : (word : List ℕ) (p : ℤ × ℤ) → position_in word ≡ Some p → one_item_more word no_items ≡ Some (record { pos = Some p; generation = None })
first_item word p is = ap (λ o. item_by o (generation_in word) no_items) is

second_item : (word : List ℕ) (p : ℤ × ℤ) (g : ℕ) → position_in word ≡ None → generation_in word ≡ Some g →
    one_item_more word (record { pos = Some p; generation = None }) ≡ Some (record { pos = Some p; generation = Some g })
second_item word p g none is = λ i. item_by (none i) (is i) (record { pos = Some p; generation = None })

pub origin_back : (x y : ℤ) (g : ℕ) → IsSignedWord x → IsSignedWord y → g < 2 ^ 64 → origin_in (origin_line x y g) ≡ Some (record { pos = (x, y); generation = g })
origin_back x y g fx fy small =
    ap origin_in_words (origin_words x y g fx fy small)
    ∙ ap (λ o. option_map origin_from (o >=> λ items. items_in items (gen_word g ∷ []))) (first_item (pos_word x y) (x, y) (position_back x y fx fy))
    ∙ ap (λ o. option_map origin_from (o >=> λ items. items_in items [])) (second_item (gen_word g) (x, y) g (no_position g) (generation_back g small))
