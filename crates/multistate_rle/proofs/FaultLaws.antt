-- The first faulty token of a text is told.
use Rattle.std.proofs.Common.{◌≡◌, ℕ, ◌-◌, ◌≤◌, Bool, true, false, List, [], ◌∷◌, ◌++◌, refl, sym, ◌∙◌, ap, arith, inl, inr, subst, append_assoc}
use Rattle.std.specs.Prelude.{Some, None, Err, unwrap_or, not, ◌||◌, ◌==◌, nat_le, ◌⊎◌}
use Rattle.std.specs.List.{list_all}
use Rattle.std.proofs.lemmas.Bool.Decides.{nat_tests}
use Rattle.multistate_rle.specs.declared.fault.RleFault.{RleFault}
use Rattle.multistate_rle.specs.declared.fault.RleFault.TheVariants.{Tag}
use Rattle.multistate_rle.specs.Role as role
use Rattle.text_scan.specs.Bytes.{is_decimal_digit}
use Rattle.multistate_rle.specs.Tokens.{Token, Cells, Rows, count_of}
use Rattle.multistate_rle.specs.Reading.{Mark, BegunValue, Pen, fresh, with_digit, with_prefix, pen_after, fault_of, followed, is_prefix_byte, is_letter, role_of, tokens_of, bytes_of, AreFine}
use Rattle.multistate_rle.specs.Spelling.{IsCount, IsTag, IsSpelling}
use Rattle.multistate_rle.specs.Faulty.{pen_behind, first_place, may_stand, MeetsStray, lacks_letter, LacksLetter, DrawsIll, BeginsFaulty}
use Rattle.multistate_rle.proofs.PatternLaws.{and_parts}
use Rattle.multistate_rle.proofs.ReadLemmas.{step_is}
use Rattle.multistate_rle.proofs.SpellingLaws.{letter_role, prefix_role, digit_role, byte_role, counted, count_is, count_digits, fine_at}

-- ---- the digits of a token

-- what is read of a token, with digits behind it
unfoldable pub begun_by : BegunValue → List Mark → BegunValue
begun_by b [] = b
begun_by b (m ∷ marks) = begun_by (with_digit m.0 (m.1 - 48) b) marks

pub no_prefix_by : (b : BegunValue) (digits : List Mark) → (begun_by b digits).prefix ≡ b.prefix
unfolding begun_by
no_prefix_by b [] = refl
no_prefix_by b (m ∷ digits) = no_prefix_by (with_digit m.0 (m.1 - 48) b) digits

pub count_by : (b : BegunValue) (digits : List Mark) → (begun_by b digits).count ≡ counted b.count (bytes_of digits)
unfolding begun_by counted
count_by b [] = refl
count_by b (m ∷ digits) = count_by (with_digit m.0 (m.1 - 48) b) digits

place_kept : (b : BegunValue) (digits : List Mark) (place k : ℕ) → b.place ≡ Some place → unwrap_or (begun_by b digits).place k ≡ place
unfolding begun_by
place_kept b [] place k is = ap (λ p. unwrap_or p k) is
place_kept b (m ∷ digits) place k is = place_kept (with_digit m.0 (m.1 - 48) b) digits place k (ap (λ p. Some (unwrap_or p m.0)) is)

-- a token's place is that of its first digit, or of what follows where it has none
pub place_by : (digits : List Mark) (k : ℕ) → unwrap_or (begun_by fresh digits).place k ≡ first_place k digits
unfolding begun_by
place_by [] k = refl
place_by (m ∷ digits) k = place_kept (with_digit m.0 (m.1 - 48) fresh) digits m.0 k refl

pub digits_by : (end : ℕ) (digits rest : List Mark) (b : BegunValue) (pen : Pen) → list_all is_decimal_digit (bytes_of digits) ≡ true → b.prefix ≡ None →
    tokens_of end (digits ++ rest) b pen ≡ tokens_of end rest (begun_by b digits) pen
unfolding begun_by
digits_by end [] rest b pen all none = refl
digits_by end (m ∷ digits) rest b pen all none =
    let parts = and_parts (is_decimal_digit m.1) (list_all is_decimal_digit (bytes_of digits)) all in
    step_is end m (digits ++ rest) b pen (role.Digit (m.1 - 48)) (ap (λ p. role_of p m.1) none ∙ digit_role m.1 parts.0)
    ∙ digits_by end digits rest (with_digit m.0 (m.1 - 48) b) pen parts.1 none

-- ---- one token that is spelt well

-- the byte that ends a token, by what it is
state_ends : (end : ℕ) (m : Mark) (rest : List Mark) (b : BegunValue) (pen : Pen) (n s : ℕ) → role_of b.prefix m.1 ≡ role.State s → unwrap_or b.count 1 ≡ n →
    tokens_of end (m ∷ rest) b pen ≡ followed (fault_of (unwrap_or b.place m.0) pen (Cells n s)) (Cells n s) (tokens_of end rest fresh (pen_after (Cells n s) pen))
state_ends end m rest b pen n s is count =
    step_is end m rest b pen (role.State s) is
    ∙ ap (λ k. followed (fault_of (unwrap_or b.place m.0) pen (Cells k s)) (Cells k s) (tokens_of end rest fresh (pen_after (Cells k s) pen))) count

row_ends : (end : ℕ) (m : Mark) (rest : List Mark) (b : BegunValue) (pen : Pen) (n : ℕ) → role_of b.prefix m.1 ≡ role.RowEnd → unwrap_or b.count 1 ≡ n →
    tokens_of end (m ∷ rest) b pen ≡ followed (fault_of (unwrap_or b.place m.0) pen (Rows n)) (Rows n) (tokens_of end rest fresh (pen_after (Rows n) pen))
row_ends end m rest b pen n is count =
    step_is end m rest b pen role.RowEnd is
    ∙ ap (λ k. followed (fault_of (unwrap_or b.place m.0) pen (Rows k)) (Rows k) (tokens_of end rest fresh (pen_after (Rows k) pen))) count

tag_by : (end : ℕ) (token : Token) (tag rest : List Mark) (b : BegunValue) (pen : Pen) → IsTag token (bytes_of tag) → b.prefix ≡ None → unwrap_or b.count 1 ≡ count_of token →
    tokens_of end (tag ++ rest) b pen ≡ followed (fault_of (unwrap_or b.place (first_place 0 tag)) pen token) token (tokens_of end rest fresh (pen_after token pen))
tag_by end (Cells n s) [] rest b pen is none count = absurd is
tag_by end (Cells n s) (m ∷ []) rest b pen is none count = state_ends end m rest b pen n s (ap (λ p. role_of p m.1) none ∙ byte_role m.1 s is) count
tag_by end (Cells n s) (m ∷ l ∷ []) rest b pen is none count =
    step_is end m (l ∷ rest) b pen (role.Prefix (m.1 - 111)) (ap (λ p. role_of p m.1) none ∙ prefix_role m.1 is.least_prefix is.most_prefix)
    ∙ state_ends end l rest (with_prefix m.0 (m.1 - 111) b) pen n s (letter_role (Some (m.1 - 111)) l.1 is.least is.most ∙ ap (λ t. role.State t) (sym is.state)) count
tag_by end (Cells n s) (m ∷ l ∷ k ∷ tag) rest b pen is none count = absurd is
tag_by end (Rows n) [] rest b pen is none count = absurd (cc)
tag_by end (Rows n) (m ∷ []) rest b pen is none count =
    let byte : m.1 ≡ 36 = cc in
    row_ends end m rest b pen n (λ i. role_of (none i) (byte i)) count
tag_by end (Rows n) (m ∷ l ∷ tag) rest b pen is none count = absurd (cc)

first_of_both : (digits tag rest : List Mark) (k : ℕ) → first_place (first_place k tag) digits ≡ first_place k (digits ++ (tag ++ rest)) ⊎ (tag ≡ [])
first_of_both [] [] rest k = inr refl
first_of_both [] (m ∷ tag) rest k = inl refl
first_of_both (m ∷ digits) tag rest k = inl refl

tag_has_bytes : (token : Token) (tag : List Mark) → IsTag token (bytes_of tag) → tag ≡ [] → ⊥
tag_has_bytes (Cells n s) [] is none = is
tag_has_bytes (Cells n s) (m ∷ tag) is none = absurd (cc)
tag_has_bytes (Rows n) [] is none = absurd (cc)
tag_has_bytes (Rows n) (m ∷ tag) is none = absurd (cc)

-- A token that is spelt is read as that token, unless it is faulty.
pub token_read : (end : ℕ) (token : Token) (digits tag rest : List Mark) (pen : Pen) → IsCount (count_of token) (bytes_of digits) → IsTag token (bytes_of tag) →
    tokens_of end (digits ++ (tag ++ rest)) fresh pen ≡ followed (fault_of (first_place 0 (digits ++ (tag ++ rest))) pen token) token (tokens_of end rest fresh (pen_after token pen))
token_read end token digits tag rest pen is_count is_tag =
    let b = begun_by fresh digits in
    let count : unwrap_or b.count 1 ≡ count_of token = ap (λ o. unwrap_or o 1) (count_by fresh digits) ∙ count_is (count_of token) (bytes_of digits) is_count in
    let place : first_place (first_place 0 tag) digits ≡ first_place 0 (digits ++ (tag ++ rest)) =
    elim (first_of_both digits tag rest 0) [ inl same ↦ same | inr none ↦ absurd (tag_has_bytes token tag is_tag none) ] in
    digits_by end digits (tag ++ rest) fresh pen (count_digits (count_of token) (bytes_of digits) is_count) refl
    ∙ tag_by end token tag rest b pen is_tag (no_prefix_by fresh digits) count
    ∙ ap (λ k. followed (fault_of k pen token) token (tokens_of end rest fresh (pen_after token pen))) (place_by digits (first_place 0 tag) ∙ place)

-- ---- faulty tokens

stray_role : (c : ℕ) → may_stand c ≡ false → role_of None c ≡ role.Stray
stray_role c is = by_tests (is_decimal_digit c) (is_letter c) (is_prefix_byte c) (c == 46) (c == 98) (c == 111) (c == 36) (c == 33) refl refl refl refl refl refl refl refl is
  where
    by_tests : (digit letter prefix dot b o dollar mark : Bool) → is_decimal_digit c ≡ digit → is_letter c ≡ letter → is_prefix_byte c ≡ prefix → (c == 46) ≡ dot → (c == 98) ≡ b → (c == 111) ≡ o → (c == 36) ≡ dollar → (c == 33) ≡ mark →
        (digit || letter || prefix || dot || b || o || dollar || mark) ≡ false → role_of None c ≡ role.Stray
    by_tests false false false false false false false false e1 e2 e3 e4 e5 e6 e7 e8 none = rw (e8, e2, e1, e3, e4, e5, e6, e7) refl
    by_tests true l p d b o r m e1 e2 e3 e4 e5 e6 e7 e8 none = absurd (cc)
    by_tests false true p d b o r m e1 e2 e3 e4 e5 e6 e7 e8 none = absurd (cc)
    by_tests false false true d b o r m e1 e2 e3 e4 e5 e6 e7 e8 none = absurd (cc)
    by_tests false false false true b o r m e1 e2 e3 e4 e5 e6 e7 e8 none = absurd (cc)
    by_tests false false false false true o r m e1 e2 e3 e4 e5 e6 e7 e8 none = absurd (cc)
    by_tests false false false false false true r m e1 e2 e3 e4 e5 e6 e7 e8 none = absurd (cc)
    by_tests false false false false false false true m e1 e2 e3 e4 e5 e6 e7 e8 none = absurd (cc)
    by_tests false false false false false false false true e1 e2 e3 e4 e5 e6 e7 e8 none = absurd (cc)

stray_told : (end : ℕ) (marks : List Mark) (pen : Pen) (fault : RleFault) → MeetsStray marks fault → tokens_of end marks fresh pen ≡ Err fault
stray_told end marks pen fault is =
    let b = begun_by fresh is.digits in
    ap (λ ms. tokens_of end ms fresh pen) is.marks_are
    ∙ digits_by end is.digits (is.stray ∷ is.rest) fresh pen is.all_digits refl
    ∙ step_is end is.stray is.rest b pen role.Stray (ap (λ p. role_of p is.stray.1) (no_prefix_by fresh is.digits) ∙ stray_role is.stray.1 is.stands_nowhere)
    ∙ ap (λ f. Err f) (sym is.fault_is)

-- behind a prefix
lacking : (end : ℕ) (rest : List Mark) (b : BegunValue) (pen : Pen) (k : ℕ) → b.prefix ≡ Some k → lacks_letter rest ≡ true → tokens_of end rest b pen ≡ Err (Tag (first_place end rest))
lacking end [] b pen k is none = rw is refl
lacking end (m ∷ rest) b pen k is none = by_mark (m.1 == 33) (is_letter m.1) refl refl none
  where
    by_mark : (mark letter : Bool) → (m.1 == 33) ≡ mark → is_letter m.1 ≡ letter → not letter ≡ true → tokens_of end (m ∷ rest) b pen ≡ Err (Tag m.0)
    by_mark true letter e f lacks = step_is end m rest b pen role.EndMark (rw e refl) ∙ rw is refl
    by_mark false true e f lacks = absurd (cc)
    by_mark false false e f lacks = step_is end m rest b pen role.Stray (ap (λ p. role_of p m.1) is ∙ rw (e, f) refl)

lacking_told : (end : ℕ) (marks : List Mark) (pen : Pen) (fault : RleFault) → LacksLetter end marks fault → tokens_of end marks fresh pen ≡ Err fault
lacking_told end marks pen fault is =
    let b = begun_by fresh is.digits in
    let parts = and_parts (nat_le 112 is.prefix.1) (nat_le is.prefix.1 121) is.prefixes in
    let low : 112 ≤ is.prefix.1 = grind (arith, nat_tests, parts.0) in
    let high : is.prefix.1 ≤ 121 = grind (arith, nat_tests, parts.1) in
    ap (λ ms. tokens_of end ms fresh pen) is.marks_are
    ∙ digits_by end is.digits (is.prefix ∷ is.rest) fresh pen is.all_digits refl
    ∙ step_is end is.prefix is.rest b pen (role.Prefix (is.prefix.1 - 111)) (ap (λ p. role_of p is.prefix.1) (no_prefix_by fresh is.digits) ∙ prefix_role is.prefix.1 low high)
    ∙ lacking end is.rest (with_prefix is.prefix.0 (is.prefix.1 - 111) b) pen (is.prefix.1 - 111) refl is.no_letter
    ∙ ap (λ f. Err f) (sym is.fault_is)

ill_told : (end : ℕ) (marks : List Mark) (pen : Pen) (fault : RleFault) → DrawsIll pen marks fault → tokens_of end marks fresh pen ≡ Err fault
ill_told end marks pen fault is =
    let rest = tokens_of end is.rest fresh (pen_after is.token pen) in
    ap (λ ms. tokens_of end ms fresh pen) is.marks_are
    ∙ token_read end is.token is.digits is.tag is.rest pen is.count_is is.tag_is
    ∙ ap (λ f. followed f is.token rest) (ap (λ ms. fault_of (first_place 0 ms) pen is.token) (sym is.marks_are) ∙ is.fault_is)

pub fault_told : (end : ℕ) (marks : List Mark) (pen : Pen) (fault : RleFault) → BeginsFaulty end pen marks fault → tokens_of end marks fresh pen ≡ Err fault
fault_told end marks pen fault (inl is) = stray_told end marks pen fault is
fault_told end marks pen fault (inr (inl is)) = lacking_told end marks pen fault is
fault_told end marks pen fault (inr (inr is)) = ill_told end marks pen fault is

-- ---- behind fine tokens

-- bytes that are cut in two, with their places
record Cut (marks : List Mark) (xs ys : List ℕ) : Type 0 where
  left : List Mark
  right : List Mark
  marks_are : marks ≡ left ++ right
  left_is : bytes_of left ≡ xs
  right_is : bytes_of right ≡ ys

cut : (marks : List Mark) (xs ys : List ℕ) → bytes_of marks ≡ xs ++ ys → Cut marks xs ys
cut marks [] ys is = record { left = []; right = marks; marks_are = refl; left_is = refl; right_is = is }
cut [] (x ∷ xs) ys is = absurd (cc)
cut (m ∷ marks) (x ∷ xs) ys is =
    let byte : m.1 ≡ x = cc in
    let more : bytes_of marks ≡ xs ++ ys = cc in
    let rest = cut marks xs ys more in
    record {
      left = m ∷ rest.left;
      right = rest.right;
      marks_are = ap (λ ms. m ∷ ms) rest.marks_are;
      left_is = λ i. byte i ∷ rest.left_is i;
      right_is = rest.right_is;
    }

pub spelt_then : (end : ℕ) (tokens : List Token) (spelt rest : List Mark) (pen : Pen) (fault : RleFault) → IsSpelling tokens (bytes_of spelt) → AreFine pen tokens →
    tokens_of end rest fresh (pen_behind pen tokens) ≡ Err fault → tokens_of end (spelt ++ rest) fresh pen ≡ Err fault
spelt_then end [] [] rest pen fault is fine told = told
spelt_then end [] (m ∷ spelt) rest pen fault is fine told = absurd (cc)
spelt_then end (token ∷ tokens) spelt rest pen fault is fine told =
    let first : Cut spelt is.0 (is.1 ++ is.2) = cut spelt is.0 (is.1 ++ is.2) is.3.1.1.1 in
    let second : Cut first.right is.1 is.2 = cut first.right is.1 is.2 first.right_is in
    let count : IsCount (count_of token) (bytes_of first.left) = subst (λ ds. IsCount (count_of token) ds) (sym first.left_is) is.3.0 in
    let tag : IsTag token (bytes_of second.left) = subst (λ t. IsTag token t) (sym second.left_is) is.3.1.0 in
    let more : IsSpelling tokens (bytes_of second.right) = subst (λ bs. IsSpelling tokens bs) (sym second.right_is) is.3.1.1.0 in
    let parts : spelt ++ rest ≡ first.left ++ (second.left ++ (second.right ++ rest)) =
    ap (λ ms. ms ++ rest) (first.marks_are ∙ ap (λ ms. first.left ++ ms) second.marks_are)
    ∙ append_assoc first.left (second.left ++ second.right) rest ∙ ap (λ ms. first.left ++ ms) (append_assoc second.left second.right rest) in
    ap (λ ms. tokens_of end ms fresh pen) parts
    ∙ token_read end token first.left second.left (second.right ++ rest) pen count tag
    ∙ (λ i. followed (fine_at (first_place 0 (first.left ++ (second.left ++ (second.right ++ rest)))) pen token fine.0 i) token (spelt_then end tokens second.right rest (pen_after token pen) fault more fine.1 told i))
