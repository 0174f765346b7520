-- The bytes of tokens spell tokens that are not faulty, up to their end or up to a faulty one.
use Rattle.std.proofs.Common.{◌≡◌, ◌⊎◌, ℕ, ◌+◌, ◌-◌, ◌*◌, Bool, true, false, List, [], ◌∷◌, ◌++◌, refl, sym, ◌∙◌, ap, arith, inl, inr, subst, append_assoc}
use Rattle.std.specs.Prelude.{Option, Some, None, Ok, Err, ◌==◌, nat_le}
use Rattle.std.specs.List.{list_all}
use Rattle.std.specs.Str.Parse.{digits_value}
use Rattle.std.proofs.lemmas.List.{map-append}
use Rattle.std.proofs.lemmas.List.Folds.{list_all-append}
use Rattle.std.proofs.lemmas.Bool.{eqb-true}
use Rattle.std.proofs.lemmas.Bool.Decides.{nat_tests}
use Rattle.multistate_rle.specs.declared.fault.RleFault.{RleFault}
use Rattle.multistate_rle.specs.declared.fault.RleFault.TheVariants.{Tag}
use Rattle.text_scan.specs.Bytes.{is_decimal_digit}
use Rattle.multistate_rle.specs.Letters.{IsLetter, IsPrefixed}
use Rattle.multistate_rle.specs.Tokens.{Token, Cells, Rows, count_of}
use Rattle.multistate_rle.specs.Reading.{Mark, Pen, fresh, pen_after, fault_of, followed, is_prefix_byte, is_letter, tokens_of, bytes_of, AreFine}
use Rattle.multistate_rle.specs.Spelling.{IsCount, IsTag, IsSpelling, EndsTokens}
use Rattle.multistate_rle.specs.Faulty.{pen_behind, first_place, lacks_letter, BeginsFaulty}
use Rattle.multistate_rle.proofs.PatternLaws.{and_parts, fine_anywhere}
use Rattle.multistate_rle.proofs.SpellingLaws.{spelling_read}
use Rattle.multistate_rle.proofs.FaultLaws.{token_read, fault_told}

-- what is read of bytes, and what they spell
pub record Reads (end : ℕ) (marks : List Mark) (pen : Pen) : Type 0 where
  pub tokens : List Token
  pub spelt : List ℕ
  pub tail : List ℕ
  pub is : tokens_of end marks fresh pen ≡ Ok tokens
  pub bytes_are : bytes_of marks ≡ spelt ++ tail
  pub spelling : IsSpelling tokens spelt
  pub tail_is : EndsTokens tail
  pub fine : AreFine pen tokens

-- what they are refused for, and what they spell in front of it
pub record Refuses (end : ℕ) (marks : List Mark) (pen : Pen) : Type 0 where
  pub fault : RleFault
  pub tokens : List Token
  pub spelt : List Mark
  pub faulty : List Mark
  pub is : tokens_of end marks fresh pen ≡ Err fault
  pub marks_are : marks ≡ spelt ++ faulty
  pub spelling : IsSpelling tokens (bytes_of spelt)
  pub fine : AreFine pen tokens
  pub fault_is : BeginsFaulty end (pen_behind pen tokens) faulty fault

abbrev pub Decided : ℕ → List Mark → Pen → Type 0
Decided end marks pen = Reads end marks pen ⊎ Refuses end marks pen

-- ---- the ends

ends_here : (end : ℕ) (marks : List Mark) (pen : Pen) → EndsTokens (bytes_of marks) → Decided end marks pen
ends_here end marks pen ends = inl (record {
  tokens = [];
  spelt = [];
  tail = bytes_of marks;
  is = spelling_read end [] [] (bytes_of marks) marks pen refl refl ends tt;
  bytes_are = refl;
  spelling = refl;
  tail_is = ends;
  fine = tt;
})

fails_here : (end : ℕ) (marks : List Mark) (pen : Pen) (fault : RleFault) → BeginsFaulty end pen marks fault → Decided end marks pen
fails_here end marks pen fault ill = inr (record {
  fault = fault;
  tokens = [];
  spelt = [];
  faulty = marks;
  is = fault_told end marks pen fault ill;
  marks_are = refl;
  spelling = refl;
  fine = tt;
  fault_is = ill;
})

digits_end : (digits rest : List ℕ) → list_all is_decimal_digit digits ≡ true → EndsTokens rest → EndsTokens (digits ++ rest)
digits_end [] rest all ends = ends
digits_end (c ∷ digits) rest all ends =
    let parts = and_parts (is_decimal_digit c) (list_all is_decimal_digit digits) all in
    inr (parts.0, digits_end digits rest parts.1 ends)

-- ---- a token and what follows it

bytes_of_parts : (digits tag rest : List Mark) → bytes_of (digits ++ (tag ++ rest)) ≡ bytes_of digits ++ (bytes_of tag ++ bytes_of rest)
bytes_of_parts digits tag rest =
    map-append (λ (m : Mark). m.1) digits (tag ++ rest) ∙ ap (λ bytes. bytes_of digits ++ bytes) (map-append (λ (m : Mark). m.1) tag rest)

regrouped : {A : Type 0} (a b c d : List A) → a ++ (b ++ (c ++ d)) ≡ (a ++ (b ++ c)) ++ d
regrouped a b c d = sym (append_assoc a (b ++ c) d ∙ ap (λ x. a ++ x) (append_assoc b c d))

token_then : (end : ℕ) (token : Token) (digits tag rest : List Mark) (pen : Pen) (found : Option RleFault) → IsCount (count_of token) (bytes_of digits) → IsTag token (bytes_of tag) →
    fault_of (first_place 0 (digits ++ (tag ++ rest))) pen token ≡ found → Decided end rest (pen_after token pen) → Decided end (digits ++ (tag ++ rest)) pen
token_then end token digits tag rest pen (Some fault) count tag_is ill later =
    fails_here end (digits ++ (tag ++ rest)) pen fault (inr (inr (record { token = token; digits = digits; tag = tag; rest = rest; marks_are = refl; count_is = count; tag_is = tag_is; fault_is = ill })))
token_then end token digits tag rest pen None count tag_is none (inl later) = inl (record {
  tokens = token ∷ later.tokens;
  spelt = bytes_of digits ++ (bytes_of tag ++ later.spelt);
  tail = later.tail;
  is = token_read end token digits tag rest pen count tag_is ∙ (λ i. followed (none i) token (later.is i));
  bytes_are = bytes_of_parts digits tag rest ∙ ap (λ bytes. bytes_of digits ++ (bytes_of tag ++ bytes)) later.bytes_are ∙ regrouped (bytes_of digits) (bytes_of tag) later.spelt later.tail;
  spelling = (bytes_of digits, bytes_of tag, later.spelt, (count, (tag_is, (later.spelling, refl))));
  tail_is = later.tail_is;
  fine = (fine_anywhere (first_place 0 (digits ++ (tag ++ rest))) pen token none, later.fine);
})
token_then end token digits tag rest pen None count tag_is none (inr later) = inr (record {
  fault = later.fault;
  tokens = token ∷ later.tokens;
  spelt = digits ++ (tag ++ later.spelt);
  faulty = later.faulty;
  is = token_read end token digits tag rest pen count tag_is ∙ (λ i. followed (none i) token (later.is i));
  marks_are = ap (λ ms. digits ++ (tag ++ ms)) later.marks_are ∙ regrouped digits tag later.spelt later.faulty;
  spelling = (bytes_of digits, bytes_of tag, bytes_of later.spelt, (count, (tag_is, (later.spelling, bytes_of_parts digits tag later.spelt))));
  fine = (fine_anywhere (first_place 0 (digits ++ (tag ++ rest))) pen token none, later.fine);
  fault_is = later.fault_is;
})

-- the count that digits write
counted : List ℕ → ℕ
counted [] = 1
counted (c ∷ digits) = digits_value 10 (c ∷ digits)

counts : (digits : List ℕ) → list_all is_decimal_digit digits ≡ true → IsCount (counted digits) digits
unfolding counted
counts [] all = refl
counts (c ∷ digits) all = (all, refl)

-- a token, by its digits
run_then : (end s : ℕ) (digits tag rest : List Mark) (pen : Pen) → list_all is_decimal_digit (bytes_of digits) ≡ true → IsTag (Cells 1 s) (bytes_of tag) →
    ((pen : Pen) → Decided end rest pen) → Decided end (digits ++ (tag ++ rest)) pen
run_then end s digits tag rest pen all tag_is later =
    let token = Cells (counted (bytes_of digits)) s in
    token_then end token digits tag rest pen (fault_of (first_place 0 (digits ++ (tag ++ rest))) pen token) (counts (bytes_of digits) all) tag_is refl (later (pen_after token pen))

rows_then : (end : ℕ) (digits : List Mark) (m : Mark) (rest : List Mark) (pen : Pen) → list_all is_decimal_digit (bytes_of digits) ≡ true → m.1 ≡ 36 →
    ((pen : Pen) → Decided end rest pen) → Decided end (digits ++ m ∷ rest) pen
rows_then end digits m rest pen all is later =
    let token = Rows (counted (bytes_of digits)) in
    token_then end token digits (m ∷ []) rest pen (fault_of (first_place 0 (digits ++ m ∷ rest)) pen token) (counts (bytes_of digits) all) (ap (λ c. c ∷ []) is) refl (later (pen_after token pen))

-- ---- byte by byte

letter_is : (c : ℕ) → is_letter c ≡ true → IsLetter (c - 64) c
letter_is c is =
    let parts = and_parts (nat_le 65 c) (nat_le c 88) is in
    record { least = grind (arith, nat_tests, parts.0); most = grind (arith, nat_tests, parts.1); state = refl }

prefixed_is : (p c : ℕ) → is_prefix_byte p ≡ true → is_letter c ≡ true → IsPrefixed (24 * (p - 111) + (c - 64)) p c
prefixed_is p c prefixes letters =
    let first = and_parts (nat_le 112 p) (nat_le p 121) prefixes in
    let second = and_parts (nat_le 65 c) (nat_le c 88) letters in
    record {
      least_prefix = grind (arith, nat_tests, first.0);
      most_prefix = grind (arith, nat_tests, first.1);
      least = grind (arith, nat_tests, second.0);
      most = grind (arith, nat_tests, second.1);
      state = refl;
    }

-- behind digits and a prefix
behind_prefix : (end : ℕ) (digits : List Mark) (p : Mark) (marks : List Mark) (pen : Pen) → list_all is_decimal_digit (bytes_of digits) ≡ true → is_prefix_byte p.1 ≡ true → lacks_letter marks ≡ true → Decided end (digits ++ p ∷ marks) pen
behind_prefix end digits p marks pen all prefixes none =
    fails_here end (digits ++ p ∷ marks) pen (Tag (first_place end marks))
    (inr (inl (record { digits = digits; prefix = p; rest = marks; marks_are = refl; all_digits = all; prefixes = prefixes; no_letter = none; fault_is = refl })))

-- what is read of bytes behind digits, and perhaps a prefix
abbrev seen : List Mark → Option Mark → List Mark → List Mark
seen digits None marks = digits ++ marks
seen digits (Some p) marks = digits ++ p ∷ marks

abbrev IsSeen : List Mark → Option Mark → Type 0
IsSeen digits None = list_all is_decimal_digit (bytes_of digits) ≡ true
IsSeen digits (Some p) = (list_all is_decimal_digit (bytes_of digits) ≡ true) × (is_prefix_byte p.1 ≡ true)

more_digits : (digits : List Mark) (m : Mark) → list_all is_decimal_digit (bytes_of digits) ≡ true → is_decimal_digit m.1 ≡ true → list_all is_decimal_digit (bytes_of (digits ++ m ∷ [])) ≡ true
more_digits digits m all digit =
    ap (list_all is_decimal_digit) (map-append (λ (m : Mark). m.1) digits (m ∷ []))
    ∙ list_all-append is_decimal_digit (bytes_of digits) (m.1 ∷ []) ∙ rw (all, digit) refl

abbrev Later : ℕ → List Mark → Type 0
Later end marks = (digits : List Mark) (prefix : Option Mark) (pen : Pen) → IsSeen digits prefix → Decided end (seen digits prefix marks) pen

next : (end : ℕ) (marks : List Mark) → Later end marks → (pen : Pen) → Decided end marks pen
next end marks later pen = later [] None pen refl

by_kind : (end : ℕ) (digits : List Mark) (m : Mark) (marks : List Mark) (pen : Pen) (digit letter prefix dot b o dollar mark : Bool) →
    is_decimal_digit m.1 ≡ digit → is_letter m.1 ≡ letter → is_prefix_byte m.1 ≡ prefix → (m.1 == 46) ≡ dot → (m.1 == 98) ≡ b → (m.1 == 111) ≡ o → (m.1 == 36) ≡ dollar → (m.1 == 33) ≡ mark →
    list_all is_decimal_digit (bytes_of digits) ≡ true → Later end marks → Decided end (digits ++ m ∷ marks) pen
by_kind end digits m marks pen true l p d b o r x e1 e2 e3 e4 e5 e6 e7 e8 all later =
    subst (λ ms. Decided end ms pen) (append_assoc digits (m ∷ []) marks) (later (digits ++ m ∷ []) None pen (more_digits digits m all e1))
by_kind end digits m marks pen false true p d b o r x e1 e2 e3 e4 e5 e6 e7 e8 all later =
    run_then end (m.1 - 64) digits (m ∷ []) marks pen all (inr (letter_is m.1 e2)) (next end marks later)
by_kind end digits m marks pen false false true d b o r x e1 e2 e3 e4 e5 e6 e7 e8 all later = later digits (Some m) pen (all, e3)
by_kind end digits m marks pen false false false true b o r x e1 e2 e3 e4 e5 e6 e7 e8 all later =
    run_then end 0 digits (m ∷ []) marks pen all (inl (inl (refl, eqb-true m.1 46 e4))) (next end marks later)
by_kind end digits m marks pen false false false false true o r x e1 e2 e3 e4 e5 e6 e7 e8 all later =
    run_then end 0 digits (m ∷ []) marks pen all (inl (inr (inl (refl, eqb-true m.1 98 e5)))) (next end marks later)
by_kind end digits m marks pen false false false false false true r x e1 e2 e3 e4 e5 e6 e7 e8 all later =
    run_then end 1 digits (m ∷ []) marks pen all (inl (inr (inr (refl, eqb-true m.1 111 e6)))) (next end marks later)
by_kind end digits m marks pen false false false false false false true x e1 e2 e3 e4 e5 e6 e7 e8 all later =
    rows_then end digits m marks pen all (eqb-true m.1 36 e7) (next end marks later)
by_kind end digits m marks pen false false false false false false false true e1 e2 e3 e4 e5 e6 e7 e8 all later =
    ends_here end (digits ++ m ∷ marks) pen
    (subst (λ bytes. EndsTokens bytes) (sym (map-append (λ (m : Mark). m.1) digits (m ∷ marks))) (digits_end (bytes_of digits) (bytes_of (m ∷ marks)) all (inl (eqb-true m.1 33 e8))))
by_kind end digits m marks pen false false false false false false false false e1 e2 e3 e4 e5 e6 e7 e8 all later =
    fails_here end (digits ++ m ∷ marks) pen (Tag m.0)
    (inl (record { digits = digits; stray = m; rest = marks; marks_are = refl; all_digits = all; stands_nowhere = rw (e1, e2, e3, e4, e5, e6, e7, e8) refl; fault_is = refl }))

by_letter : (end : ℕ) (digits : List Mark) (p m : Mark) (marks : List Mark) (pen : Pen) (letter : Bool) → is_letter m.1 ≡ letter → list_all is_decimal_digit (bytes_of digits) ≡ true → is_prefix_byte p.1 ≡ true → Later end marks →
    Decided end (digits ++ p ∷ m ∷ marks) pen
by_letter end digits p m marks pen true e all prefixes later =
    run_then end (24 * (p.1 - 111) + (m.1 - 64)) digits (p ∷ m ∷ []) marks pen all (prefixed_is p.1 m.1 prefixes e) (next end marks later)
by_letter end digits p m marks pen false e all prefixes later = behind_prefix end digits p (m ∷ marks) pen all prefixes (rw e refl)

decided_behind : (end : ℕ) (marks digits : List Mark) (prefix : Option Mark) (pen : Pen) → IsSeen digits prefix → Decided end (seen digits prefix marks) pen
decided_behind end [] digits None pen all =
    ends_here end (digits ++ []) pen (subst (λ bytes. EndsTokens bytes) (sym (map-append (λ (m : Mark). m.1) digits [])) (digits_end (bytes_of digits) [] all tt))
decided_behind end [] digits (Some p) pen is = behind_prefix end digits p [] pen is.0 is.1 refl
decided_behind end (m ∷ marks) digits None pen all =
    by_kind end digits m marks pen (is_decimal_digit m.1) (is_letter m.1) (is_prefix_byte m.1) (m.1 == 46) (m.1 == 98) (m.1 == 111) (m.1 == 36) (m.1 == 33) refl refl refl refl refl refl refl refl all
    (λ digits prefix pen is. decided_behind end marks digits prefix pen is)
decided_behind end (m ∷ marks) digits (Some p) pen is =
    by_letter end digits p m marks pen (is_letter m.1) refl is.0 is.1 (λ digits prefix pen is. decided_behind end marks digits prefix pen is)

-- Any bytes are read as the tokens that they spell, or refused for the first faulty one.
pub decided : (end : ℕ) (marks : List Mark) (pen : Pen) → Decided end marks pen
decided end marks pen = decided_behind end marks [] None pen refl
