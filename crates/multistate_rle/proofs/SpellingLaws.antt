-- Texts that spell tokens, with any digits for their counts, are read as the tokens.
use Rattle.std.proofs.Common.{◌≡◌, ℕ, ◌+◌, ◌*◌, ◌-◌, ◌≤◌, ◌<◌, ◌^◌, true, false, List, [], ◌∷◌, ◌++◌, refl, sym, ◌∙◌, ap, arith, inl, inr, append_assoc}
use Rattle.std.specs.Prelude.{◌⊎◌, Option, Some, None, Ok, unwrap_or, ◌==◌, ◌||◌, nat_lt, nat_le}
use Rattle.std.specs.List.{list_all}
use Rattle.std.specs.Str.Parse.{digits_value_after}
use Rattle.std.specs.Char.{digit_value}
use Rattle.std.proofs.lemmas.Bool.{ne_eqb}
use Rattle.std.proofs.lemmas.Bool.Decides.{nat_tests}
use Rattle.generations_rule.specs.Refusal.{◌>>=◌}
use Rattle.multistate_rle.specs.declared.fault.RleFault.TheVariants.{State, Count, TooMany}
use Rattle.multistate_rle.specs.Role as role
use Rattle.multistate_rle.specs.Reading.{BegunValue}
use Rattle.text_scan.specs.Bytes.{is_decimal_digit}
use Rattle.multistate_rle.specs.Letters.{IsPlain, IsLetter}
use Rattle.multistate_rle.specs.Tokens.{Token, Cells, Rows, cells_drawn, count_of}
use Rattle.multistate_rle.specs.Reading.{Mark, Pen, bytes_of, bare_role, role_of, start, fresh, with_digit, with_prefix, fault_of, followed, pen_after, cells_of, tokens_ended, tokens_of, AreFine, bare, pattern_of}
use Rattle.multistate_rle.specs.Spelling.{IsCount, IsTag, IsSpelling, EndsTokens}
use Rattle.multistate_rle.specs.Laws.{ReadsSpellings}
use Rattle.text_scan.proofs.NumberLemmas.{digit_is}
use Rattle.multistate_rle.proofs.ReadLemmas.{step_is}
use Rattle.multistate_rle.proofs.PatternLaws.{and_parts, none_of_three, none_of_one}

-- ---- what bytes are

pub letter_role : (prefix : Option ℕ) (c : ℕ) → 65 ≤ c → c ≤ 88 → role_of prefix c ≡ role.State (24 * unwrap_or prefix 0 + (c - 64))
letter_role prefix c low high =
    let mark : (c == 33) ≡ false = ne_eqb c 33 (omega arith) in
    let first : nat_le 65 c ≡ true = grind (arith, nat_tests) in
    let last : nat_le c 88 ≡ true = grind (arith, nat_tests) in
    rw (mark, first, last) refl

pub no_letter : (c : ℕ) → 88 < c → role_of None c ≡ bare_role c
no_letter c high =
    let mark : (c == 33) ≡ false = ne_eqb c 33 (omega arith) in
    let first : nat_le 65 c ≡ true = grind (arith, nat_tests) in
    let last : nat_le c 88 ≡ false = grind (arith, nat_tests) in
    rw (mark, first, last) refl

pub prefix_role : (c : ℕ) → 112 ≤ c → c ≤ 121 → role_of None c ≡ role.Prefix (c - 111)
prefix_role c low high =
    let past : nat_le c 57 ≡ false = grind (arith, nat_tests) in
    let digit : nat_le 48 c ≡ true = grind (arith, nat_tests) in
    let first : nat_le 112 c ≡ true = grind (arith, nat_tests) in
    let last : nat_le c 121 ≡ true = grind (arith, nat_tests) in
    no_letter c (omega arith) ∙ rw (digit, past, first, last) refl

pub digit_role : (c : ℕ) → is_decimal_digit c ≡ true → role_of None c ≡ role.Digit (c - 48)
digit_role c digit =
    let parts = and_parts (nat_le 48 c) (nat_le c 57) digit in
    let low : 48 ≤ c = grind (arith, nat_tests, parts.0) in
    let high : c ≤ 57 = grind (arith, nat_tests, parts.1) in
    let mark : (c == 33) ≡ false = ne_eqb c 33 (omega arith) in
    let first : nat_le 65 c ≡ false = grind (arith, nat_tests) in
    rw (mark, first, digit) refl

-- ---- counts

-- what is read of a count, with digits behind it
unfoldable pub counted : Option ℕ → List ℕ → Option ℕ
counted count [] = count
counted count (c ∷ ds) = counted (Some (10 * unwrap_or count 0 + (c - 48))) ds

pub counted_is : (n : ℕ) (ds : List ℕ) → list_all is_decimal_digit ds ≡ true → counted (Some n) ds ≡ Some (digits_value_after 10 n ds)
unfolding counted
counted_is n [] digits = refl
counted_is n (c ∷ ds) digits =
    let parts = and_parts (is_decimal_digit c) (list_all is_decimal_digit ds) digits in
    let next : 10 * n + (c - 48) ≡ n * 10 + digit_value c = omega (arith, digit_is c parts.0) in
    counted_is (10 * n + (c - 48)) ds parts.1 ∙ ap (λ m. Some (digits_value_after 10 m ds)) next

pub count_is : (n : ℕ) (ds : List ℕ) → IsCount n ds → unwrap_or (counted None ds) 1 ≡ n
unfolding counted
count_is n [] is = sym is
count_is n (c ∷ ds) is =
    let parts = and_parts (is_decimal_digit c) (list_all is_decimal_digit ds) is.0 in
    let first : 10 * 0 + (c - 48) ≡ 0 * 10 + digit_value c = omega (arith, digit_is c parts.0) in
    ap (λ o. unwrap_or o 1) (counted_is (10 * 0 + (c - 48)) ds parts.1 ∙ ap (λ m. Some (digits_value_after 10 m ds)) first) ∙ is.1

pub count_digits : (n : ℕ) (ds : List ℕ) → IsCount n ds → list_all is_decimal_digit ds ≡ true
count_digits n [] is = refl
count_digits n (c ∷ ds) is = is.0

-- what is read once the digits of a count are read
record Counted (end : ℕ) (marks : List Mark) (rest : List ℕ) (count : Option ℕ) (b : BegunValue) (pen : Pen) : Type 0 where
  later : List Mark
  begun : BegunValue
  bytes : bytes_of later ≡ rest
  same : tokens_of end marks b pen ≡ tokens_of end later begun pen
  count_read : begun.count ≡ count
  no_prefix : begun.prefix ≡ None

digits_read : (end : ℕ) (ds rest : List ℕ) (marks : List Mark) (b : BegunValue) (pen : Pen) → bytes_of marks ≡ ds ++ rest → b.prefix ≡ None → list_all is_decimal_digit ds ≡ true →
    Counted end marks rest (counted b.count ds) b pen
unfolding counted
digits_read end [] rest marks b pen bytes none digits = record { later = marks; begun = b; bytes = bytes; same = refl; count_read = refl; no_prefix = none }
digits_read end (c ∷ ds) rest [] b pen bytes none digits = absurd (cc)
digits_read end (c ∷ ds) rest (m ∷ marks) b pen bytes none digits =
    let parts = and_parts (is_decimal_digit c) (list_all is_decimal_digit ds) digits in
    let byte : m.1 ≡ c = cc in
    let more : bytes_of marks ≡ ds ++ rest = cc in
    let is : role_of b.prefix m.1 ≡ role.Digit (c - 48) = (λ i. role_of (none i) (byte i)) ∙ digit_role c parts.0 in
    let next = digits_read end ds rest marks (with_digit m.0 (c - 48) b) pen more none parts.1 in
    record {
      later = next.later;
      begun = next.begun;
      bytes = next.bytes;
      same = step_is end m marks b pen (role.Digit (c - 48)) is ∙ next.same;
      count_read = next.count_read;
      no_prefix = next.no_prefix;
    }

-- ---- tags

pub fine_at : (place : ℕ) (pen : Pen) (token : Token) → fault_of 0 pen token ≡ None → fault_of place pen token ≡ None
fine_at place pen (Cells n s) none =
    let three = none_of_three (nat_lt 255 s) (n == 0 || nat_lt (2 ^ 32) (pen.column + n)) (nat_lt (2 ^ 20) (pen.cells + cells_of (Cells n s))) (State 0) (Count 0) TooMany none in
    rw (three.0, three.1, three.2) refl
fine_at place pen (Rows n) none = rw (none_of_one (n == 0 || nat_lt (2 ^ 32 - 1) (pen.row + n)) (Count 0) none) refl

-- the byte that ends a run of a state
run_ends : (end : ℕ) (m : Mark) (marks : List Mark) (b : BegunValue) (pen : Pen) (n s : ℕ) (tokens : List Token) → role_of b.prefix m.1 ≡ role.State s → unwrap_or b.count 1 ≡ n →
    fault_of 0 pen (Cells n s) ≡ None → tokens_of end marks fresh (pen_after (Cells n s) pen) ≡ Ok tokens → tokens_of end (m ∷ marks) b pen ≡ Ok (Cells n s ∷ tokens)
run_ends end m marks b pen n s tokens is count fine rest =
    step_is end m marks b pen (role.State s) is
    ∙ ap (λ k. followed (fault_of (unwrap_or b.place m.0) pen (Cells k s)) (Cells k s) (tokens_of end marks fresh (pen_after (Cells k s) pen))) count
    ∙ (λ i. followed (fine_at (unwrap_or b.place m.0) pen (Cells n s) fine i) (Cells n s) (rest i))

rows_end : (end : ℕ) (m : Mark) (marks : List Mark) (b : BegunValue) (pen : Pen) (n : ℕ) (tokens : List Token) → role_of b.prefix m.1 ≡ role.RowEnd → unwrap_or b.count 1 ≡ n →
    fault_of 0 pen (Rows n) ≡ None → tokens_of end marks fresh (pen_after (Rows n) pen) ≡ Ok tokens → tokens_of end (m ∷ marks) b pen ≡ Ok (Rows n ∷ tokens)
rows_end end m marks b pen n tokens is count fine rest =
    step_is end m marks b pen role.RowEnd is
    ∙ ap (λ k. followed (fault_of (unwrap_or b.place m.0) pen (Rows k)) (Rows k) (tokens_of end marks fresh (pen_after (Rows k) pen))) count
    ∙ (λ i. followed (fine_at (unwrap_or b.place m.0) pen (Rows n) fine i) (Rows n) (rest i))

one_byte : (end c n s : ℕ) (more : List ℕ) (marks : List Mark) (b : BegunValue) (pen : Pen) (tokens : List Token) → bytes_of marks ≡ c ∷ more → b.prefix ≡ None → role_of None c ≡ role.State s → unwrap_or b.count 1 ≡ n →
    fault_of 0 pen (Cells n s) ≡ None → ((later : List Mark) → bytes_of later ≡ more → tokens_of end later fresh (pen_after (Cells n s) pen) ≡ Ok tokens) → tokens_of end marks b pen ≡ Ok (Cells n s ∷ tokens)
one_byte end c n s more [] b pen tokens bytes none is count fine rest = absurd (cc)
one_byte end c n s more (m ∷ marks) b pen tokens bytes none is count fine rest =
    let byte : m.1 ≡ c = cc in
    let behind : bytes_of marks ≡ more = cc in
    run_ends end m marks b pen n s tokens ((λ i. role_of (none i) (byte i)) ∙ is) count fine (rest marks behind)

two_bytes : (end c d k n s : ℕ) (more : List ℕ) (marks : List Mark) (b : BegunValue) (pen : Pen) (tokens : List Token) → bytes_of marks ≡ c ∷ d ∷ more → b.prefix ≡ None →
    role_of None c ≡ role.Prefix k → role_of (Some k) d ≡ role.State s → unwrap_or b.count 1 ≡ n →
    fault_of 0 pen (Cells n s) ≡ None → ((later : List Mark) → bytes_of later ≡ more → tokens_of end later fresh (pen_after (Cells n s) pen) ≡ Ok tokens) → tokens_of end marks b pen ≡ Ok (Cells n s ∷ tokens)
two_bytes end c d k n s more [] b pen tokens bytes none prefix is count fine rest = absurd (cc)
two_bytes end c d k n s more (m ∷ []) b pen tokens bytes none prefix is count fine rest = absurd (cc)
two_bytes end c d k n s more (m ∷ l ∷ marks) b pen tokens bytes none prefix is count fine rest =
    let first : m.1 ≡ c = cc in
    let last : l.1 ≡ d = cc in
    let behind : bytes_of marks ≡ more = cc in
    step_is end m (l ∷ marks) b pen (role.Prefix k) ((λ i. role_of (none i) (first i)) ∙ prefix)
    ∙ run_ends end l marks (with_prefix m.0 k b) pen n s tokens (ap (role_of (Some k)) last ∙ is) count fine (rest marks behind)

row_byte : (end n : ℕ) (more : List ℕ) (marks : List Mark) (b : BegunValue) (pen : Pen) (tokens : List Token) → bytes_of marks ≡ 36 ∷ more → b.prefix ≡ None → unwrap_or b.count 1 ≡ n →
    fault_of 0 pen (Rows n) ≡ None → ((later : List Mark) → bytes_of later ≡ more → tokens_of end later fresh (pen_after (Rows n) pen) ≡ Ok tokens) → tokens_of end marks b pen ≡ Ok (Rows n ∷ tokens)
row_byte end n more [] b pen tokens bytes none count fine rest = absurd (cc)
row_byte end n more (m ∷ marks) b pen tokens bytes none count fine rest =
    let byte : m.1 ≡ 36 = cc in
    let behind : bytes_of marks ≡ more = cc in
    rows_end end m marks b pen n tokens (λ i. role_of (none i) (byte i)) count fine (rest marks behind)

-- a state's one byte
pub byte_role : (c s : ℕ) → IsPlain s c ⊎ IsLetter s c → role_of None c ≡ role.State s
byte_role c s (inl (inl is)) = let none : s ≡ 0 = is.0 in let dot : c ≡ 46 = is.1 in rw (none, dot) refl
byte_role c s (inl (inr (inl is))) = let none : s ≡ 0 = is.0 in let b : c ≡ 98 = is.1 in rw (none, b) refl
byte_role c s (inl (inr (inr is))) = let one : s ≡ 1 = is.0 in let o : c ≡ 111 = is.1 in rw (one, o) refl
byte_role c s (inr is) =
    let worth : 24 * 0 + (c - 64) ≡ s = omega arith in
    letter_role None c is.least is.most ∙ ap (λ t. role.State t) worth

tag_read : (end : ℕ) (token : Token) (tag more : List ℕ) (marks : List Mark) (b : BegunValue) (pen : Pen) (tokens : List Token) → IsTag token tag →
    bytes_of marks ≡ tag ++ more → b.prefix ≡ None → unwrap_or b.count 1 ≡ count_of token →
    fault_of 0 pen token ≡ None → ((later : List Mark) → bytes_of later ≡ more → tokens_of end later fresh (pen_after token pen) ≡ Ok tokens) → tokens_of end marks b pen ≡ Ok (token ∷ tokens)
tag_read end (Cells n s) [] more marks b pen tokens is bytes none count fine rest = absurd is
tag_read end (Cells n s) (c ∷ []) more marks b pen tokens is bytes none count fine rest =
    one_byte end c n s more marks b pen tokens bytes none (byte_role c s is) count fine rest
tag_read end (Cells n s) (p ∷ c ∷ []) more marks b pen tokens is bytes none count fine rest =
    two_bytes end p c (p - 111) n s more marks b pen tokens bytes none (prefix_role p is.least_prefix is.most_prefix)
    (letter_role (Some (p - 111)) c is.least is.most ∙ ap (λ t. role.State t) (sym is.state)) count fine rest
tag_read end (Cells n s) (a ∷ c ∷ d ∷ others) more marks b pen tokens is bytes none count fine rest = absurd is
tag_read end (Rows n) tag more marks b pen tokens is bytes none count fine rest =
    row_byte end n more marks b pen tokens (bytes ∙ ap (λ t. t ++ more) is) none count fine rest

-- ---- whole spellings

-- the end of a text behind digits without a tag
pub well_ended : (place : ℕ) (b : BegunValue) → b.prefix ≡ None → tokens_ended place b ≡ Ok []
well_ended place b none = rw none refl

ends_read : (end : ℕ) (tail : List ℕ) (marks : List Mark) (b : BegunValue) (pen : Pen) → bytes_of marks ≡ tail → b.prefix ≡ None → EndsTokens tail → tokens_of end marks b pen ≡ Ok []
ends_read end tail [] b pen bytes none ends = well_ended end b none
ends_read end [] (m ∷ marks) b pen bytes none ends = absurd (cc)
ends_read end (c ∷ tail) (m ∷ marks) b pen bytes none (inl mark) =
    let byte : m.1 ≡ c = cc in
    step_is end m marks b pen role.EndMark (λ i. role_of (none i) ((byte ∙ mark) i)) ∙ well_ended m.0 b none
ends_read end (c ∷ tail) (m ∷ marks) b pen bytes none (inr digit) =
    let byte : m.1 ≡ c = cc in
    let more : bytes_of marks ≡ tail = cc in
    step_is end m marks b pen (role.Digit (c - 48)) ((λ i. role_of (none i) (byte i)) ∙ digit_role c digit.0)
    ∙ ends_read end tail marks (with_digit m.0 (c - 48) b) pen more none digit.1

pub spelling_read : (end : ℕ) (tokens : List Token) (spelt tail : List ℕ) (marks : List Mark) (pen : Pen) → bytes_of marks ≡ spelt ++ tail → IsSpelling tokens spelt → EndsTokens tail → AreFine pen tokens →
    tokens_of end marks fresh pen ≡ Ok tokens
spelling_read end [] spelt tail marks pen bytes is ends fine = ends_read end tail marks fresh pen (bytes ∙ ap (λ s. s ++ tail) is) refl ends
spelling_read end (token ∷ tokens) spelt tail marks pen bytes is ends fine =
    let digits = is.0 in
    let tag = is.1 in
    let more = is.2 in
    let split : bytes_of marks ≡ digits ++ (tag ++ (more ++ tail)) = bytes ∙ ap (λ s. s ++ tail) is.3.1.1.1 ∙ append_assoc digits (tag ++ more) tail ∙ ap (λ rest. digits ++ rest) (append_assoc tag more tail) in
    let read = digits_read end digits (tag ++ (more ++ tail)) marks fresh pen split refl (count_digits (count_of token) digits is.3.0) in
    let count : unwrap_or read.begun.count 1 ≡ count_of token = ap (λ o. unwrap_or o 1) read.count_read ∙ count_is (count_of token) digits is.3.0 in
    read.same
    ∙ tag_read end token tag (more ++ tail) read.later read.begun pen tokens is.3.1.0 read.bytes read.no_prefix count fine.0
    (λ later behind. spelling_read end tokens more tail later (pen_after token pen) behind is.3.1.1.0 ends fine.1)

pub reads_spellings : ReadsSpellings
reads_spellings end origin sides lines tokens spelt tail bytes is ends fine =
    ap (λ read. (read >>= λ tokens. Ok (cells_drawn tokens 0 0)) >>= λ cells. Ok (pattern_of origin sides cells)) (spelling_read end tokens spelt tail (bare lines) start bytes is ends fine)
