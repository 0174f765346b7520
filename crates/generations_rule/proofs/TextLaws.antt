-- What rule texts obey: what is accepted is a rule, and a printed rule is short and read back.
use Rattle.std.proofs.Common.{◌≡◌, ℕ, ◌+◌, ◌≤◌, ◌<◌, Bool, true, false, List, [], ◌∷◌, ◌++◌, refl, sym, ◌∙◌, ap, arith, map, length, cond, append_assoc, length-append}
use Rattle.std.specs.Prelude.{◌||◌, ◌&&◌, not, filter, ◌==◌, Option, Some, None, Ok, position, count_by, option_map, decimal, IfOk}
use Rattle.std.specs.List.{list_any, before_first, after_first}
use Rattle.std.specs.Char.{digit_value}
use Rattle.std.specs.Str.Parse.{digits_value, AllDigits}
use Rattle.std.proofs.lemmas.Fmt.{decimal_is_IsNumeral, length-decimal-le}
use Rattle.std.proofs.lemmas.Bool.Decides.{nat_tests}
use Rattle.std.proofs.lemmas.List.{length-map}
use Rattle.std.proofs.lemmas.List.Sums.{length-filter, count_by-le-length}
use Rattle.std.proofs.lemmas.List.Elements.{filter-append}
use borrow.Author.Tests.{eqb-true}
use Rattle.generations_rule.specs.Refusal.{when, first_of, unless}
use Rattle.generations_rule.specs.Rule.{IsRule, has}
use Rattle.generations_rule.specs.RuleText.{slash, is_slash, glyph, counts, is_misfit, misfit_at, text_of_set, set_of, survival_part, birth_part, states_part, rule_of_text, fault_of_text, is_number_of_states, parsed, AcceptsOnlyRules, ReadsBack, HasShortText}
use Rattle.generations_rule.specs.declared.fault.RuleFault.{RuleFault}
use Rattle.generations_rule.specs.declared.fault.RuleFault.TheVariants.{Slashes, Digit, States}
use Rattle.generations_rule.proofs.PartLemmas.{both, position-none, list_any-none, before_slash, behind_slash}

-- ---- what is accepted

-- what was answered was not refused
pub unless-Ok : {A F : Type 0} (o : Option F) (a x : A) → unless o a ≡ Ok x → (o ≡ None) × (a ≡ x)
unless-Ok None a x e = (refl, cc)
unless-Ok (Some f) a x e = absurd (cc)

-- a text without a fault has none of the five
record AreNone {F : Type 0} (slashes survival birth states number : Option F) : Type 0 where
  slashes_none : slashes ≡ None
  survival_none : survival ≡ None
  birth_none : birth ≡ None
  states_none : states ≡ None
  number_none : number ≡ None

none_of : {F : Type 0} (a b c d e : Option F) → first_of (a ∷ b ∷ c ∷ d ∷ e ∷ []) ≡ None → AreNone a b c d e
none_of None None None None None h = record { slashes_none = refl; survival_none = refl; birth_none = refl; states_none = refl; number_none = refl }
none_of (Some f) b c d e h = absurd (cc)
none_of None (Some f) c d e h = absurd (cc)
none_of None None (Some f) d e h = absurd (cc)
none_of None None None (Some f) e h = absurd (cc)
none_of None None None None (Some f) h = absurd (cc)

when-None : {F : Type 0} (b : Bool) (f : F) → when (not b) f ≡ None → b ≡ true
when-None true f e = refl
when-None false f e = absurd (cc)

second_none : {F : Type 0} (check : Option F) (b : Bool) (f : F) → first_of (check ∷ when (not b) f ∷ []) ≡ None → b ≡ true
second_none None true f e = refl
second_none None false f e = absurd (cc)
second_none (Some g) b f e = absurd (cc)

pub no_misfit : (start least most : ℕ) (part : List ℕ) → misfit_at start least most part ≡ None → position (is_misfit least most) part ≡ None
no_misfit start least most part e = go (position (is_misfit least most) part) e where
  go : (o : Option ℕ) → option_map (λ i. Digit (start + i)) o ≡ None → o ≡ None
  go None e = refl
  go (Some i) e = absurd (cc)

-- a byte that is no misfit is a digit
pub within_digits : (least most byte : ℕ) → is_misfit least most byte ≡ false → (glyph least ≤ byte) × (byte ≤ glyph most)
within_digits least most byte fits = (grind (arith, nat_tests), grind (arith, nat_tests))

-- a part of digits from 1 on has no 0
no_zero : (x : ℕ) → is_misfit 1 8 x ≡ false → (x == glyph 0) ≡ false
no_zero x fits = grind (arith, nat_tests)

pub no_birth : (part : List ℕ) → list_any (is_misfit 1 8) part ≡ false → has (set_of part) 0 ≡ false
no_birth [] fits = refl
no_birth (x ∷ part) fits =
    let fails = both (is_misfit 1 8 x) (list_any (is_misfit 1 8) part) fits in
    rw (no_zero x fails.0) (no_birth part fails.1)

-- the bounds that the test of a number of states stands for
pub record IsInBounds (part : List ℕ) : Type 0 where
  pub digits : length part ≤ 3
  pub least : 2 ≤ digits_value 10 part
  pub most : digits_value 10 part ≤ 256

pub in_bounds : (part : List ℕ) → is_number_of_states part ≡ true → IsInBounds part
in_bounds part h = record { digits = grind (arith, nat_tests); least = grind (arith, nat_tests); most = grind (arith, nat_tests) }

-- the parts that a text's parser keeps make a rule
pub rule_of_parts : (survival birth states : List ℕ) (birth_start states_start : ℕ) (s b : List Bool) (n : ℕ) →
    Ok s ≡ unless (misfit_at 0 0 8 survival) (set_of survival) →
    Ok b ≡ unless (misfit_at birth_start 1 8 birth) (set_of birth) →
    Ok n ≡ unless (first_of (misfit_at states_start 0 9 states ∷ when (not (is_number_of_states states)) States ∷ [])) (digits_value 10 states) →
    IsRule (record { survival = s; birth = b; states = n })
rule_of_parts survival birth states birth_start states_start s b n survives born number =
    let survival_read : (misfit_at 0 0 8 survival ≡ None) × (set_of survival ≡ s) = unless-Ok _ _ _ (sym survives) in
    let birth_read : (misfit_at birth_start 1 8 birth ≡ None) × (set_of birth ≡ b) = unless-Ok _ _ _ (sym born) in
    let number_read = unless-Ok _ _ _ (sym number) in
    let number_test : is_number_of_states states ≡ true = second_none (misfit_at states_start 0 9 states) (is_number_of_states states) States number_read.0 in
    let bounds : IsInBounds states = in_bounds states number_test in
    let fits : list_any (is_misfit 1 8) birth ≡ false = list_any-none (is_misfit 1 8) birth (no_misfit birth_start 1 8 birth birth_read.0) in
    record {
      survival = ap length (sym survival_read.1);
      birth = ap length (sym birth_read.1);
      no_birth_on_none = ap (λ set. has set 0) (sym birth_read.1) ∙ no_birth birth fits;
      least = omega (arith, number_read.1, bounds.least);
      most = omega (arith, number_read.1, bounds.most);
    }

accepted : (text : List ℕ) (o : Option RuleFault) → fault_of_text text ≡ o → IfOk (unless o (rule_of_text text)) (λ r. IsRule r)
accepted text (Some fault) e = tt
accepted text None e =
    let none = none_of
    (when (not (count_by is_slash text == 2)) Slashes)
    (misfit_at 0 0 8 (survival_part text))
    (misfit_at (length (survival_part text) + 1) 1 8 (birth_part text))
    (misfit_at (length (survival_part text) + length (birth_part text) + 2) 0 9 (states_part text))
    (when (not (is_number_of_states (states_part text))) States) e in
    let birth : position (is_misfit 1 8) (birth_part text) ≡ None = no_misfit (length (survival_part text) + 1) 1 8 (birth_part text) none.birth_none in
    let bounds : IsInBounds (states_part text) = in_bounds (states_part text) (when-None (is_number_of_states (states_part text)) States none.number_none) in
    record {
      survival = refl;
      birth = refl;
      no_birth_on_none = no_birth (birth_part text) (list_any-none (is_misfit 1 8) (birth_part text) birth);
      least = bounds.least;
      most = bounds.most;
    }

pub accepts_only_rules : AcceptsOnlyRules
accepts_only_rules text = accepted text (fault_of_text text) refl

-- ---- what is printed

-- a test that fails at each digit fails along the text of a set
kept_fails : (p : ℕ → Bool) (n : ℕ) (ns : List ℕ) (kept : Bool) → p (glyph n) ≡ false → list_any p (map glyph ns) ≡ false →
    list_any p (map glyph (cond kept (n ∷ ns) ns)) ≡ false
kept_fails p n ns true fails rest = rw fails rest
kept_fails p n ns false fails rest = rest

digits_fail : (p q : ℕ → Bool) (ns : List ℕ) → list_any (λ n. p (glyph n)) ns ≡ false → list_any p (map glyph (filter q ns)) ≡ false
digits_fail p q [] none = refl
digits_fail p q (n ∷ ns) none =
    let fails = both (p (glyph n)) (list_any (λ m. p (glyph m)) ns) none in
    kept_fails p n (filter q ns) (q n) fails.0 (digits_fail p q ns fails.1)

-- a digit stands in the text of a set exactly where its count is in the set
same_glyph : (m n : ℕ) → (glyph m == glyph n) ≡ (m == n)
same_glyph m n = grind (arith, nat_tests)

picked : (same any kept there : Bool) → (same ≡ true → kept ≡ there) → cond kept (same || (any && there)) (any && there) ≡ ((same || any) && there)
picked true any true true h = refl
picked true any true false h = absurd (let e : true ≡ false = h refl in cc)
picked true any false true h = absurd (let e : false ≡ true = h refl in cc)
picked true true false false h = refl
picked true false false false h = refl
picked false any true there h = refl
picked false any false there h = refl

kept_digit : (m n : ℕ) (ms : List ℕ) (kept : Bool) →
    list_any (λ byte. byte == glyph n) (map glyph (cond kept (m ∷ ms) ms))
    ≡ cond kept ((m == n) || list_any (λ byte. byte == glyph n) (map glyph ms)) (list_any (λ byte. byte == glyph n) (map glyph ms))
kept_digit m n ms true = rw (same_glyph m n) refl
kept_digit m n ms false = refl

has_digit : (q : ℕ → Bool) (n : ℕ) (ms : List ℕ) →
    list_any (λ byte. byte == glyph n) (map glyph (filter q ms)) ≡ (list_any (λ m. m == n) ms && q n)
has_digit q n [] = refl
has_digit q n (m ∷ ms) =
    kept_digit m n (filter q ms) (q m)
    ∙ ap (λ rest. cond (q m) ((m == n) || rest) rest) (has_digit q n ms)
    ∙ picked (m == n) (list_any (λ k. k == n) ms) (q m) (q n) (λ same. ap q (eqb-true m n same))

-- nine tests are told by their nine answers
nine : (set : List Bool) → length set ≡ 9 → map (has set) counts ≡ set
nine [] e = absurd (cc)
nine (a ∷ []) e = absurd (cc)
nine (a ∷ b ∷ []) e = absurd (cc)
nine (a ∷ b ∷ c ∷ []) e = absurd (cc)
nine (a ∷ b ∷ c ∷ d ∷ []) e = absurd (cc)
nine (a ∷ b ∷ c ∷ d ∷ f ∷ []) e = absurd (cc)
nine (a ∷ b ∷ c ∷ d ∷ f ∷ g ∷ []) e = absurd (cc)
nine (a ∷ b ∷ c ∷ d ∷ f ∷ g ∷ h ∷ []) e = absurd (cc)
nine (a ∷ b ∷ c ∷ d ∷ f ∷ g ∷ h ∷ i ∷ []) e = absurd (cc)
nine (a ∷ b ∷ c ∷ d ∷ f ∷ g ∷ h ∷ i ∷ j ∷ []) e = refl
nine (a ∷ b ∷ c ∷ d ∷ f ∷ g ∷ h ∷ i ∷ j ∷ k ∷ more) e = absurd (omega (arith, e))

set_read_back : (set : List Bool) → length set ≡ 9 → set_of (text_of_set set) ≡ set
unfolding text_of_set
set_read_back set e =
    (λ i. has_digit (has set) 0 counts i ∷ has_digit (has set) 1 counts i ∷ has_digit (has set) 2 counts i
    ∷ has_digit (has set) 3 counts i ∷ has_digit (has set) 4 counts i ∷ has_digit (has set) 5 counts i
    ∷ has_digit (has set) 6 counts i ∷ has_digit (has set) 7 counts i ∷ has_digit (has set) 8 counts i ∷ [])
    ∙ nine set e

set_no_slash : (set : List Bool) → list_any is_slash (text_of_set set) ≡ false
unfolding text_of_set
set_no_slash set = digits_fail is_slash (has set) counts refl

set_fits : (set : List Bool) → list_any (is_misfit 0 8) (text_of_set set) ≡ false
unfolding text_of_set
set_fits set = digits_fail (is_misfit 0 8) (has set) counts refl

-- the text of a set that lacks 0 begins at 1
from_one : List ℕ
from_one = 1 ∷ 2 ∷ 3 ∷ 4 ∷ 5 ∷ 6 ∷ 7 ∷ 8 ∷ []

without_zero : (set : List Bool) → has set 0 ≡ false → text_of_set set ≡ map glyph (filter (has set) from_one)
unfolding text_of_set from_one
without_zero set none = ap (λ b. map glyph (cond b (0 ∷ filter (has set) from_one) (filter (has set) from_one))) none

birth_fits : (set : List Bool) → has set 0 ≡ false → list_any (is_misfit 1 8) (text_of_set set) ≡ false
unfolding from_one
birth_fits set none = rw (without_zero set none) (digits_fail (is_misfit 1 8) (has set) from_one refl)

-- decimal digits are digits, and none is a slash
digit_fits : (d : ℕ) → digit_value d < 10 → is_misfit 0 9 d ≡ false
digit_fits d small = grind (arith, nat_tests)

digits_fit : (ds : List ℕ) → AllDigits 10 ds → list_any (is_misfit 0 9) ds ≡ false
digits_fit [] all = refl
digits_fit (d ∷ ds) all = rw (digit_fits d all.0) (digits_fit ds all.1)

no_slash_among : (d : ℕ) → is_misfit 0 9 d ≡ false → is_slash d ≡ false
no_slash_among d fits = grind (arith, nat_tests)

digits_no_slash : (ds : List ℕ) → list_any (is_misfit 0 9) ds ≡ false → list_any is_slash ds ≡ false
digits_no_slash [] all = refl
digits_no_slash (d ∷ ds) all =
    let fails = both (is_misfit 0 9 d) (list_any (is_misfit 0 9) ds) all in
    rw (no_slash_among d fails.0) (digits_no_slash ds fails.1)

-- ---- slashes

filter_none : (xs : List ℕ) → list_any is_slash xs ≡ false → filter is_slash xs ≡ []
filter_none [] none = refl
filter_none (x ∷ xs) none =
    let fails = both (is_slash x) (list_any is_slash xs) none in
    rw fails.0 (filter_none xs fails.1)

-- three parts without slashes have two slashes between them
record IsCut (text s b n : List ℕ) : Type 0 where
  slashes : count_by is_slash text ≡ 2
  survival : survival_part text ≡ s
  birth : birth_part text ≡ b
  states : states_part text ≡ n

joined : List ℕ → List ℕ → List ℕ → List ℕ
joined survival birth states = survival ++ slash ∷ (birth ++ slash ∷ states)

cut_again : (survival birth states : List ℕ) → list_any is_slash survival ≡ false → list_any is_slash birth ≡ false → list_any is_slash states ≡ false →
    IsCut (joined survival birth states) survival birth states
unfolding joined
cut_again s b n none_in_s none_in_b none_in_n =
    let behind : after_first is_slash (s ++ slash ∷ (b ++ slash ∷ n)) ≡ b ++ slash ∷ n = behind_slash s (b ++ slash ∷ n) none_in_s in
    record {
      slashes = sym (length-filter is_slash (s ++ slash ∷ (b ++ slash ∷ n))) ∙ ap length (
          filter-append is_slash s (slash ∷ (b ++ slash ∷ n))
          ∙ ap (λ front. front ++ filter is_slash (slash ∷ (b ++ slash ∷ n))) (filter_none s none_in_s)
          ∙ ap (λ rest. slash ∷ rest) (filter-append is_slash b (slash ∷ n) ∙ ap (λ front. front ++ slash ∷ filter is_slash n) (filter_none b none_in_b) ∙ ap (λ rest. slash ∷ rest) (filter_none n none_in_n)));
      survival = before_slash s (b ++ slash ∷ n) none_in_s;
      birth = ap (before_first is_slash) behind ∙ before_slash b n none_in_b;
      states = ap (after_first is_slash) behind ∙ behind_slash b n none_in_b;
    }

-- ---- both ways

all_none : {A F : Type 0} (a b c d e : Option F) (value : A) → AreNone a b c d e → unless (first_of (a ∷ b ∷ c ∷ d ∷ e ∷ [])) value ≡ Ok value
all_none a b c d e value none = rw (none.slashes_none, none.survival_none, none.birth_none, none.states_none, none.number_none) refl

-- parts that fit are read
record AreParts (s b n : List ℕ) : Type 0 where
  survival_fits : position (is_misfit 0 8) s ≡ None
  birth_fits : position (is_misfit 1 8) b ≡ None
  states_fit : position (is_misfit 0 9) n ≡ None
  number : is_number_of_states n ≡ true

misfit_none : (start least most : ℕ) (part fit : List ℕ) → part ≡ fit → position (is_misfit least most) fit ≡ None → misfit_at start least most part ≡ None
misfit_none start least most part fit same none = ap (misfit_at start least most) same ∙ ap (option_map (λ i. Digit (start + i))) none

reads : (text s b n : List ℕ) → IsCut text s b n → AreParts s b n →
    parsed text ≡ Ok (record { survival = set_of s; birth = set_of b; states = digits_value 10 n })
reads text s b n cut parts =
    all_none
    (when (not (count_by is_slash text == 2)) Slashes)
    (misfit_at 0 0 8 (survival_part text))
    (misfit_at (length (survival_part text) + 1) 1 8 (birth_part text))
    (misfit_at (length (survival_part text) + length (birth_part text) + 2) 0 9 (states_part text))
    (when (not (is_number_of_states (states_part text))) States)
    (rule_of_text text)
    (record {
      slashes_none = ap (λ count. when (not (count == 2)) Slashes) cut.slashes;
      survival_none = misfit_none 0 0 8 (survival_part text) s cut.survival parts.survival_fits;
      birth_none = misfit_none (length (survival_part text) + 1) 1 8 (birth_part text) b cut.birth parts.birth_fits;
      states_none = misfit_none (length (survival_part text) + length (birth_part text) + 2) 0 9 (states_part text) n cut.states parts.states_fit;
      number_none = ap (λ part. when (not (is_number_of_states part)) States) cut.states ∙ ap (λ b. when (not b) States) parts.number;
    })
    ∙ (λ i. Ok (record { survival = set_of (cut.survival i); birth = set_of (cut.birth i); states = digits_value 10 (cut.states i) }))

-- what is printed of a number of states
record IsPrinted (n : ℕ) (digits : List ℕ) : Type 0 where
  value : digits_value 10 digits ≡ n
  fits : list_any (is_misfit 0 9) digits ≡ false
  some : 1 ≤ length digits
  few : length digits ≤ 3

printed : (n : ℕ) → n ≤ 256 → IsPrinted n (decimal n)
printed n most =
    let numeral = decimal_is_IsNumeral n (omega arith) in
    record {
      value = numeral.1;
      fits = digits_fit (decimal n) numeral.0.1;
      some = numeral.0.0;
      few = length-decimal-le 3 n (omega arith) (omega arith) (omega arith);
    }

is_number : (n : ℕ) (digits : List ℕ) → 2 ≤ n → n ≤ 256 → IsPrinted n digits → is_number_of_states digits ≡ true
is_number n digits least most p =
    rw p.value (grind (arith, nat_tests, p.some, p.few))

regrouped : (s b n : List ℕ) → s ++ slash ∷ [] ++ b ++ slash ∷ [] ++ n ≡ joined s b n
unfolding joined
regrouped s b n = simp append_assoc

pub reads_back : ReadsBack
reads_back r ok =
    let s = text_of_set r.survival in
    let b = text_of_set r.birth in
    let n = decimal r.states in
    let digits = printed r.states ok.most in
    let cut : IsCut (joined s b n) s b n =
    cut_again s b n (set_no_slash r.survival) (set_no_slash r.birth) (digits_no_slash n digits.fits) in
    let parts : AreParts s b n = record {
      survival_fits = position-none (is_misfit 0 8) s (set_fits r.survival);
      birth_fits = position-none (is_misfit 1 8) b (birth_fits r.birth ok.no_birth_on_none);
      states_fit = position-none (is_misfit 0 9) n digits.fits;
      number = is_number r.states n ok.least ok.most digits;
    } in
    ap parsed (regrouped s b n) ∙ reads (joined s b n) s b n cut parts
    ∙ (λ i. Ok (record { survival = set_read_back r.survival ok.survival i; birth = set_read_back r.birth ok.birth i; states = digits.value i }))

-- ---- how long the printed form is

kept_few : (q : ℕ → Bool) (ns : List ℕ) → length (map glyph (filter q ns)) ≤ length ns
kept_few q ns = rw (length-map, length-filter q ns) (count_by-le-length q ns)

few_of_set : (set : List Bool) → length (text_of_set set) ≤ 9
unfolding text_of_set
few_of_set set = kept_few (has set) counts

birth_few : (set : List Bool) → length (map glyph (filter (has set) from_one)) ≤ 8
unfolding from_one
birth_few set = kept_few (has set) from_one

few_of_birth : (set : List Bool) → has set 0 ≡ false → length (text_of_set set) ≤ 8
few_of_birth set none = rw (without_zero set none) (birth_few set)

joined_length : (s b n : List ℕ) → length (s ++ slash ∷ [] ++ b ++ slash ∷ [] ++ n) ≡ length s + 1 + length b + 1 + length n
joined_length s b n = simp length-append

pub has_short_text : HasShortText
has_short_text r ok =
    let digits = printed r.states ok.most in
    omega (
      arith,
      joined_length (text_of_set r.survival) (text_of_set r.birth) (decimal r.states),
      few_of_set r.survival,
      few_of_birth r.birth ok.no_birth_on_none,
      digits.few,
    )
