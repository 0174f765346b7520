-- The words of a client's line, from the first one on, and where they are those that blanks part.
use Rattle.std.proofs.Common.{◌≡◌, ℕ, ◌-◌, ◌<◌, ◌≤◌, List, [], ◌∷◌, length, take, drop, refl, sym, ◌∙◌, ap, arith, length-drop, one-add}
use Rattle.std.specs.Prelude.{zero, suc, Bool, true, false, not, ◌==◌, Option, Some, None}
use Rattle.std.specs.Bool.{beq}
use Rattle.std.specs.List.{position_or_len, prefix_len}
use Rattle.std.proofs.lemmas.Bool.{and_parts, eq-eqb, eqb-true, not-true}
use Rattle.text_scan.specs.Bytes.{is_space_or_tab, past_prefix}
use Rattle.text_scan.specs.Words.{words}
use Rattle.text_scan.proofs.SplitLemmas.{next_word, trimmed_twice, words_trimmed}
use Rattle.command_words.specs.declared.dialect.Dialect.{Dialect}
use Rattle.command_words.specs.declared.dialect.Dialect.TheVariants.{Script, Client}
use Rattle.command_words.specs.declared.spelled.Spelled.{Spelled}
use Rattle.command_words.specs.Quotes.{are_unquoted, client_word_len, client_words, client_words_behind, line_words, name_in_quotes, opens_quote}
use Rattle.command_words.specs.Arguments.{repeated_of}
use Rattle.command_words.specs.Spelled.{SpelledValue, if_whole, is_empty, is_whole, spelled_of, spoken_of}

-- ---- how the words go on

abbrev no_bytes : List ℕ
no_bytes = []

drop_of_none : (n : ℕ) → drop n no_bytes ≡ no_bytes
drop_of_none zero = refl
drop_of_none (suc n) = refl

-- bytes of a word before are passed over
passed : (n : ℕ) (xs : List ℕ) → client_words_behind n xs ≡ client_words (drop n xs)
passed n [] = ap client_words (sym (drop_of_none n))
passed zero (x ∷ xs) = refl
passed (suc n) (x ∷ xs) = passed n xs

drop_one_less : (n x : ℕ) (xs : List ℕ) → 1 ≤ n → drop (n - 1) xs ≡ drop n (x ∷ xs)
drop_one_less zero x xs some = absurd (omega arith)
drop_one_less (suc n) x xs some = let less : suc n - 1 ≡ n = omega arith in rw less refl

trimmed_step : (x : ℕ) (xs : List ℕ) (b : Bool) → is_space_or_tab x ≡ b → client_words (past_prefix is_space_or_tab xs) ≡ client_words xs →
    client_words (past_prefix is_space_or_tab (x ∷ xs)) ≡ client_words (x ∷ xs)
trimmed_step x xs true e rest = rw (e, one-add) rest
trimmed_step x xs false e rest = rw (e, e) refl

-- blanks in front make no difference
client_words_trimmed : (xs : List ℕ) → client_words (past_prefix is_space_or_tab xs) ≡ client_words xs
client_words_trimmed [] = refl
client_words_trimmed (x ∷ xs) = trimmed_step x xs (is_space_or_tab x) refl (client_words_trimmed xs)

-- ---- the next word of a text that has no blank in front

some_bytes : (x : ℕ) (xs : List ℕ) (name : Option (List ℕ)) → name_in_quotes (x ∷ xs) ≡ name → is_space_or_tab x ≡ false → 1 ≤ client_word_len (x ∷ xs)
some_bytes x xs (Some name) is e = rw is (omega arith)
some_bytes x xs None is e = rw is (rw e (omega arith))

pub record NextWord (rest : List ℕ) : Type 0 where
  pub some : 1 ≤ client_word_len rest
  pub words_are : client_words rest ≡ take (client_word_len rest) rest ∷ client_words (drop (client_word_len rest) rest)

next_here : (x : ℕ) (xs : List ℕ) → is_space_or_tab x ≡ false → NextWord (x ∷ xs)
next_here x xs e =
    let some = some_bytes x xs (name_in_quotes (x ∷ xs)) refl e in
    let first : client_words (x ∷ xs) ≡ take (client_word_len (x ∷ xs)) (x ∷ xs) ∷ client_words_behind (client_word_len (x ∷ xs) - 1) xs = rw e refl in
    record {
      some = some;
      words_are = first ∙ ap (λ more. take (client_word_len (x ∷ xs)) (x ∷ xs) ∷ more)
          (passed (client_word_len (x ∷ xs) - 1) xs ∙ ap client_words (drop_one_less (client_word_len (x ∷ xs)) x xs some));
    }

-- a text that has lost the blanks in front begins with none
begins_with_none : (x : ℕ) (xs : List ℕ) (b : Bool) → is_space_or_tab x ≡ b → past_prefix is_space_or_tab (x ∷ xs) ≡ x ∷ xs → is_space_or_tab x ≡ false
begins_with_none x xs false e trimmed = e
begins_with_none x xs true e trimmed = absurd (shorter x xs e trimmed) where
  shorter : (x : ℕ) (xs : List ℕ) → is_space_or_tab x ≡ true → past_prefix is_space_or_tab (x ∷ xs) ≡ x ∷ xs → ⊥
  shorter x xs e trimmed =
      let less : past_prefix is_space_or_tab xs ≡ x ∷ xs = rw (e, one-add) at trimmed in
      omega (arith, ap length less, length-drop (prefix_len is_space_or_tab xs) xs)

next_of : (rest : List ℕ) → 0 < length rest → past_prefix is_space_or_tab rest ≡ rest → NextWord rest
next_of [] some trimmed = absurd (omega arith)
next_of (x ∷ xs) some trimmed = next_here x xs (begins_with_none x xs (is_space_or_tab x) refl trimmed)

-- ---- the first word of a line

nothing : (xs : List ℕ) → length xs ≤ 0 → client_words xs ≡ []
nothing [] none = refl
nothing (x ∷ xs) none = absurd (omega arith)

-- blanks alone are no word
pub no_word : (line rest : List ℕ) → rest ≡ past_prefix is_space_or_tab line → length rest ≤ 0 → client_words line ≡ []
no_word line rest trimmed none = sym (client_words_trimmed line) ∙ ap client_words (sym trimmed) ∙ nothing rest none

no_more_blanks : (line rest : List ℕ) → rest ≡ past_prefix is_space_or_tab line → past_prefix is_space_or_tab rest ≡ rest
no_more_blanks line rest trimmed = ap (past_prefix is_space_or_tab) trimmed ∙ trimmed_twice line ∙ sym trimmed

pub word_has_bytes : (line rest : List ℕ) (n : ℕ) → rest ≡ past_prefix is_space_or_tab line → 0 < length rest → n ≡ client_word_len rest → 0 < n
word_has_bytes line rest n trimmed some n_is = omega (arith, n_is, (next_of rest some (no_more_blanks line rest trimmed)).some)

pub first_word : (line rest word behind : List ℕ) (n : ℕ) → rest ≡ past_prefix is_space_or_tab line → 0 < length rest →
    n ≡ client_word_len rest → word ≡ take n rest → behind ≡ drop n rest → client_words line ≡ word ∷ client_words behind
first_word line rest word behind n trimmed some n_is word_is behind_is =
    sym (client_words_trimmed line) ∙ ap client_words (sym trimmed) ∙ (next_of rest some (no_more_blanks line rest trimmed)).words_are
    ∙ (λ i. take (sym n_is i) rest ∷ client_words (drop (sym n_is i) rest)) ∙ (λ i. sym word_is i ∷ client_words (sym behind_is i))

-- ---- where a word begins with no quote

begins_quoted : (x : ℕ) (xs name : List ℕ) (b : Bool) → (34 == x) ≡ b → name_in_quotes (x ∷ xs) ≡ Some name → opens_quote (x ∷ xs) ≡ true
begins_quoted x xs name true e is = eq-eqb x 34 (sym (eqb-true 34 x e))
begins_quoted x xs name false e is =
    let none : name_in_quotes (x ∷ xs) ≡ None = rw e refl in
    absurd (cc)

-- a name in quotes begins with a quote
opens_name : (x : ℕ) (xs name : List ℕ) → name_in_quotes (x ∷ xs) ≡ Some name → opens_quote (x ∷ xs) ≡ true
opens_name x xs name is = begins_quoted x xs name (34 == x) refl is

opens_taken : (n x : ℕ) (xs : List ℕ) → 1 ≤ n → opens_quote (take n (x ∷ xs)) ≡ opens_quote (x ∷ xs)
opens_taken zero x xs some = absurd (omega arith)
opens_taken (suc n) x xs some = refl

-- a word that begins with no quote ends at a blank
plain_len : (x : ℕ) (xs : List ℕ) (name : Option (List ℕ)) → name_in_quotes (x ∷ xs) ≡ name → 1 ≤ client_word_len (x ∷ xs) →
    opens_quote (take (client_word_len (x ∷ xs)) (x ∷ xs)) ≡ false → client_word_len (x ∷ xs) ≡ position_or_len is_space_or_tab (x ∷ xs)
plain_len x xs None is some plain = rw is refl
plain_len x xs (Some name) is some plain =
    let quoted = opens_taken (client_word_len (x ∷ xs)) x xs some ∙ opens_name x xs name is in
    absurd (cc)

first_plain : (x : ℕ) (xs w : List ℕ) (ws : List (List ℕ)) → is_space_or_tab x ≡ false → client_words (x ∷ xs) ≡ w ∷ ws → opens_quote w ≡ false →
    (behind : List (List ℕ)) × (words (x ∷ xs) ≡ w ∷ behind)
first_plain x xs w ws e is plain =
    let next = next_here x xs e in
    let word : take (client_word_len (x ∷ xs)) (x ∷ xs) ≡ w = cc in
    let len = plain_len x xs (name_in_quotes (x ∷ xs)) refl next.some (ap opens_quote word ∙ plain) in
    let trimmed : past_prefix is_space_or_tab (x ∷ xs) ≡ x ∷ xs = rw e refl in
    let blank_words = (next_word (x ∷ xs) (omega arith) trimmed).words_are in (
      words (drop (position_or_len is_space_or_tab (x ∷ xs)) (x ∷ xs)),
      blank_words ∙ ap (λ (v : List ℕ). v ∷ words (drop (position_or_len is_space_or_tab (x ∷ xs)) (x ∷ xs))) (ap (λ n. take n (x ∷ xs)) (sym len) ∙ word),
    )

rest_alike : (rest w : List ℕ) (ws : List (List ℕ)) → past_prefix is_space_or_tab rest ≡ rest → client_words rest ≡ w ∷ ws → opens_quote w ≡ false →
    (behind : List (List ℕ)) × (words rest ≡ w ∷ behind)
rest_alike [] w ws trimmed is plain = absurd (cc)
rest_alike (x ∷ xs) w ws trimmed is plain = first_plain x xs w ws (begins_with_none x xs (is_space_or_tab x) refl trimmed) is plain

-- the first word of a client's line is the one that blanks part, where it begins with no quote
pub first_alike : (line w : List ℕ) (ws : List (List ℕ)) → client_words line ≡ w ∷ ws → opens_quote w ≡ false → (behind : List (List ℕ)) × (words line ≡ w ∷ behind)
first_alike line w ws is plain =
    let rest = rest_alike (past_prefix is_space_or_tab line) w ws (trimmed_twice line) (client_words_trimmed line ∙ is) plain in
    (rest.0, sym (words_trimmed line) ∙ rest.1)

-- ---- where no word begins with a quote

unquoted_step : (x : ℕ) (xs : List ℕ) (b : Bool) → is_space_or_tab x ≡ b →
    (are_unquoted (client_words xs) ≡ true → client_words xs ≡ words xs) →
    ((n : ℕ) → are_unquoted (client_words_behind n xs) ≡ true → client_words_behind n xs ≡ words (drop n xs)) →
    are_unquoted (client_words (x ∷ xs)) ≡ true → client_words (x ∷ xs) ≡ words (x ∷ xs)
unquoted_step x xs true e here more plain =
    let same : client_words (x ∷ xs) ≡ client_words xs = rw e refl in
    let blank : words (x ∷ xs) ≡ words xs = rw e refl in
    same ∙ here (ap are_unquoted (sym same) ∙ plain) ∙ sym blank
unquoted_step x xs false e here more plain =
    let next = next_here x xs e in
    let n = client_word_len (x ∷ xs) in
    let first : client_words (x ∷ xs) ≡ take n (x ∷ xs) ∷ client_words_behind (n - 1) xs = rw e refl in
    let parts = and_parts (not (opens_quote (take n (x ∷ xs)))) (are_unquoted (client_words_behind (n - 1) xs)) (ap are_unquoted (sym first) ∙ plain) in
    let len = plain_len x xs (name_in_quotes (x ∷ xs)) refl next.some (not-true (opens_quote (take n (x ∷ xs))) parts.0) in
    let trimmed : past_prefix is_space_or_tab (x ∷ xs) ≡ x ∷ xs = rw e refl in
    let blank_words = (next_word (x ∷ xs) (omega arith) trimmed).words_are in
    first ∙ ap (λ (ws : List (List ℕ)). take n (x ∷ xs) ∷ ws) (more (n - 1) parts.1 ∙ ap words (drop_one_less n x xs next.some))
    ∙ ap (λ k. take k (x ∷ xs) ∷ words (drop k (x ∷ xs))) len ∙ sym blank_words

unquoted_behind : (xs : List ℕ) (n : ℕ) → are_unquoted (client_words_behind n xs) ≡ true → client_words_behind n xs ≡ words (drop n xs)
unquoted_behind [] n plain = ap words (sym (drop_of_none n))
unquoted_behind (x ∷ xs) zero plain = unquoted_step x xs (is_space_or_tab x) refl (unquoted_behind xs zero) (unquoted_behind xs) plain
unquoted_behind (x ∷ xs) (suc n) plain = unquoted_behind xs n plain

-- where no word of a line begins with a quote its words are those that blanks part
pub unquoted_words : (dialect : Dialect) (line : List ℕ) → are_unquoted (line_words dialect line) ≡ true → line_words dialect line ≡ words line
unquoted_words Script line plain = refl
unquoted_words Client line plain = unquoted_behind line zero plain

-- ---- a line that was read whole

whole_unquoted : (line : SpelledValue) → is_whole line ≡ true → are_unquoted line.behind ≡ true
whole_unquoted line whole = (and_parts (beq (is_empty line.behind) (is_empty (repeated_of line.keyword))) (are_unquoted line.behind) whole).1

-- what is left of it are words that blanks part
pub whole_spelled : (spelled : Spelled) → is_whole (spoken_of spelled) ≡ true → Some (spelled_of spelled) ≡ if_whole (spoken_of spelled)
whole_spelled spelled whole =
    let kept : if_whole (spoken_of spelled) ≡ Some (spoken_of spelled) = rw whole refl in
    ap (λ (ws : List (List ℕ)). Some (record (spelled_of spelled) { behind = ws })) (sym (unquoted_words spelled.dialect spelled.behind.now (whole_unquoted (spoken_of spelled) whole)))
    ∙ sym kept
