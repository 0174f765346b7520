-- The first word of a line, and those behind it.
use Rattle.std.proofs.Common.{◌≡◌, ℕ, ◌<◌, ◌≤◌, List, [], ◌∷◌, length, take, drop, refl, sym, ◌∙◌, ap, arith}
use Rattle.std.specs.List.{position_or_len}
use Rattle.text_scan.specs.Bytes.{is_space_or_tab, past_prefix}
use Rattle.text_scan.specs.Words.{words}
use Rattle.text_scan.proofs.SplitLemmas.{words_trimmed, trimmed_twice, next_word}

nothing : (xs : List ℕ) → length xs ≤ 0 → words xs ≡ []
nothing [] none = refl
nothing (x ∷ xs) none = absurd (omega arith)

-- blanks alone are no word
pub no_word : (line rest : List ℕ) → rest ≡ past_prefix is_space_or_tab line → length rest ≤ 0 → words line ≡ []
no_word line rest trimmed none = sym (words_trimmed line) ∙ ap words (sym trimmed) ∙ nothing rest none

no_more_blanks : (line rest : List ℕ) → rest ≡ past_prefix is_space_or_tab line → past_prefix is_space_or_tab rest ≡ rest
no_more_blanks line rest trimmed = ap (past_prefix is_space_or_tab) trimmed ∙ trimmed_twice line ∙ sym trimmed

pub word_has_bytes : (line rest : List ℕ) (n : ℕ) → rest ≡ past_prefix is_space_or_tab line → 0 < length rest → n ≡ position_or_len is_space_or_tab rest → 0 < n
word_has_bytes line rest n trimmed some n_is = omega (arith, n_is, (next_word rest some (no_more_blanks line rest trimmed)).some)

-- the first word ends at the first blank behind it
pub first_word : (line rest word behind : List ℕ) (n : ℕ) → rest ≡ past_prefix is_space_or_tab line → 0 < length rest →
    n ≡ position_or_len is_space_or_tab rest → word ≡ take n rest → behind ≡ drop n rest → words line ≡ word ∷ words behind
first_word line rest word behind n trimmed some n_is word_is behind_is =
    sym (words_trimmed line) ∙ ap words (sym trimmed) ∙ (next_word rest some (no_more_blanks line rest trimmed)).words_are
    ∙ (λ i. take (sym n_is i) rest ∷ words (drop (sym n_is i) rest)) ∙ (λ i. sym word_is i ∷ words (sym behind_is i))
