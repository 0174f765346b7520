-- Lists that are cut at each element that passes a test: lines and words.
use Rattle.std.proofs.Common.{◌≡◌, ℕ, ◌<◌, ◌≤◌, Bool, true, false, List, [], ◌∷◌, refl, ◌∙◌, ap, arith, take, drop, length, length-drop, one-add, ◌≢◌}
use Rattle.std.specs.Prelude.{not, ◌==◌, filter}
use Rattle.std.specs.List.{slice_split, onto_first, position_or_len, prefix_len}
use Rattle.std.proofs.lemmas.Bool.{ne_eqb}
use Rattle.text_scan.specs.Bytes.{is_space_or_tab, past_prefix}
use Rattle.text_scan.specs.Words.{words}

-- the parts behind the first one, from where that ends
unfoldable pub later_parts : {X : Type 0} → (X → Bool) → List X → List (List X)
later_parts p [] = []
later_parts p (x ∷ xs) = slice_split p xs

split_step : {X : Type 0} (p : X → Bool) (x : X) (xs : List X) (b : Bool) → p x ≡ b →
    slice_split p xs ≡ take (position_or_len p xs) xs ∷ later_parts p (drop (position_or_len p xs) xs) →
    slice_split p (x ∷ xs) ≡ take (position_or_len p (x ∷ xs)) (x ∷ xs) ∷ later_parts p (drop (position_or_len p (x ∷ xs)) (x ∷ xs))
unfolding later_parts
split_step p x xs true e rest = rw e refl
split_step p x xs false e rest = rw (e, one-add) (ap (onto_first x) rest)

-- the first part, and those behind it
pub split_at : {X : Type 0} (p : X → Bool) (xs : List X) →
    slice_split p xs ≡ take (position_or_len p xs) xs ∷ later_parts p (drop (position_or_len p xs) xs)
unfolding later_parts
split_at p [] = refl
split_at p (x ∷ xs) = split_step p x xs (p x) refl (split_at p xs)

-- ---- words

abbrev pub has_bytes : List ℕ → Bool
has_bytes word = not (length word == 0)

pub has_some : (x : ℕ) (xs : List ℕ) → has_bytes (x ∷ xs) ≡ true
has_some x xs = let some : length (x ∷ xs) ≢ 0 = omega arith in rw (ne_eqb (length (x ∷ xs)) 0 some) refl

later_words_step : (x : ℕ) (xs : List ℕ) (b : Bool) → is_space_or_tab x ≡ b →
    filter has_bytes (later_parts is_space_or_tab (drop (position_or_len is_space_or_tab xs) xs)) ≡ filter has_bytes (slice_split is_space_or_tab (drop (position_or_len is_space_or_tab xs) xs)) →
    filter has_bytes (later_parts is_space_or_tab (drop (position_or_len is_space_or_tab (x ∷ xs)) (x ∷ xs)))
    ≡ filter has_bytes (slice_split is_space_or_tab (drop (position_or_len is_space_or_tab (x ∷ xs)) (x ∷ xs)))
unfolding later_parts
later_words_step x xs true e rest = rw (e, e) refl
later_words_step x xs false e rest = rw (e, one-add) rest

-- behind the first word the next ones follow
later_words : (xs : List ℕ) →
    filter has_bytes (later_parts is_space_or_tab (drop (position_or_len is_space_or_tab xs) xs)) ≡ filter has_bytes (slice_split is_space_or_tab (drop (position_or_len is_space_or_tab xs) xs))
unfolding later_parts
later_words [] = refl
later_words (x ∷ xs) = later_words_step x xs (is_space_or_tab x) refl (later_words xs)

trimmed_step : (x : ℕ) (xs : List ℕ) (b : Bool) → is_space_or_tab x ≡ b → words (past_prefix is_space_or_tab xs) ≡ words xs → words (past_prefix is_space_or_tab (x ∷ xs)) ≡ words (x ∷ xs)
trimmed_step x xs true e rest = rw (e, one-add) rest
trimmed_step x xs false e rest = rw (e, e) refl

-- blanks in front make no difference
pub words_trimmed : (xs : List ℕ) → words (past_prefix is_space_or_tab xs) ≡ words xs
words_trimmed [] = refl
words_trimmed (x ∷ xs) = trimmed_step x xs (is_space_or_tab x) refl (words_trimmed xs)

trimmed_again : (x : ℕ) (xs : List ℕ) (b : Bool) → is_space_or_tab x ≡ b → past_prefix is_space_or_tab (past_prefix is_space_or_tab xs) ≡ past_prefix is_space_or_tab xs → past_prefix is_space_or_tab (past_prefix is_space_or_tab (x ∷ xs)) ≡ past_prefix is_space_or_tab (x ∷ xs)
trimmed_again x xs true e rest = rw (e, one-add) rest
trimmed_again x xs false e rest = rw (e, e) refl

pub trimmed_twice : (xs : List ℕ) → past_prefix is_space_or_tab (past_prefix is_space_or_tab xs) ≡ past_prefix is_space_or_tab xs
trimmed_twice [] = refl
trimmed_twice (x ∷ xs) = trimmed_again x xs (is_space_or_tab x) refl (trimmed_twice xs)

-- the next word of a text that has no blank in front
pub record NextWord (rest : List ℕ) : Type 0 where
  pub some : 1 ≤ position_or_len is_space_or_tab rest
  pub words_are : words rest ≡ take (position_or_len is_space_or_tab rest) rest ∷ words (drop (position_or_len is_space_or_tab rest) rest)

next_at : (x : ℕ) (xs : List ℕ) (b : Bool) → is_space_or_tab x ≡ b → past_prefix is_space_or_tab (x ∷ xs) ≡ x ∷ xs → NextWord (x ∷ xs)
next_at x xs true e trimmed =
    let shorter : drop (prefix_len is_space_or_tab xs) xs ≡ x ∷ xs = rw (e, one-add) at trimmed in
    absurd (omega (arith, ap length shorter, length-drop (prefix_len is_space_or_tab xs) xs))
next_at x xs false e trimmed =
    let some : 1 ≤ position_or_len is_space_or_tab (x ∷ xs) = rw e (omega arith) in
    let first : take (position_or_len is_space_or_tab (x ∷ xs)) (x ∷ xs) ≡ x ∷ take (position_or_len is_space_or_tab xs) xs = rw (e, one-add) refl in
    let kept : filter has_bytes (take (position_or_len is_space_or_tab (x ∷ xs)) (x ∷ xs) ∷ later_parts is_space_or_tab (drop (position_or_len is_space_or_tab (x ∷ xs)) (x ∷ xs)))
    ≡ take (position_or_len is_space_or_tab (x ∷ xs)) (x ∷ xs) ∷ filter has_bytes (later_parts is_space_or_tab (drop (position_or_len is_space_or_tab (x ∷ xs)) (x ∷ xs))) = rw (first, has_some x (take (position_or_len is_space_or_tab xs) xs)) refl in
    record {
      some = some;
      words_are = ap (filter has_bytes) (split_at is_space_or_tab (x ∷ xs)) ∙ kept
          ∙ ap (λ later. take (position_or_len is_space_or_tab (x ∷ xs)) (x ∷ xs) ∷ later) (later_words (x ∷ xs));
    }

pub next_word : (rest : List ℕ) → 0 < length rest → past_prefix is_space_or_tab rest ≡ rest → NextWord rest
next_word [] some trimmed = absurd (omega arith)
next_word (x ∷ xs) some trimmed = next_at x xs (is_space_or_tab x) refl trimmed
