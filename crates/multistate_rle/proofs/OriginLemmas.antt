-- The words of the line of an origin, one by one.
use Rattle.std.proofs.Common.{◌≡◌, ℕ, Bool, true, false, List, [], ◌∷◌, refl, sym, ◌∙◌, ap, arith, take, drop}
use Rattle.std.specs.Prelude.{not, option_map, None, if◌then◌else◌, codes}
use Rattle.std.specs.List.{position_or_len}
use Rattle.std.specs.Str.{bytes_eq}
use Rattle.text_scan.specs.Bytes.{is_space_or_tab, past_prefix, ◌>=>◌}
use Rattle.text_scan.specs.Words.{words}
use Rattle.text_scan.proofs.SplitLemmas.{NextWord, next_word, trimmed_twice, words_trimmed}
use Rattle.multistate_rle.specs.Position.{ItemsValue, origin_in_words, origin_from, items_in, no_items, one_item_more}

origin_words_at : (rest : List ℕ) → past_prefix is_space_or_tab rest ≡ rest → origin_in_words (words rest)
    ≡ (if bytes_eq (take (position_or_len is_space_or_tab rest) rest) (codes "#CXRLE")
    then option_map origin_from (items_in no_items (words (drop (position_or_len is_space_or_tab rest) rest))) else None)
origin_words_at [] trimmed = refl
origin_words_at (x ∷ xs) trimmed =
    let next : NextWord (x ∷ xs) = next_word (x ∷ xs) (omega arith) trimmed in
    ap origin_in_words next.words_are

pub origin_words : (line : List ℕ) → origin_in_words (words line)
    ≡ (if bytes_eq (take (position_or_len is_space_or_tab (past_prefix is_space_or_tab line)) (past_prefix is_space_or_tab line)) (codes "#CXRLE")
    then option_map origin_from (items_in no_items (words (drop (position_or_len is_space_or_tab (past_prefix is_space_or_tab line)) (past_prefix is_space_or_tab line)))) else None)
origin_words line = ap origin_in_words (sym (words_trimmed line)) ∙ origin_words_at (past_prefix is_space_or_tab line) (trimmed_twice line)

-- one item more
pub items_step : (rest : List ℕ) (items : ItemsValue) → NextWord rest →
    items_in items (words rest) ≡ one_item_more (take (position_or_len is_space_or_tab rest) rest) items >=> λ more. items_in more (words (past_prefix is_space_or_tab (drop (position_or_len is_space_or_tab rest) rest)))
items_step rest items next =
    ap (items_in items) next.words_are
    ∙ ap (λ later. one_item_more (take (position_or_len is_space_or_tab rest) rest) items >=> λ more. items_in more later) (sym (words_trimmed (drop (position_or_len is_space_or_tab rest) rest)))

-- the same, with names for the parts
pub origin_is : (line rest word behind mark : List ℕ) (n : ℕ) (same : Bool) → rest ≡ past_prefix is_space_or_tab line → n ≡ position_or_len is_space_or_tab rest → word ≡ take n rest → behind ≡ drop n rest →
    mark ≡ codes "#CXRLE" → same ≡ bytes_eq word mark →
    origin_in_words (words line) ≡ (if same then option_map origin_from (items_in no_items (words behind)) else None)
origin_is line rest word behind mark n same rest_is n_is word_is behind_is mark_is same_is =
    rw (same_is, mark_is, word_is, behind_is, n_is, rest_is) (origin_words line)

pub not_is : (b c : Bool) → not b ≡ c → b ≡ not c
not_is true c e = ap not e
not_is false c e = ap not e
