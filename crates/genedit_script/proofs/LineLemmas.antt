-- The first line of a text, and those behind it.
use Rattle.std.proofs.Common.{◌≡◌, ℕ, ◌+◌, ◌<◌, ◌≤◌, ◌≢◌, List, [], ◌∷◌, length, length-drop, ◌-◌, take, drop, refl, ◌∙◌, ap, arith}
use Rattle.std.specs.Prelude.{◌==◌, Some, None, position}
use Rattle.std.specs.List.{slice_split, position_or_len}
use Rattle.std.specs.Str.Lines.{lines, lines_of_parts, strip_carriage_return}
use Rattle.std.proofs.lemmas.Bool.{ne_eqb}
use Rattle.std.proofs.lemmas.Bool.Decides.{nat_tests}
use Rattle.std.proofs.lemmas.List.{drop_all, take_all}
use Rattle.std.proofs.lemmas.List.Splits.{slice_split_first}
use Rattle.text_scan.proofs.SplitLemmas.{split_at, later_parts}

-- a part with others behind it is an ended line
ended_part : (part : List ℕ) (parts : List (List ℕ)) (first : List ℕ) (more : List (List ℕ)) → parts ≡ first ∷ more →
    lines_of_parts (part ∷ parts) ≡ strip_carriage_return part ∷ lines_of_parts parts
ended_part part parts first more e = rw e refl

-- the first line ends at the first line feed
pub ended_line : (text : List ℕ) (at : ℕ) → Some at ≡ position (λ b. b == 10) text →
    lines text ≡ strip_carriage_return (take at text) ∷ lines (drop (at + 1) text)
ended_line text at found =
    let here : position_or_len (λ b. b == 10) text ≡ at = grind (arith, nat_tests, found) in
    let within : position_or_len (λ b. b == 10) text < length text = grind (arith, nat_tests, found) in
    ap lines_of_parts (slice_split_first (λ b. b == 10) text 0 within)
    ∙ ap (λ n. lines_of_parts (take n text ∷ slice_split (λ b. b == 10) (drop (n + 1) text))) here
    ∙ ended_part (take at text) _ _ _ (split_at (λ b. b == 10) (drop (at + 1) text))

-- where there is no line feed, the text is one line
pub only_line : (text : List ℕ) → length text ≢ 0 → None ≡ position (λ b. b == 10) text → lines text ≡ text ∷ []
unfolding later_parts
only_line text some found =
    let past : length text ≤ position_or_len (λ b. b == 10) text = grind (arith, nat_tests, found) in
    let one : slice_split (λ b. b == 10) text ≡ text ∷ [] =
    split_at (λ b. b == 10) text ∙ (λ i. take_all (position_or_len (λ b. b == 10) text) text past i ∷ later_parts (λ b. b == 10) (drop_all (position_or_len (λ b. b == 10) text) text past i)) in
    ap lines_of_parts one ∙ rw (ne_eqb (length text) 0 some) refl

-- the rest of a list, taken whole
pub rest_whole : (n : ℕ) (xs : List ℕ) → take (length xs - n) (drop n xs) ≡ drop n xs
rest_whole n xs = take_all (length xs - n) (drop n xs) (omega (arith, length-drop n xs))
