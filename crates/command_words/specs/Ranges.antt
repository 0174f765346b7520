-- Ranges of generations, and their words.
use Rattle.std.specs.Prelude.{ℕ, zero, suc, ◌+◌, ◌-◌, ◌*◌, ◌/◌, nat_le, if◌then◌else◌, List, [], ◌∷◌, map, codes, Option, Some, None}
use Rattle.std.specs.List.{range_with_len}
use Rattle.text_scan.specs.Bytes.{◌>=>◌, behind_all, front, is_decimal_digit, past_prefix}
use Rattle.command_words.specs.declared.ranges.GenerationRange.{GenerationRange}
use Rattle.command_words.specs.Values.{number_spelled, positive}

-- ---- generations

-- how many whole steps lead from the first no further than to the last
abbrev pub steps_of : GenerationRange → ℕ
steps_of range = (range.last - range.first) / range.step

-- the generation that so many steps lead to
abbrev pub generation_at : GenerationRange → ℕ → ℕ
generation_at range steps = range.first + steps * range.step

-- the last generation of a range
abbrev pub last_of : GenerationRange → ℕ
last_of range = generation_at range (steps_of range)

-- all generations of a range: the first, and each that whole steps lead to
abbrev pub generations_of : GenerationRange → List ℕ
generations_of range = map (generation_at range) (range_with_len 0 (steps_of range + 1))

-- ---- words

-- the step that is said behind a range, 1 where nothing is
abbrev pub step_spelled : List ℕ → Option ℕ
step_spelled [] = Some 1
step_spelled (c ∷ word) = behind_all (codes "/") (c ∷ word) >=> number_spelled >=> positive

-- a range whose last generation is not before its first
abbrev pub range_between : ℕ → ℕ → ℕ → Option GenerationRange
range_between first last step = if nat_le first last then Some (record { first = first; last = last; step = step }) else None

-- what is said behind the first generation: two dots, the last, and perhaps the step
abbrev pub range_from : ℕ → List ℕ → Option GenerationRange
range_from first word =
    number_spelled (front is_decimal_digit word) >=> λ last. step_spelled (past_prefix is_decimal_digit word) >=> λ step. range_between first last step

-- the range that a word says: two numbers of 32 bits with two dots between, and perhaps, behind a slash, a step
abbrev pub range_spelled : List ℕ → Option GenerationRange
range_spelled word =
    number_spelled (front is_decimal_digit word) >=> λ first. behind_all (codes "..") (past_prefix is_decimal_digit word) >=> range_from first
