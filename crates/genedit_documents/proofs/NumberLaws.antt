-- Numbers that are told line by line.
use Rattle.std.proofs.Common.{Bor, ℕ, suc, List, [], ◌++◌, length, Option, Some, None, Result, Ok, Err}
use Rattle.multistate_rle.specs.HeaderLine.{text_lines}

-- the lines of what is left of a text, if something is
abbrev pub lines_left : Option (Bor (List ℕ)) → List (List ℕ)
lines_left None = []
lines_left (Some text) = text_lines text.now

abbrev pub left : Option (Bor (List ℕ)) → ℕ
left None = 0
left (Some text) = suc (length text.now)

-- what was told before what the lines that are left tell
abbrev pub ahead : List (ℕ × List ℕ) → Result (List (ℕ × List ℕ)) (List ℕ) → Result (List (ℕ × List ℕ)) (List ℕ)
ahead done (Ok more) = Ok (done ++ more)
ahead done (Err wrong) = Err wrong
