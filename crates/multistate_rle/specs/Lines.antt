-- The bytes that are left of the lines, told from left to right.
use Rattle.std.specs.Prelude.{drop, List, [], ◌∷◌, if◌then◌else◌, ℕ, Bool, true, ◌||◌, ◌==◌, if◌then◌else◌}
use Rattle.std.specs.List.{enumerate_from}
use Rattle.multistate_rle.specs.Reading.{Mark}
use Rattle.multistate_rle.specs.declared.line.LineProgress.{LineProgress}
use Rattle.multistate_rle.specs.declared.line.LineProgress.TheVariants.{Start, Inside, Comment}
use Rattle.text_scan.specs.Bytes.{is_space_or_tab, ends_line}

-- how far a line is read after a byte
abbrev pub line_after : LineProgress → ℕ → LineProgress
line_after line c = if ends_line c then Start else elim line [ Start ↦ if c == 35 then Comment else Inside | Inside ↦ Inside | Comment ↦ Comment ]

-- the byte is a blank, a line's end, or in a comment
abbrev pub is_dropped : LineProgress → ℕ → Bool
is_dropped line c = elim line [ Start ↦ is_space_or_tab c || ends_line c | Inside ↦ is_space_or_tab c || ends_line c | Comment ↦ true ]

-- what is left of a text, from where its line is so far read
unfoldable pub left : LineProgress → List Mark → List Mark
left line [] = []
left line (m ∷ marks) = if is_dropped (line_after line m.1) m.1 then left (line_after line m.1) marks else m ∷ left (line_after line m.1) marks

-- what is left of a text from a place on, inside a line that counts
abbrev pub left_from : List ℕ → ℕ → List Mark
left_from text place = left Inside (enumerate_from place (drop place text))
