-- Plaintext: rows of cells, one a line, and comments, which begin with `!` (the LifeWiki, "Plaintext").
use Rattle.std.specs.Prelude.{ℕ, Bool, false, not, ◌||◌, ◌&&◌, List, [], ◌∷◌, length, ◌==◌, if◌then◌else◌, Result, Err}
use Rattle.pattern_cells.specs.Pattern.{RlePattern}
use Rattle.multistate_rle.specs.declared.fault.RleFault.{RleFault}
use Rattle.multistate_rle.specs.declared.fault.RleFault.TheVariants.{Header}
use Rattle.pattern_files.specs.declared.kind.FileKind.TheVariants as kinds
use Rattle.pattern_files.specs.Kinds.{is_begun}
use Rattle.cell_files.specs.Drawn.{drawn}
use Rattle.cell_files.specs.declared.plaintext.Standing.{Standing}
use Rattle.cell_files.specs.declared.plaintext.Standing.TheVariants.{Start, Row, Note}

-- a text that begins with a line feed
abbrev pub begins_with_feed : List ℕ → Bool
begins_with_feed [] = false
begins_with_feed (byte ∷ rest) = byte == 10

-- a byte ends a line: LF, or CR, unless an LF follows, which ends the line then
abbrev pub ends_row : ℕ → List ℕ → Bool
ends_row byte rest = byte == 10 || (byte == 13 && not (begins_with_feed rest))

-- where in a line a byte stands, behind such a one
abbrev pub standing_at : Standing → ℕ → Standing
standing_at Start byte = if byte == 33 then Note else Row
standing_at Row byte = Row
standing_at Note byte = Note

-- a byte of a row as RLE has it: `.` is dead, `O` and `*` are live, a CR means nothing, and any other byte is one that RLE has not
abbrev pub row_byte : ℕ → ℕ
row_byte byte = if byte == 46 then 46 else (if byte == 79 || byte == 42 then 111 else (if byte == 13 then 32 else 63))

-- what a byte is; one of a comment means nothing
abbrev pub line_byte : Standing → ℕ → ℕ
line_byte Note byte = 32
line_byte Row byte = row_byte byte
line_byte Start byte = row_byte byte

-- what a line's end is: that of a row, which may be empty, leads to the next row
abbrev pub row_end : Standing → ℕ
row_end Note = 32
row_end Row = 36
row_end Start = 36

-- the tokens of a text, each in its own place, as RLE spells them
abbrev pub tokens_from : Standing → List ℕ → List ℕ
tokens_from standing [] = []
tokens_from standing (byte ∷ rest) =
    if ends_row byte rest then row_end standing ∷ tokens_from Start rest
    else line_byte (standing_at standing byte) byte ∷ tokens_from (standing_at standing byte) rest

-- the pattern of a text, or its first fault
abbrev pub plaintext_parsed : List ℕ → Result RlePattern RleFault
plaintext_parsed text = if is_begun kinds.Plaintext text then drawn (length text) (tokens_from Start text) else Err Header
