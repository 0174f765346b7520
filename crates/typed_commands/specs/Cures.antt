-- Which refusals of a client's commands have a cure.
use Rattle.std.specs.Prelude.{ℕ, Bool, true, false, if◌then◌else◌, ◌&&◌, ◌||◌, ◌==◌, nat_le, List, Option, None}
use Rattle.pattern_files.specs.declared.kind.FileKind.{FileKind}
use Rattle.pattern_files.specs.Kinds.{kind_of}
use Rattle.cell_files.specs.declared.format.CellFormat.{CellFormat}
use Rattle.cell_files.specs.declared.format.CellFormat.TheVariants as formats
use Rattle.cell_files.specs.Formats.{format_of}

-- of what a text says as one: its header, its tags, its counts, its states
abbrev pub is_form : ℕ → Bool
is_form number = nat_le 4 number && nat_le number 7

-- of what a command says: its text, its cells, its generation, its names; not of what the board or the system is like
abbrev pub is_mistake : ℕ → Bool
is_mistake number = (nat_le 4 number && nat_le number 11) || ((nat_le 22 number && nat_le number 27) || number == 38)

abbrev pub is_read_as_rle : CellFormat → Bool
is_read_as_rle formats.MCell = false
is_read_as_rle formats.Plaintext = false
is_read_as_rle formats.Macrocell = false
is_read_as_rle format = true

-- what a file is, where it is none that is read
abbrev pub unread_kind : List ℕ → Option FileKind
unread_kind text = if is_read_as_rle (format_of text) then kind_of text else None
