-- Which format a file has, by its first bytes.
use Rattle.std.specs.Prelude.{ℕ, Bool, List, codes, drop, if◌then◌else◌, Option, Some, None}
use Rattle.pattern_files.specs.declared.kind.FileKind.{FileKind}
use Rattle.pattern_files.specs.declared.kind.FileKind.TheVariants as kinds
use Rattle.pattern_files.specs.Kinds.{begins_with, kind_of}
use Rattle.cell_files.specs.declared.format.CellFormat.{CellFormat}
use Rattle.cell_files.specs.declared.format.CellFormat.TheVariants.{State, Document, Macrocell, MCell, Plaintext, Rle}

-- what is neither a state, nor a document, nor of a format with a mark of its own is read as RLE
abbrev pub format_of_kind : Option FileKind → CellFormat
format_of_kind (Some kinds.Macrocell) = Macrocell
format_of_kind (Some kinds.MCell) = MCell
format_of_kind (Some kinds.Plaintext) = Plaintext
format_of_kind (Some kind) = Rle
format_of_kind None = Rle

-- a document's first record has its body, which begins as a delta does, behind 20 bytes
abbrev pub begins_as_document : List ℕ → Bool
begins_as_document text = begins_with (codes "GLWD") (drop 20 text)

abbrev pub format_of : List ℕ → CellFormat
format_of text =
    if begins_with (codes "GLWS") text then State
    else (if begins_as_document text then Document else format_of_kind (kind_of text))
