-- What a file is that is no RLE text, by the bytes that it begins with.
use Rattle.std.specs.Prelude.{ℕ, Bool, false, ◌||◌, ◌==◌, List, [], ◌∷◌, length, take, codes, Option}
use Rattle.std.specs.List.{find, list_all, position_or_len}
use Rattle.std.specs.Str.{bytes_eq}
use Rattle.text_scan.specs.Bytes.{ends_line}
use Rattle.pattern_files.specs.declared.kind.FileKind.{FileKind}
use Rattle.pattern_files.specs.declared.kind.FileKind.TheVariants.{Utf16, ByteOrderMark, Gzip, Zip, Macrocell, Life105, Life106, MCell, WebPage, Plaintext}

-- a text begins with some bytes
abbrev pub begins_with : List ℕ → List ℕ → Bool
begins_with mark text = bytes_eq (take (length mark) text) mark

-- ---- rows of cells

abbrev pub is_cell_mark : ℕ → Bool
is_cell_mark byte = byte == 46 || (byte == 79 || byte == 42)

abbrev pub first_line : List ℕ → List ℕ
first_line text = take (position_or_len ends_line text) text

abbrev pub is_row : List ℕ → Bool
is_row [] = false
is_row (byte ∷ line) = list_all is_cell_mark (byte ∷ line)

-- ---- kinds

abbrev pub is_begun : FileKind → List ℕ → Bool
is_begun Utf16 text = begins_with (255 ∷ 254 ∷ []) text || begins_with (254 ∷ 255 ∷ []) text
is_begun ByteOrderMark text = begins_with (239 ∷ 187 ∷ 191 ∷ []) text
is_begun Gzip text = begins_with (31 ∷ 139 ∷ []) text
is_begun Zip text = begins_with (80 ∷ 75 ∷ 3 ∷ 4 ∷ []) text
is_begun Macrocell text = begins_with (codes "[M2]") text
is_begun Life105 text = begins_with (codes "#Life 1.05") text
is_begun Life106 text = begins_with (codes "#Life 1.06") text
is_begun MCell text = begins_with (codes "#MCell") text
is_begun WebPage text = begins_with (codes "<") text
is_begun Plaintext text = begins_with (codes "!") text || is_row (first_line text)

abbrev pub kinds : List FileKind
kinds = Utf16 ∷ ByteOrderMark ∷ Gzip ∷ Zip ∷ Macrocell ∷ Life105 ∷ Life106 ∷ MCell ∷ WebPage ∷ Plaintext ∷ []

-- the first kind that the file may be
abbrev pub kind_of : List ℕ → Option FileKind
kind_of text = find (λ kind. is_begun kind text) kinds

-- what it is, and what to do with it
abbrev pub kind_text : FileKind → List ℕ
kind_text Utf16 = codes "is text in UTF-16: save it as UTF-8"
kind_text ByteOrderMark = codes "begins with a byte order mark: save it without one"
kind_text Gzip = codes "is packed by gzip: unpack it, as by `gzip -d`"
kind_text Zip = codes "is a zip archive: unpack it"
kind_text Macrocell = codes "is a macrocell: `genedit convert` makes RLE of it"
kind_text Life105 = codes "is of the form Life 1.05: open it in Golly and save it as RLE"
kind_text Life106 = codes "is of the form Life 1.06: open it in Golly and save it as RLE"
kind_text MCell = codes "is of MCell: `genedit convert` makes RLE of it"
kind_text WebPage = codes "is a page of the web: save the pattern that it links to"
kind_text Plaintext = codes "is plaintext, as .cells: `genedit convert` makes RLE of it"
