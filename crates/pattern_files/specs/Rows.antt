-- Worked values of the definitions.
use Rattle.std.specs.Prelude.{◌≡◌, ◌∷◌, ◌++◌, [], codes, refl, Some, None}
use Rattle.pattern_files.specs.declared.kind.FileKind.TheVariants.{Utf16, ByteOrderMark, Gzip, Macrocell, Life105, Life106, MCell, WebPage, Plaintext}
use Rattle.pattern_files.specs.Kinds.{kind_of}

pub glider : kind_of (codes "x = 3, y = 3, rule = B3/S23\nbo$2bo$3o!") ≡ None
glider = refl

pub commented : kind_of (codes "#N Glider\nx = 3, y = 3\nbo$2bo$3o!") ≡ None
commented = refl

pub no_bytes : kind_of [] ≡ None
no_bytes = refl

pub two_bytes_a_letter : kind_of (255 ∷ 254 ∷ 120 ∷ 0 ∷ []) ≡ Some Utf16
two_bytes_a_letter = refl

pub greater_byte_first : kind_of (254 ∷ 255 ∷ 0 ∷ 120 ∷ []) ≡ Some Utf16
greater_byte_first = refl

pub mark_in_front : kind_of (239 ∷ 187 ∷ 191 ∷ codes "x = 3") ≡ Some ByteOrderMark
mark_in_front = refl

pub packed : kind_of (31 ∷ 139 ∷ 8 ∷ []) ≡ Some Gzip
packed = refl

pub macrocell : kind_of (codes "[M2] (golly 3.3)\n#R B3/S23\n$$*$.*$***$$$$$\n") ≡ Some Macrocell
macrocell = refl

pub dots_and_stars : kind_of (codes "#Life 1.05\n#P -1 -1\n.*\n..*\n***\n") ≡ Some Life105
dots_and_stars = refl

pub coordinates : kind_of (codes "#Life 1.06\n0 -1\n1 0\n") ≡ Some Life106
coordinates = refl

pub mcell : kind_of (codes "#MCell 4.00\n#GAME Generations\n") ≡ Some MCell
mcell = refl

pub page : kind_of (codes "<!DOCTYPE html>\n") ≡ Some WebPage
page = refl

pub named_rows : kind_of (codes "!Name: Glider\n.O.\n..O\nOOO\n") ≡ Some Plaintext
named_rows = refl

pub bare_rows : kind_of (codes ".O.\r\n..O\r\nOOO\r\n") ≡ Some Plaintext
bare_rows = refl

-- runs of cells without a header are an RLE text that lacks it
pub headless : kind_of (codes "bo$2bo$3o!") ≡ None
headless = refl
