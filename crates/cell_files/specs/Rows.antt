-- Worked values of the definitions.
use Rattle.std.specs.Prelude.{◌≡◌, ℕ, [], ◌∷◌, refl, codes, pos, negsuc, Some, None, Ok, Err, List}
use Rattle.std.specs.Fmt.{digits}
use Rattle.pattern_cells.specs.declared.pattern.PatternCell.{PatternCell}
use Rattle.generations_rule.specs.RuleText.{rule_of_text}
use Rattle.multistate_rle.specs.declared.fault.RleFault.TheVariants.{Header, Tag, Count, State, TooMany}
use Rattle.header_rules.specs.Families.{other_names, table_fronts, table_ends}
use Rattle.header_rules.specs.Names.{rule_names}
use Rattle.header_rules.specs.declared.family.OtherFamily.TheVariants.{Table}
use Rattle.header_rules.specs.declared.spelling.Misspelling.TheVariants.{Other}
use Rattle.cell_files.specs.declared.format.CellFormat.TheVariants as formats
use Rattle.cell_files.specs.Formats.{format_of}
use Rattle.cell_files.specs.MCell.{mcell_parsed, mcell_tokens, moved_back}
use Rattle.cell_files.specs.Plaintext.{plaintext_parsed}
use Rattle.cell_files.specs.Comments.{comment_lines}
use Rattle.cell_files.specs.Files.{file_bounds_told, file_parsed, file_rule_told}

abbrev cell : ℕ → ℕ → ℕ → PatternCell
cell column row state = record { column = column; row = row; state = state }

-- ---- formats

pub an_rle_text : format_of (codes "#C a\nx = 1, y = 1\no!") ≡ formats.Rle
an_rle_text = refl

pub a_state : format_of (codes "GLWS") ≡ formats.State
a_state = refl

pub a_document : format_of (codes "01234567890123456789GLWD") ≡ formats.Document
a_document = refl

pub a_macrocell : format_of (codes "[M2] (golly 3.3)\n") ≡ formats.Macrocell
a_macrocell = refl

pub bare_rows : format_of (codes ".O\nOO") ≡ formats.Plaintext
bare_rows = refl

-- ---- MCell

abbrev board : List ℕ
board = codes "#MCell 2.0\n#RULE 2/234/5\n#BOARD 200x200\n#L .D$.AAD$.3A$DAAD"

-- the middle of the board is at 0 0: the first cell stands at -1 -2, the last at 1 1
pub a_board : mcell_parsed board ≡ Ok (record {
  width = 4;
  height = 4;
  pos = (negsuc 1, negsuc 1);
  generation = 0;
  cells = cell 1 0 4 ∷ cell 1 1 1 ∷ cell 2 1 1 ∷ cell 3 1 4 ∷ cell 1 2 1 ∷ cell 2 2 1 ∷ cell 3 2 1 ∷ cell 0 3 4 ∷ cell 1 3 1 ∷ cell 2 3 1 ∷ cell 3 3 4 ∷ [];
})
a_board = refl

pub bounds_of_a_plane : file_bounds_told board ≡ Some (codes "P200,200")
unfolding digits
bounds_of_a_plane = refl

pub bounds_of_a_torus : file_bounds_told (codes "#MCell 2.0\n#WRAP 1\n#BOARD 80x40\n") ≡ Some (codes "T80,40")
unfolding digits
bounds_of_a_torus = refl

pub no_bounds : file_bounds_told (codes "#MCell 2.0\n#WRAP 1\n#BOARD 0x0\n") ≡ None
no_bounds = refl

pub rule_of_a_board : file_rule_told board ≡ Some (record { place = 17; length = 7; rule = Ok (rule_of_text (codes "2/234/5")); bounds = None })
rule_of_a_board = refl

-- the last rule counts
pub two_rules : file_rule_told (codes "#MCell\n#RULE 23/3\n#RULE  WireWorld x\n")
    ≡ Some (record { place = 25; length = 9; rule = Err (Other Table); bounds = None })
unfolding rule_names other_names table_fronts table_ends
two_rules = refl

-- what is halved: 5 columns on a board of 201, 42 on one of 5
pub five_of_201 : moved_back 201 5 ≡ 2
five_of_201 = refl

pub forty_two_of_5 : moved_back 5 42 ≡ 20
forty_two_of_5 = refl

-- counts run on over lines, and blanks mean nothing
pub over_lines : mcell_parsed (codes "#MCell\r\n#D 9A\r\n#L 1\r\n#L 0.aA$ b\r\n#L X\r\n9A\r\n")
    ≡ Ok (record { width = 11; height = 2; pos = (pos 0, pos 0); generation = 0; cells = cell 10 0 25 ∷ cell 0 1 72 ∷ [] })
over_lines = refl

pub rle_s_letters : mcell_tokens (codes "#L bAo!p") ≡ codes "   qA??? "
rle_s_letters = refl

pub no_mcell : mcell_parsed (codes "#MCel\n#L A") ≡ Err Header
no_mcell = refl

pub a_letter_that_is_none : mcell_parsed (codes "#MCell\n#L A!") ≡ Err (Tag 11)
a_letter_that_is_none = refl

pub a_count_of_0 : mcell_parsed (codes "#MCell\n#L A\n#L .0A") ≡ Err (Count 16)
a_count_of_0 = refl

pub a_state_past_255 : mcell_parsed (codes "#MCell\n#L 2jP") ≡ Err (State 10)
a_state_past_255 = refl

pub too_many_cells : mcell_parsed (codes "#MCell\n#L 1048577A") ≡ Err TooMany
too_many_cells = refl

-- a prefix without a letter: the file's end
pub a_prefix_alone : mcell_parsed (codes "#MCell\n#L a") ≡ Err (Tag 11)
a_prefix_alone = refl

-- ---- plaintext

-- a comment is no row, and an empty line is one
pub rows : plaintext_parsed (codes "!Name: a\n.O\r\n\r\n! b\nO.*")
    ≡ Ok (record { width = 3; height = 3; pos = (pos 0, pos 0); generation = 0; cells = cell 1 0 1 ∷ cell 0 2 1 ∷ cell 2 2 1 ∷ [] })
rows = refl

pub carriage_returns : plaintext_parsed (codes "!\rO\r\rO")
    ≡ Ok (record { width = 1; height = 3; pos = (pos 0, pos 0); generation = 0; cells = cell 0 0 1 ∷ cell 0 2 1 ∷ [] })
carriage_returns = refl

pub a_byte_of_no_row : plaintext_parsed (codes "!\n.3O") ≡ Err (Tag 3)
a_byte_of_no_row = refl

pub no_plaintext : plaintext_parsed (codes "3O") ≡ Err Header
no_plaintext = refl

pub no_rule : file_rule_told (codes "!rule = B3/S23\nO") ≡ None
no_rule = refl

-- ---- comments

pub comments_of_rle : comment_lines formats.Rle (codes "#N a\n#CXRLE Pos=1,1\n#C  b\n#r 23/3\n#C\n#Oc\nx = 1, y = 1\no!\n#O c\r\n")
    ≡ codes "#N a\n#C  b\n#C\n#O c\n"
comments_of_rle = refl

pub comments_of_mcell : comment_lines formats.MCell (codes "#MCell\n#D a\n#D\n#N b\n") ≡ codes "#C a\n#C\n"
comments_of_mcell = refl

-- it stays a comment, whatever stands behind the mark
pub comments_of_plaintext : comment_lines formats.Plaintext (codes "!XRLE Pos=1,1\n.O\n! a\n") ≡ codes "#C XRLE Pos=1,1\n#C a\n"
comments_of_plaintext = refl

-- ---- any file

pub a_file : file_parsed (codes "!a\nO")
    ≡ Ok (record { width = 1; height = 1; pos = (pos 0, pos 0); generation = 0; cells = cell 0 0 1 ∷ [] })
a_file = refl

pub bounds_in_a_header : file_bounds_told (codes "x = 1, y = 1, rule = B3/S23:T800,800\no!") ≡ Some (codes "T800,800")
unfolding rule_names
bounds_in_a_header = refl
