-- The comments of a file, as an RLE text has them.
use Rattle.std.specs.Prelude.{ℕ, List, [], ◌∷◌, ◌++◌, codes, if◌then◌else◌, Option, Some, None}
use Rattle.std.specs.List.{flat_map}
use Rattle.std.specs.Option.{option_or}
use Rattle.text_scan.specs.Bytes.{◌>=>◌, text_behind, is_space_or_tab}
use Rattle.multistate_rle.specs.HeaderLine.{text_lines}
use Rattle.cell_files.specs.declared.comment.CommentMark.{CommentMark}
use Rattle.cell_files.specs.declared.comment.CommentMark.TheVariants.{Name, Author, Remark}
use Rattle.cell_files.specs.declared.format.CellFormat.{CellFormat}
use Rattle.cell_files.specs.declared.format.CellFormat.TheVariants as formats
use Rattle.cell_files.specs.Heads.{behind_word}

-- a text, and what it is said of
pub record CommentValue : Type 0 where
  pub mark : CommentMark
  pub text : List ℕ

-- a text without the one blank that parts it from its mark
abbrev pub without_blank : List ℕ → List ℕ
without_blank [] = []
without_blank (byte ∷ rest) = if is_space_or_tab byte then rest else byte ∷ rest

-- a comment's text: what stands behind a word and a blank
abbrev pub comment_behind : CommentMark → List ℕ → List ℕ → Option CommentValue
comment_behind mark word line = behind_word word line >=> λ rest. Some (record { mark = mark; text = without_blank rest })

-- the comment that a line is, if it is one of such a file
abbrev pub comment_in : CellFormat → List ℕ → Option CommentValue
comment_in formats.Rle line =
    option_or (comment_behind Name (codes "#N") line) (option_or (comment_behind Author (codes "#O") line) (comment_behind Remark (codes "#C") line))
comment_in formats.MCell line = comment_behind Remark (codes "#D") line
comment_in formats.Plaintext line = text_behind 33 line >=> λ rest. Some (record { mark = Remark; text = without_blank rest })
comment_in formats.State line = None
comment_in formats.Document line = None
comment_in formats.Macrocell line = None

-- the line of a comment in an RLE text: no text stands at once behind its letter, where it could make another line of it, as
-- `XRLE Pos=1,2` would
abbrev pub mark_text : CommentMark → List ℕ
mark_text Name = codes "#N"
mark_text Author = codes "#O"
mark_text Remark = codes "#C"

abbrev pub behind_blank : List ℕ → List ℕ
behind_blank [] = []
behind_blank (byte ∷ text) = 32 ∷ byte ∷ text

abbrev pub comment_line : CommentValue → List ℕ
comment_line comment = mark_text comment.mark ++ behind_blank comment.text ++ 10 ∷ []

abbrev pub line_of_comment : Option CommentValue → List ℕ
line_of_comment None = []
line_of_comment (Some comment) = comment_line comment

-- the lines of a file's comments, in their order
abbrev pub comment_lines : CellFormat → List ℕ → List ℕ
comment_lines format text = flat_map (λ line. line_of_comment (comment_in format line)) (text_lines text)
