-- Which line of a text is its header.
use Rattle.std.specs.Prelude.{◌≡◌, ℕ, Bool, not, ◌||◌, List, [], ◌∷◌, Option, None, filter}
use Rattle.std.specs.List.{list_all, slice_split}
use Rattle.text_scan.specs.Bytes.{is_space_or_tab, ends_line}
use Rattle.multistate_rle.specs.Header.{header_of}
use Rattle.multistate_rle.specs.Reading.{begins_comment}

-- the lines of a text, without their ends
abbrev pub text_lines : List ℕ → List (List ℕ)
text_lines text = slice_split ends_line text

-- a line may stand in front of the header: it is a comment or blank
abbrev pub may_precede : List ℕ → Bool
may_precede line = begins_comment line || list_all is_space_or_tab line

-- the sides that the first of some lines names, if it is a header
abbrev pub first_header : List (List ℕ) → Option (ℕ × ℕ)
first_header [] = None
first_header (line ∷ lines) = header_of line

-- A text has no header: each of its lines is a comment or blank, or the first that is neither is no header.
abbrev pub HasNoHeader : List ℕ → Type 0
HasNoHeader text = first_header (filter (λ line. not (may_precede line)) (text_lines text)) ≡ None
