-- The tokens of Golly's multi-state RLE, and what they draw.
use Rattle.std.specs.Prelude.{◌≡◌, ◌≢◌, ℕ, zero, suc, ◌+◌, ◌-◌, ◌≤◌, List, [], ◌∷◌, ◌++◌, ◌==◌, if◌then◌else◌, ⊤}
use Rattle.pattern_cells.specs.declared.pattern.PatternCell.{PatternCell}

-- a run of one state, or of row ends
pub data Token : Type 0 where
  Cells : (count state : ℕ) → Token
  Rows : (count : ℕ) → Token

-- n cells in a row, from a column on
abbrev pub cells_in_row : ℕ → ℕ → ℕ → ℕ → List PatternCell
cells_in_row zero s column row = []
cells_in_row (suc n) s column row = record { column = column; row = row; state = s } ∷ cells_in_row n s (column + 1) row

-- the nonzero cells of one run
abbrev pub run : ℕ → ℕ → ℕ → ℕ → List PatternCell
run n s column row = if s == 0 then [] else cells_in_row n s column row

-- The nonzero cells that tokens draw from a place on: a run puts its state on the next columns, and
-- row ends go down, to column 0.
abbrev pub cells_drawn : List Token → ℕ → ℕ → List PatternCell
cells_drawn [] column row = []
cells_drawn (Cells n s ∷ tokens) column row = run n s column row ++ cells_drawn tokens (column + n) row
cells_drawn (Rows n ∷ tokens) column row = cells_drawn tokens 0 (row + n)

-- ---- the canonical list

-- the two may stand side by side: they differ in their second part, and no dead run ends a row
abbrev pub MayFollow : Token → Token → Type 0
MayFollow (Cells m s) (Cells n t) = s ≢ t
MayFollow (Cells m s) (Rows n) = s ≢ 0
MayFollow (Rows m) (Cells n t) = ⊤
MayFollow (Rows m) (Rows n) = ⊥

abbrev pub count_of : Token → ℕ
count_of (Cells n s) = n
count_of (Rows n) = n

-- neither a dead run nor a row end
abbrev pub MayEnd : Token → Type 0
MayEnd (Cells n s) = s ≢ 0
MayEnd (Rows n) = ⊥

abbrev pub AreCanonical : List Token → Type 0
AreCanonical [] = ⊤
AreCanonical (a ∷ []) = (1 ≤ count_of a) × MayEnd a
AreCanonical (a ∷ b ∷ tokens) = (1 ≤ count_of a) × MayFollow a b × AreCanonical (b ∷ tokens)

-- the one canonical list that draws these cells
pub record IsTokensOf (tokens : List Token) (cells : List PatternCell) : Type 0 where
  pub canonical : AreCanonical tokens
  pub draws : cells_drawn tokens 0 0 ≡ cells

-- ---- the canonical list, made from the cells

-- dead columns, if there are any
abbrev pub skip : ℕ → List Token
skip zero = []
skip (suc n) = Cells (suc n) 0 ∷ []

-- the row ends and the dead columns before a cell
abbrev pub gap : ℕ → ℕ → PatternCell → List Token
gap column row c = if c.row == row then skip (c.column - column) else Rows (c.row - row) ∷ skip c.column

-- so many more cells of a state in front, one run with those of that state that follow
abbrev pub with_run : ℕ → ℕ → List Token → List Token
with_run n s [] = Cells n s ∷ []
with_run n s (Cells m t ∷ tokens) = if s == t then Cells (n + m) t ∷ tokens else Cells n s ∷ Cells m t ∷ tokens
with_run n s (Rows m ∷ tokens) = Cells n s ∷ Rows m ∷ tokens

-- the tokens of cells in their order, from a place on
abbrev pub tokens_from : ℕ → ℕ → List PatternCell → List Token
tokens_from column row [] = []
tokens_from column row (c ∷ cells) = gap column row c ++ with_run 1 c.state (tokens_from (c.column + 1) c.row cells)
