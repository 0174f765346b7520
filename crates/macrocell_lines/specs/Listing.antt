-- Lines that are put one after another, and the squares that they tell.
use Rattle.std.specs.Prelude.{◌≡◌, ◌⊎◌, ℕ, zero, suc, ◌&&◌, ◌==◌, Bool, true, false, List, Some, if◌then◌else◌, map}
use Rattle.std.specs.List.{list_all, position_or_len}
use Rattle.indexmap.specs.IndexSet.{insert_key}
use Rattle.indexmap.specs.IndexMap.{get}
use Rattle.macrocell_lines.specs.declared.line.Line.{Line}
use Rattle.macrocell_lines.specs.declared.line.Line.TheVariants as lines
use Rattle.macrocell_lines.specs.declared.lines.Pair.{Pair}
use Rattle.macrocell_lines.specs.declared.lines.Lines.{Lines}
use Rattle.macrocell_lines.specs.contracts.line.LinePartialEq.TheImpl as line_eq
use Rattle.macrocell_lines.specs.contracts.lines.PairPartialEq.TheImpl as pair_eq
use Rattle.macrocell_lines.specs.Squares.{StateSquare, Cell, Four, is_dead, is_listed, is_told_by_states, number_of, walk}
use Rattle.macrocell_lines.specs.Lines.{line_of}

-- the test of lines, and that of pairs
abbrev pub is_line : Line → Line → Bool
is_line = line_eq.eq-value.it

abbrev pub is_pair : Pair → Pair → Bool
is_pair = pair_eq.eq-value.it

-- the square of a line has no state but 0
abbrev pub is_dead_line : Line → Bool
is_dead_line (lines.Leaf states) = list_all (λ s. s == 0) states
is_dead_line (lines.Four level nw ne sw se) = nw == 0 && (ne == 0 && (sw == 0 && se == 0))

-- what stands for the square of a line, and the lines with it
abbrev pub line_number : List Line → Line → ℕ
line_number ls line = if is_dead_line line then 0 else suc (position_or_len (is_line line) ls)

abbrev pub lines_with : List Line → Line → List Line
lines_with ls line = if is_dead_line line then ls else insert_key is_line ls line

-- a square of level k
abbrev pub IsSquare : ℕ → StateSquare → Type 0
IsSquare zero (Cell s) = Unit {0}
IsSquare zero (Four a b c d) = ⊥
IsSquare (suc k) (Cell s) = ⊥
IsSquare (suc k) (Four a b c d) = IsSquare k a × (IsSquare k b × (IsSquare k c × IsSquare k d))

-- a cell, or a square that has no state but 0 or is listed
abbrev pub IsStanding : List StateSquare → StateSquare → Type 0
IsStanding squares (Cell s) = Unit {0}
IsStanding squares (Four a b c d) = (is_dead (Four a b c d) ≡ true) ⊎ (is_listed squares (Four a b c d) ≡ true)

-- four quarters stand
abbrev pub AreStanding : List StateSquare → StateSquare → Type 0
AreStanding squares (Cell s) = Unit {0}
AreStanding squares (Four a b c d) = IsStanding squares a × (IsStanding squares b × (IsStanding squares c × IsStanding squares d))

-- a square may be listed behind others: it is no cell, has a state that is not 0, and its quarters stand, but for one that is told by its states
pub record IsPlaced (of_two : Bool) (squares : List StateSquare) (q : StateSquare) : Type 0 where
  pub above : ℕ
  pub level : IsSquare (suc above) q
  pub live : is_dead q ≡ false
  pub quarters : is_told_by_states of_two q ≡ false → AreStanding squares q

-- what stands for a square
pub record IsNumber (squares : List StateSquare) (n : ℕ) (q : StateSquare) : Type 0 where
  pub standing : IsStanding squares q
  pub number : n ≡ number_of squares q

-- the lines are those of squares, and each pair that was noted has the number of its square
pub record IsListing (of_two : Bool) (meaning : Pair → StateSquare) (w : Lines) (squares : List StateSquare) : Type 0 where
  pub lines : w.lines.keys ≡ map (line_of of_two squares) squares
  pub placed : (q : StateSquare) → is_listed squares q ≡ true → IsPlaced of_two squares q
  pub noted : (key : Pair) (n : ℕ) → get is_pair w.numbers key ≡ Some n → IsNumber squares n (meaning key)

-- a square was walked over, and what stands for it is n
pub record IsWalked (of_two : Bool) (meaning : Pair → StateSquare) (old new : Lines) (q : StateSquare) (n : ℕ) : Type 0 where
  pub listing : (squares : List StateSquare) → IsListing of_two meaning old squares → IsListing of_two meaning new (walk of_two q squares)
  pub number : (squares : List StateSquare) → IsListing of_two meaning old squares → IsNumber (walk of_two q squares) n q

-- the same of a square of more than two states, whatever pairs mean
abbrev pub IsWalkedAnyhow : Lines → Lines → StateSquare → ℕ → Type 0
IsWalkedAnyhow old new q n = (meaning : Pair → StateSquare) → IsWalked false meaning old new q n
