-- What one byte does to a reader of tokens.
use Rattle.std.specs.Prelude.{◌≤◌, drop, ◌≡◌, ◌⊎◌, ℕ, List, [], ◌∷◌, ◌++◌, length, Option, Some, None, unwrap_or, Result, Ok, Err}
use Rattle.generations_rule.specs.Refusal.{◌>>=◌}
use Rattle.multistate_rle.specs.declared.fault.RleFault.{RleFault}
use Rattle.multistate_rle.specs.declared.fault.RleFault.TheVariants.{Memory}
use Rattle.pattern_cells.specs.declared.pattern.PatternCell.{PatternCell}
use Rattle.multistate_rle.specs.declared.tokens.TokenReader.{TokenReader}
use Rattle.multistate_rle.specs.declared.role.Role as declared
use Rattle.multistate_rle.specs.declared.role.Role.TheVariants as code
use Rattle.multistate_rle.specs.Role.{RoleValue}
use Rattle.multistate_rle.specs.Role as role
use Rattle.multistate_rle.specs.declared.tokens.Onward.{Onward}
use Rattle.multistate_rle.specs.declared.tokens.Onward.TheVariants.{Goes, Ends}
use Rattle.multistate_rle.specs.Lines.{left, left_from}
use Rattle.std.specs.List.{enumerate_from}
use Rattle.multistate_rle.specs.declared.line.LineProgress.{LineProgress}
use Rattle.multistate_rle.specs.Tokens.{Token, cells_drawn}
use Rattle.multistate_rle.specs.Reading.{Mark, Pen, BegunValue, fresh, pen_after, fault_of, tokens_of, tokens_ended}

-- what a role that the code tells stands for
abbrev pub role_meant : declared.Role → RoleValue
role_meant code.EndMark = role.EndMark
role_meant (code.Digit digit) = role.Digit digit
role_meant (code.Prefix prefix) = role.Prefix prefix
role_meant (code.State state) = role.State state
role_meant code.RowEnd = role.RowEnd
role_meant code.Stray = role.Stray

abbrev pub pen_of : TokenReader → Pen
pen_of r = record { column = r.column; row = r.row; cells = length r.cells.items }

-- all cells, once the bytes that follow are read too
abbrev pub cells_with : ℕ → List Mark → TokenReader → Result (List PatternCell) RleFault
cells_with end marks r = tokens_of end marks r.begun (pen_of r) >>= λ tokens. Ok (r.cells.items ++ cells_drawn tokens r.column r.row)

-- One byte more: what is read then is what would have been read, with the byte in front.
abbrev pub Reads : TokenReader → Mark → Result Onward RleFault → TokenReader → Type 0
Reads old mark (Ok Goes) new = (end : ℕ) (marks : List Mark) → cells_with end marks new ≡ cells_with end (mark ∷ marks) old
Reads old mark (Ok Ends) new = (end : ℕ) (marks : List Mark) → Ok new.cells.items ≡ cells_with end (mark ∷ marks) old
Reads old mark (Err fault) new = (fault ≡ Memory) ⊎ ((end : ℕ) (marks : List Mark) → Err fault ≡ cells_with end (mark ∷ marks) old)

-- whether the tokens may end at a place
abbrev pub EndsAt : ℕ → BegunValue → Result (Unit {0}) RleFault → Type 0
EndsAt place b (Ok x) = tokens_ended place b ≡ Ok []
EndsAt place b (Err fault) = tokens_ended place b ≡ Err fault

-- one token more, unless it is faulty
pub record ReadsToken (token : Token) (old new : TokenReader) : Type 0 where
  pub cells : new.cells.items ≡ old.cells.items ++ cells_drawn (token ∷ []) old.column old.row
  pub pen : pen_of new ≡ pen_after token (pen_of old)
  pub begun : new.begun ≡ fresh

abbrev pub Puts : ℕ → Token → TokenReader → Result (Unit {0}) RleFault → TokenReader → Type 0
Puts place token old (Ok x) new = (fault_of place (pen_of old) token ≡ None) × ReadsToken token old new
Puts place token old (Err fault) new = (fault ≡ Memory) ⊎ (fault_of place (pen_of old) token ≡ Some fault)

-- bytes of a token, read from a place on: the tokens are what they would be with the bytes in front
pub record Begins (text : List ℕ) (start : ℕ) (old : BegunValue) (place : ℕ) (new : BegunValue) : Type 0 where
  pub behind : start ≤ place
  pub within : place ≤ length text
  pub same : (end : ℕ) (pen : Pen) → tokens_of end (left_from text place) new pen ≡ tokens_of end (left_from text start) old pen

-- The bytes up to a place are a token's count, which is 1 where no digit stands there, and its prefix.
pub record IsTokenFront (text : List ℕ) (start place count : ℕ) (prefix : Option ℕ) : Type 0 where
  pub begun : BegunValue
  pub begins : Begins text start fresh place begun
  pub count_is : unwrap_or begun.count 1 ≡ count
  pub prefix_is : begun.prefix ≡ prefix
  pub place_is : unwrap_or begun.place place ≡ start

-- Bytes of a line, read from a place on: what is read then is what would have been read with the bytes in front.
abbrev pub ReadsOn : LineProgress → List ℕ → ℕ → TokenReader → Result ℕ RleFault → TokenReader → Type 0
ReadsOn line text start old (Ok place) new =
    (start ≤ place)
    × (place ≤ length text)
    × ((end : ℕ) → cells_with end (left line (enumerate_from place (drop place text))) new ≡ cells_with end (left line (enumerate_from start (drop start text))) old)
ReadsOn line text start old (Err fault) new = (fault ≡ Memory) ⊎ ((end : ℕ) → Err fault ≡ cells_with end (left line (enumerate_from start (drop start text))) old)
