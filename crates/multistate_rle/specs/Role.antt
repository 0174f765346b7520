-- What a byte is in a row of tokens.
use Rattle.std.specs.Prelude.{ℕ}

-- The end mark, a digit of a count, a prefix (1 for `p` to 10 for `y`), the end of a run of a state or of row ends, or
-- none of these.
pub data RoleValue : Type 0 where
  EndMark : RoleValue
  Digit : (digit : ℕ) → RoleValue
  Prefix : (prefix : ℕ) → RoleValue
  State : (state : ℕ) → RoleValue
  RowEnd : RoleValue
  Stray : RoleValue
