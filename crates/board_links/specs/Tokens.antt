-- Tokens, as files have them.
use Rattle.std.specs.Prelude.{◌≡◌, ◌⊎◌, ◌++◌, ◌&&◌, ◌||◌, ◌≤◌, Bool, true, ℕ, List, [], ◌∷◌, drop, length, nat_le, take}
use Rattle.std.specs.List.{list_all}

-- a hexadecimal digit, in lower case
abbrev pub is_digit : ℕ → Bool
is_digit byte = nat_le 48 byte && nat_le byte 57 || nat_le 97 byte && nat_le byte 102

-- the line of a token
abbrev pub token_line : List ℕ → List ℕ
token_line token = token ++ (10 ∷ [])

-- nothing, or the end of a line
abbrev pub IsLineEnd : List ℕ → Type 0
IsLineEnd rest = (rest ≡ []) ⊎ (rest ≡ 10 ∷ [])

-- a text has this token: its first 32 bytes are digits, and behind them a line ends
pub record IsTokenText (token text : List ℕ) : Type 0 where
  pub size : 32 ≤ length text
  pub front : token ≡ take 32 text
  pub digits : list_all is_digit token ≡ true
  pub ended : IsLineEnd (drop 32 text)
