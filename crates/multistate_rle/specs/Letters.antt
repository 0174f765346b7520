-- How a token's tag is spelt.
use Rattle.std.specs.Prelude.{◌≡◌, ◌⊎◌, ◌*◌, ◌≤◌, ℕ, ◌+◌, ◌-◌, ◌/◌, ◌%◌, Bool, nat_le, ◌==◌, if◌then◌else◌, Option, Some, None, List, [], ◌∷◌, ◌++◌, option_to_list}

-- the letters of a tag: a prefix or none, and the byte that ends it
pub record LettersValue : Type 0 where
  pub prefix : Option ℕ
  pub last : ℕ

-- a tag of one byte
abbrev pub plain : ℕ → LettersValue
plain c = record { prefix = None; last = c }

-- with two states `b` and `o`, otherwise `.`, `A` to `X`, and `p` to `y` before a letter
abbrev pub letters_of : Bool → ℕ → LettersValue
letters_of two s =
    if two then record { prefix = None; last = if s == 0 then 98 else 111 }
    else (if s == 0 then record { prefix = None; last = 46 }
    else (if nat_le s 24 then record { prefix = None; last = 64 + s }
    else record { prefix = Some (111 + (s - 1) / 24); last = 65 + (s - 1) % 24 }))

abbrev pub letters_text : LettersValue → List ℕ
letters_text l = option_to_list l.prefix ++ l.last ∷ []

-- ---- the letters of a state, as Golly's help has them

-- `A` to `X` are 1 to 24
pub record IsLetter (s c : ℕ) : Type 0 where
  pub least : 65 ≤ c
  pub most : c ≤ 88
  pub state : s ≡ c - 64

-- above 24 stands a prefix before the letter: `p` adds 24, `q` 48, and so on to `y`
pub record IsPrefixed (s p c : ℕ) : Type 0 where
  pub least_prefix : 112 ≤ p
  pub most_prefix : p ≤ 121
  pub least : 65 ≤ c
  pub most : c ≤ 88
  pub state : s ≡ 24 * (p - 111) + (c - 64)

-- `.` and `b` are 0, and `o` is 1
abbrev pub IsPlain : ℕ → ℕ → Type 0
IsPlain s c = ((s ≡ 0) × (c ≡ 46)) ⊎ (((s ≡ 0) × (c ≡ 98)) ⊎ ((s ≡ 1) × (c ≡ 111)))

abbrev pub IsStateTag : ℕ → List ℕ → Type 0
IsStateTag s [] = ⊥
IsStateTag s (c ∷ []) = IsPlain s c ⊎ IsLetter s c
IsStateTag s (p ∷ c ∷ []) = IsPrefixed s p c
IsStateTag s (a ∷ b ∷ c ∷ more) = ⊥
