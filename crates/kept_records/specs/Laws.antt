-- What records obey.
use Rattle.std.specs.Prelude.{⊤, ◌≡◌, ◌≢◌, ◌≤◌, ℕ, List, [], ◌∷◌, ◌++◌, length, set}
use mathlib.Core.List.{IsPrefix}
use Rattle.kept_records.specs.Records.{AreBodies, AreRead, records_text}

-- No byte is greater than the other's, and there are no more of them. So a crash leaves what was written and not
-- synced, where each byte is as it was written or still 0, and the file ends anywhere.
abbrev pub IsLowered : List ℕ → List ℕ → Type 0
IsLowered [] ys = ⊤
IsLowered (x ∷ xs) [] = ⊥
IsLowered (x ∷ xs) (y ∷ ys) = (x ≤ y) × IsLowered xs ys

pub record AreRecordLaws : Type 0 where
  -- bytes are read in one way
  pub one : (bytes : List ℕ) (bodies others : List (List ℕ)) (rest left : List ℕ) → AreRead bytes bodies rest → AreRead bytes others left → (bodies ≡ others) × (rest ≡ left)
  -- what is written is read, and behind it what stands there
  pub again : (bodies : List (List ℕ)) (more : List ℕ) (others : List (List ℕ)) (rest : List ℕ) → AreBodies bodies → AreRead more others rest
      → AreRead (records_text bodies ++ more) (bodies ++ others) rest
  -- where some records are whole, and behind them others lost bytes, or have bytes that got less, the whole ones are
  -- read, and of the others the first
  pub lowered : (kept later : List (List ℕ)) (left : List ℕ) (got : List (List ℕ)) (rest : List ℕ) → AreBodies kept → AreBodies later → IsLowered left (records_text later)
      → AreRead (records_text kept ++ left) got rest → IsPrefix kept got × IsPrefix got (kept ++ later)
  -- where bytes got greater, and there are as many, the first of the bodies are read
  pub raised : (bodies : List (List ℕ)) (bytes : List ℕ) (got : List (List ℕ)) (rest : List ℕ) → AreBodies bodies → IsLowered (records_text bodies) bytes → length bytes ≡ length (records_text bodies)
      → AreRead bytes got rest → IsPrefix got bodies
  -- any one byte that changed is told: the first of the bodies are read, and not all
  pub changed : (bodies : List (List ℕ)) (i x : ℕ) (got : List (List ℕ)) (rest : List ℕ) → AreBodies bodies → set (records_text bodies) i x ≢ records_text bodies
      → AreRead (set (records_text bodies) i x) got rest → IsPrefix got bodies × (got ≢ bodies)
