-- Records: bodies in a file, one after another, each behind a head that tells its length and seals it.
use Rattle.std.specs.Prelude.{⊤, ◌≡◌, ◌≤◌, ◌<◌, ◌-◌, ◌^◌, ℕ, List, [], ◌∷◌, ◌++◌, length, take, drop}
use Rattle.std.specs.List.{flat_map, sum}
use Rattle.std.specs.Int.{w32, w64, to_be_bytes, from_be_bytes}
use Rattle.std.specs.Hash.DefaultHasher as sip
use Rattle.byte_codec.specs.Codec.{AreBytes}

-- ---- texts

-- the greatest number of four bytes
abbrev pub full : ℕ
full = 2 ^ 32 - 1

-- SipHash-1-3 of a body, under the key 0 0
unfoldable pub digest : List ℕ → ℕ
digest body = sip.finish (sip.write sip.initial body)

-- the length, and what it lacks of 2^32 - 1; what the sum of the bytes lacks of it; the digest
unfoldable pub head_text : List ℕ → List ℕ
head_text body = to_be_bytes w32 (length body) ++ (to_be_bytes w32 (full - length body) ++ (to_be_bytes w32 (full - sum body) ++ to_be_bytes w64 (digest body)))

abbrev pub record_text : List ℕ → List ℕ
record_text body = head_text body ++ body

abbrev pub records_text : List (List ℕ) → List ℕ
records_text bodies = flat_map record_text bodies

-- a body has at most 2^24 bytes, as that of a frame
pub record IsBody (body : List ℕ) : Type 0 where
  pub small : length body ≤ 2 ^ 24
  pub bytes : AreBytes body

-- each body of a list is one
abbrev pub AreBodies : List (List ℕ) → Type 0
AreBodies [] = ⊤
AreBodies (body ∷ bodies) = IsBody body × AreBodies bodies

-- ---- reading

-- the length that a head tells
unfoldable pub size_at : List ℕ → ℕ
size_at head = from_be_bytes w32 (take 4 head)

-- what it says that the length lacks
unfoldable pub lack_at : List ℕ → ℕ
lack_at head = from_be_bytes w32 (take 4 (drop 4 head))

-- no record stands at the front
abbrev pub BeginsNone : List ℕ → Type 0
BeginsNone bytes = (body rest : List ℕ) → IsBody body → bytes ≡ record_text body ++ rest → ⊥

-- a record with this body stands at the front
pub record Begins (bytes body : List ℕ) : Type 0 where
  pub is : IsBody body
  pub behind : List ℕ
  pub spelt : bytes ≡ record_text body ++ behind

-- bytes are read as records with these bodies, up to where none begins
pub record AreRead (bytes : List ℕ) (bodies : List (List ℕ)) (rest : List ℕ) : Type 0 where
  pub spelt : bytes ≡ records_text bodies ++ rest
  pub are : AreBodies bodies
  pub ends : BeginsNone rest

-- the first place from one on where a record begins, and its body
pub record IsNextWhole (bytes : List ℕ) (from start : ℕ) (body : List ℕ) : Type 0 where
  pub behind : from ≤ start
  pub begins : Begins (drop start bytes) body
  pub first : (n : ℕ) → from ≤ n → n < start → BeginsNone (drop n bytes)
