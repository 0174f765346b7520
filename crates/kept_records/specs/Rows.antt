-- Worked values of the definitions: the two records of a document under `23/3/2` with one edit.
use Rattle.std.specs.Prelude.{◌≡◌, ℕ, List, [], ◌∷◌, ◌++◌, codes, length, take, refl}
use Rattle.kept_records.specs.Records.{head_text, lack_at, size_at}

-- the head of a message under `23/3/2`
abbrev message_head : List ℕ
message_head = codes "GLWD" ++ (1 ∷ 6 ∷ codes "23/3/2")

-- the delta of no edit
abbrev pub no_edit : List ℕ
no_edit = message_head ++ (0 ∷ 0 ∷ 0 ∷ 0 ∷ [])

-- the delta of one edit, of counter 1 and replica 65, which writes state 1 at 0 0
abbrev pub one_edit : List ℕ
one_edit =
    message_head
    ++ (0 ∷ 0 ∷ 0 ∷ 1 ∷ 0 ∷ 0 ∷ 0 ∷ 0 ∷ 0 ∷ 1 ∷ 0 ∷ 0x41 ∷ 0 ∷ 0 ∷ 0 ∷ 0 ∷ 1 ∷ 0x40 ∷ 0 ∷ 0 ∷ 0 ∷ 0x40 ∷ 0 ∷ 0 ∷ 0 ∷ 1 ∷ [])

-- the length, what it lacks of 2^32 - 1, and what the sum of the bytes lacks
pub head_of_no_edit : take 12 (head_text no_edit) ≡ 0 ∷ 0 ∷ 0 ∷ 0x10 ∷ 0xff ∷ 0xff ∷ 0xff ∷ 0xef ∷ 0xff ∷ 0xff ∷ 0xfd ∷ 0xa2 ∷ []
unfolding head_text
head_of_no_edit = refl

pub head_of_one_edit : take 12 (head_text one_edit) ≡ 0 ∷ 0 ∷ 0 ∷ 0x26 ∷ 0xff ∷ 0xff ∷ 0xff ∷ 0xd9 ∷ 0xff ∷ 0xff ∷ 0xfc ∷ 0xdd ∷ []
unfolding head_text
head_of_one_edit = refl

-- eight bytes behind those
pub length_of_a_head : length (head_text no_edit) ≡ 20
unfolding head_text
length_of_a_head = refl

pub size_told : size_at (head_text one_edit) ≡ 38
unfolding head_text size_at
size_told = refl

pub lack_told : lack_at (head_text one_edit) ≡ 0xffffffd9
unfolding head_text lack_at
lack_told = refl
