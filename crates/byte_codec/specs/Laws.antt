-- What codecs obey: each part is one, and what follows for all of them.
use Rattle.std.specs.Prelude.{◌≡◌, ℕ, zero, suc, ◌^◌, Bool, ◌&&◌, ◌==◌, nat_lt, List, ◌++◌, length, flat_map, Option, is_none, IsTrue}
use Rattle.std.specs.Int.{w8, w16, w32, w64, to_be_bytes}
use Rattle.byte_codec.specs.Reading.{Reading, number_at, bytes_at, mapped_at, checked_at, pair_at, chosen_at, many_at, nested_at}
use Rattle.byte_codec.specs.Codec.{IsCodec, IsReversible, pass_in_turn, NoneBeginsAnother, ReadsWhole}

-- ---- the parts

-- numbers of one, two, four and eight bytes
pub record AreNumberCodecs (F : Type 0) : Type 0 where
  pub one : (short : F) → IsCodec (to_be_bytes w8) (λ n. nat_lt n (2 ^ 8)) (number_at short w8)
  pub two : (short : F) → IsCodec (to_be_bytes w16) (λ n. nat_lt n (2 ^ 16)) (number_at short w16)
  pub four : (short : F) → IsCodec (to_be_bytes w32) (λ n. nat_lt n (2 ^ 32)) (number_at short w32)
  pub eight : (short : F) → IsCodec (to_be_bytes w64) (λ n. nat_lt n (2 ^ 64)) (number_at short w64)

-- so many bytes
abbrev pub AreBytesCodecs : Type 0 → Type 0
AreBytesCodecs F = (short : F) (count : ℕ) → IsCodec (λ bytes. bytes) (λ bytes. length bytes == count) (bytes_at short count)

-- another value for the same bytes
abbrev pub MappedIsCodec : Type 0 → Type 0 → Type 0 → Type 0
MappedIsCodec F A B =
    (spell : A → List ℕ) (has_text : A → Bool) (read : Reading F A) (fits : B → Bool) (view : A → B) (back : B → A)
    → IsCodec spell has_text read → IsReversible has_text fits view back
    → IsCodec (λ y. spell (back y)) fits (mapped_at view read)

-- a value that may be refused
abbrev pub CheckedIsCodec : Type 0 → Type 0 → Type 0
CheckedIsCodec F A =
    (spell : A → List ℕ) (has_text : A → Bool) (read : Reading F A) (fault_of : A → Option F) → IsCodec spell has_text read
    → IsCodec spell (λ x. has_text x && is_none (fault_of x)) (checked_at fault_of read)

-- one value, and behind it another
abbrev pub PairIsCodec : Type 0 → Type 0 → Type 0 → Type 0
PairIsCodec F A B =
    (spell : A → List ℕ) (has_text : A → Bool) (first : Reading F A)
    (spell_next : A → B → List ℕ) (has_text_next : A → B → Bool) (second : A → Reading F B)
    → IsCodec spell has_text first → ((x : A) → IsTrue (has_text x) → IsCodec (spell_next x) (has_text_next x) (second x))
    → IsCodec (λ p. spell p.0 ++ spell_next p.0 p.1) (λ p. has_text p.0 && has_text_next p.0 p.1) (pair_at first second)

-- a tag, and behind it what it chooses, where the value tells its tag
abbrev pub ChosenIsCodec : Type 0 → Type 0 → Type 0 → Type 0
ChosenIsCodec F T A =
    (spell_tag : T → List ℕ) (is_tag : T → Bool) (tag : Reading F T) (tag_of : A → T)
    (spell : T → A → List ℕ) (has_text : T → A → Bool) (branch : T → Reading F A)
    → IsCodec spell_tag is_tag tag → ((t : T) → IsTrue (is_tag t) → IsCodec (spell t) (has_text t) (branch t))
    → ((t : T) (x : A) → IsTrue (is_tag t) → IsTrue (has_text t x) → tag_of x ≡ t)
    → IsCodec (λ x. spell_tag (tag_of x) ++ spell (tag_of x) x) (λ x. is_tag (tag_of x) && has_text (tag_of x) x) (chosen_at tag branch)

-- so many values, each read by the state that the ones before it left
abbrev pub ManyAreCodec : Type 0 → Type 0 → Type 0 → Type 0
ManyAreCodec F S A =
    (spell : A → List ℕ) (has_text : S → A → Bool) (next : S → A → S) (read : S → Reading F A)
    → ((state : S) → IsCodec spell (has_text state) (read state))
    → (count : ℕ) (state : S)
    → IsCodec (flat_map spell) (λ xs. length xs == count && pass_in_turn next has_text state xs) (many_at next read count state)

-- a value that has values of its kind within, to any depth
abbrev pub NestedIsCodec : Type 0 → Type 0 → Type 0
NestedIsCodec F A =
    (spell : A → List ℕ) (has_text : ℕ → A → Bool) (innermost : Reading F A) (around : Reading F A → Reading F A)
    → IsCodec spell (has_text zero) innermost
    → ((depth : ℕ) (read : Reading F A) → IsCodec spell (has_text depth) read → IsCodec spell (has_text (suc depth)) (around read))
    → (depth : ℕ) → IsCodec spell (has_text depth) (nested_at innermost around depth)

-- the same values and texts in other words
abbrev pub RetoldIsCodec : Type 0 → Type 0 → Type 0
RetoldIsCodec F A =
    (spell retold : A → List ℕ) (has_text suits : A → Bool) (read : Reading F A) → IsCodec spell has_text read
    → ((x : A) → IsTrue (has_text x) → IsTrue (suits x)) → ((x : A) → IsTrue (suits x) → IsTrue (has_text x) × (retold x ≡ spell x))
    → IsCodec retold suits read

-- ---- what follows

-- no text of a codec begins another
abbrev pub KeepsTextsApart : Type 0 → Type 0 → Type 0
KeepsTextsApart F A = (spell : A → List ℕ) (has_text : A → Bool) (read : Reading F A) → IsCodec spell has_text read → NoneBeginsAnother spell has_text

-- each value has one text and each text one value, where nothing may stand behind
abbrev pub HasOneText : Type 0 → Type 0 → Type 0
HasOneText F A =
    (spell : A → List ℕ) (has_text : A → Bool) (trailing : F) (read : Reading F A) → IsCodec spell has_text read
    → ReadsWhole spell has_text trailing read
