-- Codecs: a spelling of values as bytes, and the reading that belongs to it.
use Rattle.std.specs.Prelude.{◌≡◌, ◌≢◌, ℕ, ◌<◌, Bool, true, ◌&&◌, List, [], ◌∷◌, ◌++◌, get_or, Ok, Err, IsTrue}
use Rattle.byte_codec.specs.Reading.{Reading, whole_of}

-- each number of the list is a byte
abbrev pub AreBytes : List ℕ → Type 0
AreBytes bytes = (i : ℕ) → get_or bytes i 0 < 256

-- the bytes are the text of a value that has one, and the rest behind it
pub record BeginsWith {A : Type 0} (spell : A → List ℕ) (has_text : A → Bool) (bytes : List ℕ) (value : A) (rest : List ℕ) : Type 0 where
  pub fits : IsTrue (has_text value)
  pub spelt : bytes ≡ spell value ++ rest

-- what is read is spelt so, and each value that has a text is read from it, whatever stands behind
pub record IsCodec {F A : Type 0} (spell : A → List ℕ) (has_text : A → Bool) (read : Reading F A) : Type 0 where
  pub takes : (bytes : List ℕ) (value : A) (rest : List ℕ) → AreBytes bytes → read bytes ≡ Ok (value, rest) → BeginsWith spell has_text bytes value rest
  pub again : (value : A) (rest : List ℕ) → IsTrue (has_text value) → read (spell value ++ rest) ≡ Ok (value, rest)

-- two tests of values, where a view leads from those that pass the first to those that pass the second, and back
pub record IsReversible {A B : Type 0} (from : A → Bool) (to : B → Bool) (view : A → B) (back : B → A) : Type 0 where
  pub there : (x : A) → IsTrue (from x) → IsTrue (to (view x)) × (back (view x) ≡ x)
  pub here : (y : B) → IsTrue (to y) → IsTrue (from (back y)) × (view (back y) ≡ y)

-- each value passes the test of the state that the ones before it left
abbrev pub pass_in_turn : {S A : Type 0} → (S → A → S) → (S → A → Bool) → S → List A → Bool
pass_in_turn next test state [] = true
pass_in_turn next test state (x ∷ xs) = test state x && pass_in_turn next test (next state x) xs

-- texts with anything behind them are equal only for equal values
abbrev pub NoneBeginsAnother : {A : Type 0} → (A → List ℕ) → (A → Bool) → Type 0
NoneBeginsAnother {A} spell has_text =
    (v w : A) (r s : List ℕ) → IsTrue (has_text v) → IsTrue (has_text w) → spell v ++ r ≡ spell w ++ s → (v ≡ w) × (r ≡ s)

-- what is read whole is the text of the value, that text is read whole, and it is refused with anything behind it
pub record ReadsWhole {F A : Type 0} (spell : A → List ℕ) (has_text : A → Bool) (trailing : F) (read : Reading F A) : Type 0 where
  pub takes : (bytes : List ℕ) (value : A) → AreBytes bytes → whole_of trailing read bytes ≡ Ok value → IsTrue (has_text value) × (bytes ≡ spell value)
  pub again : (value : A) → IsTrue (has_text value) → whole_of trailing read (spell value) ≡ Ok value
  pub more : (value : A) (rest : List ℕ) → IsTrue (has_text value) → rest ≢ [] → whole_of trailing read (spell value ++ rest) ≡ Err trailing
