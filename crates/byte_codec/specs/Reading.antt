-- Readings of bytes from left to right, put together from parts: a value and the bytes behind it, or the first fault.
use Rattle.std.specs.Prelude.{ℕ, zero, suc, ◌==◌, nat_lt, List, [], ◌∷◌, length, take, drop, Option, Some, None, Result, Ok, Err, if◌then◌else◌}
use Rattle.std.specs.Int.{Width, byte_len, from_be_bytes}

-- what is read of bytes of a type of values, or of faults
abbrev pub Reading : Type 0 → Type 0 → Type 0
Reading F A = List ℕ → Result (A × List ℕ) F

-- what comes of a value and the bytes behind it, unless there was a fault
abbrev pub onwards : {F A B : Type 0} → Result (A × List ℕ) F → (A → List ℕ → Result B F) → Result B F
onwards (Ok x) next = next x.0 x.1
onwards (Err fault) next = Err fault

-- the value, unless it is refused
abbrev pub unrefused : {F A : Type 0} → Option F → A → Result A F
unrefused None value = Ok value
unrefused (Some fault) value = Err fault

-- so many bytes
abbrev pub bytes_at : {F : Type 0} → F → ℕ → Reading F (List ℕ)
bytes_at short count bytes = if nat_lt (length bytes) count then Err short else Ok (take count bytes, drop count bytes)

-- a number in the bytes of its width, the greatest first
abbrev pub number_at : {F : Type 0} → F → Width → Reading F ℕ
number_at short width bytes =
    if nat_lt (length bytes) (byte_len width) then Err short
    else Ok (from_be_bytes width (take (byte_len width) bytes), drop (byte_len width) bytes)

-- another value for the same bytes
abbrev pub mapped_at : {F A B : Type 0} → (A → B) → Reading F A → Reading F B
mapped_at view read bytes = onwards (read bytes) (λ x rest. Ok (view x, rest))

-- a value that may be refused
abbrev pub checked_at : {F A : Type 0} → (A → Option F) → Reading F A → Reading F A
checked_at fault_of read bytes = onwards (read bytes) (λ x rest. unrefused (fault_of x) (x, rest))

-- one value, and behind it another, whose reading may depend on the first
abbrev pub pair_at : {F A B : Type 0} → Reading F A → (A → Reading F B) → Reading F (A × B)
pair_at first second bytes = onwards (first bytes) (λ x rest. onwards (second x rest) (λ y end. Ok ((x, y), end)))

-- a tag, and behind it what it chooses
abbrev pub chosen_at : {F T A : Type 0} → Reading F T → (T → Reading F A) → Reading F A
chosen_at tag branch bytes = onwards (tag bytes) (λ t rest. branch t rest)

-- so many values, each read by the state that the ones before it left
abbrev pub many_at : {F S A : Type 0} → (S → A → S) → (S → Reading F A) → ℕ → S → Reading F (List A)
many_at next read zero state bytes = Ok ([], bytes)
many_at next read (suc count) state bytes =
    onwards (read state bytes) (λ x rest. onwards (many_at next read count (next state x) rest) (λ xs end. Ok (x ∷ xs, end)))

-- a value that has values of its kind within, to a depth
abbrev pub nested_at : {F A : Type 0} → Reading F A → (Reading F A → Reading F A) → ℕ → Reading F A
nested_at innermost around zero = innermost
nested_at innermost around (suc depth) = around (nested_at innermost around depth)

-- the value, where nothing stands behind it
abbrev pub ended : {F A : Type 0} → F → A → List ℕ → Result A F
ended trailing value rest = if length rest == 0 then Ok value else Err trailing

-- a value that is all of the bytes
abbrev pub whole_of : {F A : Type 0} → F → Reading F A → List ℕ → Result A F
whole_of trailing read bytes = onwards (read bytes) (λ x rest. ended trailing x rest)

-- what was read, seen by a view, with the bytes that it left; or the fault
abbrev pub leaving : {F X A : Type 0} → (X → A) → Result X F → List ℕ → Result (A × List ℕ) F
leaving view (Ok x) rest = Ok (view x, rest)
leaving view (Err fault) rest = Err fault
