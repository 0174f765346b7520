-- Reading so many values in a loop: what was read before, and what is still to be read.
use Rattle.std.proofs.Common.{◌≡◌, ℕ, zero, suc, ◌-◌, ◌+◌, ◌≤◌, ◌<◌, List, [], ◌∷◌, ◌++◌, Result, Ok, Err, refl, sym, ap, ◌∙◌, append_assoc, arith, ◌⊎◌, inl, inr}
use Rattle.std.proofs.lemmas.List.{append-nil}
use Rattle.byte_codec.specs.Reading.{Reading, onwards, many_at}

-- what was read before stands in front of what is read
abbrev pub in_front : {F A : Type 0} → List A → Result (List A × List ℕ) F → Result (List A × List ℕ) F
in_front front read = onwards read (λ xs end. Ok (front ++ xs, end))

regroup : {F A : Type 0} (front : List A) (x : A) (read : Result (List A × List ℕ) F)
    → in_front front (onwards read (λ xs end. Ok (x ∷ xs, end))) ≡ in_front (front ++ x ∷ []) read
regroup {F} {A} front x (Ok found) = ap (λ (xs : List A). Ok (xs, found.1)) (sym (append_assoc front (x ∷ []) found.0))
regroup front x (Err fault) = refl

-- one value more is read
pub goes_on : {F S A : Type 0} (next : S → A → S) (read : S → Reading F A) (front : List A) (count i : ℕ) (state : S) (bytes : List ℕ) (x : A) (rest : List ℕ)
    (total : Result (List A × List ℕ) F) → i < count → read state bytes ≡ Ok (x, rest)
    → in_front front (many_at next read (count - i) state bytes) ≡ total
    → in_front (front ++ x ∷ []) (many_at next read (count - (i + 1)) (next state x) rest) ≡ total
goes_on next read front count i state bytes x rest total more is so_far =
    let k : count - i ≡ suc (count - (i + 1)) = omega arith in
    let one : in_front front (many_at next read (count - i) state bytes) ≡ in_front (front ++ x ∷ []) (many_at next read (count - (i + 1)) (next state x) rest) =
    rw (k, is) (regroup front x (many_at next read (count - (i + 1)) (next state x) rest)) in
    sym one ∙ so_far

-- a fault is read
pub stops : {F S A : Type 0} (next : S → A → S) (read : S → Reading F A) (front : List A) (count i : ℕ) (state : S) (bytes : List ℕ) (fault : F)
    (total : Result (List A × List ℕ) F) → i < count → read state bytes ≡ Err fault
    → in_front front (many_at next read (count - i) state bytes) ≡ total → total ≡ Err fault
stops next read front count i state bytes fault total more is so_far =
    let k : count - i ≡ suc (count - (i + 1)) = omega arith in
    let one : in_front front (many_at next read (count - i) state bytes) ≡ Err fault = rw (k, is) refl in
    sym so_far ∙ one

-- a fault is read, or there was none and something else was in the way
pub stops_or : {F S A : Type 0} (IsOther : F → Type 0) (next : S → A → S) (read : S → Reading F A) (front : List A) (count i : ℕ) (state : S) (bytes : List ℕ) (fault : F)
    (total : Result (List A × List ℕ) F) → i < count → IsOther fault ⊎ (read state bytes ≡ Err fault)
    → in_front front (many_at next read (count - i) state bytes) ≡ total → IsOther fault ⊎ (total ≡ Err fault)
stops_or IsOther next read front count i state bytes fault total more (inl other) so_far = inl other
stops_or IsOther next read front count i state bytes fault total more (inr is) so_far = inr (stops next read front count i state bytes fault total more is so_far)

-- all are read
pub is_done : {F S A : Type 0} (next : S → A → S) (read : S → Reading F A) (front : List A) (count i : ℕ) (state : S) (bytes : List ℕ)
    (total : Result (List A × List ℕ) F) → count ≤ i
    → in_front front (many_at next read (count - i) state bytes) ≡ total → total ≡ Ok (front, bytes)
is_done {F} {S} {A} next read front count i state bytes total le so_far =
    let k : count - i ≡ 0 = omega arith in
    let one : in_front front (many_at next read (count - i) state bytes) ≡ Ok (front, bytes) = rw k (ap (λ (xs : List A). Ok (xs, bytes)) (append-nil front)) in
    sym so_far ∙ one

nothing_in_front : {F A : Type 0} (read : Result (List A × List ℕ) F) → in_front [] read ≡ read
nothing_in_front (Ok x) = refl
nothing_in_front (Err fault) = refl

-- none is read yet
pub starts : {F S A : Type 0} (next : S → A → S) (read : S → Reading F A) (front : List A) (count : ℕ) (state : S) (bytes : List ℕ) → front ≡ []
    → in_front front (many_at next read (count - 0) state bytes) ≡ many_at next read count state bytes
starts next read front count state bytes none =
    let all : count - 0 ≡ count = omega arith in
    rw (none, all) (nothing_in_front (many_at next read count state bytes))
