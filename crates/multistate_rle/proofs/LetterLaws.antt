-- The letters of a state, and what is written of it.
use Rattle.std.proofs.Common.{◌≡◌, ◌≢◌, ℕ, zero, suc, ◌+◌, ◌-◌, ◌/◌, ◌%◌, ◌≤◌, ◌<◌, Bool, true, false, List, [], ◌∷◌, refl, sym, ap, arith, inl, inr, subst}
use Rattle.std.specs.Prelude.{◌⊎◌, ◌==◌, nat_le, if◌then◌else◌}
use Rattle.std.proofs.lemmas.Bool.{ne_eqb, eqb-true, eqb-false}
use Rattle.std.proofs.lemmas.Bool.Decides.{nat_tests}
use Rattle.multistate_rle.specs.Letters.{letters_of, letters_text, IsStateTag, IsPlain, IsLetter, IsPrefixed}
use Rattle.multistate_rle.specs.Laws.{HasLetters}

-- ---- what is written

many_letters : (dead small : Bool) (s : ℕ) → (s == 0) ≡ dead → nat_le s 24 ≡ small → s ≤ 255 → IsStateTag s (letters_text (letters_of false s))
many_letters true small s d l le = let is : s ≡ 0 = eqb-true s 0 d in rw d (inl (inl (is, refl)))
many_letters false true s d l le =
    let some : s ≢ 0 = eqb-false s 0 d in
    let low : s ≤ 24 = grind (arith, nat_tests) in
    rw (d, l) (inr (record { least = omega arith; most = omega arith; state = omega arith }))
many_letters false false s d l le =
    let high : 24 < s = grind (arith, nat_tests) in
    rw (d, l) (record { least_prefix = omega arith; most_prefix = omega arith; least = omega arith; most = omega arith; state = omega arith })

two_letters : (s : ℕ) → s ≤ 1 → IsStateTag s (letters_text (letters_of true s))
two_letters zero le = inl (inr (inl (refl, refl)))
two_letters (suc zero) le = inl (inr (inr (refl, refl)))
two_letters (suc (suc s)) le = absurd (omega arith)

pub written_letters : (two : Bool) (s : ℕ) → s ≤ (if two then 1 else 255) → IsStateTag s (letters_text (letters_of two s))
written_letters true s le = two_letters s le
written_letters false s le = many_letters (s == 0) (nat_le s 24) s refl refl le

-- ---- and only that

abbrev Written : ℕ → List ℕ → Type 0
Written s tag = (tag ≡ letters_text (letters_of false s)) ⊎ ((s ≤ 1) × (tag ≡ letters_text (letters_of true s)))

only_plain : (s c : ℕ) → IsPlain s c → Written s (c ∷ [])
only_plain s c (inl is) = let none : s ≡ 0 = is.0 in let dot : c ≡ 46 = is.1 in rw (none, dot) (inl refl)
only_plain s c (inr (inl is)) = let none : s ≡ 0 = is.0 in let b : c ≡ 98 = is.1 in rw (none, b) (inr (omega arith, refl))
only_plain s c (inr (inr is)) = let one : s ≡ 1 = is.0 in let o : c ≡ 111 = is.1 in rw (one, o) (inr (omega arith, refl))

only_letter : (s c : ℕ) → IsLetter s c → Written s (c ∷ [])
only_letter s c is =
    let some : (s == 0) ≡ false = ne_eqb s 0 (omega arith) in
    let low : nat_le s 24 ≡ true = grind (arith, nat_tests) in
    let same : c ≡ 64 + s = omega arith in
    inl (rw (some, low) (ap (λ d. d ∷ []) same))

only_prefixed : (s p c : ℕ) → IsPrefixed s p c → Written s (p ∷ c ∷ [])
only_prefixed s p c is =
    let some : (s == 0) ≡ false = ne_eqb s 0 (omega arith) in
    let above : 24 < s = omega arith in
    let high : nat_le s 24 ≡ false = grind (arith, nat_tests) in
    let prefix : p ≡ 111 + (s - 1) / 24 = omega arith in
    let last : c ≡ 65 + (s - 1) % 24 = omega arith in
    inl (rw (some, high) (λ i. prefix i ∷ last i ∷ []))

only_written : (s : ℕ) (tag : List ℕ) → IsStateTag s tag → Written s tag
only_written s [] is = absurd is
only_written s (c ∷ []) (inl plain) = only_plain s c plain
only_written s (c ∷ []) (inr letter) = only_letter s c letter
only_written s (p ∷ c ∷ []) is = only_prefixed s p c is
only_written s (a ∷ b ∷ c ∷ more) is = absurd is

is_written : (s : ℕ) (tag : List ℕ) → s ≤ 255 → Written s tag → IsStateTag s tag
is_written s tag le (inl is) = subst (IsStateTag s) (sym is) (written_letters false s le)
is_written s tag le (inr is) = subst (IsStateTag s) (sym is.1) (written_letters true s is.0)

pub has_letters : HasLetters
has_letters s tag le = (only_written s tag, is_written s tag le)
