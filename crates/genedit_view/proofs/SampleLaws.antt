-- Samples of one generation after another.
use Rattle.std.proofs.Common.{◌≡◌, inl, inr, ℕ, ◌+◌, ◌<◌, true, List, [], ◌∷◌, ◌++◌, length, get_or, sym, subst, arith, length-append}
use Rattle.std.specs.Prelude.{Result, is_ok, if◌then◌else◌}
use Rattle.std.proofs.lemmas.Bool.{cases_lt}
use Rattle.std.proofs.lemmas.List.{get_or_append_left}
use Rattle.std.proofs.Math.Seq.{get_or-append_seam}
use Rattle.generations_rule.specs.Place.{Place}
use Rattle.generations_rule.specs.Rule.{GenerationsRule}

-- what is said of a rule and a map is said of the same ones
pub said_of_same : (P : GenerationsRule → (Place → ℕ) → Type 0) (r r' : GenerationsRule) (f f' : Place → ℕ) → r ≡ r' → f ≡ f' → P r f → P r' f'
said_of_same P r r' f f' rule map said = subst (λ h. P r' h) map (subst (λ t. P t f) rule said)

-- what a push that was made well leaves
pub appended : {X A E : Type 0} (r : Result A E) (old new : List X) (x : X) → is_ok r ≡ true → new ≡ (if is_ok r then old ++ x ∷ [] else old) → new ≡ old ++ x ∷ []
appended r old new x ok is = rw ok at is

pub one_longer : {X : Type 0} (xs : List X) (x : X) (n : ℕ) → length xs ≡ n → length (xs ++ x ∷ []) ≡ n + 1
one_longer xs x n is = simp length-append (omega arith)

-- what holds of each item by its place, and of one more
pub each_more : {X : Type 0} (P : ℕ → X → Type 0) (xs : List X) (x : X) (n : ℕ) → length xs ≡ n → ((k : ℕ) (d : X) → k < n → P k (get_or xs k d)) → P n x →
    (k : ℕ) (d : X) → k < n + 1 → P k (get_or (xs ++ x ∷ []) k d)
each_more P xs x n is each last k d below = elim (cases_lt k n) [
  | inl before ↦
      let inside : k < length xs = omega arith in
      subst (λ y. P k y) (sym (get_or_append_left xs (x ∷ []) d k inside)) (each k d before)
  | inr behind ↦
      let here : length xs ≡ k = omega arith in
      let there : n ≡ k = omega arith in
      let seam : get_or (xs ++ x ∷ []) k d ≡ x = subst (λ m. get_or (xs ++ x ∷ []) m d ≡ x) here (get_or-append_seam xs x [] d) in
      subst (λ y. P k y) (sym seam) (subst (λ m. P m x) there last)
]
