-- Which elements lists have.
use Rattle.std.proofs.Common.{◌≡◌, ◌⊎◌, zero, suc, Bool, true, List, [], ◌∷◌, map, inl, inr, refl, sym, ap, subst, ◌∙◌, arith}
use Rattle.std.specs.Prelude.{Contains, filter, length, ◌==◌, IfOk, Result, Ok, Err}
use Rattle.std.proofs.lemmas.Bool.{cases_Bool}
use Rattle.stamped_tree.proofs.Overwriting.{no_length}
use Rattle.stamped_tree.proofs.Gathering.{contains_head, contains_tail}

pub contains_none : {X : Type 0} (x : X) → Contains [] x → ⊥
contains_none x (k, l, e) = omega (arith, l)

pub contains_cases : {X : Type 0} (x y : X) (xs : List X) → Contains (x ∷ xs) y → (y ≡ x) ⊎ Contains xs y
contains_cases x y xs (zero, l, e) = inl (sym e)
contains_cases x y xs (suc k, l, e) = inr (k, omega (arith, l), e)

pub contains_same : {X : Type 0} (x y : X) (xs : List X) → y ≡ x → Contains (x ∷ xs) y
contains_same x y xs e = subst (λ z. Contains (x ∷ xs) z) (sym e) (contains_head x xs)

-- what some elements were made into
pub mapped_only : {X Y : Type 0} (f : X → Y) (p : X → Bool) (xs : List X) (y : Y) → Contains (map f (filter p xs)) y → (x : X) × (Contains xs x × (p x ≡ true) × (f x ≡ y))
mapped_only f p [] y h = absurd (contains_none y h)
mapped_only f p (x ∷ xs) y h = elim (cases_Bool (p x)) [
  | inl passes ↦ elim (contains_cases (f x) y (map f (filter p xs)) (rw passes at h)) [
    | inl e ↦ (x, (contains_head x xs, passes, sym e))
    | inr below ↦ (let r = mapped_only f p xs y below in (r.0, (contains_tail x r.0 xs r.1.0, r.1.1, r.1.2)))
  ]
  | inr fails ↦ (let r = mapped_only f p xs y (rw fails at h) in (r.0, (contains_tail x r.0 xs r.1.0, r.1.1, r.1.2)))
]

pub mapped_has : {X Y : Type 0} (f : X → Y) (p : X → Bool) (xs : List X) (x : X) → Contains xs x → p x ≡ true → Contains (map f (filter p xs)) (f x)
mapped_has f p [] x h passes = absurd (contains_none x h)
mapped_has f p (z ∷ xs) x h passes = elim (contains_cases z x xs h) [
  | inl e ↦ (let first = subst (λ w. p w ≡ true) e passes in rw first (contains_same (f z) (f x) (map f (filter p xs)) (ap f e)))
  | inr below ↦ elim (cases_Bool (p z)) [
    | inl first ↦ rw first (contains_tail (f z) (f x) (map f (filter p xs)) (mapped_has f p xs x below passes))
    | inr other ↦ rw other (mapped_has f p xs x below passes)
  ]
]

-- what is left of a list by a test is of the list, and passes
pub filtered_only : {X : Type 0} (p : X → Bool) (xs : List X) (x : X) → Contains (filter p xs) x → Contains xs x × (p x ≡ true)
filtered_only p [] x h = absurd (contains_none x h)
filtered_only p (y ∷ xs) x h = elim (cases_Bool (p y)) [
  | inl passes ↦ elim (contains_cases y x (filter p xs) (rw passes at h)) [
    | inl is ↦ (contains_same y x xs is, ap p is ∙ passes)
    | inr below ↦ (let r = filtered_only p xs x below in (contains_tail y x xs r.0, r.1))
  ]
  | inr fails ↦ (let r = filtered_only p xs x (rw fails at h) in (contains_tail y x xs r.0, r.1))
]

pub filtered_has : {X : Type 0} (p : X → Bool) (xs : List X) (x : X) → Contains xs x → p x ≡ true → Contains (filter p xs) x
filtered_has p [] x h passes = absurd (contains_none x h)
filtered_has p (y ∷ xs) x h passes = elim (contains_cases y x xs h) [
  | inl is ↦ (let first = subst (λ z. p z ≡ true) is passes in rw first (contains_same y x (filter p xs) is))
  | inr below ↦ elim (cases_Bool (p y)) [
    | inl first ↦ rw first (contains_tail y x (filter p xs) (filtered_has p xs x below passes))
    | inr other ↦ rw other (filtered_has p xs x below passes)
  ]
]

pub no_items : {X : Type 0} (xs : List X) → true ≡ (length xs == 0) → xs ≡ []
no_items [] h = refl
no_items (x ∷ xs) h = absurd (let none = no_length (length (x ∷ xs)) h in omega (arith, none))

-- ---- results

pub if_ok : {A F : Type 0} {P Q : A → Type 0} (r : Result A F) → ((x : A) → P x → Q x) → IfOk r P → IfOk r Q
if_ok (Ok x) f p = f x p
if_ok (Err e) f p = tt
