-- An order of refusals is a list of tests, each with its refusal: the first test that holds decides.
use Rattle.std.specs.Prelude.{◌≡◌, ◌⊎◌, Bool, true, false, List, [], ◌∷◌, Option, Some, None, Result, Ok, Err}

-- the refusal, where its test holds
abbrev pub when : {F : Type 0} → Bool → F → Option F
when true fault = Some fault
when false fault = None

-- the first refusal of a list, if there is one
abbrev pub first_of : {F : Type 0} → List (Option F) → Option F
first_of [] = None
first_of (Some fault ∷ checks) = Some fault
first_of (None ∷ checks) = first_of checks

-- the value, unless something is refused
abbrev pub unless : {A F : Type 0} → Option F → A → Result A F
unless None value = Ok value
unless (Some fault) value = Err fault

-- the next reading of what was read, unless something was refused
infixl 10 ◌>>=◌
abbrev pub ◌>>=◌ : {A B F : Type 0} → Result A F → (A → Result B F) → Result B F
(Ok x) >>= f = f x
(Err e) >>= f = Err e

-- What a call answers is what is meant, or a want that is no part of the meaning, as want of memory.
abbrev pub Answers : {A F : Type 0} → (F → Type 0) → Result A F → Result A F → Type 0
Answers IsWant (Ok x) meant = meant ≡ Ok x
Answers IsWant (Err e) meant = IsWant e ⊎ (meant ≡ Err e)

-- The same, where a value that is answered stands for what is meant.
abbrev pub AnswersAs : {A B F : Type 0} → (A → B → Type 0) → (F → Type 0) → Result A F → Result B F → Type 0
AnswersAs StandsFor IsWant (Ok x) (Ok y) = StandsFor x y
AnswersAs StandsFor IsWant (Ok x) (Err f) = ⊥
AnswersAs StandsFor IsWant (Err e) (Ok y) = IsWant e
AnswersAs StandsFor IsWant (Err e) (Err f) = IsWant e ⊎ (e ≡ f)
