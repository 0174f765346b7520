-- Lists whose elements stand for one another, place by place.
use Rattle.std.proofs.Common.{◌≡◌, ◌≢◌, ◌⊎◌, ℕ, zero, suc, ◌-◌, ◌<◌, ◌≤◌, List, [], ◌∷◌, ◌++◌, length, refl, sym, ◌∙◌, ap, subst, arith, inl, inr, length-set, length-append}
use Rattle.std.specs.Prelude.{Some, None, slice_get, slice_set}
use Rattle.std.proofs.Math.ListN.{replicate}
use Rattle.std.proofs.lemmas.Bool.{cases_eq}
use Rattle.std.proofs.Math.Nat.{lt_of_not-le}
use Rattle.std.proofs.lemmas.Option.{slice_get_within, slice_get_past, slice_get_cases}
use Rattle.replica_core.specs.World.{StandSideBySide, numbered}

-- ---- what stands at a place

pub some_is : {A : Type 0} {x y : A} → Some x ≡ Some y → x ≡ y
some_is h = cc

pub get_set_here : {A : Type 0} (xs : List A) (i : ℕ) (x : A) → i < length xs → slice_get (slice_set xs i x) i ≡ Some x
get_set_here [] i x h = absurd (omega arith)
get_set_here (y ∷ ys) zero x h = refl
get_set_here (y ∷ ys) (suc i) x h = get_set_here ys i x (omega arith)

pub get_set_elsewhere : {A : Type 0} (xs : List A) (i j : ℕ) (x : A) → i ≢ j → slice_get (slice_set xs i x) j ≡ slice_get xs j
get_set_elsewhere [] i j x h = refl
get_set_elsewhere (y ∷ ys) zero zero x h = absurd (h refl)
get_set_elsewhere (y ∷ ys) zero (suc j) x h = refl
get_set_elsewhere (y ∷ ys) (suc i) zero x h = refl
get_set_elsewhere (y ∷ ys) (suc i) (suc j) x h = get_set_elsewhere ys i j x (λ e. h (ap suc e))

pub set_same : {A : Type 0} (xs : List A) (i : ℕ) (x : A) → slice_get xs i ≡ Some x → slice_set xs i x ≡ xs
set_same [] i x h = refl
set_same (y ∷ ys) zero x h = ap (λ z. z ∷ ys) (sym (some_is h))
set_same (y ∷ ys) (suc i) x h = ap (λ zs. y ∷ zs) (set_same ys i x h)

-- an element of a list with one more at its end is an old one, or the new one
pub get_pushed : {A : Type 0} (xs : List A) (x : A) (i : ℕ) (y : A) → slice_get (xs ++ x ∷ []) i ≡ Some y
    → (slice_get xs i ≡ Some y) ⊎ ((i ≡ length xs) × (y ≡ x))
get_pushed [] x zero y h = inr (refl, sym (some_is h))
get_pushed [] x (suc i) y h = absurd (cc)
get_pushed (a ∷ xs) x zero y h = inl h
get_pushed (a ∷ xs) x (suc i) y h = elim (get_pushed xs x i y h) [
  | inl old ↦ inl old
  | inr new ↦ inr (ap suc new.0, new.1)
]

pub get_replicate : {A : Type 0} (n : ℕ) (x : A) (i : ℕ) (y : A) → slice_get (replicate n x) i ≡ Some y → y ≡ x
get_replicate zero x i y h = absurd (cc)
get_replicate (suc n) x zero y h = sym (some_is h)
get_replicate (suc n) x (suc i) y h = get_replicate n x i y h

-- ---- what stands at a number

pub numbered_at : {A : Type 0} (xs : List A) (r : ℕ) → 1 ≤ r → numbered xs r ≡ slice_get xs (r - 1)
numbered_at xs zero h = absurd (omega arith)
numbered_at xs (suc i) h =
    let back : i ≡ suc i - 1 = omega arith in
    ap (slice_get xs) back

pub numbered_past : {A : Type 0} (xs : List A) (r n : ℕ) → length xs ≡ n → (1 ≤ r → r ≤ n → ⊥) → numbered xs r ≡ None
numbered_past xs zero n len h = refl
numbered_past xs (suc i) n len h =
    let past : n < suc i = lt_of_not-le (λ (below : suc i ≤ n). h (omega arith) below) in
    slice_get_past xs i (omega (arith, len, past))

-- ---- side by side

-- what stands for an element is beside it
pub record Beside {A B : Type 0} (Stands : ℕ → A → B → Type 0) (xs : List A) (i : ℕ) (y : B) : Type 0 where
  pub other : A
  pub there : slice_get xs i ≡ Some other
  pub stands : Stands (suc i) other y

pub beside : {A B : Type 0} (Stands : ℕ → A → B → Type 0) (xs : List A) (ys : List B) (i : ℕ) (y : B)
    → StandSideBySide Stands xs ys → slice_get ys i ≡ Some y → Beside Stands xs i y
beside Stands xs ys i y side h =
    let within : i < length ys = slice_get_within ys i y h in
    elim (slice_get_cases xs i).1 [
      | inl found ↦ record { other = found.0; there = found.2; stands = side.each i found.0 y found.2 h }
      | inr past ↦ absurd (omega (arith, side.as_many, within, past.0))
    ]

pub side_set : {A B : Type 0} (Stands : ℕ → A → B → Type 0) (xs : List A) (ys : List B) (i : ℕ) (x : A) (y : B)
    → StandSideBySide Stands xs ys → Stands (suc i) x y → StandSideBySide Stands (slice_set xs i x) (slice_set ys i y)
side_set Stands xs ys i x y side new = record {
  as_many = length-set ys i y ∙ side.as_many ∙ sym (length-set xs i x);
  each = λ j a b left right. elim (cases_eq i j) [
    | inl here ↦
        let inside : i < length xs = omega (arith, slice_get_within (slice_set xs i x) j a left, length-set xs i x, here) in
        let a_is : x ≡ a = some_is (sym (get_set_here xs i x inside) ∙ ap (slice_get (slice_set xs i x)) here ∙ left) in
        let b_is : y ≡ b = some_is (sym (get_set_here ys i y (omega (arith, inside, side.as_many))) ∙ ap (slice_get (slice_set ys i y)) here ∙ right) in
        subst (λ k. Stands (suc k) a b) here (subst (λ z. Stands (suc i) a z) b_is (subst (λ z. Stands (suc i) z y) a_is new))
    | inr apart ↦ side.each j a b (sym (get_set_elsewhere xs i j x apart) ∙ left) (sym (get_set_elsewhere ys i j y apart) ∙ right)
  ];
}

pub side_push : {A B : Type 0} (Stands : ℕ → A → B → Type 0) (xs : List A) (ys : List B) (x : A) (y : B)
    → StandSideBySide Stands xs ys → Stands (suc (length xs)) x y → StandSideBySide Stands (xs ++ x ∷ []) (ys ++ y ∷ [])
side_push Stands xs ys x y side new = record {
  as_many = omega (arith, length-append xs (x ∷ []), length-append ys (y ∷ []), side.as_many);
  each = λ j a b left right. elim (get_pushed xs x j a left) [
    | inl old ↦ elim (get_pushed ys y j b right) [
      | inl beside_it ↦ side.each j a b old beside_it
      | inr last ↦ absurd (omega (arith, slice_get_within xs j a old, last.0, side.as_many))
    ]
    | inr last ↦ elim (get_pushed ys y j b right) [
      | inl beside_it ↦ absurd (omega (arith, slice_get_within ys j b beside_it, last.0, side.as_many))
      | inr also ↦ subst (λ k. Stands (suc k) a b) (sym last.0) (subst (λ z. Stands (suc (length xs)) a z) (sym also.1)
          (subst (λ z. Stands (suc (length xs)) z y) (sym last.1) new))
    ]
  ];
}
