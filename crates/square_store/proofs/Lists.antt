-- Lists of distinct keys, and one more.
use Rattle.std.proofs.Common.{arith, ◌≡◌, ℕ, zero, suc, ◌<◌, Bool, true, false, cond, List, [], ◌∷◌, ◌++◌, length, get_or, sym, ap, ◌∙◌, inl, inr, ◌⊎◌, refl}
use borrow.Author.Tests.{ltb-false}
use Rattle.std.specs.Prelude.{slice_get, Some, None, Decides, nat_lt}
use Rattle.std.specs.List.{position, position_or_len, list_any}
use Rattle.std.proofs.lemmas.List.Quantifiers.{position-Some}
use Rattle.std.proofs.lemmas.List.Sums.{position_or_len_is, fails_before_first}
use Rattle.std.proofs.lemmas.Option.{slice_get_within, slice_get-get_or, get_or_from_slice_get}

pub got_append : {A : Type 0} (xs ys : List A) (i : ℕ) (x : A) → slice_get xs i ≡ Some x → slice_get (xs ++ ys) i ≡ Some x
got_append [] ys i x e = cc
got_append (z ∷ xs) ys zero x e = e
got_append (z ∷ xs) ys (suc i) x e = got_append xs ys i x e

pub got_last : {A : Type 0} (xs : List A) (y : A) → slice_get (xs ++ y ∷ []) (length xs) ≡ Some y
got_last [] y = refl
got_last (x ∷ xs) y = got_last xs y

pub some_inj : {A : Type 0} {a b : A} → Some a ≡ Some b → a ≡ b
some_inj h = cc

-- what stands in a list with one more at the end
pub got_more : {A : Type 0} (xs : List A) (y : A) (i : ℕ) (x : A) → slice_get (xs ++ y ∷ []) i ≡ Some x → (slice_get xs i ≡ Some x) ⊎ ((i ≡ length xs) × (x ≡ y))
got_more [] y zero x e = inr (refl, sym (some_inj e))
got_more [] y (suc i) x e = cc
got_more (z ∷ xs) y zero x e = inl e
got_more (z ∷ xs) y (suc i) x e = elim (got_more xs y i x e) [
  | inl old ↦ inl old
  | inr new ↦ inr (ap suc new.0, new.1)
]

pub got_back : {A : Type 0} (xs ys : List A) (i : ℕ) (x : A) → i < length xs → slice_get (xs ++ ys) i ≡ Some x → slice_get xs i ≡ Some x
got_back [] ys i x h e = absurd (omega arith)
got_back (z ∷ xs) ys zero x h e = e
got_back (z ∷ xs) ys (suc i) x h e = got_back xs ys i x (omega arith) e

-- distinct keys and one that is none of them are distinct
pub once_more : {A : Type 0} (ks : List A) (x : A) → ((p q : ℕ) (y : A) → slice_get ks p ≡ Some y → slice_get ks q ≡ Some y → p ≡ q) → ((p : ℕ) → slice_get ks p ≡ Some x → ⊥)
    → (p q : ℕ) (y : A) → slice_get (ks ++ x ∷ []) p ≡ Some y → slice_get (ks ++ x ∷ []) q ≡ Some y → p ≡ q
once_more ks x once missing p q y at at' = elim (got_more ks x p y at) [
  | inl old ↦ elim (got_more ks x q y at') [
    | inl old' ↦ once p q y old old'
    | inr new ↦ absurd (missing p (old ∙ ap (λ z. Some z) new.1))
  ]
  | inr new ↦ elim (got_more ks x q y at') [
    | inl old ↦ absurd (missing q (old ∙ ap (λ z. Some z) new.1))
    | inr new' ↦ new.0 ∙ sym new'.0
  ]
]

module _ {T : Type 0} (eq : T → T → Bool) (same : (a b : T) → Decides (eq a b) (a ≡ b)) where
  module _ (x : T) where
    -- x is none of the keys
    abbrev pub IsMissing : List T → Type 0
    IsMissing ks = (p : ℕ) → slice_get ks p ≡ Some x → ⊥

    fails : (y : T) → (x ≡ y → ⊥) → eq x y ≡ false
    fails y h = go (eq x y) refl
      where
        go : (b : Bool) → eq x y ≡ b → b ≡ false
        go true e = absurd (h ((same x y).0 e))
        go false e = refl

    fails_all : (ks : List T) → IsMissing ks → (k : ℕ) (d : T) → k < length ks → eq x (get_or ks k d) ≡ false
    fails_all ks h k d within = fails (get_or ks k d) (λ e. h k (slice_get-get_or ks k d within ∙ ap (λ z. Some z) (sym e)))

    pub missing_any : (ks : List T) → IsMissing ks → list_any (eq x) ks ≡ false
    missing_any [] h = refl
    missing_any (y ∷ ks) h = rw (fails y (λ e. h 0 (ap (λ z. Some z) (sym e)))) (missing_any ks (λ p at. h (suc p) at))

    pub missing_place : (ks : List T) → IsMissing ks → position_or_len (eq x) ks ≡ length ks
    missing_place ks h = position_or_len_is (eq x) ks (length ks) x (omega arith) (λ k within. fails_all ks h k x within) (λ below. absurd (omega arith))

    found_here : (y : T) → Some y ≡ Some x → eq x y ≡ true
    found_here y e = (same x y).1 (sym (some_inj e))

    none_true : true ≡ false → ⊥
    none_true z = cc

    rest : (y : T) (ks : List T) (b : Bool) → eq x y ≡ b → list_any (eq x) (y ∷ ks) ≡ false → list_any (eq x) ks ≡ false
    rest y ks true e h = absurd (none_true (rw e at h))
    rest y ks false e h = rw e at h

    -- a test that fails at all keys finds none
    pub any_missing : (ks : List T) → list_any (eq x) ks ≡ false → IsMissing ks
    any_missing [] h p at = cc
    any_missing (y ∷ ks) h zero at = none_true (rw (found_here y at) at h)
    any_missing (y ∷ ks) h (suc p) at = any_missing ks (rest y ks (eq x y) refl h) p at

    -- what a search finds
    pub found : (ks : List T) (i : ℕ) → Some i ≡ position (eq x) ks → slice_get ks i ≡ Some x
    found ks i e =
        let at = position-Some (eq x) ks i x (sym e) in
        slice_get-get_or ks i x at.0 ∙ ap (λ z. Some z) (sym ((same x (get_or ks i x)).0 at.1))

    no_place : (b : Bool) (n : ℕ) → None ≡ cond b (Some n) None → b ≡ false
    no_place true n none = absurd (cc)
    no_place false n none = refl

    -- and that it finds nothing
    pub not_found : (ks : List T) → None ≡ position (eq x) ks → IsMissing ks
    not_found ks e p at =
        let past : nat_lt (position_or_len (eq x) ks) (length ks) ≡ false = no_place (nat_lt (position_or_len (eq x) ks) (length ks)) (position_or_len (eq x) ks) e in
        let within = slice_get_within ks p x at in
        let fails_there = fails_before_first (eq x) ks p x (omega (arith, ltb-false _ _ past, within)) in
        let here = get_or_from_slice_get ks p x x at in
        never (sym fails_there ∙ ap (eq x) here ∙ (same x x).1 refl)
      where
        never : false ≡ true → ⊥
        never z = cc
