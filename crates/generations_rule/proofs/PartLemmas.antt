-- Tests over the bytes of a part, and parts that are put together with slashes.
use Rattle.std.proofs.Common.{◌≡◌, ℕ, ◌<◌, Bool, true, false, List, [], ◌∷◌, ◌++◌, refl, arith, length, cond, get_or}
use Rattle.std.specs.Prelude.{◌||◌, Some, None, position, nat_lt}
use Rattle.std.specs.List.{list_any, before_first, after_first, position_or_len}
use Rattle.std.proofs.lemmas.List.Sums.{fails_before_first}
use Rattle.std.proofs.lemmas.List.Folds.{list_any_none}
use Rattle.std.proofs.Math.Seq.{drop-append-add}
use borrow.Author.Tests.{ltb-false}
use Rattle.std.proofs.lemmas.Grind.{common_steps}
use Rattle.std.proofs.lemmas.Bool.Decides.{nat_tests}
use Rattle.generations_rule.specs.RuleText.{slash, is_slash}

-- ---- tests

pub both : (a b : Bool) → (a || b) ≡ false → (a ≡ false) × (b ≡ false)
both true b h = absurd (cc)
both false b h = (refl, h)

-- where nothing passes, the place is the length
position_or_len-none : {X : Type 0} (p : X → Bool) (xs : List X) → list_any p xs ≡ false → position_or_len p xs ≡ length xs
position_or_len-none p [] none = refl
position_or_len-none p (x ∷ xs) none =
    let fails = both (p x) (list_any p xs) none in
    rw fails.0 (grind (arith, position_or_len-none p xs fails.1))

pub position-none : {X : Type 0} (p : X → Bool) (xs : List X) → list_any p xs ≡ false → position p xs ≡ None
position-none p xs none = rw (position_or_len-none p xs none) (grind (arith, nat_tests))

-- and where there is no place, nothing passes
no_place : (b : Bool) (n : ℕ) → cond b (Some n) None ≡ None → b ≡ false
no_place true n none = absurd (cc)
no_place false n none = refl

pub fails_at : {X : Type 0} (p : X → Bool) (xs : List X) → position p xs ≡ None → (k : ℕ) (d : X) → k < length xs → p (get_or xs k d) ≡ false
fails_at p xs none k d within =
    let past : nat_lt (position_or_len p xs) (length xs) ≡ false = no_place (nat_lt (position_or_len p xs) (length xs)) (position_or_len p xs) none in
    fails_before_first p xs k d (omega (arith, ltb-false _ _ past))

pub list_any-none : {X : Type 0} (p : X → Bool) (xs : List X) → position p xs ≡ None → list_any p xs ≡ false
list_any-none p xs none = list_any_none p xs (fails_at p xs none)

-- ---- parts

front_length : (front rest : List ℕ) → list_any is_slash front ≡ false → position_or_len is_slash (front ++ slash ∷ rest) ≡ length front
front_length [] rest none = refl
front_length (x ∷ front) rest none =
    let fails = both (is_slash x) (list_any is_slash front) none in
    let rest_length : position_or_len is_slash (front ++ slash ∷ rest) ≡ length front = front_length front rest fails.1 in
    rw fails.0 (omega arith)

pub before_slash : (front rest : List ℕ) → list_any is_slash front ≡ false → before_first is_slash (front ++ slash ∷ rest) ≡ front
before_slash front rest none = rw (front_length front rest none) (grind (arith, common_steps))

pub behind_slash : (front rest : List ℕ) → list_any is_slash front ≡ false → after_first is_slash (front ++ slash ∷ rest) ≡ rest
behind_slash front rest none = rw (front_length front rest none) (drop-append-add front (slash ∷ rest) 1)
