-- When two leaves are one, what a leaf feeds a hasher, and its lanes from its writes.
use Rattle.std.specs.Prelude.{◌≡◌, ℕ, List, [], ◌∷◌, length, refl, Bool, true, ◌&&◌, ◌++◌, ◌^◌}
use Rattle.std.proofs.Common.{arith, ap, subst, ◌∙◌, sym}
use Rattle.std.specs.List.{flat_map}
use Rattle.std.specs.Bool.{Decides}
use Rattle.std.specs.Cmp.{IsEquivalence, decided, first_so, second_so}
use Rattle.std.specs.Hash.{HashWrites, Alike, same_Alike}
use Rattle.std.specs.Hash as fed
use Rattle.std.specs.Simd.Lanes.{zip2}
use lib.Pointwise.{pointwise, bytes_decides}
use lib.Dec.{eqb}
use Rattle.stamped_writes.specs.declared.write.Write.{Write}
use Rattle.leaf_merge_lanes.specs.declared.leaf.Leaf.TheInside.{Inside}
use lib.Lanes.{number_l, digits_l}
use Rattle.leaf_merge_lanes.specs.Leaf.{write_of, stamps_of, states_of}

-- the same writes, place by place
abbrev pub is_same : List Write → List Write → Bool
is_same a b = pointwise eqb (stamps_of a) (stamps_of b) && pointwise eqb (states_of a) (states_of b)

-- the states, eight to a number
unfoldable pub words_of : List ℕ → List ℕ
words_of states = digits_l (2 ^ 64) 8 (number_l (2 ^ 8) states)

-- what a leaf feeds a hasher: its stamps, and then its states
abbrev pub hash_writes : List Write → HashWrites
hash_writes writes = flat_map fed.u64 (stamps_of writes) ++ flat_map fed.u64 (words_of (states_of writes))

-- lanes of stamps and of states
abbrev pub inside : List ℕ → List ℕ → Inside
inside stamps states = record { stamps = stamps; states = states }

stamps_back : (xs ys : List ℕ) → length xs ≡ length ys → stamps_of (zip2 write_of xs ys) ≡ xs
stamps_back [] ys h = refl
stamps_back (x ∷ xs) [] h = absurd (omega arith)
stamps_back (x ∷ xs) (y ∷ ys) h = ap (λ l. x ∷ l) (stamps_back xs ys (omega arith))

states_back : (xs ys : List ℕ) → length xs ≡ length ys → states_of (zip2 write_of xs ys) ≡ ys
states_back [] [] h = refl
states_back [] (y ∷ ys) h = absurd (omega arith)
states_back (x ∷ xs) [] h = absurd (omega arith)
states_back (x ∷ xs) (y ∷ ys) h = ap (λ l. y ∷ l) (states_back xs ys (omega arith))

-- lanes that were made writes come back
pub split_zip : (xs ys : List ℕ) → length xs ≡ 64 → length ys ≡ 64 → inside (stamps_of (zip2 write_of xs ys)) (states_of (zip2 write_of xs ys)) ≡ inside xs ys
split_zip xs ys p q = rw (stamps_back xs ys (p ∙ sym q), states_back xs ys (p ∙ sym q))

lists_same : (a b : List Write) → stamps_of a ≡ stamps_of b → states_of a ≡ states_of b → a ≡ b
lists_same [] [] p q = refl
lists_same [] (w ∷ b) p q = cc
lists_same (v ∷ a) [] p q = cc
lists_same (v ∷ a) (w ∷ b) p q =
    let stamp : v.stamp ≡ w.stamp = cc in
    let state : v.state ≡ w.state = cc in
    let stamps : stamps_of a ≡ stamps_of b = cc in
    let states : states_of a ≡ states_of b = cc in
    let tail = lists_same a b stamps states in
    let head : v ≡ w = (λ i. record { stamp = stamp i; state = state i }) in
    λ i. head i ∷ tail i

-- the test tells whether all writes are equal
pub same_Decides : (a b : List Write) → Decides (is_same a b) (a ≡ b)
same_Decides a b = (
  λ h. lists_same a b ((bytes_decides _ _).0 (first_so (pointwise eqb (stamps_of a) (stamps_of b)) _ h)) ((bytes_decides _ _).0 (second_so (pointwise eqb (stamps_of a) (stamps_of b)) _ h)),
  λ e. subst (λ z. is_same a z ≡ true) e (rw ((bytes_decides (stamps_of a) (stamps_of a)).1 refl, (bytes_decides (states_of a) (states_of a)).1 refl)),
)

pub laws : IsEquivalence is_same
laws = decided is_same same_Decides

-- equal leaves feed a hasher alike
pub alike : Alike is_same hash_writes
alike = same_Alike hash_writes same_Decides

-- the test is one of lanes
pub same_views : (xs ys xs' ys' : List ℕ) → length xs ≡ 64 → length ys ≡ 64 → length xs' ≡ 64 → length ys' ≡ 64
    → is_same (zip2 write_of xs ys) (zip2 write_of xs' ys') ≡ (pointwise eqb xs xs' && pointwise eqb ys ys')
same_views xs ys xs' ys' p q p' q' = rw (stamps_back xs ys (p ∙ sym q), states_back xs ys (p ∙ sym q), stamps_back xs' ys' (p' ∙ sym q'), states_back xs' ys' (p' ∙ sym q'))

-- the stamps of the writes are the lanes
pub stamps_in : (xs ys : List ℕ) (writes : List Write) → length xs ≡ 64 → length ys ≡ 64 → zip2 write_of xs ys ≡ writes → stamps_of writes ≡ xs
stamps_in xs ys writes p q e = ap stamps_of (sym e) ∙ stamps_back xs ys (p ∙ sym q)

-- the states of the writes are the lanes
pub states_in : (xs ys : List ℕ) (writes : List Write) → length xs ≡ 64 → length ys ≡ 64 → zip2 write_of xs ys ≡ writes → states_of writes ≡ ys
states_in xs ys writes p q e = ap states_of (sym e) ∙ states_back xs ys (p ∙ sym q)
