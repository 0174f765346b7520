-- Comparisons that choose between lanes.
use Rattle.std.proofs.Common.{rules, ◌≡◌, ℕ, zero, suc, ◌+◌, ◌-◌, ◌^◌, Bool, true, false, cond, ltb, List, [], ◌∷◌, map, length, get_or, replicate, max, refl, sym, ap, ◌∙◌, arith, ltb-true, ltb-false}
use Rattle.std.proofs.lemmas.Simd.{Each1-zip2, Each2-all, length-zip2, get_or-zip2, length-sel_l, get_or-sel_l, tops_compared}
use lib.Lanes.{zip2, sel_l, top, Each1, mask_l}
use Rattle.std.proofs.Common.{◌*◌, ◌%◌, ◌↔◌, not, eqb, eqb-true, eq-eqb, subst}
use Rattle.std.proofs.lemmas.Simd.{mask_l-mod}
use Rattle.std.proofs.lemmas.List.{get_or-replicate, length-replicate}
use borrow.Rule.Simd.Lanes.{act1, act2, Asks1}
use borrow.Table.Row.{s_int}
use mir.Syntax.{cast, mask, lt, signed, unsigned, Width, w8, w64}
use mir.Val.{bits, hbits, to_z, SFits}
use lib.Signed.{lt_z}
use lib.Pointwise.{pointwise, bytes_decides}
use Rattle.std.specs.Bool.{one_answer}
use Rattle.leaf_merge_lanes.specs.Lanes.{HasLanes}

-- the lanes of us where t holds, and else those of vs
pub chosen : (t : ℕ → ℕ → Bool) (xs ys us vs : List ℕ) → length xs ≡ 64 → length ys ≡ 64 → length us ≡ 64 → length vs ≡ 64
    → HasLanes (sel_l (zip2 t xs ys) us vs) (λ i. cond (t (get_or xs i 0) (get_or ys i 0)) (get_or us i 0) (get_or vs i 0))
chosen t xs ys us vs p q r s =
    let e : length (zip2 t xs ys) ≡ 64 = length-zip2 t xs ys (p ∙ sym q) ∙ p in
    record {
      len = length-sel_l (zip2 t xs ys) us vs (e ∙ sym r) (e ∙ sym s) ∙ e;
      lanes = λ i h. get_or-sel_l (zip2 t xs ys) us vs i 0 (omega arith) (omega arith) (omega arith)
          ∙ ap (λ b. cond b (get_or us i 0) (get_or vs i 0)) (get_or-zip2 t xs ys i 0 0 false (omega arith) (omega arith));
    }

-- 0 where the second is greater, and else the lanes of vs
pub none_where : (xs ys vs : List ℕ) → length xs ≡ 64 → length ys ≡ 64 → length vs ≡ 64
    → HasLanes (sel_l (zip2 ltb xs ys) (replicate 64 0) vs) (λ i. cond (ltb (get_or xs i 0) (get_or ys i 0)) 0 (get_or vs i 0))
none_where xs ys vs p q r =
    let h = chosen ltb xs ys (replicate 64 0) vs p q (length-replicate {A = ℕ} 64 0) r in
    record {
      len = h.len;
      lanes = λ i l. h.lanes i l ∙ ap (λ z. cond (ltb (get_or xs i 0) (get_or ys i 0)) z (get_or vs i 0)) (get_or-replicate {A = ℕ} 64 i 0 0 l);
    }

-- a comparison's mask chooses by the comparison
pub compared : (w : Width) (t : ℕ → ℕ → Bool) (xs ys us vs : List ℕ) → length xs ≡ 64 → length ys ≡ 64 → length us ≡ 64 → length vs ≡ 64
    → HasLanes (sel_l (map (top (hbits w)) (zip2 (λ a b. cond (t a b) (2 ^ bits w - 1) 0) xs ys)) us vs) (λ i. cond (t (get_or xs i 0) (get_or ys i 0)) (get_or us i 0) (get_or vs i 0))
compared w t xs ys us vs p q r s = rw (tops_compared w t xs ys) (chosen t xs ys us vs p q r s)

-- the greater of two, chosen by a test
cond_max : (a b : ℕ) → cond (ltb a b) b a ≡ max a b
cond_max a b = go (ltb a b) refl
  where
    go : (t : Bool) → ltb a b ≡ t → cond t b a ≡ max a b
    go true e = let l = ltb-true _ _ e in omega (arith, l)
    go false e = let l = ltb-false _ _ e in omega (arith, l)

-- the greater of each two lanes
pub greater_lanes : (w : Width) (xs ys : List ℕ) → length xs ≡ 64 → length ys ≡ 64
    → HasLanes (sel_l (map (top (hbits w)) (zip2 (λ a b. cond (ltb a b) (2 ^ bits w - 1) 0) xs ys)) ys xs) (λ i. max (get_or xs i 0) (get_or ys i 0))
greater_lanes w xs ys p q =
    let h = compared w ltb xs ys ys xs p q q p in
    record { len = h.len; lanes = λ i l. h.lanes i l ∙ cond_max (get_or xs i 0) (get_or ys i 0) }

-- a comparison of two stamps as a mask of 64 bits
abbrev pub wide : ℕ → ℕ → ℕ
wide = act2 (mask (lt unsigned)) (s_int w64) (s_int w64) (s_int w64)

-- that mask's sign
abbrev pub below : ℕ → ℕ → ℕ
below = act2 (mask (lt signed)) (s_int w64) (s_int w64) (s_int w64)

-- that mask as one of 8 bits
abbrev pub narrow : ℕ → ℕ
narrow = act1 (cast signed signed w8) (s_int w64) (s_int w8)

-- no mask loses bits when it is made narrower
pub narrow_ok : (xs zs : List ℕ) → Each1 (Asks1 (cast signed signed w8) (s_int w64)) (zip2 below xs zs)
narrow_ok xs zs = Each1-zip2 below (Asks1 (cast signed signed w8) (s_int w64)) xs zs (Each2-all (λ x z. Asks1 (cast signed signed w8) (s_int w64) (below x z)) fits xs zs)
  where
    fits : (x z : ℕ) → Asks1 (cast signed signed w8) (s_int w64) (below x z)
    fits x z = one (lt_z (to_z w64 x) (to_z w64 z))
      where
        one : (t : Bool) → SFits w8 (to_z w64 (cond t 18446744073709551615 0))
        one true = search rules
        one false = search rules

-- so it is at one lane
one_narrow : (a b : ℕ) → top 7 (narrow (below (wide a b) 0)) ≡ ltb a b
one_narrow a b = go (ltb a b)
  where
    go : (t : Bool) → top 7 (narrow (below (cond t 18446744073709551615 0) 0)) ≡ t
    go true = refl
    go false = refl

-- a mask that was made narrower is that of the same comparison
pub narrowed : (n : ℕ) (xs ys : List ℕ) → length xs ≡ n → length ys ≡ n → map (top 7) (map narrow (zip2 below (zip2 wide xs ys) (replicate n 0))) ≡ zip2 ltb xs ys
narrowed n [] ys p q = refl
narrowed n (x ∷ xs) [] p q = refl
narrowed zero (x ∷ xs) (y ∷ ys) p q = absurd (omega arith)
narrowed (suc n) (x ∷ xs) (y ∷ ys) p q = ap (λ b. b ∷ map (top 7) (map narrow (zip2 below (zip2 wide xs ys) (replicate n 0)))) (one_narrow x y) ∙ ap (λ l. ltb x y ∷ l) (narrowed n xs ys (omega arith) (omega arith))

-- where no lane differs, neither does the first
one_same : (x y : ℕ) (xs ys : List ℕ) (m : ℕ) (t : Bool) → eqb x y ≡ t → cond (not t) 1 0 + 2 * m ≡ 0 → (m ≡ 0 → xs ≡ ys) → (x ∷ xs) ≡ (y ∷ ys)
one_same x y xs ys m true p q rest = let head = eqb-true x y p in let tail = rest (omega arith) in cc
one_same x y xs ys m false p q rest = absurd (omega arith)

-- no lane differs
none_differ : (xs ys : List ℕ) → length xs ≡ length ys → mask_l (zip2 (λ a b. not (eqb a b)) xs ys) ≡ 0 → xs ≡ ys
none_differ [] [] e h = refl
none_differ [] (y ∷ ys) e h = absurd (omega arith)
none_differ (x ∷ xs) [] e h = absurd (omega arith)
none_differ (x ∷ xs) (y ∷ ys) e h = one_same x y xs ys _ (eqb x y) refl h (λ z. none_differ xs ys (omega arith) z)

-- no lane differs from itself
all_same : (xs : List ℕ) → mask_l (zip2 (λ a b. not (eqb a b)) xs xs) ≡ 0
all_same [] = refl
all_same (x ∷ xs) = let e : eqb x x ≡ true = eq-eqb x x refl in let h = all_same xs in rw e (omega arith)

-- the bit mask of differing lanes is 0 exactly where the lists are equal
same_lanes : (w : Width) (xs ys : List ℕ) → length xs ≡ 64 → length ys ≡ 64
    → (mask_l (map (top (hbits w)) (zip2 (λ a b. cond (not (eqb a b)) (2 ^ bits w - 1) 0) xs ys)) % 2 ^ 64 ≡ 0) ↔ (xs ≡ ys)
same_lanes w xs ys p q =
    let t = λ (a b : ℕ). not (eqb a b) in
    let e = tops_compared w t xs ys in
    let m = mask_l-mod (zip2 t xs ys) 64 (omega (arith, length-zip2 t xs ys (p ∙ sym q))) in
    let all = ap (λ l. mask_l l % 2 ^ 64) e ∙ m in
    (λ h. none_differ xs ys (p ∙ sym q) (sym all ∙ h), λ h. all ∙ subst (λ l. mask_l (zip2 t xs l) ≡ 0) h (all_same xs))

twice : (b : Bool) → not (not b) ≡ b
twice true = refl
twice false = refl

-- the test of two vectors is one of lists
pub same_answer : (w : Width) (xs ys : List ℕ) → length xs ≡ 64 → length ys ≡ 64
    → not (not (eqb (mask_l (map (top (hbits w)) (zip2 (λ a b. cond (not (eqb a b)) (2 ^ bits w - 1) 0) xs ys)) % 2 ^ 64) 0)) ≡ pointwise eqb xs ys
same_answer w xs ys p q =
    let s = same_lanes w xs ys p q in
    twice _ ∙ one_answer _ _ (λ h. s.0 (eqb-true _ _ h), λ e. eq-eqb _ _ (s.1 e)) (bytes_decides xs ys)
