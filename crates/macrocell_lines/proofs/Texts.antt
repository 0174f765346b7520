-- Rows and their marks.
use Rattle.std.proofs.Common.{◌≡◌, ℕ, zero, suc, ◌+◌, arith, Bool, true, false, List, [], ◌∷◌, ◌++◌, length, refl, sym, ap, ◌∙◌, map, append_assoc, append-nil}
use Rattle.std.specs.Prelude.{Result, Ok, Err, OnOk, is_ok, ◌==◌, if◌then◌else◌, flat_map}
use Rattle.std.specs.List.{range_with_len}
use Rattle.std.proofs.Math.Dec.{eqb-suc-zero}
use Rattle.std.proofs.lemmas.List.{map-append}
use Rattle.std.proofs.lemmas.Grind.{flat_map-append}
use Rattle.std.proofs.lemmas.List.FromFn.{length-map-range_with_len}
use Rattle.macrocell_lines.specs.Lines.{live_len}

range_grows : (a n : ℕ) → range_with_len a (suc n) ≡ range_with_len a n ++ (a + n) ∷ []
range_grows a zero = let e : a ≡ a + 0 = omega arith in ap (λ x. x ∷ []) e
range_grows a (suc n) = let e : a + 1 + n ≡ a + suc n = omega arith in ap (λ l. a ∷ l) (range_grows (a + 1) n ∙ ap (λ x. range_with_len (a + 1) n ++ x ∷ []) e)

-- one number more
pub range_more : (n : ℕ) → range_with_len 0 (n + 1) ≡ range_with_len 0 n ++ n ∷ []
range_more n = let e : n + 1 ≡ suc n = omega arith in let z : 0 + n ≡ n = omega arith in ap (range_with_len 0) e ∙ range_grows 0 n ∙ ap (λ x. range_with_len 0 n ++ x ∷ []) z

pub mapped_more : {A : Type 0} (f : ℕ → A) (n : ℕ) → map f (range_with_len 0 (n + 1)) ≡ map f (range_with_len 0 n) ++ f n ∷ []
mapped_more f n = ap (map f) (range_more n) ∙ map-append f (range_with_len 0 n) (n ∷ [])

pub joined_more : (f : ℕ → List ℕ) (n : ℕ) → flat_map f (range_with_len 0 (n + 1)) ≡ flat_map f (range_with_len 0 n) ++ f n
joined_more f n = ap (flat_map f) (range_more n) ∙ flat_map-append f (range_with_len 0 n) (n ∷ []) ∙ ap (λ l. flat_map f (range_with_len 0 n) ++ l) (append-nil (f n))

live_last : (xs : List ℕ) (x : ℕ) → live_len (xs ++ x ∷ []) ≡ (if x == 0 then live_len xs else suc (length xs))
live_last [] x = refl
live_last (y ∷ ys) x = go (x == 0) (live_last ys x)
  where
    go : (b : Bool) → live_len (ys ++ x ∷ []) ≡ (if b then live_len ys else suc (length ys))
        → (if live_len (ys ++ x ∷ []) == 0 then (if y == 0 then 0 else 1) else suc (live_len (ys ++ x ∷ []))) ≡ (if b then live_len (y ∷ ys) else suc (suc (length ys)))
    go true e = ap (λ n. if n == 0 then (if y == 0 then 0 else 1) else suc n) e
    go false e = ap (λ n. if n == 0 then (if y == 0 then 0 else 1) else suc n) e ∙ ap (λ b. if b then (if y == 0 then 0 else 1) else suc (suc (length ys))) (eqb-suc-zero (length ys))

module _ (f : ℕ → ℕ) (n width : ℕ) (is : width ≡ live_len (map f (range_with_len 0 n))) where
  -- one more that is dead, or live
  pub dead_more : (f n == 0) ≡ true → width ≡ live_len (map f (range_with_len 0 (n + 1)))
  dead_more dead = is ∙ sym (ap live_len (mapped_more f n) ∙ live_last (map f (range_with_len 0 n)) (f n) ∙ ap (λ b. if b then live_len (map f (range_with_len 0 n)) else suc (length (map f (range_with_len 0 n)))) dead)

  pub live_more : (f n == 0) ≡ false → n + 1 ≡ live_len (map f (range_with_len 0 (n + 1)))
  live_more live =
      let e : n + 1 ≡ suc (length (map f (range_with_len 0 n))) = omega (arith, length-map-range_with_len f 0 n) in
      e ∙ sym (ap live_len (mapped_more f n) ∙ live_last (map f (range_with_len 0 n)) (f n) ∙ ap (λ b. if b then live_len (map f (range_with_len 0 n)) else suc (length (map f (range_with_len 0 n)))) live)

-- ---- texts that grow

pub pushed_more : (g : ℕ → ℕ) (n x : ℕ) (old mid new : List ℕ) → new ≡ mid ++ x ∷ [] → mid ≡ old ++ map g (range_with_len 0 n) → x ≡ g n → new ≡ old ++ map g (range_with_len 0 (n + 1))
pushed_more g n x old mid new e h is =
    e ∙ (λ i. h i ++ is i ∷ []) ∙ append_assoc old (map g (range_with_len 0 n)) (g n ∷ []) ∙ ap (λ l. old ++ l) (sym (mapped_more g n))

pub appended_more : (f : ℕ → List ℕ) (n : ℕ) (old mid new : List ℕ) → new ≡ mid ++ f n → mid ≡ old ++ flat_map f (range_with_len 0 n) → new ≡ old ++ flat_map f (range_with_len 0 (n + 1))
appended_more f n old mid new e h = e ∙ ap (λ l. l ++ f n) h ∙ append_assoc old (flat_map f (range_with_len 0 n)) (f n) ∙ ap (λ l. old ++ l) (sym (joined_more f n))

pub ended : {A E : Type 0} (r : Result A E) (old mid new body last : List ℕ) → new ≡ (if is_ok r then mid ++ last else mid) → mid ≡ old ++ body → OnOk r (new ≡ old ++ (body ++ last))
ended (Ok x) old mid new body last e h = e ∙ ap (λ l. l ++ last) h ∙ append_assoc old body last
ended (Err x) old mid new body last e h = tt
