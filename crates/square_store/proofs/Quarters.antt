-- Four squares put together.
use Rattle.std.proofs.Common.{◌≡◌, ℕ, suc, ◌+◌, ◌-◌, ◌*◌, ◌^◌, ◌<◌, ◌≤◌, Bool, true, false, sym, ap, ◌∙◌, arith, rules, refl, pow-suc, inl, inr}
use Rattle.std.proofs.lemmas.Bool.{cases_lt}
use Rattle.std.specs.Prelude.{if◌then◌else◌, nat_lt}
use Rattle.stamped_writes.specs.declared.write.Write.{Write}
use Rattle.square_store.specs.Grid.{Grid, blank_grid, quartered, AreSameWithin}
use Rattle.square_store.specs.Squares.{side_at}

pub lt_true : (u n : ℕ) → u < n → nat_lt u n ≡ true
lt_true u n h = search (rules, h)

pub lt_false : (u n : ℕ) → n ≤ u → nat_lt u n ≡ false
lt_false u n h = search (rules, h)

module _ (n : ℕ) (a b c d : Grid) (u v : ℕ) where
  pub quarter_nw : u < n → v < n → quartered n a b c d u v ≡ a u v
  quarter_nw p q = rw (lt_true u n p, lt_true v n q) refl

  pub quarter_ne : v < n → quartered n a b c d (n + u) v ≡ b u v
  quarter_ne q = let e : n + u - n ≡ u = omega arith in let g : n ≤ n + u = omega arith in rw (lt_false (n + u) n g, lt_true v n q, e) refl

  pub quarter_sw : u < n → quartered n a b c d u (n + v) ≡ c u v
  quarter_sw p = let e : n + v - n ≡ v = omega arith in let g : n ≤ n + v = omega arith in rw (lt_false (n + v) n g, lt_true u n p, e) refl

  pub quarter_se : quartered n a b c d (n + u) (n + v) ≡ d u v
  quarter_se = let e : n + v - n ≡ v = omega arith in let e' : n + u - n ≡ u = omega arith in let g : n ≤ n + v = omega arith in let g' : n ≤ n + u = omega arith in rw (lt_false (n + v) n g, lt_false (n + u) n g', e, e') refl

-- a square of a level is twice as wide as one of the level below
pub twice : (side k : ℕ) → side_at side (suc k) ≡ side_at side k + side_at side k
twice side k = ap (λ n. side * n) (pow-suc 2 k) ∙ grouped side (2 ^ k)
  where
    grouped : (m n : ℕ) → m * (n * 2) ≡ m * n + m * n
    grouped m n = grind arith

-- the four quarters are those of a grid
pub record AreQuartersOf (n : ℕ) (a b c d f : Grid) : Type 0 where
  pub nw : AreSameWithin n a f
  pub ne : AreSameWithin n b (λ u v. f (n + u) v)
  pub sw : AreSameWithin n c (λ u v. f u (n + v))
  pub se : AreSameWithin n d (λ u v. f (n + u) (n + v))

pub quarters_of : (n : ℕ) (a b c d f : Grid) → AreSameWithin (n + n) (quartered n a b c d) f → AreQuartersOf n a b c d f
quarters_of n a b c d f same = record {
  nw = λ u v p q. sym (quarter_nw n a b c d u v p q) ∙ same u v (omega arith) (omega arith);
  ne = λ u v p q. sym (quarter_ne n a b c d u v q) ∙ same (n + u) v (omega arith) (omega arith);
  sw = λ u v p q. sym (quarter_sw n a b c d u v p) ∙ same u (n + v) (omega arith) (omega arith);
  se = λ u v p q. sym (quarter_se n a b c d u v) ∙ same (n + u) (n + v) (omega arith) (omega arith);
}

-- four squares with the same writes as four others
pub record AreSameQuarters (n : ℕ) (a b c d a' b' c' d' : Grid) : Type 0 where
  pub nw : AreSameWithin n a a'
  pub ne : AreSameWithin n b b'
  pub sw : AreSameWithin n c c'
  pub se : AreSameWithin n d d'

pub same_quarters : (n : ℕ) (a b c d a' b' c' d' : Grid) → AreSameWithin (n + n) (quartered n a b c d) (quartered n a' b' c' d') → AreSameQuarters n a b c d a' b' c' d'
same_quarters n a b c d a' b' c' d' same =
    let each = quarters_of n a b c d (quartered n a' b' c' d') same in
    record {
      nw = λ u v p q. each.nw u v p q ∙ quarter_nw n a' b' c' d' u v p q;
      ne = λ u v p q. each.ne u v p q ∙ quarter_ne n a' b' c' d' u v q;
      sw = λ u v p q. each.sw u v p q ∙ quarter_sw n a' b' c' d' u v p;
      se = λ u v p q. each.se u v p q ∙ quarter_se n a' b' c' d' u v;
    }

-- four blanks of one stamp are one
pub blank_quarters : (n t u v : ℕ) → quartered n (blank_grid t) (blank_grid t) (blank_grid t) (blank_grid t) u v ≡ blank_grid t u v
blank_quarters n t u v = go (nat_lt v n) (nat_lt u n)
  where
    go : (x y : Bool) → (if x then (if y then blank_grid t u v else blank_grid t (u - n) v) else (if y then blank_grid t u (v - n) else blank_grid t (u - n) (v - n))) ≡ blank_grid t u v
    go true true = refl
    go true false = refl
    go false true = refl
    go false false = refl

-- what holds of each quarter holds of the four
pub each_quarter : (P : Write → Type 0) (n : ℕ) (a b c d : Grid)
    → ((u v : ℕ) → u < n → v < n → P (a u v)) → ((u v : ℕ) → u < n → v < n → P (b u v)) → ((u v : ℕ) → u < n → v < n → P (c u v)) → ((u v : ℕ) → u < n → v < n → P (d u v))
    → (u v : ℕ) → u < n + n → v < n + n → P (quartered n a b c d u v)
each_quarter P n a b c d pa pb pc pd u v hu hv = elim (cases_lt v n) [
  | inl top ↦ elim (cases_lt u n) [
    | inl left ↦ rw (lt_true v n top, lt_true u n left) (pa u v left top)
    | inr right ↦ rw (lt_true v n top, lt_false u n right) (pb (u - n) v (omega (arith, hu)) top)
  ]
  | inr bottom ↦ elim (cases_lt u n) [
    | inl left ↦ rw (lt_false v n bottom, lt_true u n left) (pc u (v - n) left (omega (arith, hv)))
    | inr right ↦ rw (lt_false v n bottom, lt_false u n right) (pd (u - n) (v - n) (omega (arith, hu)) (omega (arith, hv)))
  ]
]
