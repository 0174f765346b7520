-- Round numbers of 64 bits, and the first above a number.
use Rattle.std.proofs.Common.{◌≡◌, inl, inr, ℕ, zero, suc, ◌+◌, ◌-◌, ◌*◌, ◌/◌, ◌%◌, ◌^◌, ◌<◌, ◌≤◌, [], ◌∷◌, get_or, refl, ap, sym, subst, ◌∙◌, arith}
use Rattle.std.specs.Prelude.{true, false, ◌==◌, nat_lt, if◌then◌else◌}
use Rattle.std.proofs.lemmas.Bool.{cases_Bool, eqb-true, eqb-false}
use Rattle.std.proofs.lemmas.Bool.Decides.{nat_tests}
use Rattle.std.proofs.Math.Nat.{pow-le-pow_right, mul-le-mul, one-le-pow}
use Rattle.std.proofs.lemmas.Grind.{pow_more}
use Rattle.population_charts.specs.Laws.{IsRound}
use Rattle.population_charts.specs.Axis.{round_above, round_number, tick_distance}

factor_small : (k : ℕ) → get_or (1 ∷ 2 ∷ 5 ∷ []) k 0 ≤ 5
factor_small zero = omega arith
factor_small (suc zero) = omega arith
factor_small (suc (suc zero)) = omega arith
factor_small (suc (suc (suc k))) = omega arith

factor_some : (k : ℕ) → k < 3 → 0 < get_or (1 ∷ 2 ∷ 5 ∷ []) k 0
factor_some zero below = omega arith
factor_some (suc zero) below = omega arith
factor_some (suc (suc zero)) below = omega arith
factor_some (suc (suc (suc k))) below = absurd (omega arith)

pub power_small : (place : ℕ) → place ≤ 55 → 10 ^ (place / 3) ≤ 10 ^ 18
power_small place low =
    let le : place / 3 ≤ 18 = omega arith in
    let some : 0 < 10 = omega arith in
    pow-le-pow_right some le

pub round_small : (place : ℕ) → place ≤ 55 → get_or (1 ∷ 2 ∷ 5 ∷ []) (place % 3) 0 * 10 ^ (place / 3) < 2 ^ 64
round_small place low =
    let le : get_or (1 ∷ 2 ∷ 5 ∷ []) (place % 3) 0 * 10 ^ (place / 3) ≤ 5 * 10 ^ 18 = mul-le-mul (factor_small (place % 3)) (power_small place low) in
    omega arith

pub round_some : (place : ℕ) → 0 < get_or (1 ∷ 2 ∷ 5 ∷ []) (place % 3) 0 * 10 ^ (place / 3)
round_some place =
    let le : 1 * 1 ≤ get_or (1 ∷ 2 ∷ 5 ∷ []) (place % 3) 0 * 10 ^ (place / 3) = mul-le-mul (factor_some (place % 3) (omega arith)) (one-le-pow (place / 3) 10 (omega arith)) in
    omega arith

pub round_is : (place : ℕ) → get_or (1 ∷ 2 ∷ 5 ∷ []) (place % 3) 0 * 10 ^ (place / 3) ≡ round_number place
unfolding round_number
round_is place = refl

above_step : (more place n : ℕ) → round_above (suc more) place n ≡ (if nat_lt n (round_number place) then round_number place else round_above more (place + 1) n)
unfolding round_above
above_step more place n = refl

here : (more place n : ℕ) → nat_lt n (round_number place) ≡ true → round_above (suc more) place n ≡ round_number place
here more place n is = above_step more place n ∙ rw is refl

later : (more place n : ℕ) → nat_lt n (round_number place) ≡ false → round_above (suc more) place n ≡ round_above more (place + 1) n
later more place n is = above_step more place n ∙ rw is refl

left_is : (place : ℕ) → place < 55 → 55 - place ≡ suc (55 - (place + 1))
left_is place below = omega arith

-- one that is above, and one that is not
pub found : (place n : ℕ) → place < 55 → n < round_number place → round_above (55 - place) place n ≡ round_number place
found place n below above =
    let is : nat_lt n (round_number place) ≡ true = grind (arith, nat_tests) in
    ap (λ more. round_above more place n) (left_is place below) ∙ here (55 - (place + 1)) place n is

pub passed : (place n : ℕ) → place < 55 → round_number place ≤ n → round_above (55 - place) place n ≡ round_above (55 - (place + 1)) (place + 1) n
passed place n below not_above =
    let is : nat_lt n (round_number place) ≡ false = grind (arith, nat_tests) in
    ap (λ more. round_above more place n) (left_is place below) ∙ later (55 - (place + 1)) place n is

pub none_found : (place n : ℕ) → place ≤ 55 → 55 ≤ place → round_above (55 - place) place n ≡ round_number 55
unfolding round_above
none_found place n low high =
    let is : place ≡ 55 = omega arith in
    subst (λ p. round_above (55 - p) p n ≡ round_number 55) (sym is) refl

pub distance_is : (span : ℕ) → tick_distance span ≡ round_above 55 0 (span / 10)
unfolding tick_distance
distance_is span = refl

-- ---- the first that is above is above, and none before it is

pub above_reaches : (more place n : ℕ) → n < round_number (place + more) → n < round_above more place n
unfolding round_above
above_reaches zero place n h = let same : place + 0 ≡ place = omega arith in subst (λ k. n < round_number k) same h
above_reaches (suc more) place n h = elim (cases_Bool (nat_lt n (round_number place))) [
  | inl above ↦ rw above (grind (arith, nat_tests))
  | inr not_above ↦
      let same : place + suc more ≡ place + 1 + more = omega arith in
      rw not_above (above_reaches more (place + 1) n (subst (λ k. n < round_number k) same h))
]

pub last_round : round_number 55 ≡ 2000000000000000000
unfolding round_number
last_round = refl

pub reaches_beyond : (span : ℕ) → span < 2 ^ 64 → span < 10 * tick_distance span
reaches_beyond span small =
    let last : span / 10 < round_number (0 + 55) = rw last_round (omega arith) in
    let above : span / 10 < round_above 55 0 (span / 10) = above_reaches 55 0 (span / 10) last in
    rw distance_is (omega arith)

pub record IsFirst (place n r : ℕ) : Type 0 where
  pub index : ℕ
  pub is : r ≡ round_number index
  pub passed : (j : ℕ) → place ≤ j → j < index → round_number j ≤ n

pub first_above : (more place n : ℕ) → IsFirst place n (round_above more place n)
unfolding round_above
first_above zero place n = record { index = place; is = refl; passed = λ j from below. absurd (omega arith) }
first_above (suc more) place n = elim (cases_Bool (nat_lt n (round_number place))) [
  | inl above ↦ rw above (record { index = place; is = refl; passed = λ j from below. absurd (omega arith) })
  | inr not_above ↦
      let rest = first_above more (place + 1) n in
      let here : round_number place ≤ n = grind (arith, nat_tests) in
      let passed : (j : ℕ) → place ≤ j → j < rest.index → round_number j ≤ n = λ j from below. elim (cases_Bool (j == place)) [
        | inl same ↦ subst (λ k. round_number k ≤ n) (sym (eqb-true j place same)) here
        | inr other ↦ let apart = eqb-false j place other in rest.passed j (omega (arith, apart)) below
      ] in
      rw not_above (record { index = rest.index; is = rest.is; passed = passed })
]

-- ---- they are 1, 2 and 5 times the powers of ten, in order

round_at : (power rest : ℕ) → rest < 3 → round_number (power * 3 + rest) ≡ get_or (1 ∷ 2 ∷ 5 ∷ []) rest 0 * 10 ^ power
unfolding round_number
round_at power rest below =
    let factor : (power * 3 + rest) % 3 ≡ rest = omega arith in
    let tens : (power * 3 + rest) / 3 ≡ power = omega arith in
    rw (factor, tens) refl

record IsAt (k : ℕ) : Type 0 where
  power : ℕ
  rest : ℕ
  below : rest < 3
  is : k ≡ power * 3 + rest

at_place : (k : ℕ) → IsAt k
at_place k = record { power = k / 3; rest = k % 3; below = omega arith; is = omega arith }

round_of : (power rest : ℕ) → rest < 3 → IsRound (round_number (power * 3 + rest))
round_of power zero below = record { power = power; is = inl (round_at power 0 below ∙ omega arith) }
round_of power (suc zero) below = record { power = power; is = inr (inl (round_at power 1 below)) }
round_of power (suc (suc zero)) below = record { power = power; is = inr (inr (round_at power 2 below)) }
round_of power (suc (suc (suc rest))) below = absurd (omega arith)

pub is_round : (k : ℕ) → IsRound (round_number k)
is_round k = let at = at_place k in subst (λ j. IsRound (round_number j)) (sym at.is) (round_of at.power at.rest at.below)

pub place_of_round : (n : ℕ) → IsRound n → (k : ℕ) × (n ≡ round_number k)
place_of_round n r = elim r.is [
  | inl one ↦ (r.power * 3 + 0, one ∙ omega arith ∙ sym (round_at r.power 0 (omega arith)))
  | inr more ↦ elim more [
    | inl two ↦ (r.power * 3 + 1, two ∙ sym (round_at r.power 1 (omega arith)))
    | inr five ↦ (r.power * 3 + 2, five ∙ sym (round_at r.power 2 (omega arith)))
  ]
]

next_of : (power rest : ℕ) → rest < 3 → round_number (power * 3 + rest) ≤ round_number (power * 3 + rest + 1)
next_of power zero below =
    let here = round_at power 0 below in
    let next = round_at power 1 (omega arith) in
    let same : power * 3 + 0 + 1 ≡ power * 3 + 1 = omega arith in
    rw (same, here, next) (omega arith)
next_of power (suc zero) below =
    let here = round_at power 1 below in
    let next = round_at power 2 (omega arith) in
    let same : power * 3 + 1 + 1 ≡ power * 3 + 2 = omega arith in
    rw (same, here, next) (omega arith)
next_of power (suc (suc zero)) below =
    let here = round_at power 2 below in
    let next = round_at (power + 1) 0 (omega arith) in
    let same : power * 3 + 2 + 1 ≡ (power + 1) * 3 + 0 = omega arith in
    let tens = pow_more 10 power in
    rw (same, here, next) (omega arith)
next_of power (suc (suc (suc rest))) below = absurd (omega arith)

next_is_more : (k : ℕ) → round_number k ≤ round_number (k + 1)
next_is_more k = let at = at_place k in subst (λ j. round_number j ≤ round_number (j + 1)) (sym at.is) (next_of at.power at.rest at.below)

in_order : (k more : ℕ) → round_number k ≤ round_number (k + more)
in_order k zero = let same : k ≡ k + 0 = omega arith in subst (λ j. round_number k ≤ round_number j) same (omega arith)
in_order k (suc more) =
    let so_far = in_order k more in
    let next = next_is_more (k + more) in
    let same : k + more + 1 ≡ k + suc more = omega arith in
    subst (λ j. round_number k ≤ round_number j) same (omega arith)

pub least_beyond : (span n : ℕ) → IsRound n → span < 10 * n → tick_distance span ≤ n
least_beyond span n r beyond =
    let first = first_above 55 0 (span / 10) in
    let at = place_of_round n r in
    elim (cases_Bool (nat_lt at.0 first.index)) [
      | inl before ↦
          let early : at.0 < first.index = grind (arith, nat_tests) in
          let low = first.passed at.0 (omega arith) early in
          let is = at.1 in
          absurd (omega arith)
      | inr behind ↦
          let late : first.index ≤ at.0 = grind (arith, nat_tests) in
          let same : first.index + (at.0 - first.index) ≡ at.0 = omega arith in
          let ordered = in_order first.index (at.0 - first.index) in
          let le : round_number first.index ≤ round_number at.0 = subst (λ j. round_number first.index ≤ round_number j) same ordered in
          rw (distance_is, first.is) (subst (λ m. round_number first.index ≤ m) (sym at.1) le)
    ]
