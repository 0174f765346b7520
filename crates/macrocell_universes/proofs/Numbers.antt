-- What stands for the quarters of squares.
use Rattle.std.proofs.Common.{◌≡◌, ℕ, zero, suc, ◌+◌, ◌-◌, ◌<◌, ◌≤◌, arith, Bool, true, false, List, length, take, get_or, length-take, [], ◌∷◌, refl, sym, ap, subst, ◌∙◌, inl, inr, eqb-true}
use Rattle.std.specs.Prelude.{Option, Some, None, ◌||◌, ◌==◌, nat_le, slice_get, unwrap_or, option_map, if◌then◌else◌}
use Rattle.std.proofs.lemmas.Bool.{cases_lt, eq-eqb, ne_eqb}
use Rattle.std.proofs.lemmas.Bool.Decides.{nat_tests}
use Rattle.std.proofs.lemmas.List.{take_all}
use Rattle.std.proofs.lemmas.Option.{slice_get_past, get_or_from_slice_get}
use Rattle.macrocell_lines.specs.Squares.{StateSquare, Cell, Four as FourSquares, level_of, square_of as square_made}
use Rattle.macrocell_lines.specs.Listing.{IsSquare}
use Rattle.macrocell_lines.proofs.States.{is_square, level_is}
use Rattle.macrocell_text.specs.declared.entry.Entry.{Entry}
use Rattle.macrocell_text.specs.declared.entry.Entry.TheVariants as entries
use Rattle.macrocell_text.specs.SquareLines.{dead_square}
use Rattle.macrocell_text.specs.Macrocells.{AreLevelled, AreSquares, are_entries, entry_level, entry_square, is_entry, square_of_bits, square_standing, squares_of}
use Rattle.macrocell_text.proofs.Entries.{entry_fits, entry_got}
use Rattle.macrocell_text.proofs.Levels.{level_got}
use Rattle.macrocell_text.proofs.Prefixes.{entry_stands, length_squares}
use Rattle.macrocell_universes.specs.declared.quarters.Numbered.{Numbered}
use Rattle.macrocell_universes.specs.declared.quarters.Quarters.{Quarters}
use Rattle.macrocell_universes.specs.Numbered.{AreQuarters, IsNumbered, IsQuarter, number_behind, quarter_at, square_at, square_of}

-- ---- squares whose states are all 0

-- 0 stands for one
pub zero_stands : (es : List Entry) (level : ℕ) → square_at es level 0 ≡ dead_square level
unfolding square_made
zero_stands es zero = refl
zero_stands es (suc k) = let above : suc k ≡ 0 → ⊥ = λ e. (omega (arith, e)) in rw (ne_eqb (suc k) 0 above) refl

dead_four : (k : ℕ) → dead_square (suc k) ≡ FourSquares (dead_square k) (dead_square k) (dead_square k) (dead_square k)
unfolding square_made
dead_four k = refl

pub zero_numbered : (es : List Entry) (level : ℕ) → IsNumbered es (record { level = level; number = 0 })
zero_numbered es level = record {
  square = subst (IsSquare level) (sym (zero_stands es level)) (is_square level (λ u v. 0));
  state = λ e. omega arith;
}

-- and so do its quarters
pub dead_quarters : (es : List Entry) (q : Numbered) → 1 ≤ q.level → square_of es q ≡ dead_square q.level → AreQuarters es q (record { nw = 0; ne = 0; sw = 0; se = 0 })
dead_quarters es q some is =
    let k : ℕ = q.level - 1 in
    let up : q.level ≡ suc k = omega (arith, some) in
    let z : dead_square k ≡ square_at es k 0 = sym (zero_stands es k) in
    let each : IsQuarter es q 0 = record { is = zero_numbered es k; before = λ h. omega arith } in
    record {
      four_is = is ∙ ap dead_square up ∙ dead_four k ∙ (λ i. FourSquares (z i) (z i) (z i) (z i));
      nw = each;
      ne = each;
      sw = each;
      se = each;
    }

-- ---- entries

pub got_within : (es : List Entry) (i : ℕ) (e : Entry) → slice_get es i ≡ Some e → i < length es
got_within es i e at = elim (cases_lt i (length es)) [
  | inl less ↦ less
  | inr past ↦ (let none : slice_get es i ≡ None = slice_get_past es i past in let no : None ≡ Some e = sym none ∙ at in absurd (cc))
]

-- where nothing is found a list has ended
pub none_past : {A : Type 0} (xs : List A) (i : ℕ) → slice_get xs i ≡ None → length xs ≤ i
none_past [] i e = omega arith
none_past (x ∷ xs) zero e = absurd (cc)
none_past (x ∷ xs) (suc i) e = let h = none_past xs i e in omega (arith, h)

any : Entry
any = entries.Rows 0

-- the number of an entry stands for its square
pub stands_for : (es : List Entry) (level n : ℕ) (e : Entry) → (level ≡ 0 → ⊥) → (n ≡ 0 → ⊥) → slice_get es (n - 1) ≡ Some e → square_at es level n ≡ entry_square (squares_of (take (n - 1) es)) e
stands_for es level n e above some at =
    let within = got_within es (n - 1) e at in
    let whole : take (length es) es ≡ es = take_all (length es) es (omega arith) in
    let here : square_standing level (squares_of (take (length es) es)) n ≡ entry_square (squares_of (take (n - 1) es)) (get_or es (n - 1) any) = entry_stands level n (length es) es any above some (omega (arith, within, some)) (omega arith) in
    subst (λ xs. square_standing level (squares_of xs) n ≡ entry_square (squares_of (take (n - 1) es)) (get_or es (n - 1) any)) whole here
    ∙ ap (entry_square (squares_of (take (n - 1) es))) (get_or_from_slice_get es (n - 1) e any at)

-- a number of no entry stands for a square whose states are all 0
pub stands_for_none : (es : List Entry) (level n : ℕ) → (level ≡ 0 → ⊥) → (n ≡ 0 → ⊥) → slice_get es (n - 1) ≡ None → square_at es level n ≡ dead_square level
stands_for_none es level n above some at =
    let past : length es ≤ n - 1 = elim (cases_lt (n - 1) (length es)) [
      | inl less ↦ (let got = got_some es (n - 1) less in let no : Some got.0 ≡ None = sym got.1 ∙ at in absurd (cc))
      | inr more ↦ more
    ] in
    let none : slice_get (squares_of es) (n - 1) ≡ None = slice_get_past (squares_of es) (n - 1) (omega (arith, past, length_squares es)) in
    rw (ne_eqb level 0 above, ne_eqb n 0 some, none) refl
  where
    got_some : (xs : List Entry) (i : ℕ) → i < length xs → (e : Entry) × (slice_get xs i ≡ Some e)
    got_some [] i h = absurd (omega (arith, h))
    got_some (x ∷ xs) zero h = (x, refl)
    got_some (x ∷ xs) (suc i) h = got_some xs i (omega (arith, h))

-- a square's level is that of its entry
pub entry_level_is : (es : List Entry) (q : Numbered) (e : Entry) → AreLevelled es → 1 ≤ q.level → (q.number ≡ 0 → ⊥) → IsNumbered es q → slice_get es (q.number - 1) ≡ Some e → entry_level e ≡ q.level
entry_level_is es q e levels above some is at =
    let i : ℕ = q.number - 1 in
    let got : option_map level_of (slice_get (squares_of es) i) ≡ Some (entry_level e) = level_got es i levels ∙ ap (option_map entry_level) at in
    by (slice_get (squares_of es) i) refl got
  where
    by : (o : Option StateSquare) → slice_get (squares_of es) (q.number - 1) ≡ o → option_map level_of o ≡ Some (entry_level e) → entry_level e ≡ q.level
    by None g h = absurd (cc)
    by (Some r) g h =
        let level : level_of r ≡ entry_level e = ap (λ (o : Option ℕ). unwrap_or o (entry_level e)) h in
        let above' : q.level ≡ 0 → ⊥ = λ z. omega (arith, z, above) in
        let here : square_of es q ≡ r = rw (ne_eqb q.level 0 above', ne_eqb q.number 0 some, g) refl in
        sym level ∙ level_is q.level r (subst (IsSquare q.level) here is.square)

-- ---- quarters of entries

-- what stands for a quarter among the entries before stands for it among all
pub behind_stands : (es : List Entry) (i level n : ℕ) → i ≤ length es → 1 ≤ level → square_standing (level - 1) (squares_of (take i es)) n ≡ square_at es (level - 1) (number_behind i level n)
behind_stands es i level n within some = one (level == 1) refl
  where
    Is : ℕ → Type 0
    Is m = square_standing (level - 1) (squares_of (take i es)) n ≡ square_at es (level - 1) m

    dead : (squares : List StateSquare) (m : ℕ) → (level - 1 ≡ 0 → ⊥) → m ≡ 0 → square_standing (level - 1) squares m ≡ dead_square (level - 1)
    dead squares m above none = rw (ne_eqb (level - 1) 0 above, none) refl

    past : (level - 1 ≡ 0 → ⊥) → i < n → square_standing (level - 1) (squares_of (take i es)) n ≡ dead_square (level - 1)
    past above beyond =
        let some : n ≡ 0 → ⊥ = λ e. omega (arith, e, beyond) in
        let short : length (squares_of (take i es)) ≤ n - 1 = omega (arith, length_squares (take i es), length-take i es, beyond) in
        rw (ne_eqb (level - 1) 0 above, ne_eqb n 0 some, slice_get_past (squares_of (take i es)) (n - 1) short) refl

    low : (level - 1 ≡ 0 → ⊥) → n ≤ i → (b : Bool) → (n == 0) ≡ b → square_standing (level - 1) (squares_of (take i es)) n ≡ square_at es (level - 1) n
    low above before true e = (let none = eqb-true n 0 e in dead (squares_of (take i es)) n above none ∙ sym (dead (squares_of es) n above none))
    low above before false e =
        let some' : n ≡ 0 → ⊥ = λ z. (let yes : (n == 0) ≡ true = eq-eqb n 0 z in let no : true ≡ false = sym yes ∙ e in cc) in
        let whole : take (length es) es ≡ es = take_all (length es) es (omega arith) in
        entry_stands (level - 1) n i es any above some' before within
        ∙ sym (subst (λ xs. square_standing (level - 1) (squares_of xs) n ≡ entry_square (squares_of (take (n - 1) es)) (get_or es (n - 1) any)) whole (entry_stands (level - 1) n (length es) es any above some' (omega (arith, before, within)) (omega arith)))

    two : (level - 1 ≡ 0 → ⊥) → (b : Bool) → nat_le n i ≡ b → square_standing (level - 1) (squares_of (take i es)) n ≡ square_at es (level - 1) (if b then n else 0)
    two above true e = (let before : n ≤ i = grind (arith, nat_tests, e) in low above before (n == 0) refl)
    two above false e = (let beyond : i < n = grind (arith, nat_tests, e) in past above beyond ∙ sym (dead (squares_of es) 0 above refl))

    one : (b : Bool) → (level == 1) ≡ b → square_standing (level - 1) (squares_of (take i es)) n ≡ square_at es (level - 1) (if b || nat_le n i then n else 0)
    one true e = (let z : level - 1 ≡ 0 = omega (arith, eqb-true level 1 e) in rw z refl)
    one false e =
        let above : level - 1 ≡ 0 → ⊥ = λ z. (let is : level ≡ 1 = omega (arith, z, some) in let yes : (level == 1) ≡ true = eq-eqb level 1 is in let no : true ≡ false = sym yes ∙ e in cc) in
        two above (nat_le n i) refl

-- it stands for an entry before its own, or for a state
behind_before : (i level n : ℕ) → 1 < level → number_behind i level n ≤ i
behind_before i level n more = one (level == 1) refl
  where
    two : (b : Bool) → nat_le n i ≡ b → (if b then n else 0) ≤ i
    two true e = grind (arith, nat_tests, e)
    two false e = omega arith

    one : (b : Bool) → (level == 1) ≡ b → (if b || nat_le n i then n else 0) ≤ i
    one true e = absurd (let is = eqb-true level 1 e in omega (arith, is, more))
    one false e = two (nat_le n i) refl

behind_state : (i level n : ℕ) → 1 ≤ level → (level - 1 ≡ 0 → n ≤ 255) → level - 1 ≡ 0 → number_behind i level n ≤ 255
behind_state i level n some state none = (let is : level ≡ 1 = omega (arith, none, some) in rw (eq-eqb level 1 is) (state none))

-- the quarters of a square that is told by its quarters
pub entry_quarters : (es : List Entry) (q : Numbered) (level nw ne sw se : ℕ) → AreLevelled es → are_entries es ≡ true → 1 ≤ q.level → (q.number ≡ 0 → ⊥) → IsNumbered es q → slice_get es (q.number - 1) ≡ Some (entries.Four level nw ne sw se)
    → AreQuarters es q (record { nw = number_behind (q.number - 1) level nw; ne = number_behind (q.number - 1) level ne; sw = number_behind (q.number - 1) level sw; se = number_behind (q.number - 1) level se })
entry_quarters es q level nw ne sw se levels all above some is at =
    let i : ℕ = q.number - 1 in
    let e : Entry = entries.Four level nw ne sw se in
    let within = got_within es i e at in
    let same : level ≡ q.level = entry_level_is es q e levels above some is at in
    let k : ℕ = q.level - 1 in
    let fits = entry_fits level nw ne sw se (subst (λ x. is_entry x ≡ true) (get_or_from_slice_get es i e any at) (entry_got es i any all within)) in
    let stands : (n : ℕ) → square_standing (level - 1) (squares_of (take i es)) n ≡ square_at es k (number_behind i level n) = λ n. behind_stands es i level n (omega (arith, within)) fits.some ∙ ap (λ l. square_at es (l - 1) (number_behind i level n)) same in
    let four : square_of es q ≡ FourSquares (square_at es k (number_behind i level nw)) (square_at es k (number_behind i level ne)) (square_at es k (number_behind i level sw)) (square_at es k (number_behind i level se))
    = stands_for es q.level q.number e (λ z. omega (arith, z, above)) some at ∙ (λ j. FourSquares (stands nw j) (stands ne j) (stands sw j) (stands se j)) in
    let up : q.level ≡ suc k = omega (arith, above) in
    let whole : IsSquare (suc k) (FourSquares (square_at es k (number_behind i level nw)) (square_at es k (number_behind i level ne)) (square_at es k (number_behind i level sw)) (square_at es k (number_behind i level se)))
    = subst (IsSquare (suc k)) four (subst (λ l. IsSquare l (square_of es q)) up is.square) in
    let one : (n : ℕ) → IsSquare k (square_at es k (number_behind i level n)) → (level - 1 ≡ 0 → n ≤ 255) → IsQuarter es q (number_behind i level n) = λ n square state. record {
      is = record { square = square; state = λ z. behind_state i level n fits.some state (omega (arith, z, same)) };
      before = λ more. behind_before i level n (omega (arith, more, same));
    } in
    record {
      four_is = four;
      nw = one nw whole.0 fits.nw_is;
      ne = one ne whole.1.0 fits.ne_is;
      sw = one sw whole.1.1.0 fits.sw_is;
      se = one se whole.1.1.1 fits.se_is;
    }
