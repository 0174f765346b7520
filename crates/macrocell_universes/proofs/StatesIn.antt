-- States of squares, by those of their quarters.
use Rattle.std.proofs.Common.{◌≡◌, ℕ, zero, suc, ◌+◌, ◌-◌, ◌*◌, ◌^◌, ◌<◌, ◌≤◌, arith, Bool, true, false, List, refl, sym, ap, subst, ◌∙◌, inl, inr}
use Rattle.std.specs.Prelude.{nat_le, if◌then◌else◌}
use Rattle.std.specs.Int.{bit_at}
use Rattle.std.proofs.lemmas.Bool.{cases_lt}
use Rattle.std.proofs.lemmas.Bool.Decides.{nat_tests}
use Rattle.macrocell_lines.specs.Squares.{StateSquare, Four, level_of, square_of as square_made, state_in}
use Rattle.macrocell_lines.proofs.States.{dead_square, dead_state, double, level_is, put, put_nw, put_ne, put_sw, put_se, state_back}
use Rattle.macrocell_text.specs.declared.entry.Entry.{Entry}
use Rattle.macrocell_text.specs.Macrocells.{square_of_bits}
use Rattle.macrocell_universes.specs.declared.quarters.Numbered.{Numbered}
use Rattle.macrocell_universes.specs.declared.quarters.Quarters.{Quarters}
use Rattle.macrocell_universes.specs.Numbered.{AreQuarters, IsNumbered, IsQuarter, quarter_at, square_at, square_of}
use Rattle.macrocell_universes.specs.States.{column_in_half, number_in}
use Rattle.macrocell_universes.proofs.Numbers.{zero_stands}

-- a square for which 0 stands
pub zero_state : (es : List Entry) (q : Numbered) (u v : ℕ) → q.number ≡ 0 → state_in (square_of es q) u v ≡ 0
zero_state es q u v none =
    let is = ap (square_at es q.level) none ∙ zero_stands es q.level in
    ap (λ s. state_in s u v) is ∙ dead_state (square_made q.level (λ u v. 0)) (dead_square q.level (λ u v. 0) (λ u v. refl)) u v

pub bits_state : (es : List Entry) (q : Numbered) (rows u v : ℕ) → q.level ≡ 3 → square_of es q ≡ square_of_bits rows → u < 2 ^ q.level → v < 2 ^ q.level → state_in (square_of es q) u v ≡ bit_at rows (8 * v + u)
bits_state es q rows u v three is hu hv = ap (λ s. state_in s u v) is ∙ state_back 3 (λ x y. bit_at rows (8 * y + x)) u v (subst (λ l. u < 2 ^ l) three hu) (subst (λ l. v < 2 ^ l) three hv)

pub four_state : (k : ℕ) (a b c d : StateSquare) (u v : ℕ) → level_of a ≡ k → state_in (Four a b c d) u v ≡ put (2 ^ k) (state_in a) (state_in b) (state_in c) (state_in d) u v
four_state k a b c d u v is = ap (λ l. put (2 ^ l) (state_in a) (state_in b) (state_in c) (state_in d) u v) is

le_from : (m n : ℕ) → nat_le m n ≡ true → m ≤ n
le_from m n h = grind (arith, nat_tests)

lt_from : (m n : ℕ) → nat_le m n ≡ false → n < m
lt_from m n h = grind (arith, nat_tests)

-- the state of a square is that of one of its quarters
pub quarter_state : (es : List Entry) (q : Numbered) (four : Quarters) (k half u v : ℕ) → AreQuarters es q four → q.level - 1 ≡ k → half ≡ 2 ^ k →
    state_in (square_of es q) u v ≡ state_in (square_at es (q.level - 1) (number_in four (nat_le half u) (nat_le half v))) (column_in_half half u) (column_in_half half v)
quarter_state es q four k half u v are below is =
    ap (λ s. state_in s u v) are.four_is ∙ four_state k a b c d u v (level_is (q.level - 1) a are.nw.is.square ∙ below) ∙ ap (λ n. put n (state_in a) (state_in b) (state_in c) (state_in d) u v) (sym is)
    ∙ by (nat_le half v) (nat_le half u) refl refl
  where
    a : StateSquare
    a = square_at es (q.level - 1) four.nw

    b : StateSquare
    b = square_at es (q.level - 1) four.ne

    c : StateSquare
    c = square_at es (q.level - 1) four.sw

    d : StateSquare
    d = square_at es (q.level - 1) four.se

    by : (x y : Bool) → nat_le half v ≡ x → nat_le half u ≡ y → put half (state_in (square_at es (q.level - 1) four.nw)) (state_in (square_at es (q.level - 1) four.ne)) (state_in (square_at es (q.level - 1) four.sw)) (state_in (square_at es (q.level - 1) four.se)) u v
        ≡ state_in (square_at es (q.level - 1) (number_in four y x)) (if y then u - half else u) (if x then v - half else v)
    by false false e f = put_nw half (state_in (square_at es (q.level - 1) four.nw)) (state_in (square_at es (q.level - 1) four.ne)) (state_in (square_at es (q.level - 1) four.sw)) (state_in (square_at es (q.level - 1) four.se)) u v (lt_from half u f) (lt_from half v e)
    by false true e f = put_ne half (state_in (square_at es (q.level - 1) four.nw)) (state_in (square_at es (q.level - 1) four.ne)) (state_in (square_at es (q.level - 1) four.sw)) (state_in (square_at es (q.level - 1) four.se)) u v (le_from half u f) (lt_from half v e)
    by true false e f = put_sw half (state_in (square_at es (q.level - 1) four.nw)) (state_in (square_at es (q.level - 1) four.ne)) (state_in (square_at es (q.level - 1) four.sw)) (state_in (square_at es (q.level - 1) four.se)) u v (lt_from half u f) (le_from half v e)
    by true true e f = put_se half (state_in (square_at es (q.level - 1) four.nw)) (state_in (square_at es (q.level - 1) four.ne)) (state_in (square_at es (q.level - 1) four.sw)) (state_in (square_at es (q.level - 1) four.se)) u v (le_from half u f) (le_from half v e)

pub quarter_numbered : (es : List Entry) (q : Numbered) (four : Quarters) (x y : Bool) → AreQuarters es q four → IsNumbered es (quarter_at q.level (number_in four x y))
quarter_numbered es q four false false are = are.nw.is
quarter_numbered es q four true false are = are.ne.is
quarter_numbered es q four false true are = are.sw.is
quarter_numbered es q four true true are = are.se.is

pub column_within : (k half u : ℕ) → half ≡ 2 ^ k → half + half ≡ 2 ^ suc k → u < 2 ^ suc k → column_in_half half u < 2 ^ k
column_within k half u is two h = by (nat_le half u) refl
  where
    by : (b : Bool) → nat_le half u ≡ b → (if b then u - half else u) < 2 ^ k
    by true e = (let m = le_from half u e in omega (arith, m, is, two, h))
    by false e = (let m = lt_from half u e in omega (arith, m, is))
