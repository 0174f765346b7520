-- Tokens that are read byte by byte, with counts that are kept in 64 bits.
use Rattle.std.proofs.Common.{◌≡◌, ℕ, zero, suc, ◌+◌, ◌*◌, ◌^◌, ◌-◌, ◌≤◌, Bool, true, false, List, [], ◌∷◌, refl, sym, ◌∙◌, ap, arith, inl, inr}
use Rattle.std.specs.Prelude.{Option, Some, None, Result, Err, unwrap_or, option_map, min, ◌||◌, ◌==◌, nat_lt, ◌⊎◌, if◌then◌else◌}
use Rattle.std.proofs.lemmas.Bool.Decides.{nat_tests}
use Rattle.generations_rule.specs.Refusal.{when, first_of}
use Rattle.multistate_rle.specs.declared.fault.RleFault.{RleFault}
use Rattle.multistate_rle.specs.declared.fault.RleFault.TheVariants.{State, Count, Tag}
use Rattle.multistate_rle.specs.Role.{RoleValue}
use Rattle.multistate_rle.specs.Role as role
use Rattle.multistate_rle.specs.Reading.{BegunValue}
use Rattle.multistate_rle.specs.Tokens.{Token, Cells, Rows}
use Rattle.multistate_rle.specs.Reading.{Mark, Pen, role_of, fresh, with_digit, with_prefix, tokens_ended, fault_of, followed, pen_after, tokens_of}
use Rattle.multistate_rle.specs.Begun.{capped}

-- ---- a count above the limit is as faulty as the limit

or-true : (a : Bool) → (a || true) ≡ true
or-true true = refl
or-true false = refl

abbrev if_state : Bool → ℕ → RleFault
if_state great place = if great then State place else Count place

faulty : (great : Bool) (place : ℕ) (others : List (Option RleFault)) (token : Token) (rest : Result (List Token) RleFault) →
    followed (first_of (when great (State place) ∷ Some (Count place) ∷ others)) token rest ≡ Err (if_state great place)
faulty true place others token rest = refl
faulty false place others token rest = refl

too_far : (place n s : ℕ) (pen : Pen) (rest : Result (List Token) RleFault) → 4294967297 ≤ n →
    followed (fault_of place pen (Cells n s)) (Cells n s) rest ≡ Err (if_state (nat_lt 255 s) place)
too_far place n s pen rest h =
    let far : nat_lt (2 ^ 32) (pen.column + n) ≡ true = grind (arith, nat_tests) in
    rw (far, or-true (n == 0)) (faulty (nat_lt 255 s) place _ (Cells n s) rest)

too_low : (place n : ℕ) (pen : Pen) (rest : Result (List Token) RleFault) → 4294967297 ≤ n →
    followed (fault_of place pen (Rows n)) (Rows n) rest ≡ Err (Count place)
too_low place n pen rest h =
    let far : nat_lt (2 ^ 32 - 1) (pen.row + n) ≡ true = grind (arith, nat_tests) in
    rw (far, or-true (n == 0)) refl

-- ---- a kept count reads the same tokens

total_le : (m n : ℕ) → (m ≤ n) ⊎ (n ≤ m)
total_le zero n = inl (omega arith)
total_le (suc m) zero = inr (omega arith)
total_le (suc m) (suc n) = elim (total_le m n) [ inl h ↦ inl (omega arith) | inr h ↦ inr (omega arith) ]

small_or_great : (count : Option ℕ) →
    (unwrap_or (option_map (λ n. min n 4294967297) count) 1 ≡ unwrap_or count 1)
    ⊎ ((4294967297 ≤ unwrap_or (option_map (λ n. min n 4294967297) count) 1) × (4294967297 ≤ unwrap_or count 1))
small_or_great None = inl refl
small_or_great (Some n) = elim (total_le n 4294967297) [ inl h ↦ inl (omega arith) | inr h ↦ inr (omega arith, omega arith) ]

same_cells : (end place s : ℕ) (marks : List Mark) (pen : Pen) (m n : ℕ) → (m ≡ n) ⊎ ((4294967297 ≤ m) × (4294967297 ≤ n)) →
    followed (fault_of place pen (Cells m s)) (Cells m s) (tokens_of end marks fresh (pen_after (Cells m s) pen))
    ≡ followed (fault_of place pen (Cells n s)) (Cells n s) (tokens_of end marks fresh (pen_after (Cells n s) pen))
same_cells end place s marks pen m n (inl same) = ap (λ k. followed (fault_of place pen (Cells k s)) (Cells k s) (tokens_of end marks fresh (pen_after (Cells k s) pen))) same
same_cells end place s marks pen m n (inr great) = too_far place m s pen _ great.0 ∙ sym (too_far place n s pen _ great.1)

same_rows : (end place : ℕ) (marks : List Mark) (pen : Pen) (m n : ℕ) → (m ≡ n) ⊎ ((4294967297 ≤ m) × (4294967297 ≤ n)) →
    followed (fault_of place pen (Rows m)) (Rows m) (tokens_of end marks fresh (pen_after (Rows m) pen))
    ≡ followed (fault_of place pen (Rows n)) (Rows n) (tokens_of end marks fresh (pen_after (Rows n) pen))
same_rows end place marks pen m n (inl same) = ap (λ k. followed (fault_of place pen (Rows k)) (Rows k) (tokens_of end marks fresh (pen_after (Rows k) pen))) same
same_rows end place marks pen m n (inr great) = too_low place m pen _ great.0 ∙ sym (too_low place n pen _ great.1)

min_digit : (count : Option ℕ) (d : ℕ) → min (10 * unwrap_or (option_map (λ n. min n 4294967297) count) 0 + d) 4294967297 ≡ min (10 * unwrap_or count 0 + d) 4294967297
min_digit None d = refl
min_digit (Some n) d = omega arith

digit_capped : (place d : ℕ) (b : BegunValue) → capped (with_digit place d (capped b)) ≡ capped (with_digit place d b)
digit_capped place d b = λ i. record b { place = Some (unwrap_or b.place place); count = Some (min_digit b.count d i) }

-- what is read from a byte on, by what the byte is
abbrev pub by_role : ℕ → Mark → List Mark → BegunValue → Pen → RoleValue → Result (List Token) RleFault
by_role end m marks b pen role.EndMark = tokens_ended m.0 b
by_role end m marks b pen (role.Digit d) = tokens_of end marks (with_digit m.0 d b) pen
by_role end m marks b pen (role.Prefix k) = tokens_of end marks (with_prefix m.0 k b) pen
by_role end m marks b pen (role.State s) =
    followed (fault_of (unwrap_or b.place m.0) pen (Cells (unwrap_or b.count 1) s)) (Cells (unwrap_or b.count 1) s) (tokens_of end marks fresh (pen_after (Cells (unwrap_or b.count 1) s) pen))
by_role end m marks b pen role.RowEnd =
    followed (fault_of (unwrap_or b.place m.0) pen (Rows (unwrap_or b.count 1))) (Rows (unwrap_or b.count 1)) (tokens_of end marks fresh (pen_after (Rows (unwrap_or b.count 1)) pen))
by_role end m marks b pen role.Stray = Err (Tag m.0)

pub step_is : (end : ℕ) (m : Mark) (marks : List Mark) (b : BegunValue) (pen : Pen) (r : RoleValue) → role_of b.prefix m.1 ≡ r →
    tokens_of end (m ∷ marks) b pen ≡ by_role end m marks b pen r
step_is end m marks b pen r e = ap (by_role end m marks b pen) e

same_by : (end : ℕ) (m : Mark) (marks : List Mark) (b : BegunValue) (pen : Pen) (r : RoleValue) →
    ((b : BegunValue) → tokens_of end marks (capped b) pen ≡ tokens_of end marks b pen) →
    by_role end m marks (capped b) pen r ≡ by_role end m marks b pen r
same_by end m marks b pen role.EndMark rest = refl
same_by end m marks b pen (role.Digit d) rest =
    sym (rest (with_digit m.0 d (capped b))) ∙ ap (λ x. tokens_of end marks x pen) (digit_capped m.0 d b) ∙ rest (with_digit m.0 d b)
same_by end m marks b pen (role.Prefix k) rest = rest (with_prefix m.0 k b)
same_by end m marks b pen (role.State s) rest = same_cells end (unwrap_or b.place m.0) s marks pen _ _ (small_or_great b.count)
same_by end m marks b pen role.RowEnd rest = same_rows end (unwrap_or b.place m.0) marks pen _ _ (small_or_great b.count)
same_by end m marks b pen role.Stray rest = refl

-- one byte, where the bytes that follow are read the same
same_step : (end : ℕ) (m : Mark) (marks : List Mark) (b : BegunValue) (pen : Pen) (r : RoleValue) → role_of b.prefix m.1 ≡ r →
    ((b : BegunValue) → tokens_of end marks (capped b) pen ≡ tokens_of end marks b pen) →
    tokens_of end (m ∷ marks) (capped b) pen ≡ tokens_of end (m ∷ marks) b pen
same_step end m marks b pen r e rest =
    step_is end m marks (capped b) pen r e ∙ same_by end m marks b pen r rest ∙ sym (step_is end m marks b pen r e)

-- However far the kept count is from the count, the same tokens are read.
pub same_tokens : (end : ℕ) (marks : List Mark) (b : BegunValue) (pen : Pen) → tokens_of end marks (capped b) pen ≡ tokens_of end marks b pen
same_tokens end [] b pen = refl
same_tokens end (m ∷ marks) b pen = same_step end m marks b pen (role_of b.prefix m.1) refl (λ c. same_tokens end marks c pen)

-- a digit more, kept
pub digit_read : (end place byte d : ℕ) (marks : List Mark) (b new : BegunValue) (pen : Pen) → role_of b.prefix byte ≡ role.Digit d → new ≡ capped (with_digit place d b) →
    tokens_of end marks new pen ≡ tokens_of end ((place, byte) ∷ marks) b pen
digit_read end place byte d marks b new pen is kept =
    ap (λ x. tokens_of end marks x pen) kept ∙ same_tokens end marks (with_digit place d b) pen ∙ sym (step_is end (place, byte) marks b pen (role.Digit d) is)
