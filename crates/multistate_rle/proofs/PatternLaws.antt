-- What is read is a pattern: the cells are sorted, alive, few, and in their box.
use Rattle.std.proofs.Common.{◌≡◌, ◌≢◌, ℕ, zero, suc, ◌+◌, ◌≤◌, ◌<◌, ◌^◌, ◌-◌, Bool, true, false, List, [], ◌∷◌, ◌++◌, refl, sym, ◌∙◌, arith, length, inl, inr, ◌⊎◌, length-append, eq-eqb, subst}
use Rattle.std.specs.Prelude.{Option, Some, None, Result, Ok, Err, ◌||◌, ◌&&◌, ◌==◌, nat_lt, not, if◌then◌else◌, ⊤, max, fold, unwrap_or}
use Rattle.std.specs.List.{list_all}
use Rattle.std.proofs.lemmas.List.Folds.{list_all-append}
use Rattle.std.proofs.lemmas.Bool.{ne_eqb}
use Rattle.std.proofs.lemmas.Bool.Decides.{nat_tests}
use Rattle.pattern_cells.specs.declared.pattern.PatternCell.{PatternCell}
use Rattle.pattern_cells.specs.Pattern.{precedes, are_sorted, are_alive, are_within, IsPattern}
use Rattle.generations_rule.specs.Refusal.{when, first_of, ◌>>=◌}
use Rattle.multistate_rle.specs.declared.fault.RleFault.{RleFault}
use Rattle.multistate_rle.specs.declared.fault.RleFault.TheVariants.{State, Count, TooMany}
use Rattle.multistate_rle.specs.declared.fault.RleFault.TheVariants.{Tag}
use Rattle.multistate_rle.specs.Role.{RoleValue}
use Rattle.multistate_rle.specs.Role as role
use Rattle.multistate_rle.specs.Reading.{BegunValue}
use Rattle.multistate_rle.specs.Position.{OriginValue}
use Rattle.multistate_rle.specs.Reading.{Mark, Pen, start, fresh, pen_after, fault_of, cells_of, AreFine, followed, tokens_ended, tokens_of, role_of, with_digit, with_prefix, cells_read, pattern_of, width_of, height_of}
use Rattle.multistate_rle.proofs.ReadLemmas.{by_role, step_is}
use Rattle.multistate_rle.proofs.StepLemmas.{length_run}
use Rattle.multistate_rle.specs.Tokens.{Token, Cells, Rows, run, cells_in_row, cells_drawn}

-- ---- cells from a place on

-- at the place or behind it
abbrev pub IsFrom : ℕ → ℕ → PatternCell → Type 0
IsFrom column row cell = (row < cell.row) ⊎ ((cell.row ≡ row) × (column ≤ cell.column))

-- in their order, from a place on
abbrev pub AreFrom : ℕ → ℕ → List PatternCell → Type 0
AreFrom column row [] = ⊤
AreFrom column row (cell ∷ cells) = IsFrom column row cell × AreFrom (cell.column + 1) cell.row cells

or-true : (b : Bool) → (b || true) ≡ true
or-true true = refl
or-true false = refl

precedes_from : (a b : PatternCell) → IsFrom (a.column + 1) a.row b → precedes a b ≡ true
precedes_from a b (inl below) = let lt : nat_lt a.row b.row ≡ true = grind (arith, nat_tests) in rw lt refl
precedes_from a b (inr same) =
    let row : (a.row == b.row) ≡ true = eq-eqb a.row b.row (sym same.0) in
    let column : nat_lt a.column b.column ≡ true = grind (arith, nat_tests, same.1) in
    rw (row, column) (or-true (nat_lt a.row b.row))

pub sorted_from : (column row : ℕ) (cells : List PatternCell) → AreFrom column row cells → are_sorted cells ≡ true
sorted_from column row [] h = refl
sorted_from column row (a ∷ []) h = refl
sorted_from column row (a ∷ b ∷ cells) h = rw (precedes_from a b h.1.0, sorted_from (a.column + 1) a.row (b ∷ cells) h.1) refl

from_later : (c d row : ℕ) (cells : List PatternCell) → c ≤ d → AreFrom d row cells → AreFrom c row cells
from_later c d row [] le h = h
from_later c d row (cell ∷ cells) le h = (elim h.0 [ inl below ↦ inl below | inr same ↦ inr (same.0, omega (arith, same.1)) ], h.1)

from_below : (c r s : ℕ) (cells : List PatternCell) → r < s → AreFrom 0 s cells → AreFrom c r cells
from_below c r s [] lt h = h
from_below c r s (cell ∷ cells) lt h = (elim h.0 [ inl below ↦ inl (omega arith) | inr same ↦ inl (omega (arith, same.0)) ], h.1)

row_from : (n s c r : ℕ) (cells : List PatternCell) → AreFrom (c + n) r cells → AreFrom c r (cells_in_row n s c r ++ cells)
row_from zero s c r cells h = from_later c (c + 0) r cells (omega arith) h
row_from (suc n) s c r cells h = (inr (refl, omega arith), row_from n s (c + 1) r cells (subst (λ k. AreFrom k r cells) (omega arith) h))

run_if_from : (dead : Bool) (n s c r : ℕ) (cells : List PatternCell) → AreFrom (c + n) r cells → AreFrom c r ((if dead then [] else cells_in_row n s c r) ++ cells)
run_if_from true n s c r cells h = from_later c (c + n) r cells (omega arith) h
run_if_from false n s c r cells h = row_from n s c r cells h

-- ---- tokens without faults

pub none_of_three : (a b c : Bool) (x y z : RleFault) → first_of (when a x ∷ when b y ∷ when c z ∷ []) ≡ None → (a ≡ false) × (b ≡ false) × (c ≡ false)
none_of_three true b c x y z none = absurd (cc)
none_of_three false true c x y z none = absurd (cc)
none_of_three false false true x y z none = absurd (cc)
none_of_three false false false x y z none = (refl, refl, refl)

pub none_of_one : (a : Bool) (x : RleFault) → when a x ≡ None → a ≡ false
none_of_one true x none = absurd (cc)
none_of_one false x none = refl

both_false : (a b : Bool) → (a || b) ≡ false → (a ≡ false) × (b ≡ false)
both_false true b h = absurd (cc)
both_false false b h = (refl, h)

pub record FineRun (pen : Pen) (n s : ℕ) : Type 0 where
  pub state : s ≤ 255
  pub some : 1 ≤ n
  pub near : pen.column + n ≤ 4294967296
  pub few : pen.cells + cells_of (Cells n s) ≤ 1048576

pub fine_run : (place : ℕ) (pen : Pen) (n s : ℕ) → fault_of place pen (Cells n s) ≡ None → FineRun pen n s
fine_run place pen n s none =
    let three = none_of_three (nat_lt 255 s) (n == 0 || nat_lt (2 ^ 32) (pen.column + n)) (nat_lt (2 ^ 20) (pen.cells + cells_of (Cells n s))) (State place) (Count place) TooMany none in
    let two = both_false (n == 0) (nat_lt (2 ^ 32) (pen.column + n)) three.1 in
    record {
      state = grind (arith, nat_tests, three.0);
      some = grind (arith, nat_tests, two.0);
      near = grind (arith, nat_tests, two.1);
      few = grind (arith, nat_tests, three.2);
    }

pub record FineRows (pen : Pen) (n : ℕ) : Type 0 where
  pub some : 1 ≤ n
  pub near : pen.row + n ≤ 4294967295

pub fine_rows : (place : ℕ) (pen : Pen) (n : ℕ) → fault_of place pen (Rows n) ≡ None → FineRows pen n
fine_rows place pen n none =
    let two = both_false (n == 0) (nat_lt (2 ^ 32 - 1) (pen.row + n)) (none_of_one (n == 0 || nat_lt (2 ^ 32 - 1) (pen.row + n)) (Count place) none) in
    record { some = grind (arith, nat_tests, two.0); near = grind (arith, nat_tests, two.1) }

inside_plane : (k r : ℕ) → k < 4294967296 → r < 4294967296 → (nat_lt k 4294967296 && nat_lt r 4294967296) ≡ true
inside_plane k r column row =
    let a : nat_lt k 4294967296 ≡ true = grind (arith, nat_tests) in
    let b : nat_lt r 4294967296 ≡ true = grind (arith, nat_tests) in
    rw (a, b) refl

pub drawn_from : (tokens : List Token) (pen : Pen) → AreFine pen tokens → AreFrom pen.column pen.row (cells_drawn tokens pen.column pen.row)
drawn_from [] pen fine = tt
drawn_from (Cells n s ∷ tokens) pen fine = run_if_from (s == 0) n s pen.column pen.row _ (drawn_from tokens (pen_after (Cells n s) pen) fine.1)
drawn_from (Rows n ∷ tokens) pen fine =
    from_below pen.column pen.row (pen.row + n) _ (let rows = fine_rows 0 pen n fine.0 in omega (arith, rows.some)) (drawn_from tokens (pen_after (Rows n) pen) fine.1)

-- ---- each cell of a run

row_all : (test : PatternCell → Bool) (n s c r : ℕ) → ((k : ℕ) → c ≤ k → k < c + n → test (record { column = k; row = r; state = s }) ≡ true) → list_all test (cells_in_row n s c r) ≡ true
row_all test zero s c r holds = refl
row_all test (suc n) s c r holds =
    rw (holds c (omega arith) (omega arith), row_all test n s (c + 1) r (λ k low high. holds k (omega arith) (omega arith))) refl

run_all : (test : PatternCell → Bool) (n s c r : ℕ) (dead : Bool) → (s == 0) ≡ dead →
    (s ≢ 0 → (k : ℕ) → c ≤ k → k < c + n → test (record { column = k; row = r; state = s }) ≡ true) → list_all test (if dead then [] else cells_in_row n s c r) ≡ true
run_all test n s c r true e holds = refl
run_all test n s c r false e holds = row_all test n s c r (holds (λ dead. let t : (s == 0) ≡ true = eq-eqb s 0 dead in absurd (cc)))

joined_all : (test : PatternCell → Bool) (xs ys : List PatternCell) → list_all test xs ≡ true → list_all test ys ≡ true → list_all test (xs ++ ys) ≡ true
joined_all test xs ys left right = list_all-append test xs ys ∙ rw (left, right) refl

pub drawn_alive : (tokens : List Token) (column row : ℕ) → are_alive (cells_drawn tokens column row) ≡ true
drawn_alive [] column row = refl
drawn_alive (Cells n s ∷ tokens) column row =
    joined_all (λ cell. not (cell.state == 0)) (run n s column row) (cells_drawn tokens (column + n) row)
    (run_all (λ cell. not (cell.state == 0)) n s column row (s == 0) refl (λ alive k low high. rw (ne_eqb s 0 alive) refl))
    (drawn_alive tokens (column + n) row)
drawn_alive (Rows n ∷ tokens) column row = drawn_alive tokens 0 (row + n)

-- the bounds of all columns and rows
pub drawn_within : (tokens : List Token) (pen : Pen) → pen.row ≤ 4294967295 → AreFine pen tokens → are_within 4294967296 4294967296 (cells_drawn tokens pen.column pen.row) ≡ true
drawn_within [] pen low fine = refl
drawn_within (Cells n s ∷ tokens) pen low fine =
    let far : pen.column + n ≤ 4294967296 = (fine_run 0 pen n s fine.0).near in
    joined_all (λ cell. nat_lt cell.column 4294967296 && nat_lt cell.row 4294967296) (run n s pen.column pen.row) (cells_drawn tokens (pen.column + n) pen.row)
    (run_all (λ cell. nat_lt cell.column 4294967296 && nat_lt cell.row 4294967296) n s pen.column pen.row (s == 0) refl
    (λ alive k above below. inside_plane k pen.row (omega arith) (omega arith)))
    (drawn_within tokens (pen_after (Cells n s) pen) low fine.1)
drawn_within (Rows n ∷ tokens) pen low fine = drawn_within tokens (pen_after (Rows n) pen) ((fine_rows 0 pen n fine.0).near) fine.1

pub drawn_few : (tokens : List Token) (pen : Pen) → pen.cells ≤ 1048576 → AreFine pen tokens → pen.cells + length (cells_drawn tokens pen.column pen.row) ≤ 1048576
drawn_few [] pen few fine = omega arith
drawn_few (Cells n s ∷ tokens) pen few fine =
    let more = drawn_few tokens (pen_after (Cells n s) pen) ((fine_run 0 pen n s fine.0).few) fine.1 in
    omega (arith, more, length-append (run n s pen.column pen.row) (cells_drawn tokens (pen.column + n) pen.row), length_run n s pen.column pen.row)
drawn_few (Rows n ∷ tokens) pen few fine = drawn_few tokens (pen_after (Rows n) pen) few fine.1

-- ---- what is read has no fault

pub fine_anywhere : (place : ℕ) (pen : Pen) (token : Token) → fault_of place pen token ≡ None → fault_of 0 pen token ≡ None
fine_anywhere place pen (Cells n s) none =
    let three = none_of_three (nat_lt 255 s) (n == 0 || nat_lt (2 ^ 32) (pen.column + n)) (nat_lt (2 ^ 20) (pen.cells + cells_of (Cells n s))) (State place) (Count place) TooMany none in
    rw (three.0, three.1, three.2) refl
fine_anywhere place pen (Rows n) none =
    rw (none_of_one (n == 0 || nat_lt (2 ^ 32 - 1) (pen.row + n)) (Count place) none) refl

followed_fine : (fault : Option RleFault) (place : ℕ) (pen : Pen) (token : Token) (rest : Result (List Token) RleFault) (tokens : List Token) → fault_of place pen token ≡ fault →
    ((more : List Token) → rest ≡ Ok more → AreFine (pen_after token pen) more) → followed fault token rest ≡ Ok tokens → AreFine pen tokens
followed_fine (Some fault) place pen token rest tokens is fine read = absurd (cc)
followed_fine None place pen token (Err fault) tokens is fine read = absurd (cc)
followed_fine None place pen token (Ok more) [] is fine read = absurd (cc)
followed_fine None place pen token (Ok more) (first ∷ tokens) is fine read =
    let same_first : token ≡ first = cc in
    let same_more : more ≡ tokens = cc in
    let good : AreFine pen (token ∷ more) = (fine_anywhere place pen token is, fine more refl) in
    subst (λ ts. AreFine pen ts) (λ i. same_first i ∷ same_more i) good

ended_fine : (prefix : Option ℕ) (place : ℕ) (b : BegunValue) (pen : Pen) (tokens : List Token) → b.prefix ≡ prefix → tokens_ended place b ≡ Ok tokens → AreFine pen tokens
ended_fine None place b pen [] is read = tt
ended_fine None place b pen (token ∷ tokens) is read = let e : tokens_ended place b ≡ Ok [] = rw is refl in absurd (cc)
ended_fine (Some k) place b pen tokens is read = let e : tokens_ended place b ≡ Err (Tag place) = rw is refl in absurd (cc)

role_fine : (end : ℕ) (m : Mark) (marks : List Mark) (b : BegunValue) (pen : Pen) (r : RoleValue) (tokens : List Token) →
    ((b : BegunValue) (pen : Pen) (tokens : List Token) → tokens_of end marks b pen ≡ Ok tokens → AreFine pen tokens) →
    by_role end m marks b pen r ≡ Ok tokens → AreFine pen tokens
role_fine end m marks b pen role.EndMark tokens fine read = ended_fine b.prefix m.0 b pen tokens refl read
role_fine end m marks b pen (role.Digit d) tokens fine read = fine (with_digit m.0 d b) pen tokens read
role_fine end m marks b pen (role.Prefix k) tokens fine read = fine (with_prefix m.0 k b) pen tokens read
role_fine end m marks b pen (role.State s) tokens fine read =
    followed_fine _ (unwrap_or b.place m.0) pen (Cells (unwrap_or b.count 1) s) _ tokens refl (λ more rest. fine fresh (pen_after (Cells (unwrap_or b.count 1) s) pen) more rest) read
role_fine end m marks b pen role.RowEnd tokens fine read =
    followed_fine _ (unwrap_or b.place m.0) pen (Rows (unwrap_or b.count 1)) _ tokens refl (λ more rest. fine fresh (pen_after (Rows (unwrap_or b.count 1)) pen) more rest) read
role_fine end m marks b pen role.Stray tokens fine read = absurd (cc)

pub read_fine : (end : ℕ) (marks : List Mark) (b : BegunValue) (pen : Pen) (tokens : List Token) → tokens_of end marks b pen ≡ Ok tokens → AreFine pen tokens
read_fine end [] b pen tokens read = ended_fine b.prefix end b pen tokens refl read
read_fine end (m ∷ marks) b pen tokens read =
    role_fine end m marks b pen (role_of b.prefix m.1) tokens (λ b pen tokens rest. read_fine end marks b pen tokens rest) (sym (step_is end m marks b pen (role_of b.prefix m.1) refl) ∙ read)

-- ---- sides

unfoldable pub reach : (PatternCell → ℕ) → ℕ → List PatternCell → ℕ
reach f n cells = fold (λ n cell. max n (f cell + 1)) n cells

pub reach_least : (f : PatternCell → ℕ) (n : ℕ) (cells : List PatternCell) → n ≤ reach f n cells
unfolding reach
reach_least f n [] = omega arith
reach_least f n (cell ∷ cells) = omega (arith, reach_least f (max n (f cell + 1)) cells)

reach_covers : (f : PatternCell → ℕ) (n side : ℕ) (cells : List PatternCell) → reach f n cells ≤ side → list_all (λ cell. nat_lt (f cell) side) cells ≡ true
unfolding reach
reach_covers f n side [] le = refl
reach_covers f n side (cell ∷ cells) le =
    let first : nat_lt (f cell) side ≡ true = grind (arith, nat_tests, reach_least f (max n (f cell + 1)) cells) in
    rw (first, reach_covers f (max n (f cell + 1)) side cells le) refl

pub and_parts : (a b : Bool) → (a && b) ≡ true → (a ≡ true) × (b ≡ true)
and_parts true b h = (refl, h)
and_parts false b h = absurd (cc)

pub reach_most : (f : PatternCell → ℕ) (n side : ℕ) (cells : List PatternCell) → n ≤ side → list_all (λ cell. nat_lt (f cell) side) cells ≡ true → reach f n cells ≤ side
unfolding reach
reach_most f n side [] le all = le
reach_most f n side (cell ∷ cells) le all =
    let parts = and_parts (nat_lt (f cell) side) (list_all (λ cell. nat_lt (f cell) side) cells) all in
    reach_most f (max n (f cell + 1)) side cells (grind (arith, nat_tests, parts.0)) parts.1

both_all : (p q : PatternCell → Bool) (cells : List PatternCell) → list_all p cells ≡ true → list_all q cells ≡ true → list_all (λ cell. p cell && q cell) cells ≡ true
both_all p q [] left right = refl
both_all p q (cell ∷ cells) left right =
    let l = and_parts (p cell) (list_all p cells) left in
    let r = and_parts (q cell) (list_all q cells) right in
    rw (l.0, r.0, both_all p q cells l.1 r.1) refl

pub each_all : (p q : PatternCell → Bool) (cells : List PatternCell) → list_all (λ cell. p cell && q cell) cells ≡ true → (list_all p cells ≡ true) × (list_all q cells ≡ true)
each_all p q [] all = (refl, refl)
each_all p q (cell ∷ cells) all =
    let now = and_parts (p cell && q cell) (list_all (λ cell. p cell && q cell) cells) all in
    let here = and_parts (p cell) (q cell) now.0 in
    let later = each_all p q cells now.1 in
    (rw (here.0, later.0) refl, rw (here.1, later.1) refl)

-- what tokens without faults draw, in the box of a header, is a pattern
drawn_pattern : (origin : OriginValue) (sides : ℕ × ℕ) (tokens : List Token) → sides.0 ≤ 4294967295 → sides.1 ≤ 4294967295 → AreFine start tokens →
    IsPattern (pattern_of origin sides (cells_drawn tokens 0 0))
unfolding reach
drawn_pattern origin sides tokens w h fine =
    let cells = cells_drawn tokens 0 0 in
    let bounds = each_all (λ cell. nat_lt cell.column 4294967296) (λ cell. nat_lt cell.row 4294967296) cells (drawn_within tokens start (omega arith) fine) in
    record {
      alive = drawn_alive tokens 0 0;
      sorted = sorted_from 0 0 cells (drawn_from tokens start fine);
      few = omega (arith, drawn_few tokens start (omega arith) fine);
      within = both_all (λ cell. nat_lt cell.column (width_of sides.0 cells)) (λ cell. nat_lt cell.row (height_of sides.1 cells)) cells
          (reach_covers (λ cell. cell.column) sides.0 (width_of sides.0 cells) cells (omega arith))
          (reach_covers (λ cell. cell.row) sides.1 (height_of sides.1 cells) cells (omega arith));
      narrow = reach_most (λ cell. cell.column) sides.0 4294967296 cells (omega (arith, w)) bounds.0;
      low = reach_most (λ cell. cell.row) sides.1 4294967296 cells (omega (arith, h)) bounds.1;
    }

read_pattern_at : (origin : OriginValue) (sides : ℕ × ℕ) (cells : List PatternCell) (read : Result (List Token) RleFault) → sides.0 ≤ 4294967295 → sides.1 ≤ 4294967295 →
    ((tokens : List Token) → read ≡ Ok tokens → AreFine start tokens) → (read >>= λ tokens. Ok (cells_drawn tokens 0 0)) ≡ Ok cells → IsPattern (pattern_of origin sides cells)
read_pattern_at origin sides cells (Ok tokens) w h fine is =
    let same : cells_drawn tokens 0 0 ≡ cells = cc in
    subst (λ xs. IsPattern (pattern_of origin sides xs)) same (drawn_pattern origin sides tokens w h (fine tokens refl))
read_pattern_at origin sides cells (Err fault) w h fine is = absurd (cc)

-- the cells that are read are those of a pattern
pub read_pattern : (end : ℕ) (origin : OriginValue) (sides : ℕ × ℕ) (marks : List Mark) (cells : List PatternCell) → sides.0 ≤ 4294967295 → sides.1 ≤ 4294967295 →
    cells_read end marks ≡ Ok cells → IsPattern (pattern_of origin sides cells)
read_pattern end origin sides marks cells w h is =
    read_pattern_at origin sides cells (tokens_of end marks fresh start) w h (λ tokens read. read_fine end marks fresh start tokens read) is
