-- The lines of a walk are read as the squares that it lists.
use Rattle.std.proofs.Common.{◌≡◌, ℕ, zero, suc, ◌+◌, ◌-◌, ◌<◌, ◌≤◌, Bool, true, false, List, [], ◌∷◌, ◌++◌, refl, sym, ◌∙◌, ap, arith, subst, inl, inr, length, map, length-append, append_assoc, append-nil}
use Rattle.std.specs.Prelude.{Option, Some, None, Result, Ok, ◌==◌, ◌&&◌, not, nat_le, codes, flat_map, if◌then◌else◌, slice_get}
use Rattle.std.specs.List.{list_all, position_or_len}
use Rattle.std.proofs.lemmas.Bool.{and_parts, eq-eqb, ne_eqb}
use Rattle.std.proofs.lemmas.Bool.Decides.{nat_tests}
use Rattle.std.proofs.lemmas.List.{map-append}
use Rattle.std.proofs.lemmas.Option.{slice_get_within}
use Rattle.generations_rule.specs.Refusal.{◌>>=◌}
use Rattle.multistate_rle.specs.HeaderLine.{text_lines}
use Rattle.multistate_rle.proofs.HeadLaws.{printed}
use Rattle.bitplane_kernel.specs.Square.{state_at}
use Rattle.macrocell_lines.specs.declared.line.Line.TheVariants as lines
use Rattle.macrocell_lines.specs.Squares.{StateSquare, Cell, Four, is_dead, is_listed, is_same, is_told_by_states, level_of, number_of, state_in}
use Rattle.macrocell_lines.specs.Lines.{line_of, line_text, rows_text, states_of}
use Rattle.macrocell_lines.specs.Listing.{AreStanding, IsPlaced, IsSquare, IsStanding}
use Rattle.macrocell_lines.proofs.Same.{listed_where_it_stands, map_same, square_same, stands_at_place}
use Rattle.macrocell_lines.proofs.Standing.{if_false, if_true, line_more, number_dead}
use Rattle.macrocell_lines.proofs.States.{dead_same, dead_square as dead_by_states, is_square, level_is, same_square, square_back, state_at_of}
use Rattle.macrocell_lines.proofs.Steps.{told_square}
use Rattle.macrocell_text.specs.declared.fault.MacrocellFault.{MacrocellFault}
use Rattle.macrocell_text.specs.declared.leaves.Leaves.{Leaves}
use Rattle.macrocell_text.specs.declared.leaves.Leaves.TheVariants.{ByRows, ByStates}
use Rattle.macrocell_text.specs.Marks.{rows_told}
use Rattle.macrocell_text.specs.SquareLines.{dead_square, is_level, is_other, leaves_with, square_numbered}
use Rattle.macrocell_text.specs.Texts.{Reading, with_lines, with_numbers, with_rows, with_square, with_told}
use Rattle.macrocell_text.specs.Laws.{numbers_text, state_told}
use Rattle.macrocell_text.proofs.LineKinds.{is_in_line, is_in_word, is_mark, line_parted, next_told, numbers_stay, rows_pass, told_by_numbers, told_by_rows, whole_word}
use Rattle.macrocell_text.proofs.NumbersBack.{reads_numbers_back, writes_numbers, writes_rows}
use Rattle.macrocell_text.proofs.RowsBack.{rows_back}
use Rattle.macrocell_text.proofs.WalksKept.{ArePlaced, HasStates, IsInWalk, apart, not_told, state_below}

-- ---- what stands for a quarter

le_true : (a b : ℕ) → a ≤ b → nat_le a b ≡ true
le_true a b h = grind (arith, nat_tests, h)

le_false : (a b : ℕ) → b < a → nat_le a b ≡ false
le_false a b h = grind (arith, nat_tests, h)

numbered_at : (k p : ℕ) (l : List StateSquare) (q : StateSquare) → slice_get l p ≡ Some q → level_of q ≡ suc k → square_numbered (suc k) l (suc p) ≡ Some q
numbered_at k p l q at level =
    let above : suc k ≡ 0 → ⊥ = λ e. (omega (arith, e)) in
    let some : suc p ≡ 0 → ⊥ = λ e. (omega (arith, e)) in
    let place : suc p - 1 ≡ p = omega arith in
    rw (ne_eqb (suc k) 0 above, ne_eqb (suc p) 0 some, place, at, eq-eqb (level_of q) (suc k) level) refl

numbered_dead : (k : ℕ) (l : List StateSquare) (q : StateSquare) → IsSquare (suc k) q → is_dead q ≡ true → square_numbered (suc k) l 0 ≡ Some q
numbered_dead k l q is dead =
    let above : suc k ≡ 0 → ⊥ = λ e. (omega (arith, e)) in
    rw (ne_eqb (suc k) 0 above) (ap (λ z. Some z) (dead_same (suc k) (dead_square (suc k)) q (is_square (suc k) (λ u v. 0)) is (dead_by_states (suc k) (λ u v. 0) (λ u v. refl)) dead))

-- a live square that stands in a list is listed
listed_live : (l : List StateSquare) (a b c d : StateSquare) → IsStanding l (Four a b c d) → is_dead (Four a b c d) ≡ false → is_listed l (Four a b c d) ≡ true
listed_live l a b c d stands live = elim stands [
  | inl dead ↦ absurd (let h = sym dead ∙ live in cc)
  | inr there ↦ there
]

-- the number of a square stands for it
quarter_numbered : (n k : ℕ) (l : List StateSquare) (q : StateSquare) → IsSquare k q → IsStanding l q → HasStates n q → n ≤ 256 → square_numbered k l (number_of l q) ≡ Some q
quarter_numbered n zero l (Cell s) is stands states few = rw (le_true s 255 (omega (arith, states, few))) refl
quarter_numbered n zero l (Four a b c d) is stands states few = absurd is
quarter_numbered n (suc k) l (Cell s) is stands states few = absurd is
quarter_numbered n (suc k) l (Four a b c d) is stands states few = by (is_dead (Four a b c d)) refl
  where
    by : (dead : Bool) → is_dead (Four a b c d) ≡ dead → square_numbered (suc k) l (number_of l (Four a b c d)) ≡ Some (Four a b c d)
    by true e = ap (square_numbered (suc k) l) (number_dead (Four a b c d) l e) ∙ numbered_dead k l (Four a b c d) is e
    by false e =
        let p = position_or_len (is_same (Four a b c d)) l in
        ap (square_numbered (suc k) l) (if_false (is_dead (Four a b c d)) 0 (suc p) e)
        ∙ numbered_at k p l (Four a b c d) (stands_at_place is_same square_same l (Four a b c d) (listed_live l a b c d stands e)) (level_is (suc k) (Four a b c d) is)

-- and has 32 bits
number_most : (n : ℕ) (l : List StateSquare) (q : StateSquare) → IsStanding l q → HasStates n q → n ≤ 256 → length l ≤ 4294967295 → number_of l q ≤ 4294967295
number_most n l (Cell s) stands states few many = omega (arith, states, few)
number_most n l (Four a b c d) stands states few many = by (is_dead (Four a b c d)) refl
  where
    by : (dead : Bool) → is_dead (Four a b c d) ≡ dead → number_of l (Four a b c d) ≤ 4294967295
    by true e = omega (arith, number_dead (Four a b c d) l e)
    by false e =
        let p = position_or_len (is_same (Four a b c d)) l in
        let within = slice_get_within l p (Four a b c d) (stands_at_place is_same square_same l (Four a b c d) (listed_live l a b c d stands e)) in
        omega (arith, if_false (is_dead (Four a b c d)) 0 (suc p) e, within, many)

-- ---- a line

-- how leaves are told of two states, and of more
abbrev pub leaves_of : Bool → Leaves
leaves_of of_two = if of_two then ByRows else ByStates

-- the line of a square is read as that square
pub record IsLineRead (of_two : Bool) (r : Reading) (text : List ℕ) (q : StateSquare) : Type 0 where
  pub line : List ℕ
  pub text_is : text ≡ line ++ codes "\n"
  pub whole : list_all is_in_line line ≡ true
  pub leaves : Option Leaves
  pub told : with_told r line ≡ Ok (with_square r leaves q)
  pub same_leaves : is_other leaves (leaves_of of_two) ≡ false

-- a square that is told by its rows
told_small : (s : ℕ) → s < 2 → state_told s ≡ s
told_small zero h = refl
told_small (suc zero) h = refl
told_small (suc (suc s)) h = absurd (omega (arith, h))

rows_read : (place : ℕ) (q : StateSquare) → IsSquare 3 q → HasStates 2 q → rows_told place (rows_text (states_of q)) ≡ Ok q
rows_read place q is states =
    rows_back (states_of q) place
    ∙ ap Ok (same_square 3 (λ u v. state_told (state_at 8 (states_of q) u v)) (state_in q) (λ u v hu hv. ap state_told (state_at_of q u v hu hv) ∙ told_small (state_in q u v) (state_below 2 q states u v)) ∙ square_back 3 q is)

-- nothing is read as a dead square
no_rows : (place : ℕ) (q : StateSquare) → rows_told place [] ≡ Ok q → is_dead q ≡ true
no_rows place q e = subst (λ z. is_dead z ≡ true) (ok_is e) (dead_by_states 3 (λ u v. 0) (λ u v. refl))
  where
    ok_is : {x y : StateSquare} → (let z : Result StateSquare MacrocellFault = Ok x in z ≡ Ok y) → x ≡ y
    ok_is h = cc

marks_read : (r : Reading) (line : List ℕ) (q : StateSquare) → is_other r.leaves ByRows ≡ false → list_all is_in_word line ≡ true → rows_told r.start line ≡ Ok q → with_rows r line ≡ Ok (with_square r (Some ByRows) q)
marks_read r line q same all e = rw (same, whole_word line all, e) refl

marks_told : (r : Reading) (line : List ℕ) (q : StateSquare) → is_other r.leaves ByRows ≡ false → list_all is_mark line ≡ true → list_all is_in_word line ≡ true → rows_told r.start line ≡ Ok q → is_dead q ≡ false →
    with_told r line ≡ Ok (with_square r (Some ByRows) q)
marks_told r [] q same marks all e live = absurd (let h = sym (no_rows r.start q e) ∙ live in cc)
marks_told r (c ∷ line) q same marks all e live = told_by_rows r c line (first (is_mark c) marks) ∙ marks_read r (c ∷ line) q same all e
  where
    first : (b : Bool) → (b && list_all is_mark line) ≡ true → b ≡ true
    first true h = refl
    first false h = absurd (cc)

leaf_read : (r : Reading) (q : StateSquare) → is_other r.leaves ByRows ≡ false → IsSquare 3 q → HasStates 2 q → is_dead q ≡ false → IsLineRead true r (line_text (lines.Leaf (states_of q))) q
leaf_read r q same is states live = record {
  line = rows_text (states_of q);
  text_is = writes_rows (states_of q);
  whole = rows_pass is_in_line refl refl refl (states_of q);
  leaves = Some ByRows;
  told = marks_told r (rows_text (states_of q)) q same (rows_pass is_mark refl refl refl (states_of q)) (rows_pass is_in_word refl refl refl (states_of q)) (rows_read r.start q is states) live;
  same_leaves = refl;
}

-- a square that is told by its quarters
level_fits : (of_two : Bool) (leaves : Option Leaves) (level : ℕ) → is_other leaves (leaves_of of_two) ≡ false → 1 ≤ level → level ≤ 63 → (of_two ≡ true → 4 ≤ level) → is_level leaves level ≡ true
level_fits true leaves level same some few least = (let high = least refl in rw (le_true 1 level some, le_true level 63 few, le_false level 3 (omega (arith, high))) refl)
level_fits false leaves level same some few least = rw (le_true 1 level some, le_true level 63 few, same) (by (nat_le level 3))
  where
    by : (b : Bool) → not (b && false) ≡ true
    by true = refl
    by false = refl

leaves_stay : (of_two : Bool) (leaves : Option Leaves) (level : ℕ) → is_other leaves (leaves_of of_two) ≡ false → (of_two ≡ true → 4 ≤ level) → is_other (leaves_with leaves level) (leaves_of of_two) ≡ false
leaves_stay true leaves level same least = (let high = least refl in rw (le_false level 3 (omega (arith, high))) same)
leaves_stay false leaves level same least = by (nat_le level 3)
  where
    by : (b : Bool) → is_other (if b then Some ByStates else leaves) ByStates ≡ false
    by true = refl
    by false = same

numbers_told : (r : Reading) (level nw ne sw se : ℕ) (q : StateSquare) → level ≤ 63 → with_numbers r (numbers_text level nw ne sw se) ≡ Ok (with_square r (leaves_with r.leaves level) q) →
    with_told r (numbers_text level nw ne sw se) ≡ Ok (with_square r (leaves_with r.leaves level) q)
numbers_told r level nw ne sw se q few e = told_by_numbers r level _ _ (printed level (omega (arith, few))) ∙ e

four_read : (of_two : Bool) (n k : ℕ) (r : Reading) (l : List StateSquare) (a b c d : StateSquare) → is_other r.leaves (leaves_of of_two) ≡ false → r.squares ≡ l → IsSquare (suc k) (Four a b c d) →
    AreStanding l (Four a b c d) → HasStates n (Four a b c d) → n ≤ 256 → length l ≤ 4294967295 → suc k ≤ 63 → (of_two ≡ true → 4 ≤ suc k) →
    IsLineRead of_two r (line_text (lines.Four (suc (level_of a)) (number_of l a) (number_of l b) (number_of l c) (number_of l d))) (Four a b c d)
four_read of_two n k r l a b c d same squares is stands states few many high low =
    let level : suc (level_of a) ≡ suc k = ap suc (level_is k a is.0) in
    let na = number_most n l a stands.0 states.0 few many in
    let nb = number_most n l b stands.1.0 states.1.0 few many in
    let nc = number_most n l c stands.1.1.0 states.1.1.0 few many in
    let nd = number_most n l d stands.1.1.1 states.1.1.1 few many in
    let down : suc k - 1 ≡ k = omega arith in
    let stand : (q : StateSquare) → square_numbered k l (number_of l q) ≡ Some q → square_numbered (suc k - 1) r.squares (number_of l q) ≡ Some q =
    λ q e. (λ i. square_numbered (down i) (squares i) (number_of l q)) ∙ e in
    let text : List ℕ = numbers_text (suc k) (number_of l a) (number_of l b) (number_of l c) (number_of l d) in
    let read = reads_numbers_back (r.start + length text) r.leaves r.squares (suc k) (number_of l a) (number_of l b) (number_of l c) (number_of l d) a b c d
    (level_fits of_two r.leaves (suc k) same (omega arith) high low) na nb nc nd
    (stand a (quarter_numbered n k l a is.0 stands.0 states.0 few)) (stand b (quarter_numbered n k l b is.1.0 stands.1.0 states.1.0 few))
    (stand c (quarter_numbered n k l c is.1.1.0 stands.1.1.0 states.1.1.0 few)) (stand d (quarter_numbered n k l d is.1.1.1 stands.1.1.1 states.1.1.1 few)) in
    record {
      line = text;
      text_is = ap (λ m. line_text (lines.Four m (number_of l a) (number_of l b) (number_of l c) (number_of l d))) level ∙ writes_numbers (suc k) (number_of l a) (number_of l b) (number_of l c) (number_of l d);
      whole = numbers_stay (suc k) (number_of l a) (number_of l b) (number_of l c) (number_of l d) (omega (arith, high)) na nb nc nd;
      leaves = leaves_with r.leaves (suc k);
      told = numbers_told r (suc k) (number_of l a) (number_of l b) (number_of l c) (number_of l d) (Four a b c d) high (ap (λ x. x >>= λ told. Ok (with_square r (leaves_with r.leaves told.0) told.1)) read);
      same_leaves = leaves_stay of_two r.leaves (suc k) same low;
    }

-- the line of a square that may stand behind those that were read
line_read : (of_two : Bool) (n : ℕ) (r : Reading) (l : List StateSquare) (q : StateSquare) → is_other r.leaves (leaves_of of_two) ≡ false → r.squares ≡ l → IsPlaced of_two l q → IsInWalk of_two 63 n q →
    n ≤ 256 → (of_two ≡ true → n ≡ 2) → length l ≤ 4294967295 → IsLineRead of_two r (line_text (line_of of_two l q)) q
line_read of_two n r l (Cell s) same squares may walked few two many = absurd may.level
line_read of_two n r l (Four a b c d) same squares may walked few two many = by (is_told_by_states of_two (Four a b c d)) refl
  where
    by : (told : Bool) → is_told_by_states of_two (Four a b c d) ≡ told → IsLineRead of_two r (line_text (line_of of_two l (Four a b c d))) (Four a b c d)
    by true e =
        let is_two : of_two ≡ true = (and_parts of_two (level_of (Four a b c d) == 3) e).0 in
        let text : line_of of_two l (Four a b c d) ≡ lines.Leaf (states_of (Four a b c d)) = if_true (is_told_by_states of_two (Four a b c d)) _ _ e in
        let read = leaf_read r (Four a b c d) (subst (λ x. is_other r.leaves (leaves_of x) ≡ false) is_two same) (told_square of_two (suc may.above) (Four a b c d) may.level e)
        (subst (λ m. HasStates m (Four a b c d)) (two is_two) walked.states) may.live in
        subst (λ x. IsLineRead x r (line_text (line_of of_two l (Four a b c d))) (Four a b c d)) (sym is_two) (subst (λ t. IsLineRead true r (line_text t) (Four a b c d)) (sym text) read)
    by false e =
        let level = level_is (suc may.above) (Four a b c d) may.level in
        let high = walked.high in
        let text : line_of of_two l (Four a b c d) ≡ lines.Four (suc (level_of a)) (number_of l a) (number_of l b) (number_of l c) (number_of l d) = if_false (is_told_by_states of_two (Four a b c d)) _ _ e in
        let low : of_two ≡ true → 4 ≤ suc may.above = λ is_two.
        (let least = walked.low is_two in
        let other : level_of (Four a b c d) ≡ 3 → ⊥ = λ is. apart (level_of (Four a b c d) == 3) (eq-eqb (level_of (Four a b c d)) 3 is) (not_told of_two (level_of (Four a b c d) == 3) is_two e) in
        omega (arith, level, least, other)) in
        subst (λ t. IsLineRead of_two r (line_text t) (Four a b c d)) (sym text)
        (four_read of_two n may.above r l a b c d same squares may.level (may.quarters e) walked.states few many (omega (arith, level, high)) low)

-- ---- lines one after another

-- the lines of squares
abbrev pub lines_text : Bool → List StateSquare → List ℕ
lines_text of_two l = flat_map line_text (map (line_of of_two l) l)

flat_more : {X : Type 0} (f : X → List ℕ) (xs : List X) (x : X) → flat_map f (xs ++ x ∷ []) ≡ flat_map f xs ++ f x
flat_more f [] x = append-nil (f x)
flat_more f (y ∷ xs) x = ap (λ t. f y ++ t) (flat_more f xs x) ∙ sym (append_assoc (f y) (flat_map f xs) (f x))

-- one square more is one line more
lines_more : (of_two : Bool) (l : List StateSquare) (q : StateSquare) → ArePlaced of_two l → IsPlaced of_two l q → lines_text of_two (l ++ q ∷ []) ≡ lines_text of_two l ++ line_text (line_of of_two l q)
lines_more of_two l q placed may =
    let old : map (line_of of_two (l ++ q ∷ [])) l ≡ map (line_of of_two l) l
    = map_same (line_of of_two (l ++ q ∷ [])) (line_of of_two l) l (λ i x at. line_more l (q ∷ []) of_two x (placed x (listed_where_it_stands is_same square_same l i x at))) in
    let new = line_more l (q ∷ []) of_two q may in
    ap (λ ls. flat_map line_text ls) (map-append (line_of of_two (l ++ q ∷ [])) l (q ∷ []) ∙ (λ i. old i ++ new i ∷ []))
    ∙ flat_more line_text (map (line_of of_two l) l) (line_of of_two l q)

-- the lines of squares are read, and other lines behind them
pub record AreRead (of_two : Bool) (r : Reading) (l : List StateSquare) : Type 0 where
  pub after : Reading
  pub read : (rest : List ℕ) → with_lines r (text_lines (lines_text of_two l ++ rest)) ≡ with_lines after (text_lines rest)
  pub squares : after.squares ≡ l
  pub rule : after.rule ≡ r.rule
  pub generation : after.generation ≡ r.generation
  pub leaves : is_other after.leaves (leaves_of of_two) ≡ false

one_more_read : (of_two : Bool) (r : Reading) (l : List StateSquare) (q : StateSquare) → ArePlaced of_two l → IsPlaced of_two l q → (are : AreRead of_two r l) → IsLineRead of_two are.after (line_text (line_of of_two l q)) q →
    AreRead of_two r (l ++ q ∷ [])
one_more_read of_two r l q placed may are is = record {
  after = record (with_square are.after is.leaves q) { start = are.after.start + (length is.line + 1) };
  read = λ rest.
      (let text : lines_text of_two (l ++ q ∷ []) ++ rest ≡ lines_text of_two l ++ (is.line ++ 10 ∷ rest) =
      ap (λ t. t ++ rest) (lines_more of_two l q placed may ∙ ap (λ t. lines_text of_two l ++ t) is.text_is)
      ∙ append_assoc (lines_text of_two l) (is.line ++ codes "\n") rest ∙ ap (λ t. lines_text of_two l ++ t) (append_assoc is.line (codes "\n") rest) in
      ap (λ t. with_lines r (text_lines t)) text ∙ are.read (is.line ++ 10 ∷ rest) ∙ ap (λ ls. with_lines are.after ls) (line_parted is.line rest is.whole)
      ∙ next_told are.after (with_square are.after is.leaves q) is.line (text_lines rest) is.told);
  squares = ap (λ s. s ++ q ∷ []) are.squares;
  rule = are.rule;
  generation = are.generation;
  leaves = is.same_leaves;
}

-- as far as numbers of 32 bits go
pub step_read : (of_two : Bool) (n : ℕ) (r : Reading) → n ≤ 256 → (of_two ≡ true → n ≡ 2) → (l : List StateSquare) (q : StateSquare) → (length l ≤ 4294967295 → AreRead of_two r l) → ArePlaced of_two l → IsPlaced of_two l q →
    IsInWalk of_two 63 n q → length (l ++ q ∷ []) ≤ 4294967295 → AreRead of_two r (l ++ q ∷ [])
step_read of_two n r few two l q read placed may walked many =
    let less : length l ≤ 4294967295 = omega (arith, many, length-append l (q ∷ [])) in
    let are = read less in
    one_more_read of_two r l q placed may are (line_read of_two n are.after l q are.leaves are.squares may walked few two less)

-- nothing is listed yet
pub none_read : (of_two : Bool) (r : Reading) → r.leaves ≡ None → r.squares ≡ [] → AreRead of_two r []
none_read of_two r leaves squares = record {
  after = r;
  read = λ rest. refl;
  squares = squares;
  rule = refl;
  generation = refl;
  leaves = ap (λ o. is_other o (leaves_of of_two)) leaves;
}
