-- Lines that are written: where each ends, and which kind it is read as.
use Rattle.std.proofs.Common.{◌≡◌, ℕ, zero, suc, ◌+◌, ◌≤◌, Bool, true, false, List, [], ◌∷◌, ◌++◌, refl, sym, ap, arith, subst, length, map}
use Rattle.std.specs.Prelude.{Ok, not, ◌==◌, ◌||◌, codes, decimal, flat_map, if◌then◌else◌}
use Rattle.std.specs.List.{before_first, list_all, onto_first, range_with_len, slice_split}
use Rattle.std.proofs.lemmas.Bool.{and_parts, eqb-true}
use Rattle.text_scan.specs.Bytes.{ends_line, is_decimal_digit, is_space_or_tab}
use Rattle.multistate_rle.specs.HeaderLine.{text_lines}
use Rattle.multistate_rle.proofs.HeadLaws.{IsPrinted, both_pass, digit_is_no, digit_no_end, digits_pass, front_all, printed}
use Rattle.bitplane_kernel.specs.Square.{state_at}
use Rattle.macrocell_lines.specs.Lines.{height_of, live_len, mark_of, row_of, row_text, rows_text}
use Rattle.macrocell_text.specs.Texts.{Reading, with_lines, with_numbers, with_rows, with_told}
use Rattle.macrocell_text.specs.Laws.{numbers_text}

-- ---- where lines end

pub is_not : (b : Bool) → not b ≡ true → b ≡ false
is_not true e = absurd (cc)
is_not false e = refl

-- a part without its end, and those behind it
parted : (ends : ℕ → Bool) (end : ℕ) (line rest : List ℕ) → list_all (λ c. not (ends c)) line ≡ true → ends end ≡ true → slice_split ends (line ++ end ∷ rest) ≡ line ∷ slice_split ends rest
parted ends end [] rest all is = rw is refl
parted ends end (c ∷ line) rest all is =
    let parts = and_parts (not (ends c)) (list_all (λ c. not (ends c)) line) all in
    rw (is_not (ends c) parts.0) (ap (onto_first c) (parted ends end line rest parts.1 is))

-- a byte that ends no line, and one that is no blank
abbrev pub is_in_line : ℕ → Bool
is_in_line c = not (ends_line c)

abbrev pub is_in_word : ℕ → Bool
is_in_word c = not (is_space_or_tab c)

-- a line that is written ends with LF
pub line_parted : (line rest : List ℕ) → list_all is_in_line line ≡ true → text_lines (line ++ 10 ∷ rest) ≡ line ∷ text_lines rest
line_parted line rest all = parted ends_line 10 line rest all refl

-- a line without blanks is a word
pub whole_word : (word : List ℕ) → list_all is_in_word word ≡ true → before_first is_space_or_tab word ≡ word
whole_word word all = front_all is_in_word word all

-- one line more is told
pub next_told : (r s : Reading) (line : List ℕ) (lines : List (List ℕ)) → with_told r line ≡ Ok s → with_lines r (line ∷ lines) ≡ with_lines (record s { start = s.start + (length line + 1) }) lines
next_told r s line lines e = rw e refl

-- ---- lines of rows

-- what holds of each mark holds of each byte of rows
module _ (p : ℕ → Bool) (dead : p 46 ≡ true) (live : p 42 ≡ true) (end : p 36 ≡ true) where
  marks_pass : (n c : ℕ) (f : ℕ → ℕ) → list_all p (map (λ u. mark_of (f u)) (range_with_len c n)) ≡ true
  marks_pass zero c f = refl
  marks_pass (suc n) c f = by (f c == 0) (marks_pass n (c + 1) f)
    where
      by : (b : Bool) → list_all p (map (λ u. mark_of (f u)) (range_with_len (c + 1) n)) ≡ true → list_all p ((if b then 46 else 42) ∷ map (λ u. mark_of (f u)) (range_with_len (c + 1) n)) ≡ true
      by true rest = rw dead rest
      by false rest = rw live rest

  row_passes : (states : List ℕ) (v : ℕ) → list_all p (row_text states v) ≡ true
  row_passes states v = both_pass p (map (λ u. mark_of (state_at 8 states u v)) (range_with_len 0 (live_len (row_of states v)))) (codes "$") (marks_pass (live_len (row_of states v)) 0 (λ u. state_at 8 states u v)) (rw end refl)

  each_passes : (states : List ℕ) (rows : List ℕ) → list_all p (flat_map (row_text states) rows) ≡ true
  each_passes states [] = refl
  each_passes states (v ∷ rows) = both_pass p (row_text states v) (flat_map (row_text states) rows) (row_passes states v) (each_passes states rows)

  pub rows_pass : (states : List ℕ) → list_all p (rows_text states) ≡ true
  rows_pass states = each_passes states (range_with_len 0 (height_of states))

abbrev pub is_mark : ℕ → Bool
is_mark c = c == 46 || (c == 42 || c == 36)

mark_is : (P : ℕ → Type 0) → P 46 → P 42 → P 36 → (c : ℕ) → is_mark c ≡ true → P c
mark_is P dead live end c is = by (c == 46) (c == 42) (c == 36) refl refl refl is
  where
    by : (x y z : Bool) → (c == 46) ≡ x → (c == 42) ≡ y → (c == 36) ≡ z → (x || (y || z)) ≡ true → P c
    by true y z e f g h = subst P (sym (eqb-true c 46 e)) dead
    by false true z e f g h = subst P (sym (eqb-true c 42 f)) live
    by false false true e f g h = subst P (sym (eqb-true c 36 g)) end
    by false false false e f g h = absurd (cc)

-- a line of marks is read as one of rows
pub told_by_rows : (r : Reading) (c : ℕ) (line : List ℕ) → is_mark c ≡ true → with_told r (c ∷ line) ≡ with_rows r (c ∷ line)
told_by_rows r c line is = mark_is (λ m. with_told r (m ∷ line) ≡ with_rows r (m ∷ line)) refl refl refl c is

-- ---- lines of numbers

-- a line that begins with a digit is read as one of numbers
digit_told : (r : Reading) (c : ℕ) (line : List ℕ) → is_decimal_digit c ≡ true → with_told r (c ∷ line) ≡ with_numbers r (c ∷ line)
digit_told r c line is =
    rw (
      digit_is_no c is 32 (omega arith),
      digit_is_no c is 9 (omega arith),
      digit_is_no c is 35 (omega arith),
      digit_is_no c is 46 (omega arith),
      digit_is_no c is 42 (omega arith),
      digit_is_no c is 36 (omega arith),
    ) refl

pub told_by_numbers : (r : Reading) (n : ℕ) (digits rest : List ℕ) → IsPrinted n digits → with_told r (digits ++ rest) ≡ with_numbers r (digits ++ rest)
told_by_numbers r n [] rest is = absurd (let some = is.some in omega arith)
told_by_numbers r n (c ∷ digits) rest is = digit_told r c (digits ++ rest) (and_parts (is_decimal_digit c) (list_all is_decimal_digit digits) is.digits).0

digits_stay : (n : ℕ) (ds : List ℕ) → IsPrinted n ds → list_all is_in_line ds ≡ true
digits_stay n ds is = digits_pass is_in_line digit_no_end ds is.digits

blank_stays : (xs rest : List ℕ) → list_all is_in_line xs ≡ true → list_all is_in_line rest ≡ true → list_all is_in_line (xs ++ 32 ∷ rest) ≡ true
blank_stays xs rest front behind = both_pass is_in_line xs (32 ∷ rest) front behind

-- no byte of a line of numbers ends it
pub numbers_stay : (level nw ne sw se : ℕ) → level ≤ 4294967295 → nw ≤ 4294967295 → ne ≤ 4294967295 → sw ≤ 4294967295 → se ≤ 4294967295 → list_all is_in_line (numbers_text level nw ne sw se) ≡ true
numbers_stay level nw ne sw se h0 h1 h2 h3 h4 =
    let p0 = digits_stay level (decimal level) (printed level (omega (arith, h0))) in
    let p1 = digits_stay nw (decimal nw) (printed nw (omega (arith, h1))) in
    let p2 = digits_stay ne (decimal ne) (printed ne (omega (arith, h2))) in
    let p3 = digits_stay sw (decimal sw) (printed sw (omega (arith, h3))) in
    let p4 = digits_stay se (decimal se) (printed se (omega (arith, h4))) in
    blank_stays (decimal level) _ p0 (blank_stays (decimal nw) _ p1 (blank_stays (decimal ne) _ p2 (blank_stays (decimal sw) (decimal se) p3 p4)))
