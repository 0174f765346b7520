-- A line of five numbers is read back.
use Rattle.std.proofs.Common.{◌≡◌, ℕ, suc, ◌+◌, ◌-◌, ◌≤◌, ◌<◌, ◌^◌, Bool, true, false, List, [], ◌∷◌, ◌++◌, refl, sym, ◌∙◌, ap, arith, length, append_assoc}
use Rattle.std.specs.Prelude.{Option, Some, None, Result, Ok, Err, ◌==◌, ◌&&◌, nat_le, if◌then◌else◌, codes, decimal}
use Rattle.std.proofs.lemmas.Bool.{and_parts, ne_eqb}
use Rattle.std.proofs.lemmas.Bool.Decides.{nat_tests}
use Rattle.text_scan.specs.Bytes.{decimal_number, is_decimal_digit, is_space_or_tab, past_prefix}
use Rattle.std.specs.List.{list_all}
use Rattle.multistate_rle.proofs.HeadLaws.{IsPrinted, digit_is_no, front_all, front_is, number_back, past_all, past_is, printed}
use Rattle.macrocell_lines.specs.declared.line.Line.TheVariants as lines
use Rattle.macrocell_lines.specs.Lines.{line_text}
use Rattle.macrocell_lines.specs.Squares.{StateSquare, Four}
use Rattle.macrocell_text.specs.declared.fault.MacrocellFault.{MacrocellFault}
use Rattle.macrocell_text.specs.declared.leaves.Leaves.{Leaves}
use Rattle.macrocell_text.specs.Numbers.{Number, number_in_front, number_told, place_of}
use Rattle.macrocell_text.specs.SquareLines.{is_level, quarter_told, square_numbered}
use Rattle.macrocell_text.specs.Texts.{square_numbers}
use Rattle.macrocell_text.specs.Laws.{ReadsNumbersBack, WritesNumbers, WritesRows, numbers_text}

-- ---- blanks in front of a number

no_blank : (n : ℕ) (ds rest : List ℕ) → IsPrinted n ds → past_prefix is_space_or_tab (ds ++ rest) ≡ ds ++ rest
no_blank n [] rest is = absurd (let some = is.some in omega arith)
no_blank n (c ∷ ds) rest is =
    let parts = and_parts (is_decimal_digit c) (list_all is_decimal_digit ds) is.digits in
    rw (digit_is_no c parts.0 32 (omega arith), digit_is_no c parts.0 9 (omega arith)) refl

one_blank : (n : ℕ) (ds rest : List ℕ) → IsPrinted n ds → past_prefix is_space_or_tab (32 ∷ (ds ++ rest)) ≡ ds ++ rest
one_blank n [] rest is = absurd (let some = is.some in omega arith)
one_blank n (c ∷ ds) rest is =
    let parts = and_parts (is_decimal_digit c) (list_all is_decimal_digit ds) is.digits in
    rw (digit_is_no c parts.0 32 (omega arith), digit_is_no c parts.0 9 (omega arith)) refl

last_blank : (n : ℕ) (ds : List ℕ) → IsPrinted n ds → past_prefix is_space_or_tab (32 ∷ ds) ≡ ds
last_blank n [] is = absurd (let some = is.some in omega arith)
last_blank n (c ∷ ds) is =
    let parts = and_parts (is_decimal_digit c) (list_all is_decimal_digit ds) is.digits in
    rw (digit_is_no c parts.0 32 (omega arith), digit_is_no c parts.0 9 (omega arith)) refl

-- ---- numbers

-- a number with a blank behind it
front_back : (line_end n : ℕ) (ds rest : List ℕ) → IsPrinted n ds → n ≤ 4294967295 →
    number_in_front line_end (ds ++ 32 ∷ rest) ≡ Ok (record { value = Some n; place = place_of line_end (ds ++ 32 ∷ rest); rest = 32 ∷ rest })
front_back line_end n [] rest is le = absurd (let some = is.some in omega arith)
front_back line_end n (c ∷ ds) rest is le =
    let some : length ((c ∷ ds) ++ 32 ∷ rest) ≡ 0 → ⊥ = λ e. (omega (arith, e)) in
    rw (ne_eqb (length ((c ∷ ds) ++ 32 ∷ rest)) 0 some, past_is is_decimal_digit (c ∷ ds) 32 rest is.digits refl, front_is is_decimal_digit (c ∷ ds) 32 rest is.digits refl, number_back 4294967295 n (c ∷ ds) is le) refl

-- one that ends the line
last_back : (line_end n : ℕ) (ds : List ℕ) → IsPrinted n ds → n ≤ 4294967295 →
    number_in_front line_end ds ≡ Ok (record { value = Some n; place = place_of line_end ds; rest = [] })
last_back line_end n [] is le = absurd (let some = is.some in omega arith)
last_back line_end n (c ∷ ds) is le =
    let some : length (c ∷ ds) ≡ 0 → ⊥ = λ e. (omega (arith, e)) in
    rw (ne_eqb (length (c ∷ ds)) 0 some, past_all is_decimal_digit (c ∷ ds) is.digits, front_all is_decimal_digit (c ∷ ds) is.digits, number_back 4294967295 n (c ∷ ds) is le) refl

-- ---- quarters

quarter_back : (line_end level n : ℕ) (squares : List StateSquare) (q : StateSquare) (rest : List ℕ) → n ≤ 4294967295 → square_numbered level squares n ≡ Some q →
    quarter_told line_end level squares (32 ∷ (decimal n ++ 32 ∷ rest)) ≡ Ok (q, 32 ∷ rest)
quarter_back line_end level n squares q rest le is =
    let p = printed n (omega (arith, le)) in
    rw (one_blank n (decimal n) (32 ∷ rest) p, front_back line_end n (decimal n) rest p le, is) refl

last_quarter : (line_end level n : ℕ) (squares : List StateSquare) (q : StateSquare) → n ≤ 4294967295 → square_numbered level squares n ≡ Some q →
    quarter_told line_end level squares (32 ∷ decimal n) ≡ Ok (q, [])
last_quarter line_end level n squares q le is =
    let p = printed n (omega (arith, le)) in
    rw (last_blank n (decimal n) p, last_back line_end n (decimal n) p le, is) refl

level_most : (leaves : Option Leaves) (level : ℕ) → is_level leaves level ≡ true → level ≤ 63
level_most leaves level is =
    let both = and_parts (nat_le 1 level) _ is in
    let most = (and_parts (nat_le level 63) _ both.1).0 in
    grind (arith, nat_tests, most)

pub reads_numbers_back : ReadsNumbersBack
reads_numbers_back line_end leaves squares level nw ne sw se a b c d is n1 n2 n3 n4 e1 e2 e3 e4 =
    let few = level_most leaves level is in
    let p = printed level (omega (arith, few)) in
    rw (
      no_blank level (decimal level) (32 ∷ (decimal nw ++ (32 ∷ (decimal ne ++ (32 ∷ (decimal sw ++ (32 ∷ decimal se))))))) p,
      front_back line_end level (decimal level) (decimal nw ++ (32 ∷ (decimal ne ++ (32 ∷ (decimal sw ++ (32 ∷ decimal se)))))) p (omega (arith, few)),
      is,
      quarter_back line_end (level - 1) nw squares a (decimal ne ++ (32 ∷ (decimal sw ++ (32 ∷ decimal se)))) n1 e1,
      quarter_back line_end (level - 1) ne squares b (decimal sw ++ (32 ∷ decimal se)) n2 e2,
      quarter_back line_end (level - 1) sw squares c (decimal se) n3 e3,
      last_quarter line_end (level - 1) se squares d n4 e4,
    ) refl

five : (a b c d e end : List ℕ) → a ++ codes " " ++ b ++ codes " " ++ c ++ codes " " ++ d ++ codes " " ++ e ++ end ≡ (a ++ (32 ∷ (b ++ (32 ∷ (c ++ (32 ∷ (d ++ (32 ∷ e)))))))) ++ end
five a b c d e end = simp append_assoc refl

pub writes_numbers : WritesNumbers
unfolding line_text
writes_numbers level nw ne sw se = five (decimal level) (decimal nw) (decimal ne) (decimal sw) (decimal se) (codes "\n")

pub writes_rows : WritesRows
unfolding line_text
writes_rows states = refl
