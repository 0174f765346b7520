-- The squares that a text tells are squares of levels: four quarters of one level each.
use Rattle.std.proofs.Common.{◌≡◌, ℕ, zero, suc, ◌+◌, ◌-◌, ◌≤◌, ◌<◌, Bool, true, false, List, [], ◌∷◌, ◌++◌, refl, sym, ◌∙◌, ap, arith, length, subst, inl, inr, eqb-true}
use Rattle.std.specs.Prelude.{Option, Some, None, Result, Ok, Err, ◌==◌, ◌&&◌, ◌⊎◌, nat_le, if◌then◌else◌, slice_get, unwrap_or}
use Rattle.std.specs.List.{before_first, list_all}
use Rattle.std.proofs.lemmas.Bool.{and_parts}
use Rattle.std.proofs.lemmas.Bool.Decides.{nat_tests}
use Rattle.generations_rule.specs.Refusal.{◌>>=◌}
use Rattle.text_scan.specs.Bytes.{◌>=>◌, is_space_or_tab}
use Rattle.multistate_rle.specs.HeaderLine.{text_lines}
use Rattle.square_store.proofs.Lists.{got_more}
use Rattle.macrocell_lines.specs.Squares.{StateSquare, Cell, Four, level_of, square_of}
use Rattle.macrocell_lines.specs.Listing.{IsSquare}
use Rattle.macrocell_lines.proofs.States.{is_square, level_is}
use Rattle.macrocell_text.specs.declared.fault.MacrocellFault.{MacrocellFault}
use Rattle.macrocell_text.specs.declared.leaves.Leaves.{Leaves}
use Rattle.macrocell_text.specs.declared.leaves.Leaves.TheVariants.{ByRows}
use Rattle.macrocell_text.specs.declared.fault.MacrocellFault.TheVariants.{Header}
use Rattle.macrocell_text.specs.Faults.{found_or}
use Rattle.macrocell_text.specs.Marks.{first_spot, misplaced, rows_told, square_marked, unless_misplaced}
use Rattle.macrocell_text.specs.Numbers.{Number, number_told}
use Rattle.macrocell_text.specs.SquareLines.{dead_square, is_level, is_other, leaves_with, level_if, level_told, quarter_fault, quarter_told, quarters_told, square_if_of, square_numbered}
use Rattle.macrocell_text.specs.Macrocells.{AreSquares, MacrocellTold}
use Rattle.macrocell_text.specs.Texts.{Reading, begins_comment, begins_rows, is_first_line, lines_read, macrocell_read, nothing_told, square_numbers, told_of, with_comment, with_line, with_lines, with_numbers, with_rows, with_square, with_told}
use Rattle.macrocell_text.specs.Laws.{TellsSquares}

-- ---- what was read in steps

pub record IsRead {A B F : Type 0} (r : Result A F) (f : A → Result B F) (y : B) : Type 0 where
  pub value : A
  pub first : r ≡ Ok value
  pub next : f value ≡ Ok y

read_steps : {A B F : Type 0} (r : Result A F) (f : A → Result B F) (y : B) → (r >>= f) ≡ Ok y → IsRead r f y
read_steps (Ok x) f y e = record { value = x; first = refl; next = e }
read_steps (Err g) f y e = absurd (cc)

abbrev ok_or : {A F : Type 0} → A → Result A F → A
ok_or d (Ok x) = x
ok_or d (Err f) = d

ok_same : {A F : Type 0} (a b : A) → (let x : Result A F = Ok a in x ≡ Ok b) → a ≡ b
ok_same a b e = ap (ok_or a) e

was_found : {A : Type 0} (fault : MacrocellFault) (o : Option A) (x : A) → found_or fault o ≡ Ok x → o ≡ Some x
was_found fault None x e = absurd (cc)
was_found fault (Some y) x e = cc

-- ---- squares

any_square : (level n : ℕ) (squares : List StateSquare) (q : StateSquare) → AreSquares squares → square_numbered level squares n ≡ Some q → IsSquare level q
any_square level n squares q are e = by (level == 0) (n == 0) refl e
  where
    got : (o : Option StateSquare) → ((r : StateSquare) → o ≡ Some r → IsSquare (level_of r) r) → (o >=> square_if_of level) ≡ Some q → IsSquare level q
    got None each h = absurd (cc)
    got (Some r) each h = same (level_of r == level) refl h
      where
        same : (b : Bool) → (level_of r == level) ≡ b → (let o : Option StateSquare = if b then Some r else None in o ≡ Some q) → IsSquare level q
        same true g h = subst (λ s. IsSquare level s) (ap (λ (o : Option StateSquare). unwrap_or o r) h) (subst (λ l. IsSquare l r) (eqb-true (level_of r) level g) (each r refl))
        same false g h = absurd (cc)

    by : (a b : Bool) → (level == 0) ≡ a →
        (let o : Option StateSquare = if a then (if nat_le n 255 then Some (Cell n) else None) else (if b then Some (dead_square level) else slice_get squares (n - 1) >=> square_if_of level) in o ≡ Some q) → IsSquare level q
    by true b g h = cell (nat_le n 255) h
      where
        cell : (s : Bool) → (let o : Option StateSquare = if s then Some (Cell n) else None in o ≡ Some q) → IsSquare level q
        cell true h = subst (λ l. IsSquare l q) (sym (eqb-true level 0 g)) (subst (λ s. IsSquare 0 s) (ap (λ (o : Option StateSquare). unwrap_or o q) h) tt)
        cell false h = absurd (cc)
    by false true g h = subst (λ s. IsSquare level s) (ap (λ (o : Option StateSquare). unwrap_or o q) h) (is_square level (λ u v. 0))
    by false false g h = got (slice_get squares (n - 1)) (λ r at. (are (n - 1) r at).1) h

numbered : (o : Option ℕ) (level : ℕ) (squares : List StateSquare) (q : StateSquare) → AreSquares squares → (o >=> square_numbered level squares) ≡ Some q → IsSquare level q
numbered None level squares q are e = absurd (cc)
numbered (Some n) level squares q are e = any_square level n squares q are e

quarter_square : (line_end level : ℕ) (squares : List StateSquare) (rest : List ℕ) (p : StateSquare × List ℕ) → AreSquares squares → quarter_told line_end level squares rest ≡ Ok p → IsSquare level p.0
quarter_square line_end level squares rest p are e =
    let one = read_steps (number_told line_end rest) _ p e in
    let two = read_steps (found_or (quarter_fault level one.value.place) (one.value.value >=> square_numbered level squares)) _ p one.next in
    let is = numbered one.value.value level squares two.value are (was_found _ _ two.value two.first) in
    subst (λ q. IsSquare level q) (ap (λ (p : StateSquare × List ℕ). p.0) (ok_same (two.value, one.value.rest) p two.next)) is

four_square : (line_end level : ℕ) (squares : List StateSquare) (rest : List ℕ) (q : StateSquare) → AreSquares squares → quarters_told line_end level squares rest ≡ Ok q → IsSquare (suc level) q
four_square line_end level squares rest q are e =
    let nw = read_steps (quarter_told line_end level squares rest) _ q e in
    let ne = read_steps (quarter_told line_end level squares nw.value.1) _ q nw.next in
    let sw = read_steps (quarter_told line_end level squares ne.value.1) _ q ne.next in
    let se = read_steps (quarter_told line_end level squares sw.value.1) _ q sw.next in
    subst (λ s. IsSquare (suc level) s) (ok_same (Four nw.value.0 ne.value.0 sw.value.0 se.value.0) q se.next) (
      quarter_square line_end level squares rest nw.value are nw.first,
      (
        quarter_square line_end level squares nw.value.1 ne.value are ne.first,
        (quarter_square line_end level squares ne.value.1 sw.value are sw.first, quarter_square line_end level squares sw.value.1 se.value are se.first),
      ),
    )

level_some : (o : Option ℕ) (leaves : Option Leaves) (level : ℕ) → (o >=> level_if leaves) ≡ Some level → 1 ≤ level
level_some None leaves level e = absurd (cc)
level_some (Some n) leaves level e = by (is_level leaves n) refl e
  where
    by : (b : Bool) → is_level leaves n ≡ b → (let o : Option ℕ = if b then Some n else None in o ≡ Some level) → 1 ≤ level
    by true g h = (let same : n ≡ level = ap (λ (o : Option ℕ). unwrap_or o level) h in let low = (and_parts (nat_le 1 n) _ g).0 in let some : 1 ≤ n = grind (arith, nat_tests, low) in omega (arith, same, some))
    by false g h = absurd (cc)

-- a square of such a level is one of its own
own_level : (level : ℕ) (q : StateSquare) → 1 ≤ level → IsSquare level q → (1 ≤ level_of q) × IsSquare (level_of q) q
own_level level q some is = (let e = level_is level q is in (omega (arith, e, some), subst (λ l. IsSquare l q) (sym e) is))

with_one : (squares : List StateSquare) (q : StateSquare) → AreSquares squares → (1 ≤ level_of q) × IsSquare (level_of q) q → AreSquares (squares ++ q ∷ [])
with_one squares q are is = λ i r at. (elim (got_more squares q i r at) [
  | inl old ↦ are i r old
  | inr new ↦ subst (λ s. (1 ≤ level_of s) × IsSquare (level_of s) s) (sym new.1) is
])

rows_square : (place : ℕ) (marks : List ℕ) (o : Option ℕ) (q : StateSquare) → unless_misplaced o (square_marked marks) ≡ Ok q → (1 ≤ level_of q) × IsSquare (level_of q) q
rows_square place marks None q e = subst (λ s. (1 ≤ level_of s) × IsSquare (level_of s) s) (ok_same (square_marked marks) q e) (own_level 3 (square_marked marks) (omega arith) (is_square 3 _))
rows_square place marks (Some p) q e = absurd (cc)

-- ---- lines

rows_kept : (r s : Reading) (line : List ℕ) (b : Bool) → is_other r.leaves ByRows ≡ b → AreSquares r.squares → with_rows r line ≡ Ok s → AreSquares s.squares
rows_kept r s line true g are e = (let no : with_rows r line ≡ Ok s = e in absurd (let h = rw g at no in cc))
rows_kept r s line false g are e =
    let h : (rows_told r.start (before_first is_space_or_tab line) >>= λ q. Ok (with_square r (Some ByRows) q)) ≡ Ok s = rw g at e in
    let one = read_steps (rows_told r.start (before_first is_space_or_tab line)) _ s h in
    subst (λ (t : Reading). AreSquares t.squares) (ok_same (with_square r (Some ByRows) one.value) s one.next)
    (with_one r.squares one.value are (rows_square r.start (before_first is_space_or_tab line) (misplaced r.start first_spot (before_first is_space_or_tab line)) one.value one.first))

numbers_kept : (r s : Reading) (line : List ℕ) → AreSquares r.squares → with_numbers r line ≡ Ok s → AreSquares s.squares
numbers_kept r s line are e =
    let line_end : ℕ = r.start + length line in
    let one = read_steps (square_numbers line_end r.leaves r.squares line) _ s e in
    let first = read_steps (number_told line_end line) _ one.value one.first in
    let second = read_steps (level_told r.leaves first.value) _ one.value first.next in
    let third = read_steps (quarters_told line_end (second.value - 1) r.squares first.value.rest) _ one.value second.next in
    let some = level_some first.value.value r.leaves second.value (was_found _ _ second.value second.first) in
    let level : suc (second.value - 1) ≡ second.value = omega (arith, some) in
    let is = subst (λ l. IsSquare l third.value) level (four_square line_end (second.value - 1) r.squares first.value.rest third.value are third.first) in
    let same : third.value ≡ one.value.1 = ap (λ (p : ℕ × StateSquare). p.1) (ok_same (second.value, third.value) one.value third.next) in
    subst (λ (t : Reading). AreSquares t.squares) (ok_same (with_square r (leaves_with r.leaves one.value.0) one.value.1) s one.next)
    (with_one r.squares one.value.1 are (subst (λ q. (1 ≤ level_of q) × IsSquare (level_of q) q) same (own_level second.value third.value some is)))

told_kept : (r s : Reading) (line : List ℕ) → AreSquares r.squares → with_told r line ≡ Ok s → AreSquares s.squares
told_kept r s line are e = by (list_all is_space_or_tab line) (begins_comment line) (begins_rows line) e
  where
    by : (x y z : Bool) → (let t : Result Reading MacrocellFault = if x then Ok r else (if y then Ok (with_comment r line) else (if z then with_rows r line else with_numbers r line)) in t ≡ Ok s) → AreSquares s.squares
    by true y z e = subst (λ (t : Reading). AreSquares t.squares) (ok_same r s e) are
    by false true z e = subst (λ (t : Reading). AreSquares t.squares) (ok_same (with_comment r line) s e) are
    by false false true e = rows_kept r s line (is_other r.leaves ByRows) refl are e
    by false false false e = numbers_kept r s line are e

pub lines_kept : (lines : List (List ℕ)) (r s : Reading) → AreSquares r.squares → with_lines r lines ≡ Ok s → AreSquares s.squares
lines_kept [] r s are e = subst (λ (t : Reading). AreSquares t.squares) (ok_same r s e) are
lines_kept (line ∷ lines) r s are e =
    let one = read_steps (with_line r line) _ s e in
    let two = read_steps (with_told r line) _ one.value one.first in
    let told = told_kept r two.value line are two.first in
    lines_kept lines one.value s (subst (λ (t : Reading). AreSquares t.squares) (ok_same (record two.value { start = two.value.start + (length line + 1) }) one.value two.next) told) one.next

read_squares : (lines : List (List ℕ)) (told : MacrocellTold) → lines_read lines ≡ Ok told → AreSquares told.squares
read_squares [] told e = absurd (cc)
read_squares (first ∷ lines) told e = by (is_first_line first) e
  where
    by : (b : Bool) → (let t : Result MacrocellTold MacrocellFault = if b then (with_lines (nothing_told first) lines >>= λ r. Ok (told_of r)) else Err Header in t ≡ Ok told) → AreSquares told.squares
    by true e =
        let one = read_steps (with_lines (nothing_told first) lines) _ told e in
        subst (λ (t : MacrocellTold). AreSquares t.squares) (ok_same (told_of one.value) told one.next) (lines_kept lines (nothing_told first) one.value (λ i q at. absurd (cc)) one.first)
    by false e = absurd (cc)

pub tells_squares : TellsSquares
tells_squares text told e = read_squares (text_lines text) told e
