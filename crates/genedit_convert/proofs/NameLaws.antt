-- A written text with another name for its rule is the text that is written with that name.
use Rattle.std.proofs.Common.{◌≡◌, ℕ, suc, ◌+◌, ◌≤◌, Bool, true, List, [], ◌∷◌, ◌++◌, refl, sym, ◌∙◌, ap, arith, append_assoc, subst, length, length-append, take, drop, one-add}
use Rattle.std.specs.Prelude.{not, ◌==◌, codes, decimal}
use Rattle.std.specs.Fmt.{signed_decimal}
use Rattle.std.specs.List.{list_all, position_or_len}
use Rattle.std.proofs.lemmas.Bool.{ne_eqb}
use Rattle.std.proofs.Math.Seq.{take-append-add, drop-append-add, drop-append_seam}
use Rattle.generations_rule.specs.Rule.{GenerationsRule}
use Rattle.generations_rule.specs.RuleText.{text_of}
use Rattle.pattern_cells.specs.declared.cell.Cell.{Cell}
use Rattle.multistate_rle.specs.Bounds.{BoundsValue, bounds_of, in_box}
use Rattle.multistate_rle.specs.Tokens.{tokens_from}
use Rattle.multistate_rle.specs.Writing.{body, text_of_cells}
use Rattle.multistate_rle.proofs.HeadLaws.{both_pass}
use Rattle.multistate_rle.proofs.PatternLaws.{and_parts}
use Rattle.genedit_convert.specs.Names.{is_rule_letter, name_place, renamed, text_named}
use Rattle.genedit_convert.proofs.NumberBytes.{DigitsPass, decimal_passes, signed_passes}

-- ---- what stands in front of the rule's letter

abbrev is_other : ℕ → Bool
is_other byte = not (is_rule_letter byte)

digits_are_other : DigitsPass is_other
digits_are_other d small = rw (ne_eqb (48 + d) 114 (omega arith)) refl

-- the header up to the rule's letter
abbrev pub front_of : ℕ → BoundsValue → List ℕ
front_of g b =
    codes "#CXRLE Pos=" ++ signed_decimal b.x ++ codes "," ++ signed_decimal b.y ++ codes " Gen=" ++ decimal g
    ++ codes "\nx = " ++ decimal b.width ++ codes ", y = " ++ decimal b.height

both : (xs ys : List ℕ) → list_all is_other xs ≡ true → list_all is_other ys ≡ true → list_all is_other (xs ++ ys) ≡ true
both xs ys left right = both_pass is_other xs ys left right

front_is_other : (g : ℕ) (b : BoundsValue) → list_all is_other (front_of g b ++ codes ", ") ≡ true
front_is_other g b =
    let t1 = both (codes "#CXRLE Pos=") (signed_decimal b.x) refl (signed_passes is_other digits_are_other refl b.x) in
    let a1 = (codes "#CXRLE Pos=") ++ signed_decimal b.x in
    let t2 = both a1 (codes ",") t1 refl in
    let a2 = a1 ++ codes "," in
    let t3 = both a2 (signed_decimal b.y) t2 (signed_passes is_other digits_are_other refl b.y) in
    let a3 = a2 ++ signed_decimal b.y in
    let t4 = both a3 (codes " Gen=") t3 refl in
    let a4 = a3 ++ codes " Gen=" in
    let t5 = both a4 (decimal g) t4 (decimal_passes is_other digits_are_other g) in
    let a5 = a4 ++ decimal g in
    let t6 = both a5 (codes "\nx = ") t5 refl in
    let a6 = a5 ++ codes "\nx = " in
    let t7 = both a6 (decimal b.width) t6 (decimal_passes is_other digits_are_other b.width) in
    let a7 = a6 ++ decimal b.width in
    let t8 = both a7 (codes ", y = ") t7 refl in
    let a8 = a7 ++ codes ", y = " in
    let t9 = both a8 (decimal b.height) t8 (decimal_passes is_other digits_are_other b.height) in
    let a9 = a8 ++ decimal b.height in
    both a9 (codes ", ") t9 refl

letter_at : (xs rest : List ℕ) → list_all is_other xs ≡ true → position_or_len is_rule_letter (xs ++ 114 ∷ rest) ≡ length xs
letter_at [] rest all = refl
letter_at (x ∷ xs) rest all =
    let parts = and_parts (is_other x) (list_all is_other xs) all in
    rw (parts.0, one-add) (ap suc (letter_at xs rest parts.1))

-- ---- a name for another

abbrev word : List ℕ
word = codes "rule = "

name_at : (a rest : List ℕ) → list_all is_other a ≡ true → name_place (a ++ (word ++ rest)) ≡ length a + 7
name_at a rest all = ap (λ n. n + 7) (letter_at a (codes "ule = " ++ rest) all)

pub replaced : (a old new rest : List ℕ) → list_all is_other a ≡ true → renamed (length old) new (a ++ (word ++ (old ++ rest))) ≡ a ++ (word ++ (new ++ rest))
replaced a old new rest all =
    let text = a ++ (word ++ (old ++ rest)) in
    let front : take (name_place text) text ≡ a ++ word = ap (λ n. take n text) (name_at a (old ++ rest) all) ∙ take-append-add a (word ++ (old ++ rest)) 7 in
    let behind : drop (name_place text + length old) text ≡ rest =
    ap (λ n. drop (n + length old) text) (name_at a (old ++ rest) all)
    ∙ ap (λ n. drop n text) (let e : length a + 7 + length old ≡ length a + (7 + length old) = omega arith in e)
    ∙ drop-append-add a (word ++ (old ++ rest)) (7 + length old)
    ∙ drop-append-add word (old ++ rest) (length old)
    ∙ drop-append_seam old rest in
    (λ i. front i ++ new ++ behind i) ∙ simp append_assoc

parted : (a rule rest : List ℕ) → (((a ++ codes ", rule = ") ++ rule) ++ codes "\n") ++ rest ≡ (a ++ codes ", ") ++ (word ++ (rule ++ (codes "\n" ++ rest)))
parted a rule rest = simp append_assoc

abbrev body_of : GenerationsRule → List Cell → List ℕ
body_of r cells = body (r.states == 2) (tokens_from 0 0 (in_box (bounds_of cells) cells))

named_parts : (name : List ℕ) (r : GenerationsRule) (g : ℕ) (cells : List Cell) →
    text_named name r g cells ≡ (front_of g (bounds_of cells) ++ codes ", ") ++ (word ++ (name ++ (codes "\n" ++ body_of r cells)))
unfolding text_named
named_parts name r g cells = parted (front_of g (bounds_of cells)) name (body_of r cells)

written_is : (r : GenerationsRule) (g : ℕ) (cells : List Cell) → text_of_cells r g cells ≡ text_named (text_of r) r g cells
unfolding text_named
written_is r g cells = refl

written_parts : (r : GenerationsRule) (g : ℕ) (cells : List Cell) →
    text_of_cells r g cells ≡ (front_of g (bounds_of cells) ++ codes ", ") ++ (word ++ (text_of r ++ (codes "\n" ++ body_of r cells)))
written_parts r g cells = written_is r g cells ∙ named_parts (text_of r) r g cells

pub named_is : (name : List ℕ) (r : GenerationsRule) (g : ℕ) (cells : List Cell) → renamed (length (text_of r)) name (text_of_cells r g cells) ≡ text_named name r g cells
named_is name r g cells =
    ap (renamed (length (text_of r)) name) (written_parts r g cells)
    ∙ replaced (front_of g (bounds_of cells) ++ codes ", ") (text_of r) name (codes "\n" ++ body_of r cells) (front_is_other g (bounds_of cells))
    ∙ sym (named_parts name r g cells)

length_is : (a old rest : List ℕ) → length (a ++ (word ++ (old ++ rest))) ≡ length a + (7 + (length old + length rest))
length_is a old rest =
    length-append a (word ++ (old ++ rest)) ∙ ap (λ n. length a + n) (length-append word (old ++ rest) ∙ ap (λ n. 7 + n) (length-append old rest))

within : (a old rest : List ℕ) → list_all is_other a ≡ true → name_place (a ++ (word ++ (old ++ rest))) + length old ≤ length (a ++ (word ++ (old ++ rest)))
within a old rest all =
    let at : name_place (a ++ (word ++ (old ++ rest))) ≡ length a + 7 = name_at a (old ++ rest) all in
    let long : length (a ++ (word ++ (old ++ rest))) ≡ length a + (7 + (length old + length rest)) = length_is a old rest in
    rw (at, long) (omega arith)

-- the old name lies within the text
pub name_within : (r : GenerationsRule) (g : ℕ) (cells : List Cell) → name_place (text_of_cells r g cells) + length (text_of r) ≤ length (text_of_cells r g cells)
name_within r g cells =
    let P : List ℕ → Type 0 = λ t. name_place t + length (text_of r) ≤ length t in
    subst P (sym (written_parts r g cells)) (within (front_of g (bounds_of cells) ++ codes ", ") (text_of r) (codes "\n" ++ body_of r cells) (front_is_other g (bounds_of cells)))
