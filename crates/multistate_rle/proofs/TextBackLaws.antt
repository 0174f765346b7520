-- A whole written text is read back.
use Rattle.std.proofs.Common.{◌≡◌, ℕ, ◌+◌, ◌≤◌, ◌<◌, ◌^◌, Bool, true, List, [], ◌∷◌, ◌++◌, refl, ◌∙◌, ap, arith, append_assoc, length, drop, ℤ}
use Rattle.std.specs.Prelude.{Option, Some, None, Result, Ok, ◌&&◌, not, nat_lt, codes, decimal}
use Rattle.std.specs.List.{list_all, enumerate_from, position_or_len}
use Rattle.std.specs.Fmt.{signed_decimal}
use Rattle.std.proofs.lemmas.Bool.Decides.{nat_tests}
use Rattle.multistate_rle.specs.Position.{OriginValue}
use Rattle.multistate_rle.specs.declared.fault.RleFault.{RleFault}
use Rattle.multistate_rle.specs.Bounds.{BoundsValue}
use Rattle.pattern_cells.specs.declared.pattern.PatternCell.{PatternCell}
use Rattle.text_scan.specs.Bytes.{ends_line}
use Rattle.pattern_cells.specs.Pattern.{RlePattern, are_within}
use Rattle.multistate_rle.specs.Tokens.{tokens_from}
use Rattle.multistate_rle.specs.Reading.{lines_of, lines_read, body_read, pattern_of}
use Rattle.multistate_rle.specs.Writing.{head_lines, body}
use Rattle.multistate_rle.specs.Laws.{IsSignedWord, ReadsBoxesBack}
use Rattle.multistate_rle.proofs.LineLemmas.{line_step, line_read, comment_read, header_is_read}
use Rattle.multistate_rle.proofs.PatternLaws.{and_parts, each_all, reach, reach_least, reach_most}
use Rattle.multistate_rle.proofs.BodyLaws.{reads_bodies_back}
use Rattle.multistate_rle.proofs.HeadLaws.{front_is, past_is, printed, header_back, origin_back, origin_line, digits_pass, digit_no_end, signed_pass, both_pass}

no_end : ℕ → Bool
no_end c = not (ends_line c)

-- a line and its end decide
line_first : (end : ℕ) (origin : Option OriginValue) (n : ℕ) (line rest : List ℕ) → list_all (λ c. not (ends_line c)) line ≡ true →
    lines_read end origin (lines_of (enumerate_from n (line ++ 10 ∷ rest))) ≡ line_read end origin line (n + position_or_len ends_line (line ++ 10 ∷ rest) + 1) rest
line_first end origin n line rest ends =
    line_step end origin n (line ++ 10 ∷ rest)
    ∙ (λ i. line_read end origin (front_is (λ c. not (ends_line c)) line 10 rest ends refl i) (n + position_or_len ends_line (line ++ 10 ∷ rest) + 1) (drop 1 (past_is (λ c. not (ends_line c)) line 10 rest ends refl i)))

abbrev size_line : ℕ → ℕ → List ℕ → List ℕ
size_line w h rule = codes "x = " ++ (decimal w ++ (codes ", y = " ++ (decimal h ++ (codes ", rule = " ++ rule))))

origin_ends : (x y : ℤ) (g : ℕ) → IsSignedWord x → IsSignedWord y → g < 2 ^ 64 → list_all (λ c. not (ends_line c)) (origin_line x y g) ≡ true
origin_ends x y g fx fy small =
    both_pass (λ c. not (ends_line c)) (codes "Pos=" ++ (signed_decimal x ++ 44 ∷ signed_decimal y)) (32 ∷ (codes "Gen=" ++ decimal g))
    (both_pass (λ c. not (ends_line c)) (signed_decimal x) (44 ∷ signed_decimal y) (signed_pass (λ c. not (ends_line c)) digit_no_end refl x fx) (signed_pass (λ c. not (ends_line c)) digit_no_end refl y fy))
    (digits_pass (λ c. not (ends_line c)) digit_no_end (decimal g) (printed g small).digits)

size_ends : (w h : ℕ) (rule : List ℕ) → w ≤ 4294967295 → h ≤ 4294967295 → list_all (λ c. not (ends_line c)) rule ≡ true → list_all (λ c. not (ends_line c)) (size_line w h rule) ≡ true
size_ends w h rule wide high ends =
    both_pass (λ c. not (ends_line c)) (decimal w) (codes ", y = " ++ (decimal h ++ (codes ", rule = " ++ rule))) (digits_pass (λ c. not (ends_line c)) digit_no_end (decimal w) (printed w (omega arith)).digits)
    (both_pass (λ c. not (ends_line c)) (decimal h) (codes ", rule = " ++ rule) (digits_pass (λ c. not (ends_line c)) digit_no_end (decimal h) (printed h (omega arith)).digits) ends)

-- the two lines in front, and what follows
pub head_read : (end : ℕ) (x y : ℤ) (g w h : ℕ) (rule rest : List ℕ) (meant : Result RlePattern RleFault) → IsSignedWord x → IsSignedWord y → g < 2 ^ 64 → w ≤ 4294967295 → h ≤ 4294967295 → list_all (λ c. not (ends_line c)) rule ≡ true →
    ((n : ℕ) → body_read end (record { pos = (x, y); generation = g }) (w, h) (lines_of (enumerate_from n rest)) ≡ meant) →
    lines_read end None (lines_of (enumerate_from 0 (origin_line x y g ++ 10 ∷ (size_line w h rule ++ 10 ∷ rest)))) ≡ meant
head_read end x y g w h rule rest meant fx fy small wide high ends is =
    let behind = size_line w h rule ++ 10 ∷ rest in
    let second : ℕ = 0 + position_or_len ends_line (origin_line x y g ++ 10 ∷ behind) + 1 in
    let third : ℕ = second + position_or_len ends_line behind + 1 in
    line_first end None 0 (origin_line x y g) behind (origin_ends x y g fx fy small)
    ∙ comment_read end None (origin_line x y g) second behind refl
    ∙ ap (λ o. lines_read end o (lines_of (enumerate_from second behind))) (origin_back x y g fx fy small)
    ∙ line_first end (Some (record { pos = (x, y); generation = g })) second (size_line w h rule) rest (size_ends w h rule wide high ends)
    ∙ header_is_read end (Some (record { pos = (x, y); generation = g })) (size_line w h rule) third rest (w, h) refl refl (header_back w h rule wide high)
    ∙ is third

regrouped : (rule : List ℕ) (g : ℕ) (b : BoundsValue) (rest : List ℕ) → head_lines rule g b ++ rest ≡ origin_line b.x b.y g ++ 10 ∷ (size_line b.width b.height rule ++ 10 ∷ rest)
regrouped rule g b rest = simp append_assoc

-- a header's side is the pattern's, where no cell stands beyond it
side_stays : (f : PatternCell → ℕ) (side : ℕ) (cells : List PatternCell) → list_all (λ cell. nat_lt (f cell) side) cells ≡ true → reach f side cells ≡ side
side_stays f side cells within = let most = reach_most f side side cells (omega arith) within in let least = reach_least f side cells in omega arith

wider : (w h : ℕ) (cells : List PatternCell) → w ≤ 4294967296 → h ≤ 4294967296 → are_within w h cells ≡ true → are_within 4294967296 4294967296 cells ≡ true
wider w h [] wide high within = refl
wider w h (cell ∷ cells) wide high within =
    let parts = and_parts (nat_lt cell.column w && nat_lt cell.row h) (are_within w h cells) within in
    let here = and_parts (nat_lt cell.column w) (nat_lt cell.row h) parts.0 in
    let column : nat_lt cell.column 4294967296 ≡ true = grind (arith, nat_tests, here.0) in
    let row : nat_lt cell.row 4294967296 ≡ true = grind (arith, nat_tests, here.1) in
    rw (column, row, wider w h cells wide high parts.1) refl

-- A whole text, of cells in a box, is read as the cells in that box.
pub text_back : ReadsBoxesBack
unfolding reach
text_back rule g b two cells fx fy small wide high ends sorted alive within few states =
    let text = head_lines rule g b ++ body two (tokens_from 0 0 cells) in
    let sides = each_all (λ cell. nat_lt cell.column b.width) (λ cell. nat_lt cell.row b.height) cells within in
    ap (λ whole. lines_read (length text) None (lines_of (enumerate_from 0 whole))) (regrouped rule g b (body two (tokens_from 0 0 cells)))
    ∙ head_read (length text) b.x b.y g b.width b.height rule (body two (tokens_from 0 0 cells)) (Ok (pattern_of (record { pos = (b.x, b.y); generation = g }) (b.width, b.height) cells)) fx fy small wide high ends
    (λ n. reads_bodies_back (length text) (record { pos = (b.x, b.y); generation = g }) (b.width, b.height) n two cells sorted alive (wider b.width b.height cells (omega arith) (omega arith) within) few states)
    ∙ (λ i. Ok (record { width = side_stays (λ cell. cell.column) b.width cells sides.0 i; height = side_stays (λ cell. cell.row) b.height cells sides.1 i; pos = (b.x, b.y); generation = g; cells = cells }))
