-- Runs whose bytes stand together.
use Rattle.std.proofs.Common.{◌≡◌, ℕ, zero, suc, ◌+◌, ◌*◌, ◌-◌, ◌≤◌, ◌<◌, Bool, true, false, List, ◌∷◌, ◌++◌, refl, sym, ◌∙◌, ap, arith, drop, length, get_or, append_assoc, append-nil, subst, inl, inr, ◌⊎◌}
use Rattle.std.specs.Prelude.{Option, Some, None, Result, Ok, Err, unwrap_or, min, nat_le, ◌==◌}
use Rattle.std.specs.List.{enumerate_from}
use Rattle.std.proofs.lemmas.Bool.{ne_eqb}
use Rattle.std.proofs.lemmas.Bool.Decides.{nat_tests}
use Rattle.generations_rule.specs.Refusal.{◌>>=◌}
use Rattle.multistate_rle.specs.declared.fault.RleFault.{RleFault}
use Rattle.multistate_rle.specs.declared.line.LineProgress.TheVariants.{Inside}
use Rattle.multistate_rle.specs.Role as role
use Rattle.multistate_rle.specs.Reading.{BegunValue}
use Rattle.multistate_rle.specs.declared.tokens.TokenReader.{TokenReader}
use Rattle.text_scan.specs.Bytes.{is_decimal_digit}
use Rattle.multistate_rle.specs.Lines.{left, left_from}
use Rattle.multistate_rle.specs.Tokens.{Token, Cells, cells_drawn, run}
use Rattle.multistate_rle.specs.Reading.{Pen, role_of, is_prefix_byte, fresh, with_digit, with_prefix, fault_of, followed, pen_after, tokens_of}
use Rattle.multistate_rle.specs.Begun.{capped}
use Rattle.multistate_rle.specs.Steps.{pen_of, cells_with, Begins, IsTokenFront, ReadsToken}
use Rattle.multistate_rle.proofs.LineLemmas.{left_keeps}
use Rattle.multistate_rle.proofs.BodyLemmas.{byte_at}
use Rattle.multistate_rle.proofs.PatternLaws.{and_parts}
use Rattle.multistate_rle.proofs.ReadLemmas.{step_is, digit_read}
use Rattle.multistate_rle.proofs.SpellingLaws.{digit_role, prefix_role}

-- a byte above `#` stays in its line
byte_stays : (text : List ℕ) (place byte : ℕ) → place < length text → get_or text place 0 ≡ byte → 35 < byte → left_from text place ≡ (place, byte) ∷ left_from text (place + 1)
byte_stays text place byte within is above =
    let lf : (byte == 10) ≡ false = ne_eqb byte 10 (omega arith) in
    let cr : (byte == 13) ≡ false = ne_eqb byte 13 (omega arith) in
    let space : (byte == 32) ≡ false = ne_eqb byte 32 (omega arith) in
    let tab : (byte == 9) ≡ false = ne_eqb byte 9 (omega arith) in
    ap (left Inside) (byte_at text place within ∙ ap (λ c. (place, c) ∷ enumerate_from (place + 1) (drop (place + 1) text)) is)
    ∙ left_keeps Inside Inside (place, byte) (enumerate_from (place + 1) (drop (place + 1) text)) (rw (lf, cr) refl) (rw (space, tab, lf, cr) refl)

nothing_begun : (text : List ℕ) (start : ℕ) (b : BegunValue) → start ≤ length text → b ≡ fresh → Begins text start fresh start b
nothing_begun text start b within is = record { behind = omega arith; within = within; same = λ end pen. ap (λ b. tokens_of end (left_from text start) b pen) is }

digit_begun : (text : List ℕ) (start place byte : ℕ) (b new : BegunValue) → Begins text start fresh place b → b.prefix ≡ None → place < length text → get_or text place 0 ≡ byte → is_decimal_digit byte ≡ true →
    new ≡ capped (with_digit place (byte - 48) b) → Begins text start fresh (place + 1) new
digit_begun text start place byte b new so_far none within is digit kept =
    let parts = and_parts (nat_le 48 byte) (nat_le byte 57) digit in
    let above : 35 < byte = grind (arith, nat_tests, parts.0) in
    let acts : role_of b.prefix byte ≡ role.Digit (byte - 48) = ap (λ p. role_of p byte) none ∙ digit_role byte digit in
    record {
      behind = omega (arith, so_far.behind);
      within = omega arith;
      same = λ end pen.
          digit_read end place byte (byte - 48) (left_from text (place + 1)) b new pen acts kept
          ∙ ap (λ marks. tokens_of end marks b pen) (sym (byte_stays text place byte within is above))
          ∙ so_far.same end pen;
    }

-- the count of a token that begins with a digit, one digit long
pub count_begins : (text : List ℕ) (start byte count : ℕ) → start < length text → get_or text start 0 ≡ byte → is_decimal_digit byte ≡ true → count ≡ byte - 48 →
    Begins text start fresh (start + 1) (record { place = Some start; count = Some count; prefix = None })
count_begins text start byte count within is digit value =
    let parts = and_parts (nat_le 48 byte) (nat_le byte 57) digit in
    let high : byte ≤ 57 = grind (arith, nat_tests, parts.1) in
    let kept : count ≡ min (10 * 0 + (byte - 48)) 4294967297 = omega (arith, value, high) in
    digit_begun text start start byte fresh _ (nothing_begun text start fresh (omega arith) refl) refl within is digit (λ i. record { place = Some start; count = Some (kept i); prefix = None })

-- the same count, one digit longer
pub count_goes_on : (text : List ℕ) (start place byte count longer : ℕ) → Begins text start fresh place (record { place = Some start; count = Some count; prefix = None }) →
    place < length text → get_or text place 0 ≡ byte → is_decimal_digit byte ≡ true → longer ≡ min (10 * count + (byte - 48)) 4294967297 →
    Begins text start fresh (place + 1) (record { place = Some start; count = Some longer; prefix = None })
count_goes_on text start place byte count longer so_far within is digit value =
    digit_begun text start place byte _ _ so_far refl within is digit (λ i. record { place = Some start; count = Some (value i); prefix = None })

-- the digits of a token, read up to a place
pub counted : (text : List ℕ) (start place next count : ℕ) → Begins text start fresh place (record { place = Some start; count = Some count; prefix = None }) → place ≡ next →
    IsTokenFront text start next count None
counted text start place next count so_far at = record {
  begun = record { place = Some start; count = Some count; prefix = None };
  begins = subst (λ k. Begins text start fresh k (record { place = Some start; count = Some count; prefix = None })) at so_far;
  count_is = refl;
  prefix_is = refl;
  place_is = refl;
}

-- a token of which nothing is read
pub uncounted : (text : List ℕ) (start : ℕ) → start ≤ length text → IsTokenFront text start start 1 None
uncounted text start within = record {
  begun = fresh;
  begins = nothing_begun text start fresh within refl;
  count_is = refl;
  prefix_is = refl;
  place_is = refl;
}

prefix_begun : (text : List ℕ) (start place byte : ℕ) (b new : BegunValue) → Begins text start fresh place b → b.prefix ≡ None → place < length text → get_or text place 0 ≡ byte → is_prefix_byte byte ≡ true →
    new ≡ with_prefix place (byte - 111) b → Begins text start fresh (place + 1) new
prefix_begun text start place byte b new so_far none within is prefix kept =
    let parts = and_parts (nat_le 112 byte) (nat_le byte 121) prefix in
    let low : 112 ≤ byte = grind (arith, nat_tests, parts.0) in
    let high : byte ≤ 121 = grind (arith, nat_tests, parts.1) in
    let acts : role_of b.prefix byte ≡ role.Prefix (byte - 111) = ap (λ p. role_of p byte) none ∙ prefix_role byte low high in
    record {
      behind = omega (arith, so_far.behind);
      within = omega arith;
      same = λ end pen.
          ap (λ b. tokens_of end (left_from text (place + 1)) b pen) kept
          ∙ sym (step_is end (place, byte) (left_from text (place + 1)) b pen (role.Prefix (byte - 111)) acts)
          ∙ ap (λ marks. tokens_of end marks b pen) (sym (byte_stays text place byte within is (omega arith)))
          ∙ so_far.same end pen;
    }

-- a prefix behind a count
pub prefixed : (text : List ℕ) (start place byte count : ℕ) → IsTokenFront text start place count None → place < length text → get_or text place 0 ≡ byte → is_prefix_byte byte ≡ true →
    IsTokenFront text start (place + 1) count (Some (byte - 111))
prefixed text start place byte count front within is prefix = record {
  begun = with_prefix place (byte - 111) front.begun;
  begins = prefix_begun text start place byte front.begun _ front.begins front.prefix_is within is prefix refl;
  count_is = front.count_is;
  prefix_is = refl;
  place_is = front.place_is;
}

-- ---- the byte that ends a run

low_role : (prefix : Option ℕ) (c : ℕ) (mark : Bool) → c ≤ 35 → (c == 33) ≡ mark → (role_of prefix c ≡ role.EndMark) ⊎ (role_of prefix c ≡ role.Stray)
low_role prefix c true low m = inl (rw m refl)
low_role None c false low m =
    let letter : nat_le 65 c ≡ false = grind (arith, nat_tests) in
    let digit : nat_le 48 c ≡ false = grind (arith, nat_tests) in
    let prefixed : nat_le 112 c ≡ false = grind (arith, nat_tests) in
    let dot : (c == 46) ≡ false = ne_eqb c 46 (omega arith) in
    let b : (c == 98) ≡ false = ne_eqb c 98 (omega arith) in
    let o : (c == 111) ≡ false = ne_eqb c 111 (omega arith) in
    let dollar : (c == 36) ≡ false = ne_eqb c 36 (omega arith) in
    inr (rw (m, letter, digit, prefixed, dot, b, o, dollar) refl)
low_role (Some k) c false low m =
    let letter : nat_le 65 c ≡ false = grind (arith, nat_tests) in
    inr (rw (m, letter) refl)

le_or_lt : (m n : ℕ) → (m ≤ n) ⊎ (n < m)
le_or_lt zero n = inl (omega arith)
le_or_lt (suc m) zero = inr (omega arith)
le_or_lt (suc m) (suc n) = elim (le_or_lt m n) [ inl h ↦ inl (omega arith) | inr h ↦ inr (omega arith) ]

state_above : (prefix : Option ℕ) (c s : ℕ) → role_of prefix c ≡ role.State s → 35 < c
state_above prefix c s is = elim (le_or_lt c 35) [
  | inl low ↦ elim (low_role prefix c (c == 33) low refl) [ inl mark ↦ absurd (cc) | inr stray ↦ absurd (cc) ]
  | inr high ↦ high
]

-- what is read of the marks behind a run, with the run in front
with_run_in_front : (n s : ℕ) (old new : TokenReader) (read : Result (List Token) RleFault) → ReadsToken (Cells n s) old new → new.column ≡ old.column + n → new.row ≡ old.row →
    (read >>= λ tokens. Ok (new.cells.items ++ cells_drawn tokens new.column new.row))
    ≡ ((read >>= λ tokens. Ok (Cells n s ∷ tokens)) >>= λ tokens. Ok (old.cells.items ++ cells_drawn tokens old.column old.row))
with_run_in_front n s old new (Err fault) draws column row = refl
with_run_in_front n s old new (Ok tokens) draws column row =
    let cells : new.cells.items ≡ old.cells.items ++ run n s old.column old.row = draws.cells ∙ ap (λ cells. old.cells.items ++ cells) (append-nil (run n s old.column old.row)) in
    (λ i. Ok (cells i ++ cells_drawn tokens (column i) (row i)))
    ∙ ap (λ cells. Ok cells) (append_assoc old.cells.items (run n s old.column old.row) (cells_drawn tokens (old.column + n) old.row))

pub run_is_read : (end : ℕ) (text : List ℕ) (start place byte n s : ℕ) (prefix : Option ℕ) (old new : TokenReader) → IsTokenFront text start place n prefix → old.begun ≡ fresh → place < length text → get_or text place 0 ≡ byte →
    role_of prefix byte ≡ role.State s → fault_of start (pen_of old) (Cells n s) ≡ None → ReadsToken (Cells n s) old new →
    cells_with end (left_from text (place + 1)) new ≡ cells_with end (left_from text start) old
run_is_read end text start place byte n s prefix old new front none within is acts fine draws =
    let marks = left_from text (place + 1) in
    let b = front.begun in
    let ends : role_of b.prefix byte ≡ role.State s = ap (λ k. role_of k byte) front.prefix_is ∙ acts in
    (λ i. tokens_of end marks (draws.begun i) (draws.pen i) >>= λ tokens. Ok (new.cells.items ++ cells_drawn tokens new.column new.row))
    ∙ with_run_in_front n s old new (tokens_of end marks fresh (pen_after (Cells n s) (pen_of old))) draws (ap (λ (p : Pen). p.column) draws.pen) (ap (λ (p : Pen). p.row) draws.pen)
    ∙ ap (λ read. read >>= λ tokens. Ok (old.cells.items ++ cells_drawn tokens old.column old.row))
    (sym (step_is end (place, byte) marks b (pen_of old) (role.State s) ends
    ∙ ap (λ k. followed (fault_of (unwrap_or b.place place) (pen_of old) (Cells k s)) (Cells k s) (tokens_of end marks fresh (pen_after (Cells k s) (pen_of old)))) front.count_is
    ∙ ap (λ k. followed (fault_of k (pen_of old) (Cells n s)) (Cells n s) (tokens_of end marks fresh (pen_after (Cells n s) (pen_of old)))) front.place_is
    ∙ ap (λ f. followed f (Cells n s) (tokens_of end marks fresh (pen_after (Cells n s) (pen_of old)))) fine)
    ∙ ap (λ ms. tokens_of end ms b (pen_of old)) (sym (byte_stays text place byte within is (state_above prefix byte s acts)))
    ∙ front.begins.same end (pen_of old)
    ∙ ap (λ b. tokens_of end (left_from text start) b (pen_of old)) (sym none))

pub run_is_faulty : (end : ℕ) (text : List ℕ) (start place byte n s : ℕ) (prefix : Option ℕ) (old : TokenReader) (fault : RleFault) → IsTokenFront text start place n prefix → old.begun ≡ fresh → place < length text → get_or text place 0 ≡ byte →
    role_of prefix byte ≡ role.State s → fault_of start (pen_of old) (Cells n s) ≡ Some fault →
    Err fault ≡ cells_with end (left_from text start) old
run_is_faulty end text start place byte n s prefix old fault front none within is acts faulty =
    let marks = left_from text (place + 1) in
    let b = front.begun in
    let ends : role_of b.prefix byte ≡ role.State s = ap (λ k. role_of k byte) front.prefix_is ∙ acts in
    ap (λ read. read >>= λ tokens. Ok (old.cells.items ++ cells_drawn tokens old.column old.row))
    (sym (step_is end (place, byte) marks b (pen_of old) (role.State s) ends
    ∙ ap (λ k. followed (fault_of (unwrap_or b.place place) (pen_of old) (Cells k s)) (Cells k s) (tokens_of end marks fresh (pen_after (Cells k s) (pen_of old)))) front.count_is
    ∙ ap (λ k. followed (fault_of k (pen_of old) (Cells n s)) (Cells n s) (tokens_of end marks fresh (pen_after (Cells n s) (pen_of old)))) front.place_is
    ∙ ap (λ f. followed f (Cells n s) (tokens_of end marks fresh (pen_after (Cells n s) (pen_of old)))) faulty)
    ∙ ap (λ ms. tokens_of end ms b (pen_of old)) (sym (byte_stays text place byte within is (state_above prefix byte s acts)))
    ∙ front.begins.same end (pen_of old)
    ∙ ap (λ b. tokens_of end (left_from text start) b (pen_of old)) (sym none))
