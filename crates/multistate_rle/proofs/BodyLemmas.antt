-- The tokens of a text, read byte by byte from its lines.
use Rattle.std.proofs.Common.{◌≡◌, ℕ, ◌+◌, ◌<◌, ◌≤◌, true, false, List, [], ◌∷◌, ◌++◌, sym, ◌∙◌, ap, drop, length, get_or, drop-cons, add-one, arith, append-nil, inl, inr, ◌⊎◌}
use Rattle.std.specs.Prelude.{Result, Ok, Err}
use Rattle.std.specs.List.{enumerate_from}
use Rattle.std.proofs.lemmas.List.{drop_all}
use Rattle.generations_rule.specs.Refusal.{◌>>=◌, AnswersAs}
use Rattle.multistate_rle.specs.declared.fault.RleFault.{RleFault}
use Rattle.multistate_rle.specs.declared.fault.RleFault.TheVariants.{Memory}
use Rattle.multistate_rle.specs.declared.tokens.TokenReader.{TokenReader}
use Rattle.multistate_rle.specs.declared.line.LineProgress.{LineProgress}
use Rattle.multistate_rle.specs.declared.line.LineProgress.TheVariants.{Start}
use Rattle.multistate_rle.specs.Tokens.{Token, cells_drawn}
use Rattle.multistate_rle.specs.Lines.{line_after, is_dropped}
use Rattle.multistate_rle.specs.Reading.{Mark, tokens_of, fresh, tokens_ended, lines_of, bare, cells_read}
use Rattle.multistate_rle.specs.Steps.{cells_with, ReadsOn}
use Rattle.multistate_rle.proofs.LineLemmas.{left_drops, left_keeps, left_nothing, left_is_bare}
use Rattle.multistate_rle.specs.Lines.{left}

pub byte_at : (text : List ℕ) (place : ℕ) → place < length text →
    enumerate_from place (drop place text) ≡ (place, get_or text place 0) ∷ enumerate_from (place + 1) (drop (place + 1) text)
byte_at text place within =
    ap (enumerate_from place) (drop-cons text place 0 within)
    ∙ ap (λ k. (place, get_or text place 0) ∷ enumerate_from (place + 1) (drop k text)) (sym (add-one place))

-- a reader that has read nothing
pub begins : (end : ℕ) (marks : List Mark) (r : TokenReader) → (r.column ≡ 0) × (r.row ≡ 0) × (r.cells.items ≡ []) × (r.begun ≡ fresh) →
    cells_with end (left Start marks) r ≡ cells_read end (bare (lines_of marks))
begins end marks r new =
    (λ i. tokens_of end (left Start marks) (new.3 i) (record { column = new.0 i; row = new.1 i; cells = length (new.2 i) }) >>= λ tokens. Ok (new.2 i ++ cells_drawn tokens (new.0 i) (new.1 i)))
    ∙ ap (cells_read end) (left_is_bare marks)

-- a byte that is dropped
pub passes : (end : ℕ) (text : List ℕ) (place : ℕ) (line now : LineProgress) (r : TokenReader) → place < length text →
    now ≡ line_after line (get_or text place 0) → is_dropped now (get_or text place 0) ≡ true →
    cells_with end (left now (enumerate_from (place + 1) (drop (place + 1) text))) r ≡ cells_with end (left line (enumerate_from place (drop place text))) r
passes end text place line now r within is drops =
    ap (λ marks. cells_with end marks r)
    (sym (ap (left line) (byte_at text place within) ∙ left_drops line now (place, get_or text place 0) (enumerate_from (place + 1) (drop (place + 1) text)) is drops))

-- a byte that is part of a token
pub meets : (end : ℕ) (text : List ℕ) (place : ℕ) (line now : LineProgress) (r : TokenReader) → place < length text →
    now ≡ line_after line (get_or text place 0) → is_dropped now (get_or text place 0) ≡ false →
    cells_with end ((place, get_or text place 0) ∷ left now (enumerate_from (place + 1) (drop (place + 1) text))) r ≡ cells_with end (left line (enumerate_from place (drop place text))) r
meets end text place line now r within is keeps =
    ap (λ marks. cells_with end marks r)
    (sym (ap (left line) (byte_at text place within) ∙ left_keeps line now (place, get_or text place 0) (enumerate_from (place + 1) (drop (place + 1) text)) is keeps))

-- where no run was read
pub not_moved : (end : ℕ) (text : List ℕ) (place next : ℕ) (line : LineProgress) (old new : TokenReader) → ReadsOn line text place old (Ok next) new → next ≤ place →
    cells_with end (left line (enumerate_from place (drop place text))) new ≡ cells_with end (left line (enumerate_from place (drop place text))) old
not_moved end text place next line old new reads le =
    let same : place ≡ next = omega (arith, reads.0) in
    ap (λ k. cells_with end (left line (enumerate_from k (drop k text))) new) same ∙ reads.2 end

-- the end of the text
ends_with : (end : ℕ) (text : List ℕ) (place : ℕ) (line : LineProgress) (r : TokenReader) (o : Result (List Token) RleFault) → length text ≤ place → tokens_ended end r.begun ≡ o →
    cells_with end (left line (enumerate_from place (drop place text))) r ≡ (o >>= λ tokens. Ok (r.cells.items ++ cells_drawn tokens r.column r.row))
ends_with end text place line r o past is =
    ap (λ rest. cells_with end (left line (enumerate_from place rest)) r) (drop_all place text past)
    ∙ ap (λ marks. cells_with end marks r) (left_nothing line)
    ∙ ap (λ read. read >>= λ tokens. Ok (r.cells.items ++ cells_drawn tokens r.column r.row)) is

pub ends_well : (end : ℕ) (text : List ℕ) (place : ℕ) (line : LineProgress) (r : TokenReader) → length text ≤ place → tokens_ended end r.begun ≡ Ok [] →
    cells_with end (left line (enumerate_from place (drop place text))) r ≡ Ok r.cells.items
ends_well end text place line r past is = ends_with end text place line r (Ok []) past is ∙ ap (λ cells. Ok cells) (append-nil r.cells.items)

pub ends_ill : (end : ℕ) (text : List ℕ) (place : ℕ) (line : LineProgress) (r : TokenReader) (fault : RleFault) → length text ≤ place → tokens_ended end r.begun ≡ Err fault →
    cells_with end (left line (enumerate_from place (drop place text))) r ≡ Err fault
ends_ill end text place line r fault past is = ends_with end text place line r (Err fault) past is

-- ---- answers

pub answered : {V X : Type 0} (view : V → X) (v : V) (meant : Result X RleFault) → Ok (view v) ≡ meant → AnswersAs (λ v x. view v ≡ x) (λ fault. fault ≡ Memory) (Ok v) meant
answered view v (Ok x) is = cc
answered view v (Err fault) is = absurd (cc)

pub refused : {V X : Type 0} (view : V → X) (e : RleFault) (meant : Result X RleFault) → (e ≡ Memory) ⊎ (Err e ≡ meant) →
    AnswersAs (λ (v : V) x. view v ≡ x) (λ fault. fault ≡ Memory) (Err e) meant
refused view e (Ok x) (inl want) = want
refused view e (Ok x) (inr is) = absurd (cc)
refused view e (Err fault) (inl want) = inl want
refused view e (Err fault) (inr is) = inr (cc)

pub refused_by : {A B C : Type 0} → A ⊎ B → (B → C) → A ⊎ C
refused_by (inl a) f = inl a
refused_by (inr b) f = inr (f b)

pub answered_is : {V X : Type 0} (view : V → X) (v : V) (meant : Result X RleFault) → AnswersAs (λ v x. view v ≡ x) (λ fault. fault ≡ Memory) (Ok v) meant → meant ≡ Ok (view v)
answered_is view v (Ok x) is = ap (λ y. Ok y) (sym is)
answered_is view v (Err fault) is = absurd is
