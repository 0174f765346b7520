-- What is read of a text, from what stands before its tokens and from what the tokens draw.
use Rattle.std.proofs.Common.{◌≡◌, ℕ, ◌≤◌, List, length, drop, ◌∙◌, sym, ap, subst, inl, inr}
use Rattle.std.specs.Prelude.{Result, Ok, Err, max}
use Rattle.std.specs.List.{enumerate_from}
use Rattle.generations_rule.specs.Refusal.{AnswersAs, ◌>>=◌}
use Rattle.multistate_rle.specs.declared.fault.RleFault.{RleFault}
use Rattle.multistate_rle.specs.declared.fault.RleFault.TheVariants.{Header, Memory}
use Rattle.pattern_cells.specs.declared.pattern.PatternCell.{PatternCell}
use Rattle.multistate_rle.specs.HeaderLine.{HasNoHeader}
use Rattle.multistate_rle.specs.declared.reading.Front.{Front}
use Rattle.multistate_rle.specs.declared.tokens.TokenReader.{TokenReader}
use Rattle.pattern_cells.specs.Pattern.{RlePattern, IsPattern}
use Rattle.multistate_rle.specs.Reading.{parsed, lines_of, bare, body_read, cells_read, pattern_of, width_of, height_of}
use Rattle.multistate_rle.proofs.HeaderlessLaws.{cells_never, body_never, refuses_without_header}
use Rattle.multistate_rle.proofs.BodyLemmas.{answered_is}
use Rattle.multistate_rle.proofs.PatternLaws.{read_pattern}
use Rattle.multistate_rle.proofs.SideLemmas.{width_is, height_is}

-- what stands before the tokens of a text
abbrev pub IsFrontOf : List ℕ → Front → Type 0
IsFrontOf text front =
    (parsed text ≡ body_read (length text) front.origin (front.width, front.height) (lines_of (enumerate_from front.body (drop front.body text))))
    × (front.width ≤ 4294967295)
    × (front.height ≤ 4294967295)

-- what the tokens behind it draw
abbrev pub IsDrawn : List ℕ → Front → TokenReader → Type 0
IsDrawn text front drawn =
    AnswersAs (λ (reader : TokenReader) meant. reader.cells.items ≡ meant) (λ fault. fault ≡ Memory) (Ok drawn)
    (cells_read (length text) (bare (lines_of (enumerate_from front.body (drop front.body text)))))

-- a text with a header is not refused as one without
pub has_header : (text : List ℕ) (front : Front) → IsFrontOf text front → HasNoHeader text → ⊥
has_header text front is none =
    body_never (length text) front.origin (front.width, front.height) (lines_of (enumerate_from front.body (drop front.body text)))
    (sym is.0 ∙ (refuses_without_header text).0 none)

never_wanted : (fault : RleFault) (meant : Result (List PatternCell) RleFault) → (meant ≡ Err Header → ⊥) →
    AnswersAs (λ (reader : TokenReader) meant. reader.cells.items ≡ meant) (λ fault. fault ≡ Memory) (Err fault) meant → fault ≡ Header → ⊥
never_wanted fault (Ok cells) never answers is = absurd (cc)
never_wanted fault (Err meant) never (inl want) is = absurd (cc)
never_wanted fault (Err meant) never (inr same) is = never (ap (λ f. Err f) (sym same ∙ is))

abbrev pub IsRefused : List ℕ → RleFault → Front → Type 0
IsRefused text fault front =
    AnswersAs (λ (reader : TokenReader) meant. reader.cells.items ≡ meant) (λ fault. fault ≡ Memory) (Err fault)
    (cells_read (length text) (bare (lines_of (enumerate_from front.body (drop front.body text)))))
    → fault ≡ Header → ⊥

-- what its tokens are refused for is another fault
pub other_fault : (text : List ℕ) (fault : RleFault) (front : Front) → IsRefused text fault front
other_fault text fault front answers is =
    let marks = bare (lines_of (enumerate_from front.body (drop front.body text))) in
    never_wanted fault (cells_read (length text) marks) (cells_never (length text) marks) answers is

abbrev pub pattern_read : Front → TokenReader → ℕ → ℕ → RlePattern
pattern_read front drawn width height =
    record { width = width; height = height; pos = front.origin.pos; generation = front.origin.generation; cells = drawn.cells.items }

-- the pattern of a front and of what is drawn is one, and is the text's
abbrev pub ReadsPattern : List ℕ → TokenReader → ℕ → ℕ → Front → Type 0
ReadsPattern text drawn width height front =
    width ≡ max front.width drawn.width → height ≡ max front.height drawn.height → IsDrawn text front drawn →
    IsPattern (pattern_read front drawn width height) × (parsed text ≡ Ok (pattern_read front drawn width height))

pub reads_pattern : (text : List ℕ) (drawn : TokenReader) (width height : ℕ) (front : Front) → drawn.width ≡ width_of 0 drawn.cells.items → drawn.height ≡ height_of 0 drawn.cells.items →
    IsFrontOf text front → ReadsPattern text drawn width height front
reads_pattern text drawn width height front wide high is width_most height_most draws =
    let w = width_is width front.width drawn.width drawn.cells.items width_most wide in
    let h = height_is height front.height drawn.height drawn.cells.items height_most high in
    let marks = bare (lines_of (enumerate_from front.body (drop front.body text))) in
    let read = answered_is (λ (reader : TokenReader). reader.cells.items) drawn (cells_read (length text) marks) draws in
    let same : pattern_of front.origin (front.width, front.height) drawn.cells.items ≡ pattern_read front drawn width height =
    (λ i. record { width = sym w i; height = sym h i; pos = front.origin.pos; generation = front.origin.generation; cells = drawn.cells.items }) in (
      subst (λ (p : RlePattern). IsPattern p) same (read_pattern (length text) front.origin (front.width, front.height) marks drawn.cells.items is.1 is.2 read),
      is.0 ∙ ap (λ cells. cells >>= λ cells. Ok (pattern_of front.origin (front.width, front.height) cells)) read ∙ ap (λ p. Ok p) same,
    )
