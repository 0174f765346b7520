-- A text is read exactly where it spells a pattern, and refused exactly where it is wrong.
use Rattle.std.proofs.Common.{◌≡◌, ◌⊎◌, ℕ, ◌+◌, List, ◌++◌, ◌∷◌, refl, sym, ◌∙◌, ap, inl, inr, subst, length}
use Rattle.std.specs.Prelude.{None, Ok, Err, unwrap_or}
use Rattle.std.specs.List.{enumerate_from}
use Rattle.generations_rule.specs.Refusal.{◌>>=◌}
use Rattle.multistate_rle.specs.declared.fault.RleFault.{RleFault}
use Rattle.multistate_rle.specs.declared.fault.RleFault.TheVariants.{Header}
use Rattle.multistate_rle.specs.HeaderLine.{HasNoHeader}
use Rattle.pattern_cells.specs.Pattern.{RlePattern}
use Rattle.multistate_rle.specs.Position.{origin_from, no_items}
use Rattle.multistate_rle.specs.Tokens.{cells_drawn}
use Rattle.multistate_rle.specs.Reading.{parsed, start, fresh, tokens_of, lines_of, pattern_of}
use Rattle.multistate_rle.specs.Spelling.{with_lines, first_origin, bare_from}
use Rattle.multistate_rle.specs.Faulty.{pen_behind}
use Rattle.multistate_rle.specs.Parts.{SpellsPattern, SpellsFault, IsWrong}
use Rattle.multistate_rle.specs.Laws.{RefusesFaults, ReadsExactly, RefusesExactly}
use Rattle.multistate_rle.proofs.SpellingLaws.{reads_spellings}
use Rattle.multistate_rle.proofs.WholeTextLaws.{bare_anywhere}
use Rattle.multistate_rle.proofs.HeaderlessLaws.{refuses_without_header}
use Rattle.multistate_rle.proofs.FaultLaws.{spelt_then, fault_told}
use Rattle.multistate_rle.proofs.ReadOrRefused.{Decided, decided}
use Rattle.multistate_rle.proofs.PartLaws.{parts_read, InParts, in_parts}

pattern_read : (text : List ℕ) (p : RlePattern) → SpellsPattern text p → parsed text ≡ Ok p
pattern_read text p is =
    let origin = unwrap_or (first_origin None is.front) (origin_from no_items) in
    parts_read text is.front is.sides is.place is.body is.parts
    ∙ reads_spellings (length text) origin is.sides (lines_of (enumerate_from is.place is.body)) is.tokens is.spelt is.tail (bare_anywhere is.place is.body ∙ is.bytes_are) is.spelling is.tail_is is.fine
    ∙ ap (λ p. Ok p) (sym is.pattern_is)

fault_read : (text : List ℕ) (fault : RleFault) → SpellsFault text fault → parsed text ≡ Err fault
fault_read text fault is =
    let len = length text in
    let origin = unwrap_or (first_origin None is.front) (origin_from no_items) in
    let told : tokens_of len (bare_from is.place is.body) fresh start ≡ Err fault =
    ap (λ marks. tokens_of len marks fresh start) is.bytes_are
    ∙ spelt_then len is.tokens is.spelt is.faulty start fault is.spelling is.fine (fault_told len is.faulty (pen_behind start is.tokens) fault is.fault_is) in
    parts_read text is.front is.sides is.place is.body is.parts
    ∙ ap (λ read. (read >>= λ tokens. Ok (cells_drawn tokens 0 0)) >>= λ cells. Ok (pattern_of origin is.sides cells)) told

wrong_read : (text : List ℕ) (fault : RleFault) → IsWrong text fault → parsed text ≡ Err fault
wrong_read text fault (inl is) = (refuses_without_header text).0 is.0 ∙ ap (λ f. Err f) (sym is.1)
wrong_read text fault (inr is) = fault_read text fault is

pub refuses_faults : RefusesFaults
refuses_faults front header end sides text tokens spelt faulty fault is_front is_header is ends bytes spells fine ill =
    fault_read (with_lines front (header ++ end ∷ text)) fault (record {
      front = front;
      sides = sides;
      place = length (with_lines front header) + 1;
      body = text;
      tokens = tokens;
      spelt = spelt;
      faulty = faulty;
      parts = record {
        header = header;
        behind = end ∷ text;
        text_is = refl;
        front_is = is_front;
        line_is = is_header;
        header_is = is;
        behind_is = ends;
        place_is = refl;
        body_is = refl;
      };
      bytes_are = bytes;
      spelling = spells;
      fine = fine;
      fault_is = ill;
    })

-- ---- and nothing else

-- a text spells a pattern, or is wrong
abbrev SpellsOne : List ℕ → Type 0
SpellsOne text = ((p : RlePattern) × SpellsPattern text p) ⊎ ((fault : RleFault) × IsWrong text fault)

body_spells : (text : List ℕ) (in_text : InParts text) → Decided (length text) (bare_from in_text.place in_text.body) start → SpellsOne text
body_spells text is (inl reads) =
    let p = pattern_of (unwrap_or (first_origin None is.front) (origin_from no_items)) is.sides (cells_drawn reads.tokens 0 0) in
    inl (
      p,
      record {
        front = is.front;
        sides = is.sides;
        place = is.place;
        body = is.body;
        tokens = reads.tokens;
        spelt = reads.spelt;
        tail = reads.tail;
        parts = is.parts;
        bytes_are = sym (bare_anywhere is.place is.body) ∙ reads.bytes_are;
        spelling = reads.spelling;
        tail_is = reads.tail_is;
        fine = reads.fine;
        pattern_is = refl;
      },
    )
body_spells text is (inr refused) = inr (
  refused.fault,
  inr (record {
    front = is.front;
    sides = is.sides;
    place = is.place;
    body = is.body;
    tokens = refused.tokens;
    spelt = refused.spelt;
    faulty = refused.faulty;
    parts = is.parts;
    bytes_are = refused.marks_are;
    spelling = refused.spelling;
    fine = refused.fine;
    fault_is = refused.fault_is;
  }),
)

spells_by : (text : List ℕ) → HasNoHeader text ⊎ InParts text → SpellsOne text
spells_by text (inl none) = inr (Header, inl (none, refl))
spells_by text (inr is) = body_spells text is (decided (length text) (bare_from is.place is.body) start)

spells_one : (text : List ℕ) → SpellsOne text
spells_one text = spells_by text (in_parts text)

is_pattern : (text : List ℕ) (p : RlePattern) → SpellsOne text → parsed text ≡ Ok p → SpellsPattern text p
is_pattern text p (inl found) read =
    let other : parsed text ≡ Ok found.0 = pattern_read text found.0 found.1 in
    let same : found.0 ≡ p = cc in
    subst (λ q. SpellsPattern text q) same found.1
is_pattern text p (inr found) read = let other : parsed text ≡ Err found.0 = wrong_read text found.0 found.1 in absurd (cc)

is_wrong : (text : List ℕ) (fault : RleFault) → SpellsOne text → parsed text ≡ Err fault → IsWrong text fault
is_wrong text fault (inl found) read = let other : parsed text ≡ Ok found.0 = pattern_read text found.0 found.1 in absurd (cc)
is_wrong text fault (inr found) read =
    let other : parsed text ≡ Err found.0 = wrong_read text found.0 found.1 in
    let same : found.0 ≡ fault = cc in
    subst (λ f. IsWrong text f) same found.1

pub reads_exactly : ReadsExactly
reads_exactly text p = (pattern_read text p, is_pattern text p (spells_one text))

pub refuses_exactly : RefusesExactly
refuses_exactly text fault = (wrong_read text fault, is_wrong text fault (spells_one text))
