-- What lines come to, piece by piece.
use Rattle.std.proofs.Common.{◌≡◌, ℕ, ◌+◌, List, [], ◌∷◌, ◌++◌, length, refl, sym, ◌∙◌, ap, subst, arith, append_assoc, add-zero, inl, inr}
use Rattle.std.specs.Prelude.{◌⊎◌, Bool, true, false, not, codes, Option, Some, None}
use Rattle.std.specs.Str.{bytes_eq}
use Rattle.std.specs.List.{list_all}
use Rattle.std.proofs.lemmas.Bool.{not-true, not-false, and_parts}
use Rattle.std.proofs.lemmas.List.{append-nil}
use Rattle.std.proofs.lemmas.Slice.Eq.{bytes_eq-Decides}
use Rattle.text_scan.specs.Words.{words}
use Rattle.command_words.specs.Quotes.{client_words}
use Rattle.genedit_script.specs.Script.{PatternBlock, numbered_lines, is_spoken, opening_spelled}
use Rattle.genedit_script.specs.Laws.{is_skipped, HaveNoEnd, block_text}
use Rattle.client_commands.specs.declared.command.ClientCommand.{ClientCommand}
use Rattle.client_commands.specs.declared.command.ClientCommand.TheVariants.{Pattern}
use Rattle.client_commands.specs.declared.dictation.Heard.{Heard}
use Rattle.client_commands.specs.declared.dictation.Heard.TheVariants as heard
use Rattle.client_commands.specs.Commands.{client_command_spelled}
use Rattle.client_commands.specs.Dictation.{command_or_fault, lines_heard}
use Rattle.client_commands.specs.Laws.{nothings, ComeTo, no_line, skipped_line, command_line, faulty_line, whole_block, open_block, HearPieces}
use Rattle.client_commands.proofs.SpellingLaws.{line_says, line_opens_none, command_begins}
use Rattle.client_commands.proofs.DictationLaws.{skips, asks, opens, longer, goes_on}

-- ---- from the pieces to what is heard

-- a block with the lines that came behind it
abbrev with_lines : PatternBlock → List (List ℕ) → PatternBlock
with_lines block lines = record { line = block.line; name = block.name; text = block.text ++ block_text lines }

one_line_more : (text line more : List ℕ) → ((text ++ line) ++ 10 ∷ []) ++ more ≡ text ++ (line ++ 10 ∷ more)
one_line_more text line more = simp append_assoc

-- a block goes on where no line is `end`
block_goes_on : (between rest : List (List ℕ)) (n : ℕ) (block : PatternBlock) → HaveNoEnd between →
    lines_heard (Some block) (numbered_lines n (between ++ rest)) ≡ nothings between ++ lines_heard (Some (with_lines block between)) (numbered_lines (n + length between) rest)
block_goes_on [] rest n block none = rw (append-nil, add-zero) refl
block_goes_on (line ∷ between) rest n block none =
    let parts = and_parts (not (bytes_eq line (codes "end"))) (list_all (λ line. not (bytes_eq line (codes "end"))) between) none in
    let place : (n + 1) + length between ≡ n + length (line ∷ between) = omega arith in
    goes_on n block line (between ++ rest) (not-true (bytes_eq line (codes "end")) parts.0)
    ∙ ap (λ (more : List Heard). heard.Nothing ∷ more) (block_goes_on between rest (n + 1) (longer block line) parts.1)
    ∙ (λ i. heard.Nothing ∷ (nothings between ++ lines_heard (Some (record { line = block.line; name = block.name; text = one_line_more block.text line (block_text between) i })) (numbered_lines (place i) rest)))

-- it stays open where none is
block_stays_open : (between : List (List ℕ)) (n : ℕ) (block : PatternBlock) → HaveNoEnd between →
    lines_heard (Some block) (numbered_lines n between) ≡ nothings between ++ heard.Faulty block.line ∷ []
block_stays_open between n block none =
    ap (λ (ls : List (List ℕ)). lines_heard (Some block) (numbered_lines n ls)) (sym (append-nil between)) ∙ block_goes_on between [] n block none

-- what the pieces come to is heard
heard_pieces : {number : ℕ} {lines : List (List ℕ)} {told : List Heard} → ComeTo number lines told → lines_heard None (numbered_lines number lines) ≡ told
heard_pieces no_line = refl
heard_pieces (skipped_line {number = number} {line = line} {lines = lines} skip more) =
    skips number line lines skip ∙ ap (λ (told : List Heard). heard.Nothing ∷ told) (heard_pieces more)
heard_pieces (command_line {number = number} {line = line} {command = command} {lines = lines} spelt more) =
    let begins = command_begins (client_words line) command spelt in
    asks number line lines (line_says line begins) (line_opens_none line begins)
    ∙ (λ i. command_or_fault (spelt i) number ∷ heard_pieces more i)
heard_pieces (faulty_line {number = number} {line = line} {lines = lines} says opens_none none more) =
    asks number line lines (not-false (is_spoken (words line)) says) opens_none
    ∙ (λ i. command_or_fault (none i) number ∷ heard_pieces more i)
heard_pieces (whole_block {number = number} {first = first} {name = name} between {lines = lines} names none more) =
    let end : List ℕ = codes "end" in
    opens number first (between ++ end ∷ lines) name names
    ∙ ap (λ (told : List Heard). heard.Nothing ∷ told) (block_goes_on between (end ∷ lines) (number + 1) (record { line = number; name = name; text = [] }) none)
    ∙ ap (λ (told : List Heard). heard.Nothing ∷ (nothings between ++ heard.Command (Pattern name (block_text between)) ∷ told)) (heard_pieces more)
heard_pieces (open_block {number = number} {first = first} {name = name} between names none) =
    opens number first between name names
    ∙ ap (λ (told : List Heard). heard.Nothing ∷ told) (block_stays_open between (number + 1) (record { line = number; name = name; text = [] }) none)

-- ---- all lines fall into pieces

abbrev Come : List (List ℕ) → Type 0
Come lines = (number : ℕ) → (told : List Heard) × ComeTo number lines told

-- lines of a block that has begun: they do not end it, or do, and further lines follow
abbrev Inside : List (List ℕ) → Type 0
Inside lines = HaveNoEnd lines ⊎ ((between : List (List ℕ)) × (rest : List (List ℕ)) × (HaveNoEnd between × ((lines ≡ between ++ codes "end" ∷ rest) × Come rest)))

opened : (first name : List ℕ) (lines : List (List ℕ)) → opening_spelled (words first) ≡ Some name → Inside lines → Come (first ∷ lines)
opened first name lines names (inl none) number = (heard.Nothing ∷ (nothings lines ++ heard.Faulty number ∷ []), open_block lines names none)
opened first name lines names (inr (between, rest, (none, (same, come)))) number =
    let more = come (((number + 1) + length between) + 1) in
    let told : List Heard = heard.Nothing ∷ (nothings between ++ heard.Command (Pattern name (block_text between)) ∷ more.0) in
    (told, subst (λ (ls : List (List ℕ)). ComeTo number (first ∷ ls) told) (sym same) (whole_block between names none more.1))

spoken : (line : List ℕ) (lines : List (List ℕ)) → is_skipped line ≡ false → opening_spelled (words line) ≡ None →
    (command : Option ClientCommand) → client_command_spelled (client_words line) ≡ command → Come lines → Come (line ∷ lines)
spoken line lines says none (Some command) is come number = let more = come (number + 1) in (heard.Command command ∷ more.0, command_line is more.1)
spoken line lines says none None is come number = let more = come (number + 1) in (heard.Faulty number ∷ more.0, faulty_line says none is more.1)

first_opens : (line : List ℕ) (lines : List (List ℕ)) → is_skipped line ≡ false → (name : Option (List ℕ)) → opening_spelled (words line) ≡ name →
    Come lines → Inside lines → Come (line ∷ lines)
first_opens line lines says (Some name) is come inside = opened line name lines is inside
first_opens line lines says None is come inside = spoken line lines says is (client_command_spelled (client_words line)) refl come

first_says : (line : List ℕ) (lines : List (List ℕ)) (b : Bool) → is_skipped line ≡ b → Come lines → Inside lines → Come (line ∷ lines)
first_says line lines true is come inside = λ number. let more = come (number + 1) in (heard.Nothing ∷ more.0, skipped_line is more.1)
first_says line lines false is come inside = first_opens line lines is (opening_spelled (words line)) refl come inside

one_more_inside : (line : List ℕ) (lines : List (List ℕ)) → bytes_eq line (codes "end") ≡ false → Inside lines → Inside (line ∷ lines)
one_more_inside line lines is (inl none) = inl (rw is none)
one_more_inside line lines is (inr (between, rest, (none, (same, come)))) =
    inr (line ∷ between, rest, (rw is none, (ap (λ (ls : List (List ℕ)). line ∷ ls) same, come)))

first_ends : (line : List ℕ) (lines : List (List ℕ)) (b : Bool) → bytes_eq line (codes "end") ≡ b → Come lines → Inside lines → Inside (line ∷ lines)
first_ends line lines true is come inside =
    let end : line ≡ codes "end" = (bytes_eq-Decides line (codes "end")).0 is in
    inr ([], lines, (refl, (ap (λ (l : List ℕ). l ∷ lines) end, come)))
first_ends line lines false is come inside = one_more_inside line lines is inside

both_come : (lines : List (List ℕ)) → Come lines × Inside lines
both_come [] = (λ number. ([], no_line), inl refl)
both_come (line ∷ lines) =
    let more = both_come lines in
    (first_says line lines (is_skipped line) refl more.0 more.1, first_ends line lines (bytes_eq line (codes "end")) refl more.0 more.1)

pub hear_pieces : HearPieces
hear_pieces number lines told =
    let come = (both_come lines).0 number in
    ((λ is. subst (ComeTo number lines) (sym (heard_pieces come.1) ∙ is) come.1), heard_pieces)
