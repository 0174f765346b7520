-- What lines ask for, piece by piece, is what is read of them.
use Rattle.std.proofs.Common.{◌≡◌, ℕ, ◌+◌, List, [], ◌∷◌, ◌++◌, length, refl, sym, ◌∙◌, ap, arith, append_assoc, add-zero, length-append}
use Rattle.std.specs.Prelude.{true, false, not, codes, Some, None, Result, Ok, Err}
use Rattle.std.specs.Str.{bytes_eq}
use Rattle.std.specs.List.{list_all}
use Rattle.std.proofs.lemmas.Bool.{not-true, and_parts}
use Rattle.std.proofs.lemmas.List.{append-nil}
use Rattle.text_scan.specs.Words.{words}
use Rattle.genedit_script.specs.declared.command.Command.{Command}
use Rattle.genedit_script.specs.declared.command.Command.TheVariants.{Names}
use Rattle.genedit_script.specs.Script.{numbered_lines, onto, is_spoken, opening_spelled, command_spelled, commands_spelled}
use Rattle.genedit_script.specs.Laws.{is_skipped, HaveNoEnd, block_text, AskFor, nothing, skipped, spelt, block}
use Rattle.genedit_script.proofs.ScriptLemmas.{with_front, front_of_nothing}
use Rattle.genedit_script.proofs.WordLaws.{command_says, command_opens_none, opened_says}

-- ---- one line

-- a skipped line asks for nothing
pub skips_one : (n : ℕ) (line : List ℕ) (lines : List (List ℕ)) → is_skipped line ≡ true →
    commands_spelled None (numbered_lines n (line ∷ lines)) ≡ commands_spelled None (numbered_lines (n + 1) lines)
skips_one n line lines is = rw (not-true (is_spoken (words line)) is) refl

-- a line that spells a command asks for it
pub asks_one : (n : ℕ) (line : List ℕ) (lines : List (List ℕ)) (command : Command) → command_spelled (words line) ≡ Some command →
    commands_spelled None (numbered_lines n (line ∷ lines)) ≡ onto command (commands_spelled None (numbered_lines (n + 1) lines))
asks_one n line lines command is =
    rw (command_says (words line) command is, command_opens_none (words line) command is, is) refl

-- a line that opens a block
pub opens_one : (n : ℕ) (line : List ℕ) (lines : List (List ℕ)) (name : List ℕ) → opening_spelled (words line) ≡ Some name →
    commands_spelled None (numbered_lines n (line ∷ lines)) ≡ commands_spelled (Some (record { line = n; name = name; text = [] })) (numbered_lines (n + 1) lines)
opens_one n line lines name is = rw (opened_says (words line) name is, is) refl

-- ---- a block

goes_on : (n number : ℕ) (name text line : List ℕ) (lines : List (List ℕ)) → bytes_eq line (codes "end") ≡ false →
    commands_spelled (Some (record { line = number; name = name; text = text })) (numbered_lines n (line ∷ lines))
    ≡ commands_spelled (Some (record { line = number; name = name; text = (text ++ line) ++ 10 ∷ [] })) (numbered_lines (n + 1) lines)
goes_on n number name text line lines is = rw is refl

one_line_more : (text line more : List ℕ) → ((text ++ line) ++ 10 ∷ []) ++ more ≡ text ++ (line ++ 10 ∷ more)
one_line_more text line more = simp append_assoc

-- a block goes on where no line is `end`
pub block_goes_on : (inside rest : List (List ℕ)) (n number : ℕ) (name text : List ℕ) → HaveNoEnd inside →
    commands_spelled (Some (record { line = number; name = name; text = text })) (numbered_lines n (inside ++ rest))
    ≡ commands_spelled (Some (record { line = number; name = name; text = text ++ block_text inside })) (numbered_lines (n + length inside) rest)
block_goes_on [] rest n number name text none = rw (append-nil, add-zero) refl
block_goes_on (line ∷ inside) rest n number name text none =
    let parts = and_parts (not (bytes_eq line (codes "end"))) (list_all (λ line. not (bytes_eq line (codes "end"))) inside) none in
    let place : (n + 1) + length inside ≡ n + length (line ∷ inside) = omega arith in
    goes_on n number name text line (inside ++ rest) (not-true (bytes_eq line (codes "end")) parts.0)
    ∙ block_goes_on inside rest (n + 1) number name ((text ++ line) ++ 10 ∷ []) parts.1
    ∙ (λ i. commands_spelled (Some (record { line = number; name = name; text = one_line_more text line (block_text inside) i })) (numbered_lines (place i) rest))

-- the first `end` closes a block
pub block_ends : (inside rest : List (List ℕ)) (n number : ℕ) (name : List ℕ) → HaveNoEnd inside →
    commands_spelled (Some (record { line = number; name = name; text = [] })) (numbered_lines n (inside ++ codes "end" ∷ rest))
    ≡ onto (Names name (block_text inside)) (commands_spelled None (numbered_lines ((n + length inside) + 1) rest))
block_ends inside rest n number name none = block_goes_on inside (codes "end" ∷ rest) n number name [] none

-- ---- pieces

-- a command in front of others
pub front_of_more : (command : Command) (commands : List Command) (more : Result (List Command) ℕ) →
    onto command (with_front commands more) ≡ with_front (command ∷ commands) more
front_of_more command commands (Ok more) = refl
front_of_more command commands (Err n) = refl

-- behind lines that ask for commands, these stand in front of what is read of the further lines
pub asked : {front : List (List ℕ)} {commands : List Command} → AskFor front commands → (n : ℕ) (rest : List (List ℕ)) →
    commands_spelled None (numbered_lines n (front ++ rest)) ≡ with_front commands (commands_spelled None (numbered_lines (n + length front) rest))
asked nothing n rest = rw add-zero (sym (front_of_nothing (commands_spelled None (numbered_lines n rest))))
asked (skipped {line = line} {lines = lines} {commands = commands} is more) n rest =
    let place : (n + 1) + length lines ≡ n + length (line ∷ lines) = omega arith in
    skips_one n line (lines ++ rest) is ∙ asked more (n + 1) rest
    ∙ ap (λ k. with_front commands (commands_spelled None (numbered_lines k rest))) place
asked (spelt {line = line} {command = command} {lines = lines} {commands = commands} is more) n rest =
    let place : (n + 1) + length lines ≡ n + length (line ∷ lines) = omega arith in
    asks_one n line (lines ++ rest) command is ∙ ap (onto command) (asked more (n + 1) rest)
    ∙ front_of_more command commands (commands_spelled None (numbered_lines ((n + 1) + length lines) rest))
    ∙ ap (λ k. with_front (command ∷ commands) (commands_spelled None (numbered_lines k rest))) place
asked (block {opening = opening} {name = name} inside {lines = lines} {commands = commands} is none more) n rest =
    let end : List ℕ = codes "end" in
    let named : Command = Names name (block_text inside) in
    let place : (((n + 1) + length inside) + 1) + length lines ≡ n + length (opening ∷ (inside ++ end ∷ lines)) = omega (arith, length-append inside (end ∷ lines)) in
    opens_one n opening ((inside ++ end ∷ lines) ++ rest) name is
    ∙ ap (λ (ls : List (List ℕ)). commands_spelled (Some (record { line = n; name = name; text = [] })) (numbered_lines (n + 1) ls)) (append_assoc inside (end ∷ lines) rest)
    ∙ block_ends inside (lines ++ rest) (n + 1) n name none
    ∙ ap (onto named) (asked more (((n + 1) + length inside) + 1) rest)
    ∙ front_of_more named commands (commands_spelled None (numbered_lines ((((n + 1) + length inside) + 1) + length lines) rest))
    ∙ ap (λ k. with_front (named ∷ commands) (commands_spelled None (numbered_lines k rest))) place
