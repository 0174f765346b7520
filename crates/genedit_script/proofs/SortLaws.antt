-- All lines are a script, or have a first fault.
use Rattle.std.proofs.Common.{◌≡◌, ℕ, ◌+◌, List, [], ◌∷◌, ◌++◌, length, refl, sym, ◌∙◌, ap, subst, append_assoc, inl, inr}
use Rattle.std.specs.Prelude.{◌⊎◌, Bool, true, false, codes, Option, Some, None}
use Rattle.std.specs.Str.{bytes_eq}
use Rattle.std.proofs.lemmas.Slice.Eq.{bytes_eq-Decides}
use Rattle.generations_rule.specs.Rule.{GenerationsRule}
use Rattle.text_scan.specs.Words.{words}
use Rattle.genedit_script.specs.declared.command.Command.{Command}
use Rattle.genedit_script.specs.declared.command.Command.TheVariants.{Names}
use Rattle.genedit_script.specs.Script.{ScriptValue, rule_spelled, replicas_spelled, opening_spelled, command_spelled}
use Rattle.genedit_script.specs.Laws.{is_skipped, AreSkipped, HaveNoEnd, block_text, AskFor, nothing, skipped, spelt, block, NameRule, rule_line, AreScript, whole, HaveHeadFaultAt, no_rule_line, faulty_rule_line, no_replicas_line, faulty_replicas_line, HaveFaultAt, head_fault, no_command, open_block}

-- ---- pieces

-- lines that all ask for commands, or do so up to a line that cannot, or to a block that stays open
pub data Sorted : List (List ℕ) → Type 0 where
  all_asked : {lines : List (List ℕ)} (commands : List Command) → AskFor lines commands → Sorted lines
  stuck_at : (front : List (List ℕ)) (line : List ℕ) (more : List (List ℕ)) (commands : List Command) → AskFor front commands →
      is_skipped line ≡ false → opening_spelled (words line) ≡ None → command_spelled (words line) ≡ None → Sorted (front ++ line ∷ more)
  left_open : (front : List (List ℕ)) (opening name : List ℕ) (inside : List (List ℕ)) (commands : List Command) → AskFor front commands →
      opening_spelled (words opening) ≡ Some name → HaveNoEnd inside → Sorted (front ++ opening ∷ inside)

-- lines in front of all others that ask for commands
abbrev AsksInFront : List (List ℕ) → Type 0
AsksInFront piece = (lines : List (List ℕ)) (commands : List Command) → AskFor lines commands → (more : List Command) × AskFor (piece ++ lines) more

behind_piece : (piece : List (List ℕ)) {lines : List (List ℕ)} → AsksInFront piece → Sorted lines → Sorted (piece ++ lines)
behind_piece piece asks (all_asked {lines = lines} commands asked) = let a = asks lines commands asked in all_asked a.0 a.1
behind_piece piece asks (stuck_at front line more commands asked says opens spells) =
    let a = asks front commands asked in
    subst Sorted (append_assoc piece front (line ∷ more)) (stuck_at (piece ++ front) line more a.0 a.1 says opens spells)
behind_piece piece asks (left_open front opening name inside commands asked opens none) =
    let a = asks front commands asked in
    subst Sorted (append_assoc piece front (opening ∷ inside)) (left_open (piece ++ front) opening name inside a.0 a.1 opens none)

-- lines of a block that has begun: they do not end it, or do, and further lines follow
abbrev Inside : List (List ℕ) → Type 0
Inside lines = HaveNoEnd lines ⊎ ((inside : List (List ℕ)) × (rest : List (List ℕ)) × (HaveNoEnd inside × ((lines ≡ inside ++ codes "end" ∷ rest) × Sorted rest)))

block_asks : (opening name : List ℕ) (inside : List (List ℕ)) → opening_spelled (words opening) ≡ Some name → HaveNoEnd inside →
    AsksInFront (opening ∷ (inside ++ codes "end" ∷ []))
block_asks opening name inside is none lines commands asked =
    let end : List ℕ = codes "end" in
    let more : List Command = Names name (block_text inside) ∷ commands in
    (more, subst (λ (ls : List (List ℕ)). AskFor (opening ∷ ls) more) (sym (append_assoc inside (end ∷ []) lines)) (block inside is none asked))

opened : (opening name : List ℕ) (lines : List (List ℕ)) → opening_spelled (words opening) ≡ Some name → Inside lines → Sorted (opening ∷ lines)
opened opening name lines is (inl none) = left_open [] opening name lines [] nothing is none
opened opening name lines is (inr (inside, rest, (none, (same, sorted)))) =
    let end : List ℕ = codes "end" in
    subst (λ (ls : List (List ℕ)). Sorted (opening ∷ ls)) (append_assoc inside (end ∷ []) rest ∙ sym same)
    (behind_piece (opening ∷ (inside ++ end ∷ [])) (block_asks opening name inside is none) sorted)

spoken : (line : List ℕ) (lines : List (List ℕ)) → is_skipped line ≡ false → opening_spelled (words line) ≡ None →
    (command : Option Command) → command_spelled (words line) ≡ command → Sorted lines → Sorted (line ∷ lines)
spoken line lines says opens (Some command) is sorted =
    behind_piece (line ∷ []) (λ (ls : List (List ℕ)) (commands : List Command) (asked : AskFor ls commands). (command ∷ commands, spelt is asked)) sorted
spoken line lines says opens None is sorted = stuck_at [] line lines [] nothing says opens is

first_opens : (line : List ℕ) (lines : List (List ℕ)) → is_skipped line ≡ false → (name : Option (List ℕ)) → opening_spelled (words line) ≡ name →
    Sorted lines → Inside lines → Sorted (line ∷ lines)
first_opens line lines says (Some name) is sorted inside = opened line name lines is inside
first_opens line lines says None is sorted inside = spoken line lines says is (command_spelled (words line)) refl sorted

first_says : (line : List ℕ) (lines : List (List ℕ)) (b : Bool) → is_skipped line ≡ b → Sorted lines → Inside lines → Sorted (line ∷ lines)
first_says line lines true is sorted inside =
    behind_piece (line ∷ []) (λ (ls : List (List ℕ)) (commands : List Command) (asked : AskFor ls commands). (commands, skipped is asked)) sorted
first_says line lines false is sorted inside = first_opens line lines is (opening_spelled (words line)) refl sorted inside

one_more_inside : (line : List ℕ) (lines : List (List ℕ)) → bytes_eq line (codes "end") ≡ false → Inside lines → Inside (line ∷ lines)
one_more_inside line lines is (inl none) = inl (rw is none)
one_more_inside line lines is (inr (inside, rest, (none, (same, sorted)))) =
    inr (line ∷ inside, rest, (rw is none, (ap (λ (ls : List (List ℕ)). line ∷ ls) same, sorted)))

first_ends : (line : List ℕ) (lines : List (List ℕ)) (b : Bool) → bytes_eq line (codes "end") ≡ b → Sorted lines → Inside lines → Inside (line ∷ lines)
first_ends line lines true is sorted inside =
    let end : line ≡ codes "end" = (bytes_eq-Decides line (codes "end")).0 is in
    inr ([], lines, (refl, (ap (λ (l : List ℕ). l ∷ lines) end, sorted)))
first_ends line lines false is sorted inside = one_more_inside line lines is inside

both_sorted : (lines : List (List ℕ)) → Sorted lines × Inside lines
both_sorted [] = (all_asked [] nothing, inl refl)
both_sorted (line ∷ lines) =
    let more = both_sorted lines in
    (first_says line lines (is_skipped line) refl more.0 more.1, first_ends line lines (bytes_eq line (codes "end")) refl more.0 more.1)

pub sorted : (lines : List (List ℕ)) → Sorted lines
sorted lines = (both_sorted lines).0

-- ---- the two lines that a script begins with

-- skipped lines, up to one that is not, if there is one
data Skipping : List (List ℕ) → Type 0 where
  all_skipped : {lines : List (List ℕ)} → AreSkipped lines → Skipping lines
  up_to : (before : List (List ℕ)) (line : List ℕ) (more : List (List ℕ)) → AreSkipped before → is_skipped line ≡ false → Skipping (before ++ line ∷ more)

skip_one : (line : List ℕ) {lines : List (List ℕ)} → is_skipped line ≡ true → Skipping lines → Skipping (line ∷ lines)
skip_one line is (all_skipped all) = all_skipped (rw is all)
skip_one line is (up_to before last more all says) = up_to (line ∷ before) last more (rw is all) says

skip_first : (line : List ℕ) (lines : List (List ℕ)) (b : Bool) → is_skipped line ≡ b → Skipping lines → Skipping (line ∷ lines)
skip_first line lines true is more = skip_one line is more
skip_first line lines false is more = up_to [] line lines refl is

skipping : (lines : List (List ℕ)) → Skipping lines
skipping [] = all_skipped refl
skipping (line ∷ lines) = skip_first line lines (is_skipped line) refl (skipping lines)

-- lines that begin like a script, or have a fault there
pub data HeadSorted : List (List ℕ) → Type 0 where
  right : (front between : List (List ℕ)) (line : List ℕ) (behind : List (List ℕ)) (rule : GenerationsRule) (replicas : ℕ) →
      NameRule front rule → AreSkipped between → replicas_spelled (words line) ≡ Some replicas → HeadSorted (front ++ (between ++ line ∷ behind))
  wrong : {lines : List (List ℕ)} (number : ℕ) → HaveHeadFaultAt lines number → HeadSorted lines

second_line : (front between : List (List ℕ)) (line : List ℕ) (more : List (List ℕ)) (rule : GenerationsRule) (replicas : Option ℕ) →
    NameRule front rule → AreSkipped between → is_skipped line ≡ false → replicas_spelled (words line) ≡ replicas → HeadSorted (front ++ (between ++ line ∷ more))
second_line front between line more rule (Some replicas) named all says is = right front between line more rule replicas named all is
second_line front between line more rule None named all says is =
    wrong (length (front ++ between) + 1) (faulty_replicas_line front between line more rule named all says is)

second_sorted : (front : List (List ℕ)) (rule : GenerationsRule) {lines : List (List ℕ)} → NameRule front rule → Skipping lines → HeadSorted (front ++ lines)
second_sorted front rule named (all_skipped {lines = lines} all) = wrong (length (front ++ lines) + 1) (no_replicas_line front lines rule named all)
second_sorted front rule named (up_to between line more all says) =
    second_line front between line more rule (replicas_spelled (words line)) named all says refl

first_line : (before : List (List ℕ)) (line : List ℕ) (more : List (List ℕ)) (rule : Option GenerationsRule) →
    AreSkipped before → is_skipped line ≡ false → rule_spelled (words line) ≡ rule → HeadSorted (before ++ line ∷ more)
first_line before line more (Some rule) all says is =
    subst HeadSorted (append_assoc before (line ∷ []) more) (second_sorted (before ++ line ∷ []) rule (rule_line before line all is) (skipping more))
first_line before line more None all says is = wrong (length before + 1) (faulty_rule_line before line more all says is)

first_sorted : {lines : List (List ℕ)} → Skipping lines → HeadSorted lines
first_sorted (all_skipped {lines = lines} all) = wrong (length lines + 1) (no_rule_line lines all)
first_sorted (up_to before line more all says) = first_line before line more (rule_spelled (words line)) all says refl

pub head_sorted : (lines : List (List ℕ)) → HeadSorted lines
head_sorted lines = first_sorted (skipping lines)

-- ---- scripts

-- lines that are a script, or have a first fault
pub data ScriptSorted : List (List ℕ) → Type 0 where
  accepted : {lines : List (List ℕ)} (script : ScriptValue) → AreScript lines script → ScriptSorted lines
  refused : {lines : List (List ℕ)} (number : ℕ) → HaveFaultAt lines number → ScriptSorted lines

regroup : (front between : List (List ℕ)) (line : List ℕ) (behind more : List (List ℕ)) →
    (front ++ (between ++ line ∷ behind)) ++ more ≡ front ++ (between ++ line ∷ (behind ++ more))
regroup front between line behind more = simp append_assoc

behind_head : (front between : List (List ℕ)) (line : List ℕ) {behind : List (List ℕ)} (rule : GenerationsRule) (replicas : ℕ) →
    NameRule front rule → AreSkipped between → replicas_spelled (words line) ≡ Some replicas → Sorted behind → ScriptSorted (front ++ (between ++ line ∷ behind))
behind_head front between line rule replicas named all is (all_asked {lines = behind} commands asked) =
    let s : ScriptValue = record { rule = rule; replicas = replicas; commands = commands } in
    accepted s (whole front between line behind {script = s} named all is asked)
behind_head front between line rule replicas named all is (stuck_at behind stuck more commands asked says opens spells) =
    let s : ScriptValue = record { rule = rule; replicas = replicas; commands = commands } in
    let read : List (List ℕ) = front ++ (between ++ line ∷ behind) in
    subst ScriptSorted (regroup front between line behind (stuck ∷ more))
    (refused (length read + 1) (no_command read stuck more s (whole front between line behind {script = s} named all is asked) says opens spells))
behind_head front between line rule replicas named all is (left_open behind opening name inside commands asked opens none) =
    let s : ScriptValue = record { rule = rule; replicas = replicas; commands = commands } in
    let read : List (List ℕ) = front ++ (between ++ line ∷ behind) in
    subst ScriptSorted (regroup front between line behind (opening ∷ inside))
    (refused (length read + 1) (open_block read opening name inside s (whole front between line behind {script = s} named all is asked) opens none))

from_head : {lines : List (List ℕ)} → HeadSorted lines → ScriptSorted lines
from_head (right front between line behind rule replicas named all is) = behind_head front between line rule replicas named all is (sorted behind)
from_head (wrong number fault) = refused number (head_fault fault)

pub script_sorted : (lines : List (List ℕ)) → ScriptSorted lines
script_sorted lines = from_head (head_sorted lines)
