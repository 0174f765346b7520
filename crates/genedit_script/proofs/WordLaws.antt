-- A line that spells something says something, and spells only one thing.
use Rattle.std.proofs.Common.{◌≡◌, ℕ, List, ◌∷◌, refl, ◌∙◌, ap}
use Rattle.std.specs.Prelude.{true, false, codes, Option, Some, None}
use Rattle.std.specs.Str.{bytes_eq}
use Rattle.generations_rule.specs.Rule.{GenerationsRule}
use Rattle.text_scan.specs.Bytes.{◌>=>◌}
use Rattle.command_words.specs.declared.dialect.Dialect.{Dialect}
use Rattle.command_words.specs.declared.dialect.Dialect.TheVariants.{Script}
use Rattle.command_words.specs.declared.keyword.Keyword.{Keyword}
use Rattle.command_words.specs.declared.keyword.Keyword.TheVariants as keyword
use Rattle.command_words.specs.Keywords.{keyword_name}
use Rattle.command_words.specs.Spelled.{SpelledValue, line_spelled}
use Rattle.command_words.proofs.SpelledLaws.{both_read, begins, keyword_of}
use Rattle.genedit_script.specs.declared.command.Command.{Command}
use Rattle.genedit_script.specs.Script.{is_spoken, asked_by, rule_asked, replicas_asked, opening_asked, command_asked, rule_spelled, replicas_spelled, opening_spelled, command_spelled}

-- ---- what words begin with

-- no keyword begins a comment
pub keyword_says : (k : Keyword) (behind : List (List ℕ)) → is_spoken (keyword_name k ∷ behind) ≡ true
keyword_says keyword.Rule behind = refl
keyword_says other behind = refl

-- what spells something says something
pub spelled_says : (dialect : Dialect) (ws : List (List ℕ)) (line : SpelledValue) → line_spelled dialect ws ≡ Some line → is_spoken ws ≡ true
spelled_says dialect ws line is =
    let first = begins dialect ws line is in
    ap is_spoken first.1 ∙ keyword_says line.keyword first.0

-- the line that something was asked by
asked_line : {A : Type 0} (asked : SpelledValue → Option A) (ws : List (List ℕ)) (found : A) → asked_by asked ws ≡ Some found →
    (line : SpelledValue) × ((line_spelled Script ws ≡ Some line) × (asked line ≡ Some found))
asked_line asked ws found is = both_read (line_spelled Script ws) asked found is

-- what asks for something says something
asked_says : {A : Type 0} (asked : SpelledValue → Option A) (ws : List (List ℕ)) (found : A) → asked_by asked ws ≡ Some found → is_spoken ws ≡ true
asked_says asked ws found is = let read = asked_line asked ws found is in spelled_says Script ws read.0 read.1.0

pub rule_says : (ws : List (List ℕ)) (rule : GenerationsRule) → rule_spelled ws ≡ Some rule → is_spoken ws ≡ true
rule_says ws rule is = asked_says rule_asked ws rule is

pub replicas_say : (ws : List (List ℕ)) (n : ℕ) → replicas_spelled ws ≡ Some n → is_spoken ws ≡ true
replicas_say ws n is = asked_says replicas_asked ws n is

pub opened_says : (ws : List (List ℕ)) (name : List ℕ) → opening_spelled ws ≡ Some name → is_spoken ws ≡ true
opened_says ws name is = asked_says opening_asked ws name is

-- the first word of a command begins no comment
pub command_says : (ws : List (List ℕ)) (command : Command) → command_spelled ws ≡ Some command → is_spoken ws ≡ true
command_says ws command is = asked_says command_asked ws command is

-- ---- which keyword asks for what

rule_keyword : (line : SpelledValue) (rule : GenerationsRule) → rule_asked line ≡ Some rule → line.keyword ≡ keyword.Rule
rule_keyword line rule is =
    elim line.keyword as (λ k. rule_asked (record line { keyword = k }) ≡ Some rule → k ≡ keyword.Rule) [
      | keyword.Rule ↦ λ is. refl
      | _ ↦ λ is. absurd (cc)
    ] is

opening_keyword : (line : SpelledValue) (name : List ℕ) → opening_asked line ≡ Some name → line.keyword ≡ keyword.Pattern
opening_keyword line name is =
    elim line.keyword as (λ k. opening_asked (record line { keyword = k }) ≡ Some name → k ≡ keyword.Pattern) [
      | keyword.Pattern ↦ λ is. refl
      | _ ↦ λ is. absurd (cc)
    ] is

replicas_keyword : (line : SpelledValue) (n : ℕ) → replicas_asked line ≡ Some n → line.keyword ≡ keyword.Replicas
replicas_keyword line n is =
    elim line.keyword as (λ k. replicas_asked (record line { keyword = k }) ≡ Some n → k ≡ keyword.Replicas) [
      | keyword.Replicas ↦ λ is. refl
      | _ ↦ λ is. absurd (cc)
    ] is

-- words that ask for something begin with its keyword
pub rule_words : (ws : List (List ℕ)) (rule : GenerationsRule) → rule_spelled ws ≡ Some rule → (behind : List (List ℕ)) × (ws ≡ codes "rule" ∷ behind)
rule_words ws rule is =
    let read = asked_line rule_asked ws rule is in
    let first = begins Script ws read.0 read.1.0 in
    (first.0, first.1 ∙ ap (λ (k : Keyword). keyword_name k ∷ first.0) (rule_keyword read.0 rule read.1.1))

pub replicas_words : (ws : List (List ℕ)) (n : ℕ) → replicas_spelled ws ≡ Some n → (behind : List (List ℕ)) × (ws ≡ codes "replicas" ∷ behind)
replicas_words ws n is =
    let read = asked_line replicas_asked ws n is in
    let first = begins Script ws read.0 read.1.0 in
    (first.0, first.1 ∙ ap (λ (k : Keyword). keyword_name k ∷ first.0) (replicas_keyword read.0 n read.1.1))

pub opened_words : (ws : List (List ℕ)) (name : List ℕ) → opening_spelled ws ≡ Some name → (behind : List (List ℕ)) × (ws ≡ codes "pattern" ∷ behind)
opened_words ws name is =
    let read = asked_line opening_asked ws name is in
    let first = begins Script ws read.0 read.1.0 in
    (first.0, first.1 ∙ ap (λ (k : Keyword). keyword_name k ∷ first.0) (opening_keyword read.0 name read.1.1))

-- a command begins with no `pattern`
no_pattern : (line : SpelledValue) (command : Command) → command_asked line ≡ Some command → opening_asked line ≡ None
no_pattern line command is =
    elim line.keyword as (λ k. command_asked (record line { keyword = k }) ≡ Some command → opening_asked (record line { keyword = k }) ≡ None) [
      | keyword.Pattern ↦ λ is. absurd (cc)
      | _ ↦ λ is. refl
    ] is

-- a command opens no block
pub command_opens_none : (ws : List (List ℕ)) (command : Command) → command_spelled ws ≡ Some command → opening_spelled ws ≡ None
command_opens_none ws command is =
    let read = asked_line command_asked ws command is in
    ap (λ (line : Option SpelledValue). line >=> opening_asked) read.1.0 ∙ no_pattern read.0 command read.1.1

opens_by : (name : List ℕ) (ws : List (List ℕ)) (opened : Option (List ℕ)) → bytes_eq name (codes "pattern") ≡ false → opening_spelled (name ∷ ws) ≡ opened →
    opening_spelled (name ∷ ws) ≡ None
opens_by name ws None other is = is
opens_by name ws (Some opened) other is =
    let first = opened_words (name ∷ ws) opened is in
    let same : name ≡ codes "pattern" = cc in
    let pattern : bytes_eq name (codes "pattern") ≡ true = ap (λ (n : List ℕ). bytes_eq n (codes "pattern")) same in
    absurd (cc)

-- a line with another first word than `pattern` opens no block
pub opens_no_block : (name : List ℕ) (ws : List (List ℕ)) → bytes_eq name (codes "pattern") ≡ false → opening_spelled (name ∷ ws) ≡ None
opens_no_block name ws other = opens_by name ws (opening_spelled (name ∷ ws)) other refl

pattern_asks : (line : SpelledValue) → line.keyword ≡ keyword.Pattern → command_asked line ≡ None
pattern_asks line is = rw is refl

pattern_by : (behind : List (List ℕ)) (line : Option SpelledValue) → line_spelled Script (codes "pattern" ∷ behind) ≡ line → line >=> command_asked ≡ None
pattern_by behind None is = refl
pattern_by behind (Some line) is = pattern_asks line (keyword_of Script (codes "pattern") behind keyword.Pattern line refl is)

-- a line whose first word is `pattern` is no command
pub pattern_is_none : (behind : List (List ℕ)) → command_spelled (codes "pattern" ∷ behind) ≡ None
pattern_is_none behind = pattern_by behind (line_spelled Script (codes "pattern" ∷ behind)) refl
