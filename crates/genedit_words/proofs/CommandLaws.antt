-- Words that are no fault name a subcommand, and have what it needs.
use Rattle.std.proofs.Common.{subst, ◌∷◌, ◌≡◌, ◌∙◌, ◌&&◌, ◌||◌, ◌⊎◌, inl, inr, ℕ, Bool, codes, true, false, not, refl, sym, ap, List, [], Option, Some, None, is_some, true≢false, slice_get}
use Rattle.std.specs.Prelude.{if◌then◌else◌, find, option_and_then, option_map, pos}
use Rattle.std.specs.List.{list_any}
use Rattle.std.specs.Option.{option_map_or}
use Rattle.std.specs.Str.{bytes_eq}
use Rattle.std.proofs.lemmas.Slice.Eq.{bytes_eq-Decides}
use Rattle.clap.proofs.ValueTestLemmas.{accepts-Accepts}
use Rattle.clap.specs.Facts.{explicit_source}
use Rattle.clap.specs.Lexer.{without_minus}
use Rattle.clap.specs.Takes.{is_given}
use Rattle.clap.specs.Values.{read_as}
use Rattle.clap.specs.ValueTests.{accepts}
use Rattle.clap.specs.Walk.{answers_to, Held, Names, Row, Rule, Text, finished, first_of, nothing_held, one_of, row_text, rows_after, settled, walk, walk_from}
use Rattle.clap.specs.Simple.{App, Shape, label_of, argument_words, built, built_leaf, entered, filled, help_rule, help_shape, inherited, names_of, rows_at, subcommand_of, with_index}
use Rattle.clap.specs.Kinds.{Kinds, check_kinds, or_else}
use Rattle.clap.specs.Faults.{check_fault, defaults_fault, entered_fault, fault_of, level_fault, settle_fault, walk_fault}
use Rattle.clap.specs.declared.builder.value_parser.Reading.{Reading}
use Rattle.clap.specs.declared.builder.value_parser.Reading.TheVariants as reading
use Rattle.clap.specs.declared.builder.value_parser.ValueParser.TheVariants as vp
use Rattle.genedit_words.specs.Given.{Has, HasClient, HasConversion, HasDiff, HasDraw, HasExport, HasFeed, HasFlag, HasFollow, HasLog, HasMerge, HasNew, HasNumber, HasNumbering, HasRule, HasServer, HasText, HasTexts, HasView, IsNamed, MayHaveNumber}
use Rattle.genedit_words.specs.Needs.{no_needs}
use Rattle.genedit_words.specs.Words.{board_port, board_rule, board_web, check_shape, convert_shape, diff_shape, draw_shape, edits_option, every_option, export_shape, feed_shape, file_argument, first_option, flag, follow_shape, from_option, gen_option, generation_place, genedit_app, idle_option, join_shape, log_shape, merge_shape, new_document_shape, number_shape, optional, others_argument, period_option, place_argument, port_option, renumber_option, replica_option, rle_shape, rule_option, run_shape, serve_shape, sessions_option, view_shape}
use Rattle.genedit_words.proofs.Stops.{both_pass, stops_at_help, walk_passes}
use Rattle.genedit_words.proofs.RowFacts.{IsWellUsed, all_ok, both_true, rows_well}
use Rattle.genedit_words.proofs.RuleFacts.{AreOrderly, HasValue, IsOrderly, append_orderly, defaults_orderly, drops_minus, first_passes, fits, flag_orderly, found_value, given_value, is_flag_text, keeps_all, no_default, ok, option_orderly, uses_found}

abbrev whole : App
whole = built genedit_app

-- a subcommand as it is built, with the flag for help
abbrev leaf : Shape → Shape
leaf s = built_leaf (inherited whole.top s)

-- ---- each use of an argument adds a row that is in order

-- an argument as it is built, at a place
abbrev given : ℕ → Rule → Rule
given place a = with_index place (filled a)

file_orderly : (place : ℕ) → IsOrderly (given place file_argument)
file_orderly place = option_orderly (given place file_argument) refl refl (λ rows h. cc) (λ v vs passes. refl)

document_orderly : (place : ℕ) → IsOrderly (given place (place_argument (codes "file")))
document_orderly place = option_orderly (given place (place_argument (codes "file"))) refl refl (λ rows h. cc) (λ v vs passes. refl)

in_orderly : (place : ℕ) → IsOrderly (given place (place_argument (codes "in")))
in_orderly place = option_orderly (given place (place_argument (codes "in"))) refl refl (λ rows h. cc) (λ v vs passes. refl)

out_orderly : (place : ℕ) → IsOrderly (given place (place_argument (codes "out")))
out_orderly place = option_orderly (given place (place_argument (codes "out"))) refl refl (λ rows h. cc) (λ v vs passes. refl)

other_orderly : (place : ℕ) → IsOrderly (given place (place_argument (codes "other")))
other_orderly place = option_orderly (given place (place_argument (codes "other"))) refl refl (λ rows h. cc) (λ v vs passes. refl)

others_orderly : (place : ℕ) → IsOrderly (given place others_argument)
others_orderly place = append_orderly (given place others_argument) refl refl (λ rows h. cc) (λ v vs passes. refl)

numbers_orderly : (place : ℕ) → IsOrderly (given place (place_argument (codes "numbers")))
numbers_orderly place = option_orderly (given place (place_argument (codes "numbers"))) refl refl (λ rows h. cc) (λ v vs passes. refl)

name_orderly : (place : ℕ) → IsOrderly (given place (place_argument (codes "name")))
name_orderly place = option_orderly (given place (place_argument (codes "name"))) refl refl (λ rows h. cc) (λ v vs passes. refl)

rule_orderly : (place : ℕ) → IsOrderly (given place rule_option)
rule_orderly place = option_orderly (given place rule_option) refl refl (λ rows h. cc) (λ v vs passes. refl)

own_rule_orderly : (place : ℕ) → IsOrderly (given place (optional (codes "rule")))
own_rule_orderly place = option_orderly (given place (optional (codes "rule"))) refl refl (λ rows h. cc) (λ v vs passes. refl)

board_rule_orderly : (place : ℕ) → IsOrderly (given place (board_rule false))
board_rule_orderly place = option_orderly (given place (board_rule false)) refl refl (λ rows h. cc) (λ v vs passes. refl)

board_port_orderly : (place : ℕ) → IsOrderly (given place (board_port false))
board_port_orderly place = option_orderly (given place (board_port false)) refl refl (λ rows h. cc) (λ v vs passes. first_passes false (vp.Signed (pos 0) (pos 65535)) v vs passes)

board_web_orderly : (place : ℕ) → IsOrderly (given place (board_web false))
board_web_orderly place = option_orderly (given place (board_web false)) refl refl (λ rows h. cc) (λ v vs passes. refl)

url_orderly : (place : ℕ) → IsOrderly (given place (optional (codes "url")))
url_orderly place = option_orderly (given place (optional (codes "url"))) refl refl (λ rows h. cc) (λ v vs passes. refl)

idle_orderly : (place : ℕ) → IsOrderly (given place idle_option)
idle_orderly place = option_orderly (given place idle_option) refl refl (λ rows h. cc) (λ v vs passes. first_passes false (vp.Signed (pos 1) (pos 1440)) v vs passes)

at_orderly : (place : ℕ) → IsOrderly (given place (optional (codes "at")))
at_orderly place = option_orderly (given place (optional (codes "at"))) refl refl (λ rows h. cc) (λ v vs passes. refl)

chart_orderly : (place : ℕ) → IsOrderly (given place (optional (codes "chart")))
chart_orderly place = option_orderly (given place (optional (codes "chart"))) refl refl (λ rows h. cc) (λ v vs passes. refl)

size_orderly : (place : ℕ) → IsOrderly (given place (optional (codes "size")))
size_orderly place = option_orderly (given place (optional (codes "size"))) refl refl (λ rows h. cc) (λ v vs passes. refl)

keep_orderly : (place : ℕ) → IsOrderly (given place (optional (codes "keep")))
keep_orderly place = option_orderly (given place (optional (codes "keep"))) refl refl (λ rows h. cc) (λ v vs passes. refl)

port_orderly : (place : ℕ) → IsOrderly (given place port_option)
port_orderly place = option_orderly (given place port_option) refl refl (λ rows h. cc) (λ v vs passes. first_passes false (vp.Signed (pos 0) (pos 65535)) v vs passes)

sessions_orderly : (place : ℕ) → IsOrderly (given place sessions_option)
sessions_orderly place = option_orderly (given place sessions_option) refl refl (λ rows h. cc) (λ v vs passes. first_passes false (vp.Signed (pos 1) (pos 64)) v vs passes)

first_orderly : (place : ℕ) → IsOrderly (given place first_option)
first_orderly place = option_orderly (given place first_option) refl refl (λ rows h. cc) (λ v vs passes. first_passes false (vp.Signed (pos 1) (pos 65472)) v vs passes)

every_orderly : (place : ℕ) → IsOrderly (given place every_option)
every_orderly place = option_orderly (given place every_option) refl refl (λ rows h. cc) (λ v vs passes. first_passes false (vp.Signed (pos 1) (pos 60000)) v vs passes)

gen_orderly : (place : ℕ) → IsOrderly (given place gen_option)
gen_orderly place = option_orderly (given place gen_option) refl refl (λ rows h. cc) (λ v vs passes. first_passes false (vp.Signed (pos 0) (pos 536870912)) v vs passes)

edits_orderly : (place : ℕ) → IsOrderly (given place edits_option)
edits_orderly place = option_orderly (given place edits_option) refl refl (λ rows h. cc) (λ v vs passes. first_passes false (vp.Signed (pos 0) (pos 4294967295)) v vs passes)

period_orderly : (place : ℕ) → IsOrderly (given place period_option)
period_orderly place = option_orderly (given place period_option) refl refl (λ rows h. cc) (λ v vs passes. first_passes false (vp.Signed (pos 1) (pos 65535)) v vs passes)

from_orderly : (place : ℕ) → IsOrderly (given place from_option)
from_orderly place = option_orderly (given place from_option) refl refl (λ rows h. cc) (λ v vs passes. first_passes false (vp.Signed (pos 0) (pos 4294967295)) v vs passes)

generation_orderly : (place : ℕ) → IsOrderly (given place generation_place)
generation_orderly place = option_orderly (given place generation_place) refl refl (λ rows h. cc) (λ v vs passes. first_passes false (vp.Signed (pos 0) (pos 4294967295)) v vs passes)

replica_orderly : (place : ℕ) → IsOrderly (given place replica_option)
replica_orderly place = option_orderly (given place replica_option) refl refl (λ rows h. cc) (λ v vs passes. first_passes false (vp.Signed (pos 65) (pos 65535)) v vs passes)

renumber_orderly : (place : ℕ) → IsOrderly (given place renumber_option)
renumber_orderly place = option_orderly (given place renumber_option) refl refl (λ rows h. cc) (λ v vs passes. first_passes false (vp.Signed (pos 65) (pos 65535)) v vs passes)

plain_orderly : (place : ℕ) → IsOrderly (given place (flag (codes "plain")))
plain_orderly place = flag_orderly (given place (flag (codes "plain"))) refl refl refl refl refl refl

svg_orderly : (place : ℕ) → IsOrderly (given place (flag (codes "svg")))
svg_orderly place = flag_orderly (given place (flag (codes "svg"))) refl refl refl refl refl refl

replace_orderly : (place : ℕ) → IsOrderly (given place (flag (codes "replace")))
replace_orderly place = flag_orderly (given place (flag (codes "replace"))) refl refl refl refl refl refl

until_close_orderly : (place : ℕ) → IsOrderly (given place (flag (codes "until-close")))
until_close_orderly place = flag_orderly (given place (flag (codes "until-close"))) refl refl refl refl refl refl

follow_orderly : (place : ℕ) → IsOrderly (given place (flag (codes "follow")))
follow_orderly place = flag_orderly (given place (flag (codes "follow"))) refl refl refl refl refl refl

changes_orderly : (place : ℕ) → IsOrderly (given place (flag (codes "changes")))
changes_orderly place = flag_orderly (given place (flag (codes "changes"))) refl refl refl refl refl refl

quiet_orderly : (place : ℕ) → IsOrderly (given place (flag (codes "quiet")))
quiet_orderly place = flag_orderly (given place (flag (codes "quiet"))) refl refl refl refl refl refl

no_rescue_orderly : (place : ℕ) → IsOrderly (given place (flag (codes "no-rescue")))
no_rescue_orderly place = flag_orderly (given place (flag (codes "no-rescue"))) refl refl refl refl refl refl

raw_orderly : (place : ℕ) → IsOrderly (given place (flag (codes "raw")))
raw_orderly place = flag_orderly (given place (flag (codes "raw"))) refl refl refl refl refl refl

help_orderly : IsOrderly (filled help_rule)
help_orderly = record { uses = λ values rows passes holds. holds; default = λ rows holds. no_default rows (filled help_rule) refl holds }

run_rules : AreOrderly (leaf run_shape).rules
run_rules = (file_orderly 1, (help_orderly, tt))

check_rules : AreOrderly (leaf check_shape).rules
check_rules = (file_orderly 1, (help_orderly, tt))

rle_rules : AreOrderly (leaf rle_shape).rules
rle_rules = (file_orderly 1, (rule_orderly 2, (help_orderly, tt)))

view_rules : AreOrderly (leaf view_shape).rules
view_rules = (file_orderly 1, (own_rule_orderly 2, (at_orderly 2, (size_orderly 2, (gen_orderly 2, (edits_orderly 2, (period_orderly 2, (chart_orderly 2, (plain_orderly 2, (svg_orderly 2, (help_orderly, tt)))))))))))

convert_rules : AreOrderly (leaf convert_shape).rules
convert_rules = (in_orderly 1, (out_orderly 2, (own_rule_orderly 3, (gen_orderly 3, (replace_orderly 3, (help_orderly, tt))))))

serve_rules : AreOrderly (leaf (serve_shape no_needs)).rules
serve_rules = (board_rule_orderly 1, (board_port_orderly 1, (board_web_orderly 1, (url_orderly 1, (sessions_orderly 1, (first_orderly 1, (keep_orderly 1, (until_close_orderly 1, (idle_orderly 1, (help_orderly, tt))))))))))

join_rules : AreOrderly (leaf join_shape).rules
join_rules = (port_orderly 1, (every_orderly 1, (follow_orderly 1, (changes_orderly 1, (quiet_orderly 1, (no_rescue_orderly 1, (help_orderly, tt)))))))

new_rules : AreOrderly (leaf new_document_shape).rules
new_rules = (document_orderly 1, (rule_orderly 2, (help_orderly, tt)))

draw_rules : AreOrderly (leaf draw_shape).rules
draw_rules = (document_orderly 1, (replica_orderly 2, (help_orderly, tt)))

merge_rules : AreOrderly (leaf merge_shape).rules
merge_rules = (document_orderly 1, (others_orderly 2, (renumber_orderly 3, (help_orderly, tt))))

diff_rules : AreOrderly (leaf diff_shape).rules
diff_rules = (document_orderly 1, (other_orderly 2, (help_orderly, tt)))

log_rules : AreOrderly (leaf log_shape).rules
log_rules = (document_orderly 1, (edits_orderly 2, (help_orderly, tt)))

export_rules : AreOrderly (leaf export_shape).rules
export_rules = (document_orderly 1, (generation_orderly 2, (edits_orderly 3, (help_orderly, tt))))

follow_rules : AreOrderly (leaf follow_shape).rules
follow_rules = (document_orderly 1, (from_orderly 2, (raw_orderly 2, (help_orderly, tt))))

feed_rules : AreOrderly (leaf feed_shape).rules
feed_rules = (document_orderly 1, (help_orderly, tt))

number_rules : AreOrderly (leaf number_shape).rules
number_rules = (numbers_orderly 1, (name_orderly 2, (help_orderly, tt)))

-- ---- what the last checks say

asks_subcommand : (a b c : Bool) → check_kinds a b c ≡ [] → b ≡ false
asks_subcommand true b c h = cc
asks_subcommand false true c h = cc
asks_subcommand false false c h = refl

asks_argument : (a b c : Bool) → check_kinds a b c ≡ [] → c ≡ false
asks_argument true b c h = cc
asks_argument false true c h = cc
asks_argument false false true h = cc
asks_argument false false false h = refl

-- a level that is no fault passes its walk, the level below it, and its last checks
level_passes : (s : Shape) (names : Names) (h : Held) (words : List Text) (has : Bool) (below : Kinds) → level_fault s names h words has below ≡ []
    → let end = (walk s.rules names h words).held in
    (walk_fault s names (walk_from h) words ≡ []) × (below ≡ []) × (settle_fault s.rules s.args_override_self end ≡ [])
    × (check_fault s (finished s.rules end) has ≡ [])
level_passes s names h words has below passes =
    let end = (walk s.rules names h words).held in
    let checks = check_fault s (finished s.rules end) has in
    let defaults = defaults_fault (settled s.rules end).rows s.rules in
    let settles = settle_fault s.rules s.args_override_self end in
    let first = both_pass (walk_fault s names (walk_from h) words) (or_else below (or_else settles (or_else defaults checks))) passes in
    let second = both_pass below (or_else settles (or_else defaults checks)) first.1 in
    let third = both_pass settles (or_else defaults checks) second.1 in
    (first.0, second.0, third.0, (both_pass defaults checks third.1).1)

-- ---- what is given

has_first : (id : Text) (rows : List Row) → HasValue id rows → (text : Text) × (first_of id rows ≡ Some text)
has_first id rows has = (has.first, ap (option_and_then (λ (r : Row). slice_get r.values 0)) has.found ∙ has.value)

both_hold : (a b : Bool) → (a && b) ≡ true → (a ≡ true) × (b ≡ true)
both_hold = both_true

reads_minus : (how : Reading) (text : Text) → drops_minus how ≡ true → read_as how text ≡ without_minus text
reads_minus reading.WithoutMinus text h = refl
reads_minus reading.AsWritten text h = absurd (true≢false (sym h))
reads_minus reading.Boolish text h = absurd (true≢false (sym h))
reads_minus reading.Falsey text h = absurd (true≢false (sym h))

-- the text of a number, whose row says that it was read so
has_number : (low high : ℕ) (id : Text) (rows : List Row) (has : HasValue id rows)
    → (drops_minus has.row.reading && accepts false (vp.Signed (pos low) (pos high)) has.first) ≡ true → HasNumber low high id rows
has_number low high id rows has fit =
    let both = both_hold (drops_minus has.row.reading) (accepts false (vp.Signed (pos low) (pos high)) has.first) fit in
    let text : row_text has.row ≡ Some (read_as has.row.reading has.first) = ap (option_map (read_as has.row.reading)) has.value in
    record {
      text = has.first;
      read = ap (option_and_then row_text) has.found ∙ (text ∙ ap (λ (t : Text). Some t) (reads_minus has.row.reading has.first both.0));
      within = accepts-Accepts false (vp.Signed (pos low) (pos high)) has.first both.1;
    }

-- an argument that no row is of has no text
no_text : (id : Text) (rows : List Row) → find (λ r. bytes_eq r.id id) rows ≡ None → one_of id rows ≡ None
no_text id rows none = ap (option_and_then row_text) none

may_have_number : (low high : ℕ) (id : Text) (rows : List Row) → all_ok ok rows ≡ true
    → ((how : Reading) (v : Text) → fits id how v ≡ true → (drops_minus how && accepts false (vp.Signed (pos low) (pos high)) v) ≡ true) → MayHaveNumber low high id rows
may_have_number low high id rows holds fit = elim (found_value id rows holds) [
  | inl none ↦ inl (no_text id rows none)
  | inr has ↦ inr (has_number low high id rows has (fit has.row.reading has.first has.fit))
]

reads_all : (how : Reading) (text : Text) → keeps_all how ≡ true → read_as how text ≡ text
reads_all reading.AsWritten text h = refl
reads_all reading.WithoutMinus text h = absurd (true≢false (sym h))
reads_all reading.Boolish text h = absurd (true≢false (sym h))
reads_all reading.Falsey text h = absurd (true≢false (sym h))

is_either : (text : Text) → is_flag_text text ≡ true → (text ≡ codes "true") ⊎ (text ≡ codes "false")
is_either text h = go (bytes_eq text (codes "true")) (bytes_eq text (codes "false")) refl refl h
  where
    go : (a b : Bool) → bytes_eq text (codes "true") ≡ a → bytes_eq text (codes "false") ≡ b → (a || b) ≡ true → (text ≡ codes "true") ⊎ (text ≡ codes "false")
    go true b is_true is_false h = inl ((bytes_eq-Decides text (codes "true")).0 is_true)
    go false true is_true is_false h = inr ((bytes_eq-Decides text (codes "false")).0 is_false)
    go false false is_true is_false h = absurd (true≢false (sym h))

has_flag : (id : Text) (rows : List Row) → all_ok ok rows ≡ true → ((how : Reading) (v : Text) → fits id how v ≡ true → (keeps_all how && is_flag_text v) ≡ true) → HasFlag id rows
has_flag id rows holds fit = elim (found_value id rows holds) [
  | inl none ↦ inr (inr (no_text id rows none))
  | inr has ↦
      let both = both_hold (keeps_all has.row.reading) (is_flag_text has.first) (fit has.row.reading has.first has.fit) in
      let text : row_text has.row ≡ Some has.first =
      ap (option_map (read_as has.row.reading)) has.value ∙ ap (λ (t : Text). Some t) (reads_all has.row.reading has.first both.0) in
      let read : one_of id rows ≡ Some has.first = ap (option_and_then row_text) has.found ∙ text in
      elim (is_either has.first both.1) [
        | inl is ↦ inl (read ∙ ap (λ (t : Text). Some t) is)
        | inr is ↦ inr (inl (read ∙ ap (λ (t : Text). Some t) is))
      ]
]

-- ---- a subcommand's words that are no fault

-- arguments that have to be given are
abbrev pub AreGiven : List Rule → List Row → Type 0
AreGiven [] rows = Unit {0}
AreGiven (a ∷ rest) rows = (a.required ≡ true → is_given a.id rows ≡ true) × AreGiven rest rows

all_given : (rules : List Rule) (rows : List Row) → list_any (λ (a : Rule). a.required && not (is_given a.id rows)) rules ≡ false → AreGiven rules rows
all_given [] rows h = tt
all_given (a ∷ rest) rows h =
    let both = neither (a.required && not (is_given a.id rows)) (list_any (λ (b : Rule). b.required && not (is_given b.id rows)) rest) h in
    ((λ required. one a.required (is_given a.id rows) required both.0), all_given rest rows both.1)
  where
    neither : (x y : Bool) → (x || y) ≡ false → (x ≡ false) × (y ≡ false)
    neither true y h = absurd (true≢false h)
    neither false y h = (refl, h)

    one : (required given : Bool) → required ≡ true → (required && not given) ≡ false → given ≡ true
    one required true is h = refl
    one true false is h = absurd (true≢false h)
    one false false is h = absurd (true≢false (sym is))

-- each row is in order, and what has to be given is
pub record IsFine (s : Shape) (rows : List Row) : Type 0 where
  pub fine : all_ok ok rows ≡ true
  pub given : AreGiven s.rules rows

not_both : (a : Bool) → (a && false) ≡ false
not_both true = refl
not_both false = refl

leaf_fine : (s : Shape) (words : List Text) → AreOrderly s.rules → s.args_override_self ≡ false → level_fault s [] nothing_held words false [] ≡ [] → IsFine s (rows_after s.rules [] words)
leaf_fine s words all once passes =
    let rows = rows_after s.rules [] words in
    let parts = level_passes s [] nothing_held words false [] passes in
    let missing = list_any (λ (a : Rule). a.required && not (is_given a.id rows)) s.rules in
    let none = asks_argument (true && (s.arg_required_else_help && not (list_any (λ (r : Row). explicit_source r.source) rows))) (true && s.subcommand_required) (not (s.subcommand_negates_reqs && false) && missing) parts.3 in
    record {
      fine = rows_well ok s (subst (λ (again : Bool). (p : Rule → Bool) → IsWellUsed ok again (find p s.rules)) (sym once) (uses_found s.rules all)) (defaults_orderly s.rules all) words parts.0 parts.2;
      given = all_given s.rules rows (subst (λ (b : Bool). (not b && missing) ≡ false) (not_both s.subcommand_negates_reqs) none);
    }

-- so is one that has to be, by its id
given_by : (id : Text) (rules : List Rule) (rows : List Row) → AreGiven rules rows → list_any (λ (a : Rule). bytes_eq a.id id && a.required) rules ≡ true → is_given id rows ≡ true
given_by id [] rows given h = absurd (true≢false (sym h))
given_by id (a ∷ rest) rows given h = go (bytes_eq a.id id) a.required refl refl h (given_by id rest rows given.1)
  where
    go : (is required : Bool) → bytes_eq a.id id ≡ is → a.required ≡ required → ((is && required) || list_any (λ (b : Rule). bytes_eq b.id id && b.required) rest) ≡ true
        → (list_any (λ (b : Rule). bytes_eq b.id id && b.required) rest ≡ true → is_given id rows ≡ true) → is_given id rows ≡ true
    go true true same has h more = subst (λ (i : Text). is_given i rows ≡ true) ((bytes_eq-Decides a.id id).0 same) (given.0 has)
    go true false same has h more = more h
    go false required same has h more = more h

-- a value that has to be given
value_at : (id : Text) (rows : List Row) → all_ok ok rows ≡ true → is_given id rows ≡ true → HasText id rows
value_at id rows fine given = has_first id rows (given_value id rows fine given)

number_at : (low high : ℕ) (id : Text) (rows : List Row) → all_ok ok rows ≡ true → is_given id rows ≡ true
    → ((how : Reading) (v : Text) → fits id how v ≡ true → (drops_minus how && accepts false (vp.Signed (pos low) (pos high)) v) ≡ true) → HasNumber low high id rows
number_at low high id rows fine given fit =
    let has = given_value id rows fine given in
    has_number low high id rows has (fit has.row.reading has.first has.fit)

values_at : (id : Text) (rows : List Row) → all_ok ok rows ≡ true → is_given id rows ≡ true → HasTexts id rows
values_at id rows fine given =
    let has = given_value id rows fine given in
    (has.row.values, ap (option_map (λ (r : Row). r.values)) has.found)

-- ---- what each has

rle_has : (words : List Text) → level_fault (leaf rle_shape) [] nothing_held words false [] ≡ [] → HasRule (rows_after (leaf rle_shape).rules [] words)
rle_has words passes =
    let rows = rows_after (leaf rle_shape).rules [] words in
    let read = leaf_fine (leaf rle_shape) words rle_rules refl passes in
    value_at (codes "rule") rows read.fine (given_by (codes "rule") (leaf rle_shape).rules rows read.given refl)

view_has : (words : List Text) → level_fault (leaf view_shape) [] nothing_held words false [] ≡ [] → HasView (rows_after (leaf view_shape).rules [] words)
view_has words passes =
    let rows = rows_after (leaf view_shape).rules [] words in
    let read = leaf_fine (leaf view_shape) words view_rules refl passes in
    record {
      generation = may_have_number 0 536870912 (codes "gen") rows read.fine (λ how v fit. fit);
      edits = may_have_number 0 4294967295 (codes "edits") rows read.fine (λ how v fit. fit);
      period = may_have_number 1 65535 (codes "period") rows read.fine (λ how v fit. fit);
      plain = has_flag (codes "plain") rows read.fine (λ how v fit. fit);
      svg = has_flag (codes "svg") rows read.fine (λ how v fit. fit);
    }

convert_has : (words : List Text) → level_fault (leaf convert_shape) [] nothing_held words false [] ≡ [] → HasConversion (rows_after (leaf convert_shape).rules [] words)
convert_has words passes =
    let rows = rows_after (leaf convert_shape).rules [] words in
    let read = leaf_fine (leaf convert_shape) words convert_rules refl passes in
    record {
      input = value_at (codes "in") rows read.fine (given_by (codes "in") (leaf convert_shape).rules rows read.given refl);
      output = value_at (codes "out") rows read.fine (given_by (codes "out") (leaf convert_shape).rules rows read.given refl);
      generation = may_have_number 0 536870912 (codes "gen") rows read.fine (λ how v fit. fit);
      replace = has_flag (codes "replace") rows read.fine (λ how v fit. fit);
    }

serve_has : (words : List Text) → level_fault (leaf (serve_shape no_needs)) [] nothing_held words false [] ≡ [] → HasServer (rows_after (leaf (serve_shape no_needs)).rules [] words)
serve_has words passes =
    let rows = rows_after (leaf (serve_shape no_needs)).rules [] words in
    let read = leaf_fine (leaf (serve_shape no_needs)) words serve_rules refl passes in
    record {
      port = may_have_number 0 65535 (codes "port") rows read.fine (λ how v fit. fit);
      sessions = number_at 1 64 (codes "sessions") rows read.fine (given_by (codes "sessions") (leaf (serve_shape no_needs)).rules rows read.given refl) (λ how v fit. fit);
      first = may_have_number 1 65472 (codes "first") rows read.fine (λ how v fit. fit);
      until_close = has_flag (codes "until-close") rows read.fine (λ how v fit. fit);
      until_idle = may_have_number 1 1440 (codes "until-idle") rows read.fine (λ how v fit. fit);
    }

join_has : (words : List Text) → level_fault (leaf join_shape) [] nothing_held words false [] ≡ [] → HasClient (rows_after (leaf join_shape).rules [] words)
join_has words passes =
    let rows = rows_after (leaf join_shape).rules [] words in
    let read = leaf_fine (leaf join_shape) words join_rules refl passes in
    record {
      port = number_at 0 65535 (codes "port") rows read.fine (given_by (codes "port") (leaf join_shape).rules rows read.given refl) (λ how v fit. fit);
      interval = may_have_number 1 60000 (codes "every") rows read.fine (λ how v fit. fit);
      follow = has_flag (codes "follow") rows read.fine (λ how v fit. fit);
      changes = has_flag (codes "changes") rows read.fine (λ how v fit. fit);
      quiet = has_flag (codes "quiet") rows read.fine (λ how v fit. fit);
      no_rescue = has_flag (codes "no-rescue") rows read.fine (λ how v fit. fit);
    }

new_has : (words : List Text) → level_fault (leaf new_document_shape) [] nothing_held words false [] ≡ [] → HasNew (rows_after (leaf new_document_shape).rules [] words)
new_has words passes =
    let rows = rows_after (leaf new_document_shape).rules [] words in
    let read = leaf_fine (leaf new_document_shape) words new_rules refl passes in
    record {
      file = value_at (codes "file") rows read.fine (given_by (codes "file") (leaf new_document_shape).rules rows read.given refl);
      rule = value_at (codes "rule") rows read.fine (given_by (codes "rule") (leaf new_document_shape).rules rows read.given refl);
    }

draw_has : (words : List Text) → level_fault (leaf draw_shape) [] nothing_held words false [] ≡ [] → HasDraw (rows_after (leaf draw_shape).rules [] words)
draw_has words passes =
    let rows = rows_after (leaf draw_shape).rules [] words in
    let read = leaf_fine (leaf draw_shape) words draw_rules refl passes in
    record {
      file = value_at (codes "file") rows read.fine (given_by (codes "file") (leaf draw_shape).rules rows read.given refl);
      replica = number_at 65 65535 (codes "replica") rows read.fine (given_by (codes "replica") (leaf draw_shape).rules rows read.given refl) (λ how v fit. fit);
    }

merge_has : (words : List Text) → level_fault (leaf merge_shape) [] nothing_held words false [] ≡ [] → HasMerge (rows_after (leaf merge_shape).rules [] words)
merge_has words passes =
    let rows = rows_after (leaf merge_shape).rules [] words in
    let read = leaf_fine (leaf merge_shape) words merge_rules refl passes in
    record {
      file = value_at (codes "file") rows read.fine (given_by (codes "file") (leaf merge_shape).rules rows read.given refl);
      others = values_at (codes "other") rows read.fine (given_by (codes "other") (leaf merge_shape).rules rows read.given refl);
      renumber = may_have_number 65 65535 (codes "renumber") rows read.fine (λ how v fit. fit);
    }

diff_has : (words : List Text) → level_fault (leaf diff_shape) [] nothing_held words false [] ≡ [] → HasDiff (rows_after (leaf diff_shape).rules [] words)
diff_has words passes =
    let rows = rows_after (leaf diff_shape).rules [] words in
    let read = leaf_fine (leaf diff_shape) words diff_rules refl passes in
    record {
      file = value_at (codes "file") rows read.fine (given_by (codes "file") (leaf diff_shape).rules rows read.given refl);
      other = value_at (codes "other") rows read.fine (given_by (codes "other") (leaf diff_shape).rules rows read.given refl);
    }

log_has : (words : List Text) → level_fault (leaf log_shape) [] nothing_held words false [] ≡ [] → HasLog (rows_after (leaf log_shape).rules [] words)
log_has words passes =
    let rows = rows_after (leaf log_shape).rules [] words in
    let read = leaf_fine (leaf log_shape) words log_rules refl passes in
    record {
      file = value_at (codes "file") rows read.fine (given_by (codes "file") (leaf log_shape).rules rows read.given refl);
      edits = may_have_number 0 4294967295 (codes "edits") rows read.fine (λ how v fit. fit);
    }

export_has : (words : List Text) → level_fault (leaf export_shape) [] nothing_held words false [] ≡ [] → HasExport (rows_after (leaf export_shape).rules [] words)
export_has words passes =
    let rows = rows_after (leaf export_shape).rules [] words in
    let read = leaf_fine (leaf export_shape) words export_rules refl passes in
    record {
      file = value_at (codes "file") rows read.fine (given_by (codes "file") (leaf export_shape).rules rows read.given refl);
      generation = number_at 0 4294967295 (codes "generation") rows read.fine (given_by (codes "generation") (leaf export_shape).rules rows read.given refl) (λ how v fit. fit);
      edits = may_have_number 0 4294967295 (codes "edits") rows read.fine (λ how v fit. fit);
    }

follow_has : (words : List Text) → level_fault (leaf follow_shape) [] nothing_held words false [] ≡ [] → HasFollow (rows_after (leaf follow_shape).rules [] words)
follow_has words passes =
    let rows = rows_after (leaf follow_shape).rules [] words in
    let read = leaf_fine (leaf follow_shape) words follow_rules refl passes in
    record {
      file = value_at (codes "file") rows read.fine (given_by (codes "file") (leaf follow_shape).rules rows read.given refl);
      from = may_have_number 0 4294967295 (codes "from") rows read.fine (λ how v fit. fit);
      raw = has_flag (codes "raw") rows read.fine (λ how v fit. fit);
    }

feed_has : (words : List Text) → level_fault (leaf feed_shape) [] nothing_held words false [] ≡ [] → HasFeed (rows_after (leaf feed_shape).rules [] words)
feed_has words passes =
    let rows = rows_after (leaf feed_shape).rules [] words in
    let read = leaf_fine (leaf feed_shape) words feed_rules refl passes in
    record { file = value_at (codes "file") rows read.fine (given_by (codes "file") (leaf feed_shape).rules rows read.given refl) }

number_has : (words : List Text) → level_fault (leaf number_shape) [] nothing_held words false [] ≡ [] → HasNumbering (rows_after (leaf number_shape).rules [] words)
number_has words passes =
    let rows = rows_after (leaf number_shape).rules [] words in
    let read = leaf_fine (leaf number_shape) words number_rules refl passes in
    record {
      file = value_at (codes "numbers") rows read.fine (given_by (codes "numbers") (leaf number_shape).rules rows read.given refl);
      name = value_at (codes "name") rows read.fine (given_by (codes "name") (leaf number_shape).rules rows read.given refl);
    }

-- ---- which subcommand the words name

-- each of these has what it needs, where the words behind its name are no fault; but for the one of a name
abbrev HaveAll : Text → List Shape → Type 0
HaveAll name [] = Unit {0}
HaveAll name (s ∷ rest) = (answers_to name (label_of s) ≡ true → (words : List Text) → level_fault s [] nothing_held words false [] ≡ [] → Has s.name (rows_after s.rules [] words)) × HaveAll name rest

found_named : (subs : List Shape) (stop : Text × List Text) → HaveAll stop.0 subs
    → is_some (option_map (λ s. rows_at s stop.1) (find (λ s. answers_to stop.0 (label_of s)) subs)) ≡ true
    → option_map_or (λ s. level_fault s [] nothing_held stop.1 false []) (find (λ s. answers_to stop.0 (label_of s)) subs) [] ≡ []
    → IsNamed (option_map (λ s. rows_at s stop.1) (find (λ s. answers_to stop.0 (label_of s)) subs))
found_named [] stop all some passes = absurd (true≢false (sym some))
found_named (s ∷ rest) stop all some passes = go (answers_to stop.0 (label_of s)) refl some passes (found_named rest stop all.1)
  where
    go : (b : Bool) → answers_to stop.0 (label_of s) ≡ b
        → is_some (option_map (λ s. rows_at s stop.1) (if b then Some s else find (λ s. answers_to stop.0 (label_of s)) rest)) ≡ true
        → option_map_or (λ s. level_fault s [] nothing_held stop.1 false []) (if b then Some s else find (λ s. answers_to stop.0 (label_of s)) rest) [] ≡ []
        → (is_some (option_map (λ s. rows_at s stop.1) (find (λ s. answers_to stop.0 (label_of s)) rest)) ≡ true
        → option_map_or (λ s. level_fault s [] nothing_held stop.1 false []) (find (λ s. answers_to stop.0 (label_of s)) rest) [] ≡ []
        → IsNamed (option_map (λ s. rows_at s stop.1) (find (λ s. answers_to stop.0 (label_of s)) rest)))
        → IsNamed (option_map (λ s. rows_at s stop.1) (if b then Some s else find (λ s. answers_to stop.0 (label_of s)) rest))
    go true is some passes more = record { name = s.name; rows = rows_after s.rules [] stop.1; met = refl; has = all.0 is stop.1 passes }
    go false is some passes more = more some passes

-- `help` is none where a walk stops elsewhere
not_help : (name : Text) (rows : List Row) → bytes_eq name (codes "help") ≡ false → answers_to name (label_of (built_leaf help_shape)) ≡ true → Has (codes "help") rows
not_help name rows other is = go (bytes_eq (codes "help") name) refl is
  where
    go : (b : Bool) → bytes_eq (codes "help") name ≡ b → (b || false) ≡ true → Has (codes "help") rows
    go true same h = (
        let name_is : codes "help" ≡ name = (bytes_eq-Decides (codes "help") name).0 same in
        let helps : bytes_eq name (codes "help") ≡ true = (bytes_eq-Decides name (codes "help")).1 (sym name_is) in
        absurd (true≢false (sym helps ∙ other))
        )
    go false same h = absurd (true≢false (sym h))

all_have : (name : Text) → bytes_eq name (codes "help") ≡ false → HaveAll name whole.subs
all_have name other = ((λ is words passes. tt), ((λ is words passes. tt), ((λ is words passes. rle_has words passes), ((λ is words passes. view_has words passes), ((λ is words passes. convert_has words passes), ((λ is words passes. serve_has words passes), ((λ is words passes. join_has words passes), ((λ is words passes. new_has words passes), ((λ is words passes. draw_has words passes), ((λ is words passes. merge_has words passes), ((λ is words passes. diff_has words passes), ((λ is words passes. log_has words passes), ((λ is words passes. export_has words passes), ((λ is words passes. follow_has words passes), ((λ is words passes. feed_has words passes), ((λ is words passes. number_has words passes), ((λ is words passes. not_help name (rows_after (built_leaf help_shape).rules [] words) other is), tt)))))))))))))))))

entered_named : (stop : Option (Text × List Text)) → is_some (entered whole stop) ≡ true → entered_fault whole stop ≡ [] → stops_at_help stop ≡ false
    → IsNamed (entered whole stop)
entered_named None has passes not_help = absurd (true≢false (sym has))
entered_named (Some stop) has passes not_help = found_named whole.subs stop (all_have stop.0 not_help) has passes

pub words_named : (words : List Text) → fault_of genedit_app words ≡ [] → IsNamed (subcommand_of genedit_app words)
words_named words passes =
    let given = argument_words genedit_app words in
    let end = walk whole.top.rules (names_of whole) nothing_held given in
    let has = is_some (entered whole end.stopped) in
    let parts = level_passes whole.top (names_of whole) nothing_held given has (entered_fault whole end.stopped) passes in
    let end_held = end.held in
    let rows = finished whole.top.rules end_held in
    let there : has ≡ true = go has (asks_subcommand (not has && (whole.top.arg_required_else_help && not (list_any (λ (r : Row). explicit_source r.source) rows)))
    (not has && whole.top.subcommand_required) (not (whole.top.subcommand_negates_reqs && has) && list_any (λ (a : Rule). a.required && not (is_given a.id rows)) whole.top.rules) parts.3) in
    entered_named end.stopped there parts.1 (walk_passes whole.top refl (names_of whole) (walk_from nothing_held) given parts.0 refl)
  where
    go : (has : Bool) → (not has && true) ≡ false → has ≡ true
    go true h = refl
    go false h = absurd (true≢false h)
