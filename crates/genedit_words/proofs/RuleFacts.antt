-- What each use of an option of `genedit` adds: a row with a value that passes the option's parser.
use Rattle.std.proofs.Common.{◌≡◌, ◌∙◌, ◌&&◌, ◌||◌, ◌++◌, ◌⊎◌, Bool, ap, inl, inr, codes, true, false, refl, sym, subst, List, [], ◌∷◌, Option, Some, None, ℕ, suc, length, true≢false, slice_get}
use Rattle.std.specs.Prelude.{if◌then◌else◌, find, pos}
use Rattle.std.specs.Option.{option_map_or}
use Rattle.std.specs.Str.{bytes_eq}
use Rattle.std.proofs.Math.Dec.{eqb-zero-suc}
use Rattle.std.proofs.lemmas.Slice.Eq.{bytes_eq-Decides}
use Rattle.clap.specs.Facts.{explicit_source}
use Rattle.clap.specs.Faults.{action_fault, repeat_fault, use_fault, values_fault}
use Rattle.clap.specs.Kinds.{range_kinds, value_kinds, values_kinds}
use Rattle.clap.specs.Values.{refused_kind}
use Rattle.clap.specs.ValueTests.{accepts}
use Rattle.clap.specs.Walk.{Row, Rule, Text, action_of, default_rows, has_row, more_values, most_values, reading_by, stronger, used_as, with_default, with_values, without}
use Rattle.clap.specs.Facts.{unwrap_or_range}
use Rattle.clap.specs.Takes.{is_given}
use Rattle.clap.specs.declared.builder.action.ArgAction.{ArgAction}
use Rattle.clap.specs.declared.builder.range.ValueRange.{ValueRange}
use Rattle.clap.specs.declared.error.kind.ErrorKind.{ErrorKind}
use Rattle.clap.specs.declared.error.kind.ErrorKind.TheVariants.{WrongNumberOfValues}
use Rattle.clap.specs.declared.builder.action.ArgAction.TheVariants.{Append, Set, SetTrue}
use Rattle.clap.specs.declared.builder.value_parser.Reading.{Reading}
use Rattle.clap.specs.declared.builder.value_parser.Reading.TheVariants as reading
use Rattle.clap.specs.declared.builder.value_parser.ValueParser.{ValueParser}
use Rattle.clap.specs.declared.builder.value_parser.ValueParser.TheVariants as vp
use Rattle.clap.specs.declared.parser.matches.ValueSource.{ValueSource}
use Rattle.clap.specs.declared.parser.matches.ValueSource.TheVariants.{CommandLine, DefaultValue}
use Rattle.genedit_words.proofs.RowFacts.{DefaultsWell, IsWellUsed, UsesWell, all_ok, both_true, changed_values}
use Rattle.genedit_words.proofs.Stops.{both_pass}

abbrev pub drops_minus : Reading → Bool
drops_minus reading.WithoutMinus = true
drops_minus _ = false

abbrev pub keeps_all : Reading → Bool
keeps_all reading.AsWritten = true
keeps_all _ = false

abbrev pub is_flag_text : Text → Bool
is_flag_text v = bytes_eq v (codes "true") || bytes_eq v (codes "false")

-- a value of an argument by its id: a number is one that the option takes, and is read so
abbrev pub fits : Text → Reading → Text → Bool
fits id how v = if bytes_eq id (codes "port") then drops_minus how && accepts false (vp.Signed (pos 0) (pos 65535)) v
    else if bytes_eq id (codes "sessions") then drops_minus how && accepts false (vp.Signed (pos 1) (pos 64)) v
    else if bytes_eq id (codes "first") then drops_minus how && accepts false (vp.Signed (pos 1) (pos 65472)) v
    else if bytes_eq id (codes "gen") then drops_minus how && accepts false (vp.Signed (pos 0) (pos 536870912)) v
    else if bytes_eq id (codes "period") then drops_minus how && accepts false (vp.Signed (pos 1) (pos 65535)) v
    else if bytes_eq id (codes "plain") then keeps_all how && is_flag_text v
    else if bytes_eq id (codes "svg") then keeps_all how && is_flag_text v
    else if bytes_eq id (codes "every") then drops_minus how && accepts false (vp.Signed (pos 1) (pos 60000)) v
    else if bytes_eq id (codes "follow") then keeps_all how && is_flag_text v
    else if bytes_eq id (codes "changes") then keeps_all how && is_flag_text v
    else if bytes_eq id (codes "quiet") then keeps_all how && is_flag_text v
    else if bytes_eq id (codes "no-rescue") then keeps_all how && is_flag_text v
    else if bytes_eq id (codes "until-close") then keeps_all how && is_flag_text v
    else if bytes_eq id (codes "until-idle") then drops_minus how && accepts false (vp.Signed (pos 1) (pos 1440)) v
    else if bytes_eq id (codes "replace") then keeps_all how && is_flag_text v
    else if bytes_eq id (codes "edits") then drops_minus how && accepts false (vp.Signed (pos 0) (pos 4294967295)) v
    else if bytes_eq id (codes "from") then drops_minus how && accepts false (vp.Signed (pos 0) (pos 4294967295)) v
    else if bytes_eq id (codes "raw") then keeps_all how && is_flag_text v
    else if bytes_eq id (codes "generation") then drops_minus how && accepts false (vp.Signed (pos 0) (pos 4294967295)) v
    else if bytes_eq id (codes "replica") then drops_minus how && accepts false (vp.Signed (pos 65) (pos 65535)) v
    else if bytes_eq id (codes "renumber") then drops_minus how && accepts false (vp.Signed (pos 65) (pos 65535)) v
    else true

-- a row has a first value, which fits
abbrev pub ok : Row → Bool
ok r = option_map_or (λ v. fits r.id r.reading v) (slice_get r.values 0) false

-- further values leave the first
more_ok : (source : ValueSource) (values : List Text) (r : Row) → ok r ≡ true → (ok (record r { values = r.values ++ values; source = Some (stronger r.source source) }) && true) ≡ true
more_ok source values r holds = go r.values holds
  where
    go : (xs : List Text) → option_map_or (λ v. fits r.id r.reading v) (slice_get xs 0) false ≡ true
        → (option_map_or (λ v. fits r.id r.reading v) (slice_get (xs ++ values) 0) false && true) ≡ true
    go [] h = absurd (true≢false (sym h))
    go (x ∷ xs) h = rw h refl

-- the row that values on the command line make
abbrev new_row : Rule → ValueSource → List Text → Row
new_row a source values = record { id = a.id; values = values; count = None; source = Some source; reading = reading_by a }

true_and : (b : Bool) → b ≡ true → (b && true) ≡ true
true_and b h = rw h refl

-- values whose first fits are a row that is in order, beside such rows
with_well : (a : Rule) (source : ValueSource) (v : Text) (vs : List Text) (rows : List Row) → fits a.id (reading_by a) v ≡ true → all_ok ok rows ≡ true
    → all_ok ok (with_values a.id (reading_by a) source (v ∷ vs) rows) ≡ true
with_well a source v vs rows fit holds =
    changed_values ok a.id (more_values source (v ∷ vs)) (new_row a source (v ∷ vs) ∷ []) rows (more_ok source (v ∷ vs)) (true_and (fits a.id (reading_by a) v) fit) holds

replaced_well : (a : Rule) (v : Text) (vs : List Text) (rows : List Row) → fits a.id (reading_by a) v ≡ true → all_ok ok rows ≡ true
    → all_ok ok (with_values a.id (reading_by a) CommandLine (v ∷ vs) (without a.id rows)) ≡ true
replaced_well a v vs rows fit holds =
    with_well a CommandLine v vs (without a.id rows) fit (changed_values ok a.id (λ _. []) [] rows (λ r h. refl) refl holds)

-- an option with one value, whose values fit
set_well : (a : Rule) → action_of a ≡ Set → ((rows : List Row) → use_fault false a [] rows ≡ [] → ⊥)
    → ((v : Text) (vs : List Text) → values_fault a (v ∷ vs) ≡ [] → fits a.id (reading_by a) v ≡ true) → UsesWell ok false a
set_well a is_set needs fit [] rows passes holds = absurd (needs rows passes)
set_well a is_set needs fit (v ∷ vs) rows passes holds =
    let both = both_pass (range_kinds (unwrap_or_range a.range).start_inclusive (most_values a) (length (v ∷ vs))) (action_fault (action_of a) false a (v ∷ vs) rows) passes in
    let set : action_fault Set false a (v ∷ vs) rows ≡ [] = subst (λ (act : ArgAction). action_fault act false a (v ∷ vs) rows ≡ []) is_set both.1 in
    let values = both_pass (repeat_fault false a.id rows) (values_fault a (v ∷ vs)) set in
    subst (λ (act : ArgAction). all_ok ok (used_as act a.id (reading_by a) (v ∷ vs) rows) ≡ true) (sym is_set) (replaced_well a v vs rows (fit v vs values.1) holds)

-- one that may be given more than once, a value each time
append_well : (a : Rule) → action_of a ≡ Append → ((rows : List Row) → use_fault false a [] rows ≡ [] → ⊥)
    → ((v : Text) (vs : List Text) → values_fault a (v ∷ vs) ≡ [] → fits a.id (reading_by a) v ≡ true) → UsesWell ok false a
append_well a is_append needs fit [] rows passes holds = absurd (needs rows passes)
append_well a is_append needs fit (v ∷ vs) rows passes holds =
    let both = both_pass (range_kinds (unwrap_or_range a.range).start_inclusive (most_values a) (length (v ∷ vs))) (action_fault (action_of a) false a (v ∷ vs) rows) passes in
    let values : values_fault a (v ∷ vs) ≡ [] = subst (λ (act : ArgAction). action_fault act false a (v ∷ vs) rows ≡ []) is_append both.1 in
    subst (λ (act : ArgAction). all_ok ok (used_as act a.id (reading_by a) (v ∷ vs) rows) ≡ true) (sym is_append) (with_well a CommandLine v vs rows (fit v vs values) holds)

-- a flag, which takes no value and whose own text fits
flag_well : (a : Rule) → action_of a ≡ SetTrue → a.missing ≡ codes "true" ∷ [] → unwrap_or_range a.range ≡ record { start_inclusive = 0; end_inclusive = 0 }
    → fits a.id (reading_by a) (codes "true") ≡ true → UsesWell ok false a
flag_well a is_flag missing none fit (v ∷ vs) rows passes holds =
    let range = unwrap_or_range a.range in
    let both = both_pass (range_kinds range.start_inclusive (most_values a) (length (v ∷ vs))) (action_fault (action_of a) false a (v ∷ vs) rows) passes in
    absurd (takes_none (length vs) (subst (λ (r : ValueRange). range_kinds r.start_inclusive r.end_inclusive (length (v ∷ vs)) ≡ []) none both.0))
  where
    some_kind : (kind : ErrorKind) → (kind ∷ []) ≡ [] → ⊥
    some_kind kind h = cc

    takes_none : (n : ℕ) → range_kinds 0 0 (suc n) ≡ [] → ⊥
    takes_none n h = let is : range_kinds 0 0 (suc n) ≡ WrongNumberOfValues ∷ [] = rw (eqb-zero-suc n) refl in some_kind WrongNumberOfValues (sym is ∙ h)
flag_well a is_flag missing none fit [] rows passes holds =
    subst (λ (act : ArgAction). all_ok ok (used_as act a.id (reading_by a) a.missing rows) ≡ true) (sym is_flag)
    (subst (λ (texts : List Text). all_ok ok (with_values a.id (reading_by a) CommandLine texts (without a.id rows)) ≡ true) (sym missing) (replaced_well a (codes "true") [] rows fit holds))

-- where the values of an option are no fault, the first passes its parser
pub first_passes : (ignore_case : Bool) (p : ValueParser) (v : Text) (vs : List Text) → values_kinds ignore_case p (v ∷ vs) ≡ [] → accepts ignore_case p v ≡ true
first_passes ignore_case p v vs passes =
    go (accepts ignore_case p v) (both_pass (value_kinds ignore_case p v) (values_kinds ignore_case p vs) passes).0
  where
    go : (b : Bool) → (if b then [] else refused_kind p ∷ []) ≡ [] → b ≡ true
    go true h = refl
    go false h = cc

-- an argument without default values adds no row by itself
pub no_default : (rows : List Row) (a : Rule) → a.defaults ≡ [] → all_ok ok rows ≡ true → all_ok ok (with_default rows a) ≡ true
no_default rows a none holds = go (has_row a.id rows)
  where
    go : (b : Bool) → all_ok ok (if b then rows else default_rows a.id (reading_by a) a.defaults rows) ≡ true
    go true = holds
    go false = rw none holds

-- one with a default value that fits adds a row that is in order
fit_default : (rows : List Row) (a : Rule) (v : Text) → a.defaults ≡ v ∷ [] → fits a.id (reading_by a) v ≡ true → all_ok ok rows ≡ true → all_ok ok (with_default rows a) ≡ true
fit_default rows a v is fit holds = go (has_row a.id rows)
  where
    go : (b : Bool) → all_ok ok (if b then rows else default_rows a.id (reading_by a) a.defaults rows) ≡ true
    go true = holds
    go false = subst (λ (texts : List Text). all_ok ok (default_rows a.id (reading_by a) texts rows) ≡ true) (sym is) (with_well a DefaultValue v [] rows fit holds)

-- ---- arguments of which each row is in order

-- so are those of its uses, and that of its default
pub record IsOrderly (a : Rule) : Type 0 where
  pub uses : UsesWell ok false a
  pub default : (rows : List Row) → all_ok ok rows ≡ true → all_ok ok (with_default rows a) ≡ true

abbrev pub AreOrderly : List Rule → Type 0
AreOrderly [] = Unit {0}
AreOrderly (a ∷ rest) = IsOrderly a × AreOrderly rest

-- an argument with a value, and none by default
pub option_orderly : (a : Rule) → action_of a ≡ Set → a.defaults ≡ [] → ((rows : List Row) → use_fault false a [] rows ≡ [] → ⊥)
    → ((v : Text) (vs : List Text) → values_fault a (v ∷ vs) ≡ [] → fits a.id (reading_by a) v ≡ true) → IsOrderly a
option_orderly a is_set none needs fit = record { uses = set_well a is_set needs fit; default = λ rows holds. no_default rows a none holds }

-- one that may be given more than once
pub append_orderly : (a : Rule) → action_of a ≡ Append → a.defaults ≡ [] → ((rows : List Row) → use_fault false a [] rows ≡ [] → ⊥)
    → ((v : Text) (vs : List Text) → values_fault a (v ∷ vs) ≡ [] → fits a.id (reading_by a) v ≡ true) → IsOrderly a
append_orderly a is_append none needs fit = record { uses = append_well a is_append needs fit; default = λ rows holds. no_default rows a none holds }

-- a flag, which is false by default
pub flag_orderly : (a : Rule) → action_of a ≡ SetTrue → a.missing ≡ codes "true" ∷ [] → unwrap_or_range a.range ≡ record { start_inclusive = 0; end_inclusive = 0 } → a.defaults ≡ codes "false" ∷ []
    → fits a.id (reading_by a) (codes "true") ≡ true → fits a.id (reading_by a) (codes "false") ≡ true → IsOrderly a
flag_orderly a is_flag missing none default given_fits default_fits =
    record { uses = flag_well a is_flag missing none given_fits; default = λ rows holds. fit_default rows a (codes "false") default default_fits holds }

pub uses_found : (rules : List Rule) → AreOrderly rules → (p : Rule → Bool) → IsWellUsed ok false (find p rules)
uses_found [] all p = tt
uses_found (a ∷ rest) all p = go (p a) (uses_found rest all.1 p)
  where
    go : (b : Bool) → IsWellUsed ok false (find p rest) → IsWellUsed ok false (if b then Some a else find p rest)
    go true more = all.0.uses
    go false more = more

pub defaults_orderly : (rules : List Rule) → AreOrderly rules → DefaultsWell ok rules
defaults_orderly [] all = tt
defaults_orderly (a ∷ rest) all = (all.0.default, defaults_orderly rest all.1)

-- ---- what is given

-- the row of an id, with its first value
pub record HasValue (id : Text) (rows : List Row) : Type 0 where
  pub row : Row
  pub first : Text
  pub found : find (λ r. bytes_eq r.id id) rows ≡ Some row
  pub value : slice_get row.values 0 ≡ Some first
  pub fit : fits id row.reading first ≡ true

has_first : (r : Row) → ok r ≡ true → (v : Text) × (slice_get r.values 0 ≡ Some v) × (fits r.id r.reading v ≡ true)
has_first r holds = go (slice_get r.values 0) holds
  where
    go : (o : Option Text) → option_map_or (λ v. fits r.id r.reading v) o false ≡ true → (v : Text) × (o ≡ Some v) × (fits r.id r.reading v ≡ true)
    go None h = absurd (true≢false (sym h))
    go (Some v) h = (v, refl, h)

-- an argument has such a row, or none
pub found_value : (id : Text) (rows : List Row) → all_ok ok rows ≡ true → (find (λ r. bytes_eq r.id id) rows ≡ None) ⊎ HasValue id rows
found_value id [] holds = inl refl
found_value id (r ∷ rs) holds = go (bytes_eq r.id id) refl (both_true (ok r) (all_ok ok rs) holds) (found_value id rs)
  where
    go : (b : Bool) → bytes_eq r.id id ≡ b → (ok r ≡ true) × (all_ok ok rs ≡ true)
        → (all_ok ok rs ≡ true → (find (λ r. bytes_eq r.id id) rs ≡ None) ⊎ HasValue id rs)
        → (find (λ r. bytes_eq r.id id) (r ∷ rs) ≡ None) ⊎ HasValue id (r ∷ rs)
    go true same h rest =
        let first = has_first r h.0 in
        let is : r.id ≡ id = (bytes_eq-Decides r.id id).0 same in
        inr (record {
          row = r;
          first = first.0;
          found = rw same refl;
          value = first.1;
          fit = subst (λ (i : Text). fits i r.reading first.0 ≡ true) is first.2;
        })
    go false same h rest = elim (rest h.1) [
      | inl none ↦ inl (rw same none)
      | inr more ↦ inr (record { row = more.row; first = more.first; found = rw same more.found; value = more.value; fit = more.fit })
    ]

-- one that is given has such a row
pub given_value : (id : Text) (rows : List Row) → all_ok ok rows ≡ true → is_given id rows ≡ true → HasValue id rows
given_value id rows holds given = elim (found_value id rows holds) [
  | inl none ↦ absurd (true≢false (sym given ∙ ap (λ (o : Option Row). option_map_or (λ r. explicit_source r.source) o false) none))
  | inr has ↦ has
]
