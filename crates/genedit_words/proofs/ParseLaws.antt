-- What a parse of the words gives, and what the words ask for by it.
use Rattle.std.proofs.Common.{◌≡◌, ◌∙◌, ◌⊎◌, Bool, codes, true, false, refl, sym, ap, subst, List, [], Option, Some, None}
use Rattle.std.specs.Prelude.{IsSomeAnd, if◌then◌else◌, option_and_then, option_map, Result, Ok, Err, Box}
use Rattle.std.specs.Box.{box_value}
use Rattle.std.specs.Str.{bytes_eq}
use Rattle.std.proofs.lemmas.Slice.Eq.{bytes_eq-Decides}
use Rattle.clap.specs.Walk.{Row, Text}
use Rattle.clap.specs.Kinds.{HasKind, IsAmong}
use Rattle.clap.specs.Values.{kind_of}
use Rattle.clap.specs.declared.error.kind.ErrorKind.{ErrorKind}
use Rattle.clap.specs.declared.error.kind.ErrorKind.TheVariants.{OutOfMemory}
use Rattle.clap.specs.declared.error.Error.{Error}
use Rattle.clap.specs.Simple.{App, subcommand_of, HasMatchesOf, is_simple, subcommand_rows, subcommand_rows_of}
use Rattle.clap.specs.Faults.{fault_of, is_simple_and_free}
use Rattle.clap.specs.Matches.{subcommand_name_of}
use Rattle.clap.specs.declared.parser.matches.ArgMatches.{ArgMatches}
use Rattle.clap.specs.declared.parser.matches.ArgMatches.TheViews.{out-ArgMatches, out-SubCommand}
use Rattle.clap.specs.declared.parser.matches.SubCommand.{SubCommand}
use Rattle.genedit_words.specs.Given.{Has, HasFor, IsNamed}
use Rattle.genedit_words.specs.declared.ending.Ending.TheVariants as ending
use Rattle.genedit_words.specs.declared.needs.Needs.{Needs}
use Rattle.genedit_words.specs.Misspelt.{Misspelt}
use Rattle.genedit_words.specs.Needs.{needs_some, no_needs}
use Rattle.genedit_words.specs.Words.{Asks, EndsWords, IsAsked, Lacks, asked_by, genedit_app, needs_of, server_needs, task_of, tells}
use Rattle.genedit_words.specs.declared.task.Task.{Task}
use Rattle.genedit_words.specs.declared.words.NoTask.{NoTask}
use Rattle.genedit_words.specs.declared.words.NoTask.TheVariants as no_task
use Rattle.genedit_words.specs.Subcommands.{subcommand_named}
use Rattle.genedit_words.specs.declared.subcommand.Subcommand.{Subcommand}
use Rattle.genedit_words.specs.Told.{Told}
use Rattle.genedit_words.proofs.CommandLaws.{words_named}

-- the name of the subcommand that was entered, by its rows
entered_name : (m : ArgMatches) → subcommand_name_of m ≡ option_map (λ p. p.0) (subcommand_rows_of m)
entered_name m = go (out-ArgMatches m).subcommand
  where
    go : {Z : Type 0} (o : Option (Box SubCommand Z)) → option_map (λ b. (out-SubCommand (box_value b)).name.now) o ≡ option_map (λ p. p.0) (subcommand_rows o)
    go None = refl
    go (Some b) = refl

-- ---- a parse of words that are no fault

pub record IsParse (words : List Text) (m : ArgMatches) : Type 0 where
  pub passes : fault_of genedit_app words ≡ []
  pub entered : subcommand_rows_of m ≡ subcommand_of genedit_app words

pub is_parse : (app : App) (words : List Text) (m : ArgMatches) → app ≡ genedit_app → HasMatchesOf app words m
    → (is_simple_and_free app ≡ true → fault_of app words ≡ []) → IsParse words m
is_parse app words m same has passes = record {
  passes = ap (λ (a : App). fault_of a words) (sym same) ∙ passes (ap is_simple_and_free same);
  entered = (has (ap is_simple same)).1 ∙ ap (λ (a : App). subcommand_of a words) same;
}

pub is_named : (words : List Text) (m : ArgMatches) → IsParse words m → IsNamed (subcommand_rows_of m)
is_named words m parse = subst IsNamed (sym parse.entered) (words_named words parse.passes)

pub asks : (words : List Text) (m : ArgMatches) (task : Result Told Misspelt) → IsParse words m → option_and_then task_of (subcommand_rows_of m) ≡ Some task → Asks words task
asks words m task parse asked = (parse.passes, ap (option_and_then task_of) (sym parse.entered) ∙ asked)

pub lacks : (words : List Text) (m : ArgMatches) (needs : Needs) → IsParse words m → option_map needs_of (subcommand_rows_of m) ≡ Some needs → needs_some needs ≡ true → Lacks words needs
lacks words m needs parse holds some = (parse.passes, ap (option_map needs_of) (sym parse.entered) ∙ holds, some)

-- words that are a fault end with an error of its kind, or another of the same
pub ends_words : (app : App) (words : List Text) (error told : Error) → app ≡ genedit_app
    → (is_simple_and_free app ≡ true → HasKind (fault_of app words) error) → kind_of told ≡ kind_of error → EndsWords words (ending.Words told)
ends_words app words error told same kinds like =
    let has : HasKind (fault_of genedit_app words) error = subst (λ (a : App). HasKind (fault_of a words) error) same (kinds (ap is_simple_and_free same)) in
    subst (λ (kind : ErrorKind). (kind ≡ OutOfMemory) ⊎ IsAmong kind (fault_of genedit_app words)) (sym like) has

-- ---- which subcommand it is

-- the name that was asked for, and the rows of what was found under it
module _ (m : ArgMatches) (rows : List Row) (named : IsNamed (subcommand_rows_of m)) where
  same_name : (name : Text) → subcommand_name_of m ≡ Some name → named.name ≡ name
  same_name name found = let both : Some named.name ≡ Some name = sym (entered_name m ∙ ap (option_map (λ (p : Text × List Row). p.0)) named.met) ∙ found in cc

  same_rows : option_map (λ p. p.1) (subcommand_rows_of m) ≡ Some rows → named.rows ≡ rows
  same_rows found = let both : Some named.rows ≡ Some rows = sym (ap (option_map (λ (p : Text × List Row). p.1)) named.met) ∙ found in cc

  pub is_met : (name : Text) → subcommand_name_of m ≡ Some name → option_map (λ p. p.1) (subcommand_rows_of m) ≡ Some rows
      → (subcommand_rows_of m ≡ Some (name, rows)) × Has name rows
  is_met name found rows_found =
      let n = same_name name found in
      let r = same_rows rows_found in
      let has = subst (λ (t : Text). Has t named.rows) n named.has in (
        named.met ∙ (ap (λ (t : Text). Some (t, named.rows)) n ∙ ap (λ (rs : List Row). Some (name, rs)) r),
        subst (λ (rs : List Row). Has name rs) r has,
      )

-- the subcommand of the name has what it needs, and what it asks for is what is asked for
pub has_for : (name : Text) (rows : List Row) (s : Subcommand) → Has name rows → subcommand_named name ≡ Some s → HasFor s rows
has_for name rows s has is = subst (λ (o : Option Subcommand). IsSomeAnd o (λ t. HasFor t rows)) is has

pub none_has : (name : Text) (rows : List Row) → Has name rows → subcommand_named name ≡ None → ⊥
none_has name rows has is = subst (λ (o : Option Subcommand). IsSomeAnd o (λ t. HasFor t rows)) is has

pub asked_for : (entered : Option (Text × List Row)) (name : Text) (rows : List Row) (s : Subcommand) → entered ≡ Some (name, rows) → subcommand_named name ≡ Some s → option_and_then task_of entered ≡ asked_by s rows
asked_for entered name rows s met is = ap (option_and_then task_of) met ∙ ap (option_and_then (λ (t : Subcommand). asked_by t rows)) is

-- nothing is asked for without a subcommand
pub none_entered : (m : ArgMatches) → IsNamed (subcommand_rows_of m) → subcommand_name_of m ≡ None → ⊥
none_entered m named none = let both : Some named.name ≡ None = sym (entered_name m ∙ ap (option_map (λ (p : Text × List Row). p.0)) named.met) ∙ none in absurd (cc)

-- what is told by a task is asked for
pub is_asked : (asked : Option (Result Told Misspelt)) (r : Result Task NoTask) → asked ≡ tells r → IsAsked asked r
is_asked asked (Ok task) h = h
is_asked asked (Err (no_task.Rule rule)) h = h
is_asked asked (Err (no_task.Web web)) h = h
is_asked asked (Err no_task.Memory) h = tt

-- ---- what a server lacks

-- it is told where a server is entered
pub needs_by : (entered : Option (Text × List Row)) (rows : List Row) → entered ≡ Some (codes "serve", rows) → option_map needs_of entered ≡ Some (server_needs rows)
needs_by entered rows met = ap (option_map needs_of) met

-- nothing, where that is told
pub lacks_nothing : (entered : Option (Text × List Row)) (needs : Needs) → option_map needs_of entered ≡ Some needs → needs_some needs ≡ false → option_map (λ e. needs_some (needs_of e)) entered ≡ Some false
lacks_nothing None needs told none = cc
lacks_nothing (Some e) needs told none = let same : needs_of e ≡ needs = cc in ap (λ (n : Needs). Some (needs_some n)) same ∙ ap (λ (b : Bool). Some b) none

pub server_lacks_nothing : (entered : Option (Text × List Row)) (rows : List Row) → entered ≡ Some (codes "serve", rows) → option_map (λ e. needs_some (needs_of e)) entered ≡ Some false → needs_some (server_needs rows) ≡ false
server_lacks_nothing entered rows met holds =
    let both : Some (needs_some (server_needs rows)) ≡ Some false = sym (ap (option_map (λ (e : Text × List Row). needs_some (needs_of e))) met) ∙ holds in cc

-- where no server was entered, nothing is lacking
pub none_lacks : (m : ArgMatches) → IsNamed (subcommand_rows_of m) → (subcommand_name_of m ≡ Some (codes "serve") → ⊥) → option_map needs_of (subcommand_rows_of m) ≡ Some no_needs
none_lacks m named not_serve = ap (option_map needs_of) named.met ∙ go (bytes_eq named.name (codes "serve")) refl
  where
    go : (b : Bool) → bytes_eq named.name (codes "serve") ≡ b → Some (if b then server_needs named.rows else no_needs) ≡ Some no_needs
    go false same = refl
    go true same =
        let is : named.name ≡ codes "serve" = (bytes_eq-Decides named.name (codes "serve")).0 same in
        absurd (not_serve (entered_name m ∙ (ap (option_map (λ (p : Text × List Row). p.0)) named.met ∙ ap (λ (t : Text). Some t) is)))
