-- What words that are no fault have.
use Rattle.std.specs.Prelude.{IfSome, IsSomeAnd, ◌≡◌, ◌⊎◌, ◌≤◌, ⊤, None, ℕ, List, Option, Some, codes, pos}
use Rattle.std.specs.Option.{IsSome}
use Rattle.clap.specs.Values.{IsSignedIn}
use Rattle.clap.specs.Words.{Row, Text, first_of, one_of, without_minus}
use Rattle.clap.specs.Walk.{all_of}
use Rattle.genedit_words.specs.declared.subcommand.Subcommand.{Subcommand}
use Rattle.genedit_words.specs.declared.subcommand.Subcommand.TheVariants as subcommand
use Rattle.genedit_words.specs.Subcommands.{subcommand_named}
use Rattle.genedit_words.specs.declared.task.ServeTask.{ServeTask}
use Rattle.genedit_words.specs.declared.task.Task.{Task}
use Rattle.genedit_words.specs.declared.task.Task.TheVariants.{Draw, Join, Merge, Serve}

-- a text at a place
abbrev pub HasText : Text → List Row → Type 0
HasText id rows = (text : Text) × (first_of id rows ≡ Some text)

-- a text for a rule
abbrev pub HasRule : List Row → Type 0
HasRule rows = (text : Text) × (first_of (codes "rule") rows ≡ Some text)

-- a number from low to high
pub record HasNumber (low high : ℕ) (id : Text) (rows : List Row) : Type 0 where
  pub text : Text
  pub read : one_of id rows ≡ Some (without_minus text)
  pub within : IsSignedIn (pos low) (pos high) text

-- a number from low to high, or none
abbrev pub MayHaveNumber : ℕ → ℕ → Text → List Row → Type 0
MayHaveNumber low high id rows = (one_of id rows ≡ None) ⊎ HasNumber low high id rows

-- a flag that was given, one that was not, or none
abbrev pub HasFlag : Text → List Row → Type 0
HasFlag id rows = (one_of id rows ≡ Some (codes "true")) ⊎ ((one_of id rows ≡ Some (codes "false")) ⊎ (one_of id rows ≡ None))

-- what a server needs, beside a rule or a file and a port or a web port, and may be asked with
pub record HasServer (rows : List Row) : Type 0 where
  pub port : MayHaveNumber 0 65535 (codes "port") rows
  pub sessions : HasNumber 1 64 (codes "sessions") rows
  pub first : MayHaveNumber 1 65472 (codes "first") rows
  pub until_close : HasFlag (codes "until-close") rows
  pub until_idle : MayHaveNumber 1 1440 (codes "until-idle") rows

-- what a picture may be asked with
pub record HasView (rows : List Row) : Type 0 where
  pub generation : MayHaveNumber 0 536870912 (codes "gen") rows
  pub edits : MayHaveNumber 0 4294967295 (codes "edits") rows
  pub period : MayHaveNumber 1 65535 (codes "period") rows
  pub plain : HasFlag (codes "plain") rows
  pub svg : HasFlag (codes "svg") rows

-- what a conversion needs, and may be asked with
pub record HasConversion (rows : List Row) : Type 0 where
  pub input : HasText (codes "in") rows
  pub output : HasText (codes "out") rows
  pub generation : MayHaveNumber 0 536870912 (codes "gen") rows
  pub replace : HasFlag (codes "replace") rows

-- what a client needs, and may be asked with
pub record HasClient (rows : List Row) : Type 0 where
  pub port : HasNumber 0 65535 (codes "port") rows
  pub interval : MayHaveNumber 1 60000 (codes "every") rows
  pub follow : HasFlag (codes "follow") rows
  pub changes : HasFlag (codes "changes") rows
  pub quiet : HasFlag (codes "quiet") rows
  pub no_rescue : HasFlag (codes "no-rescue") rows

-- texts, one at least
abbrev pub HasTexts : Text → List Row → Type 0
HasTexts id rows = (texts : List Text) × (all_of id rows ≡ Some texts)

pub record HasNew (rows : List Row) : Type 0 where
  pub file : HasText (codes "file") rows
  pub rule : HasRule rows

pub record HasDraw (rows : List Row) : Type 0 where
  pub file : HasText (codes "file") rows
  pub replica : HasNumber 65 65535 (codes "replica") rows

pub record HasMerge (rows : List Row) : Type 0 where
  pub file : HasText (codes "file") rows
  pub others : HasTexts (codes "other") rows
  pub renumber : MayHaveNumber 65 65535 (codes "renumber") rows

pub record HasDiff (rows : List Row) : Type 0 where
  pub file : HasText (codes "file") rows
  pub other : HasText (codes "other") rows

pub record HasLog (rows : List Row) : Type 0 where
  pub file : HasText (codes "file") rows
  pub edits : MayHaveNumber 0 4294967295 (codes "edits") rows

pub record HasExport (rows : List Row) : Type 0 where
  pub file : HasText (codes "file") rows
  pub generation : HasNumber 0 4294967295 (codes "generation") rows
  pub edits : MayHaveNumber 0 4294967295 (codes "edits") rows

pub record HasFollow (rows : List Row) : Type 0 where
  pub file : HasText (codes "file") rows
  pub from : MayHaveNumber 0 4294967295 (codes "from") rows
  pub raw : HasFlag (codes "raw") rows

pub record HasFeed (rows : List Row) : Type 0 where
  pub file : HasText (codes "file") rows

pub record HasNumbering (rows : List Row) : Type 0 where
  pub file : HasText (codes "numbers") rows
  pub name : HasText (codes "name") rows

-- what a subcommand needs
abbrev pub HasFor : Subcommand → List Row → Type 0
HasFor subcommand.Run rows = ⊤
HasFor subcommand.Check rows = ⊤
HasFor subcommand.Rle rows = HasRule rows
HasFor subcommand.View rows = HasView rows
HasFor subcommand.Convert rows = HasConversion rows
HasFor subcommand.Serve rows = HasServer rows
HasFor subcommand.Join rows = HasClient rows
HasFor subcommand.New rows = HasNew rows
HasFor subcommand.Draw rows = HasDraw rows
HasFor subcommand.Merge rows = HasMerge rows
HasFor subcommand.Diff rows = HasDiff rows
HasFor subcommand.Log rows = HasLog rows
HasFor subcommand.Export rows = HasExport rows
HasFor subcommand.Follow rows = HasFollow rows
HasFor subcommand.Feed rows = HasFeed rows
HasFor subcommand.Number rows = HasNumbering rows

-- the same, by its name
abbrev pub Has : Text → List Row → Type 0
Has name rows = IsSomeAnd (subcommand_named name) (λ s. HasFor s rows)

-- a subcommand is named, and has what it needs
pub record IsNamed (entered : Option (Text × List Row)) : Type 0 where
  pub name : Text
  pub rows : List Row
  pub met : entered ≡ Some (name, rows)
  pub has : Has name rows

-- a server that no file is named for has a rule, and any has 1 to 64 sessions, the first of a number from 1 on, the last of one of 16 bits;
-- one without a port has a web port, and one that ends by itself waits 1 to 1440 minutes for somebody
abbrev pub IsServable : ServeTask → Type 0
IsServable server = (server.keep ≡ None → IsSome server.rule) × (1 ≤ server.sessions) × (server.sessions ≤ 64) × (1 ≤ server.first) × (server.first ≤ 65472)
    × (server.port ≡ None → IsSome server.web) × IfSome server.until_idle (λ minutes. (1 ≤ minutes) × (minutes ≤ 1440))

-- a server can be served; a client lets 1 to 60,000 milliseconds pass between two polls; whoever draws in a
-- document has a number that is no seat's, and so has whoever gets edits that clash
abbrev pub IsInRange : Task → Type 0
IsInRange (Serve server) = IsServable server
IsInRange (Join client) = (1 ≤ client.interval) × (client.interval ≤ 60000)
IsInRange (Draw drawing) = (65 ≤ drawing.replica) × (drawing.replica ≤ 65535)
IsInRange (Merge merging) = IfSome merging.renumber (λ number. (65 ≤ number) × (number ≤ 65535))
IsInRange _ = ⊤
