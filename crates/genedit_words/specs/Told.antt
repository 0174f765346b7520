-- What words can ask for, as plain data.
use Rattle.std.specs.Prelude.{ℕ, Bool, List, map, Option, option_map, Result, Ok, Err}
use Rattle.generations_rule.specs.Rule.{GenerationsRule}
use Rattle.genedit_words.specs.Misspelt.{Misspelt, NoRule, NoWeb}
use Rattle.genedit_words.specs.declared.misspelt.MisspeltRule.{MisspeltRule}
use Rattle.genedit_words.specs.declared.misspelt.MisspeltWeb.{MisspeltWeb}
use Rattle.genedit_words.specs.declared.task.JoinTask.{JoinTask}
use Rattle.genedit_words.specs.declared.task.Task.{Task}
use Rattle.genedit_words.specs.declared.task.WebTask.{WebTask}
use Rattle.genedit_words.specs.declared.task.Task.TheVariants as task

-- what is asked of a picture
pub record Viewed : Type 0 where
  pub file : Option (List ℕ)
  pub rule : Option GenerationsRule
  pub at : Option (List ℕ)
  pub size : Option (List ℕ)
  pub generation : Option ℕ
  pub edits : Option ℕ
  pub longest_period : Option ℕ
  pub chart : Option (List ℕ)
  pub is_plain : Bool
  pub is_svg : Bool

-- what is asked of a conversion
pub record Conversion : Type 0 where
  pub file : Option (List ℕ)
  pub output : List ℕ
  pub rule : Option GenerationsRule
  pub generation : Option ℕ
  pub replaces : Bool

-- what is asked of a web port
pub record WebServed : Type 0 where
  pub address : Option (List ℕ)
  pub port : ℕ
  pub url : Option (List ℕ)

-- what is asked of a server
pub record Served : Type 0 where
  pub rule : Option GenerationsRule
  pub port : Option ℕ
  pub sessions : ℕ
  pub first : ℕ
  pub keep : Option (List ℕ)
  pub until_close : Bool
  pub web : Option WebServed
  pub until_idle : Option ℕ

pub data Told : Type 0 where
  Run : (file : Option (List ℕ)) → Told
  Rle : (file : Option (List ℕ)) → (rule : GenerationsRule) → Told
  Serve : (served : Served) → Told
  Check : (file : Option (List ℕ)) → Told
  View : (viewed : Viewed) → Told
  Join : (client : JoinTask) → Told
  Convert : (conversion : Conversion) → Told
  New : (file : List ℕ) → (rule : GenerationsRule) → Told
  Draw : (file : List ℕ) → (replica : ℕ) → Told
  Merge : (file : List ℕ) → (others : List (List ℕ)) → (renumber : Option ℕ) → Told
  Diff : (file : List ℕ) → (other : Option (List ℕ)) → Told
  Log : (file : Option (List ℕ)) → (edits : Option ℕ) → Told
  Export : (file : Option (List ℕ)) → (generation : ℕ) → (edits : Option ℕ) → Told
  Follow : (file : List ℕ) → (from : Option ℕ) → (is_raw : Bool) → Told
  Feed : (file : List ℕ) → Told
  Number : (file : List ℕ) → (name : List ℕ) → Told

-- what a web port is, by its texts
abbrev pub web_told : WebTask → WebServed
web_told web = record {
  address = option_map (λ s. s.now) web.address;
  port = web.port;
  url = option_map (λ s. s.now) web.url;
}

-- what a task is, by its texts
abbrev pub told_of : Task → Told
told_of (task.Run file) = Run (option_map (λ s. s.now) file)
told_of (task.Rle form) = Rle (option_map (λ s. s.now) form.file) form.rule
told_of (task.Serve server) = Serve (record {
  rule = server.rule;
  port = server.port;
  sessions = server.sessions;
  first = server.first;
  keep = option_map (λ s. s.now) server.keep;
  until_close = server.until_close;
  web = option_map web_told server.web;
  until_idle = server.until_idle;
})
told_of (task.Join client) = Join client
told_of (task.Check file) = Check (option_map (λ s. s.now) file)
told_of (task.View viewing) = View (record {
  file = option_map (λ s. s.now) viewing.file;
  rule = viewing.rule;
  at = option_map (λ s. s.now) viewing.at;
  size = option_map (λ s. s.now) viewing.size;
  generation = viewing.generation;
  edits = viewing.edits;
  longest_period = viewing.longest_period;
  chart = option_map (λ s. s.now) viewing.chart;
  is_plain = viewing.is_plain;
  is_svg = viewing.is_svg;
})
told_of (task.Convert converting) = Convert (record {
  file = option_map (λ s. s.now) converting.file;
  output = converting.output.now;
  rule = converting.rule;
  generation = converting.generation;
  replaces = converting.replaces;
})
told_of (task.New new) = New new.file.now new.rule
told_of (task.Draw drawing) = Draw drawing.file.now drawing.replica
told_of (task.Merge merging) = Merge merging.file.now (map (λ s. s.now) merging.others.items) merging.renumber
told_of (task.Diff diff) = Diff diff.file.now (option_map (λ s. s.now) diff.other)
told_of (task.Log log) = Log (option_map (λ s. s.now) log.file) log.edits
told_of (task.Export export) = Export (option_map (λ s. s.now) export.file) export.generation export.edits
told_of (task.Follow following) = Follow following.file.now following.from following.is_raw
told_of (task.Feed feed) = Feed feed.file.now
told_of (task.Number numbering) = Number numbering.file.now numbering.name.now

-- what was looked for, or the word that spells no rule
abbrev pub or_misspelt : {T : Type 0} → Result T MisspeltRule → Result T Misspelt
or_misspelt (Ok x) = Ok x
or_misspelt (Err wrong) = Err (NoRule wrong.text.now wrong.why)

-- the web port that was looked for, or the word that spells none
abbrev pub or_no_web : Result (Option WebTask) MisspeltWeb → Result (Option WebServed) Misspelt
or_no_web (Ok web) = Ok (option_map web_told web)
or_no_web (Err wrong) = Err (NoWeb wrong.text.now)

-- a task, or why there is none
abbrev pub told : Result Task MisspeltRule → Result Told Misspelt
told (Ok task) = Ok (told_of task)
told (Err wrong) = Err (NoRule wrong.text.now wrong.why)
