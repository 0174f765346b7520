-- The words with which the lines of a script and of a client begin.
use Rattle.std.specs.Prelude.{ℕ, List, [], ◌∷◌, codes, Option}
use Rattle.std.specs.List.{find}
use Rattle.std.specs.Str.{bytes_eq}
use Rattle.command_words.specs.declared.dialect.Dialect.{Dialect}
use Rattle.command_words.specs.declared.dialect.Dialect.TheVariants.{Script, Client}
use Rattle.command_words.specs.declared.keyword.Keyword.{Keyword}
use Rattle.command_words.specs.declared.keyword.Keyword.TheVariants.{Rule, Replicas, Cells, Clear, Pattern, End, Turn, Copy, Or, State, Delta, Deliver, Show, Same, Dump, Export, ExportOver, Cut, CutOver, Count, Period, Undo, Redo, Poll, Wait, Sleep, Save, SaveOver, Open, Help, Question, Bye, Quit, Exit}

abbrev pub keyword_name : Keyword → List ℕ
keyword_name Rule = codes "rule"
keyword_name Replicas = codes "replicas"
keyword_name Cells = codes "cells"
keyword_name Clear = codes "clear"
keyword_name Pattern = codes "pattern"
keyword_name End = codes "end"
keyword_name Turn = codes "turn"
keyword_name Copy = codes "copy"
keyword_name Or = codes "or"
keyword_name State = codes "state"
keyword_name Delta = codes "delta"
keyword_name Deliver = codes "deliver"
keyword_name Show = codes "show"
keyword_name Same = codes "same"
keyword_name Dump = codes "dump"
keyword_name Export = codes "export"
keyword_name ExportOver = codes "export!"
keyword_name Cut = codes "cut"
keyword_name CutOver = codes "cut!"
keyword_name Count = codes "count"
keyword_name Period = codes "period"
keyword_name Undo = codes "undo"
keyword_name Redo = codes "redo"
keyword_name Poll = codes "poll"
keyword_name Wait = codes "wait"
keyword_name Sleep = codes "sleep"
keyword_name Save = codes "save"
keyword_name SaveOver = codes "save!"
keyword_name Open = codes "open"
keyword_name Help = codes "help"
keyword_name Question = codes "?"
keyword_name Bye = codes "bye"
keyword_name Quit = codes "quit"
keyword_name Exit = codes "exit"

-- the words of a dialect
abbrev pub keywords_of : Dialect → List Keyword
keywords_of Script = Rule ∷ Replicas ∷ Cells ∷ Clear ∷ Pattern ∷ End ∷ Turn ∷ Copy ∷ Or ∷ State ∷ Delta ∷ Deliver ∷ Show ∷ Same ∷ Dump ∷ Export ∷ Cut ∷ Count ∷ []
keywords_of Client = Cells ∷ Clear ∷ Pattern ∷ End ∷ Turn ∷ Copy ∷ Or ∷ Undo ∷ Redo ∷ Show ∷ Count ∷ Period ∷ Export ∷ ExportOver ∷ Cut ∷ CutOver ∷ Poll ∷ Wait ∷ Sleep ∷ Save ∷ SaveOver ∷ Open ∷ Help ∷ Question ∷ Bye ∷ Quit ∷ Exit ∷ []

-- the one of them that a word is
abbrev pub keyword_spelled : Dialect → List ℕ → Option Keyword
keyword_spelled dialect word = find (λ keyword. bytes_eq word (keyword_name keyword)) (keywords_of dialect)
