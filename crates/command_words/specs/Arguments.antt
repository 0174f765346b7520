-- What stands behind the words with which lines begin.
use Rattle.std.specs.Prelude.{List, [], ◌∷◌}
use Rattle.command_words.specs.declared.argument.Argument.{Argument}
use Rattle.command_words.specs.declared.argument.Argument.TheVariants as argument
use Rattle.command_words.specs.declared.dialect.Dialect.{Dialect}
use Rattle.command_words.specs.declared.dialect.Dialect.TheVariants.{Script, Client}
use Rattle.command_words.specs.declared.keyword.Keyword.{Keyword}
use Rattle.command_words.specs.declared.keyword.Keyword.TheVariants as keyword

-- what stands behind each in a script, and in a client's lines but for a replica in front
abbrev pub script_arguments : Keyword → List Argument
script_arguments keyword.Rule = argument.Rule ∷ []
script_arguments keyword.Replicas = argument.Replicas ∷ []
script_arguments keyword.Cells = argument.Replica ∷ []
script_arguments keyword.Clear = argument.Replica ∷ argument.X ∷ argument.Y ∷ argument.Width ∷ argument.Height ∷ []
script_arguments keyword.Pattern = argument.Name ∷ []
script_arguments keyword.End = []
script_arguments keyword.Turn = argument.Name ∷ argument.NewName ∷ argument.Turn ∷ []
script_arguments keyword.Copy = argument.Replica ∷ argument.Name ∷ argument.X ∷ argument.Y ∷ []
script_arguments keyword.Or = argument.Replica ∷ argument.Name ∷ argument.X ∷ argument.Y ∷ []
script_arguments keyword.State = argument.Replica ∷ []
script_arguments keyword.Delta = argument.Replica ∷ argument.From ∷ argument.Count ∷ []
script_arguments keyword.Deliver = argument.Message ∷ argument.Replica ∷ []
script_arguments keyword.Show = argument.Replica ∷ argument.X ∷ argument.Y ∷ []
script_arguments keyword.Same = argument.OneReplica ∷ argument.OtherReplica ∷ []
script_arguments keyword.Dump = argument.Message ∷ []
script_arguments keyword.Export = argument.Replica ∷ argument.Generation ∷ []
script_arguments keyword.ExportOver = argument.Generations ∷ argument.NewFile ∷ []
script_arguments keyword.Cut = argument.Replica ∷ argument.X ∷ argument.Y ∷ argument.Width ∷ argument.Height ∷ argument.Generation ∷ []
script_arguments keyword.CutOver = argument.X ∷ argument.Y ∷ argument.Width ∷ argument.Height ∷ argument.Generation ∷ argument.NewFile ∷ []
script_arguments keyword.Count = argument.Replica ∷ []
script_arguments keyword.Period = argument.Most ∷ []
script_arguments keyword.Undo = []
script_arguments keyword.Redo = []
script_arguments keyword.Poll = []
script_arguments keyword.Wait = argument.Edits ∷ []
script_arguments keyword.Sleep = argument.Milliseconds ∷ []
script_arguments keyword.Save = argument.NewFile ∷ []
script_arguments keyword.SaveOver = argument.NewFile ∷ []
script_arguments keyword.Open = argument.File ∷ []
script_arguments keyword.Help = []
script_arguments keyword.Question = []
script_arguments keyword.Bye = []
script_arguments keyword.Quit = []
script_arguments keyword.Exit = []

-- the arguments behind a replica's number
abbrev pub without_replica : List Argument → List Argument
without_replica (argument.Replica ∷ behind) = behind
without_replica arguments = arguments

-- what stands behind a word; a client's export may be of a range of generations
abbrev pub arguments_of : Dialect → Keyword → List Argument
arguments_of Client keyword.Export = argument.Generations ∷ []
arguments_of Script keyword = script_arguments keyword
arguments_of Client keyword = without_replica (script_arguments keyword)

-- what may stand behind that once, and may be left out
abbrev pub optional_of : Dialect → Keyword → List Argument
optional_of Client keyword.Export = argument.NewFile ∷ []
optional_of Client keyword.Cut = argument.NewFile ∷ []
optional_of Client keyword.Wait = argument.Milliseconds ∷ []
optional_of Client keyword.Period = argument.Generation ∷ []
optional_of Client keyword.Count = argument.Generations ∷ []
optional_of Script keyword.Count = argument.Generation ∷ []
optional_of dialect keyword = []

-- what stands behind that once or more often
abbrev pub repeated_of : Keyword → List Argument
repeated_of keyword.Cells = argument.X ∷ argument.Y ∷ argument.State ∷ []
repeated_of keyword = []
