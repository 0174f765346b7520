-- What a script prints: a line for each command.
use Rattle.std.specs.Prelude.{◌≡◌, ℕ, List, [], ◌∷◌, ◌++◌, length, map, if◌then◌else◌, codes, decimal, bytes_eq, option_map, Option, Some, None, Result, Ok, Err}
use Rattle.std.specs.Fmt.{signed_decimal}
use Rattle.multistate_rle.specs.declared.fault.RleFault.{RleFault}
use Rattle.export.specs.declared.asking.Count.{Count}
use Rattle.pattern_cells.specs.declared.window.Window.{Window}
use Rattle.pattern_cells.specs.Pattern.{RlePattern}
use Rattle.pattern_turns.specs.Turning.{turned_pattern}
use Rattle.multistate_rle.specs.Reading.{parsed}
use Rattle.multistate_rle.specs.RleFault.{text_fault_number, text_fault_text}
use Rattle.stamped_writes.specs.declared.write.Write.{Write}
use Rattle.edit_stamps.specs.Stamp.{counter_in, replica_in}
use Rattle.replica_events.specs.declared.event.Event.{Event}
use Rattle.replica_events.specs.declared.event.Event.TheVariants.{Draw}
use Rattle.hex.specs.Hex.{encode_lower}
use Rattle.replica_core.specs.declared.event.Reply.{Reply}
use Rattle.replica_core.specs.declared.event.Reply.TheVariants.{Drawn, Sent, Taken, Shown, Same, Bytes, Text, Counted, Refused}
use Rattle.replica_events.specs.declared.edit_spec.EditSpec.{EditSpec}
use Rattle.replica_events.specs.declared.edit_spec.EditSpec.TheVariants.{Copy, Or}
use Rattle.replica_core.specs.Fault.{replica_fault_number, replica_fault_text}
use Rattle.replica_core.specs.World.{opening, AreReplies}
use Rattle.genedit_io.specs.RunFault.{name_of_number}
use Rattle.genedit_script.specs.declared.command.Command.{Command}
use Rattle.genedit_script.specs.declared.command.Command.TheVariants.{Does, Names, Copies, Ors, Turns}
use Rattle.genedit_script.specs.declared.command.Turning.{Turning}
use Rattle.genedit_script.specs.Script.{ScriptValue}

-- ---- steps and lines

-- what a command comes to: an event of the world, whose reply is printed, or a text of its own
pub data ScriptStep : Type 0 where
  Happens : (event : Event) → ScriptStep
  Says : (text : List ℕ) → ScriptStep

-- what is printed at a command: the line of the next reply, or a line of its own
pub data OutputLine : Type 0 where
  ReplyLine : OutputLine
  OwnLine : (text : List ℕ) → OutputLine

-- ---- the line of a reply

-- counter and replica of a stamp; 0 and 0 of no stamp
abbrev pub stamp_text : ℕ → List ℕ
stamp_text stamp = decimal (counter_in stamp) ++ codes " " ++ decimal (replica_in stamp)

-- what took something back, by what is said of it, and its counter and replica
abbrev pub taken_back_line : List ℕ → ℕ → List ℕ
taken_back_line said stamp = said ++ codes " " ++ stamp_text stamp ++ codes "\n"

-- state, counter and replica
abbrev pub write_text : Write → List ℕ
write_text write = codes "cell " ++ decimal write.state ++ codes " " ++ stamp_text write.stamp

-- a refusal by its number and its name
abbrev pub refused_text : ℕ → List ℕ → List ℕ
refused_text number name = codes "refused " ++ decimal number ++ codes " " ++ name

-- the corner and the sides of the least box that has some cells; nothing where there is none
abbrev pub box_text : Option Window → List ℕ
box_text None = []
box_text (Some box) =
    codes " box " ++ signed_decimal box.x ++ codes " " ++ signed_decimal box.y ++ codes " " ++ decimal box.width ++ codes " " ++ decimal box.height

-- how many cells there are, and where
abbrev pub count_line : Count → List ℕ
count_line count = codes "cells " ++ decimal count.cells ++ box_text count.extent ++ codes "\n"

-- what is printed of a reply, with the end of its line; an RLE text has its own
abbrev pub reply_line : Reply → List ℕ
reply_line (Drawn stamp) = codes "drawn " ++ stamp_text stamp ++ codes "\n"
reply_line (Sent message) = codes "sent " ++ decimal message ++ codes "\n"
reply_line Taken = codes "taken\n"
reply_line (Shown write) = write_text write ++ codes "\n"
reply_line (Same same) = if same then codes "same\n" else codes "differ\n"
reply_line (Bytes text) = encode_lower text ++ codes "\n"
reply_line (Text text) = text
reply_line (Counted count) = count_line count
reply_line (Refused fault) = refused_text (replica_fault_number fault) (replica_fault_text fault) ++ codes "\n"

-- ---- the lines of patterns

-- width, height, number of nonzero cells, position and generation of a named pattern
abbrev pub pattern_line : List ℕ → RlePattern → List ℕ
pattern_line name p =
    codes "pattern " ++ name ++ codes " " ++ decimal p.width ++ codes " " ++ decimal p.height ++ codes " " ++ decimal (length p.cells)
    ++ codes " " ++ signed_decimal p.pos.0 ++ codes " " ++ signed_decimal p.pos.1 ++ codes " " ++ decimal p.generation

-- what is said of a text that was given a name
abbrev pub naming_text : List ℕ → Result RlePattern RleFault → List ℕ
naming_text name (Ok pattern) = pattern_line name pattern
naming_text name (Err fault) = refused_text (text_fault_number fault) (text_fault_text fault)

-- no pattern has the name
abbrev pub no_pattern_line : List ℕ
no_pattern_line = refused_text 38 (name_of_number 38)

-- what is said of a pattern that was turned and given a name, or of none
abbrev pub turning_text : List ℕ → Option RlePattern → List ℕ
turning_text name (Some pattern) = pattern_line name pattern
turning_text name None = no_pattern_line

-- ---- names

-- which pattern each name stands for
abbrev pub NamedPatterns : Type 0
NamedPatterns = List ℕ → Option RlePattern

abbrev pub no_patterns : NamedPatterns
no_patterns name = None

abbrev pub with_pattern : NamedPatterns → List ℕ → RlePattern → NamedPatterns
with_pattern patterns name pattern other = if bytes_eq name other then Some pattern else patterns other

-- a text that is no pattern leaves its name as it was
abbrev pub with_text : NamedPatterns → List ℕ → Result RlePattern RleFault → NamedPatterns
with_text patterns name (Ok pattern) = with_pattern patterns name pattern
with_text patterns name (Err fault) = patterns

-- no pattern leaves the name as it was
abbrev pub with_named : NamedPatterns → List ℕ → Option RlePattern → NamedPatterns
with_named patterns name (Some pattern) = with_pattern patterns name pattern
with_named patterns name None = patterns

-- the pattern of a name, turned
abbrev pub turned_named : NamedPatterns → Turning → Option RlePattern
turned_named patterns turning = option_map (turned_pattern turning.turn) (patterns turning.name)

-- ---- commands

-- the draw of a paste, or that no pattern has its name
abbrev pub paste_step : ℕ → Option EditSpec → ScriptStep
paste_step replica (Some spec) = Happens (Draw replica spec)
paste_step replica None = Says no_pattern_line

-- what a command comes to
abbrev pub command_step : NamedPatterns → Command → ScriptStep
command_step patterns (Does event) = Happens event
command_step patterns (Names name text) = Says (naming_text name (parsed text))
command_step patterns (Turns turning) = Says (turning_text turning.new_name (turned_named patterns turning))
command_step patterns (Copies paste) = paste_step paste.replica (option_map (λ pattern. Copy pattern paste.x paste.y) (patterns paste.name))
command_step patterns (Ors paste) = paste_step paste.replica (option_map (λ pattern. Or pattern paste.x paste.y) (patterns paste.name))

-- the names after a command
abbrev pub after_command : NamedPatterns → Command → NamedPatterns
after_command patterns (Names name text) = with_text patterns name (parsed text)
after_command patterns (Turns turning) = with_named patterns turning.new_name (turned_named patterns turning)
after_command patterns (Does event) = patterns
after_command patterns (Copies paste) = patterns
after_command patterns (Ors paste) = patterns

-- the steps of commands; names are looked up as the commands go
abbrev pub steps : NamedPatterns → List Command → List ScriptStep
steps patterns [] = []
steps patterns (command ∷ commands) = command_step patterns command ∷ steps (after_command patterns command) commands

-- the events among the steps
abbrev pub events_among : List ScriptStep → List Event
events_among [] = []
events_among (Happens event ∷ steps) = event ∷ events_among steps
events_among (Says text ∷ steps) = events_among steps

-- what is printed of a step: of an event the line of its reply
abbrev pub step_line : ScriptStep → OutputLine
step_line (Happens event) = ReplyLine
step_line (Says text) = OwnLine text

-- lines with the replies in their places, in order
abbrev pub filled : List OutputLine → List Reply → List ℕ
filled [] replies = []
filled (ReplyLine ∷ rest) [] = []
filled (ReplyLine ∷ rest) (reply ∷ replies) = reply_line reply ++ filled rest replies
filled (OwnLine text ∷ rest) replies = (text ++ codes "\n") ++ filled rest replies

-- a line for each step
abbrev pub printed : List ScriptStep → List Reply → List ℕ
printed steps replies = filled (map step_line steps) replies

-- the lines of a script's steps, whose events get their replies in the script's world
pub record IsScriptOutput (script : ScriptValue) (out : List ℕ) : Type 0 where
  pub replies : List Reply
  pub answered : AreReplies (opening script.rule script.replicas) (events_among (steps no_patterns script.commands)) replies
  pub printed_so : out ≡ printed (steps no_patterns script.commands) replies
