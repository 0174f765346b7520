-- Which commands of a script are refused when it is run.
use Rattle.std.specs.Prelude.{◌≡◌, ℕ, List, [], ◌∷◌, ◌++◌, map, codes, Option, Some, None, Ok, if◌then◌else◌}
use Rattle.std.specs.Option.{option_to_list, unwrap_or}
use Rattle.std.specs.Str.{bytes_eq}
use Rattle.text_scan.specs.Bytes.{decimal_number}
use Rattle.text_scan.specs.Words.{words}
use Rattle.replica_core.specs.declared.event.Reply.{Reply}
use Rattle.replica_core.specs.declared.event.Reply.TheVariants.{Drawn, Sent, Taken, Shown, Same, Bytes, Text, Counted, Refused}
use Rattle.replica_core.specs.Fault.{replica_fault_number}
use Rattle.replica_core.specs.World.{opening, AreReplies}
use Rattle.genedit_script.specs.Script.{NumberedLine, ScriptValue, lines_from, script_of}
use Rattle.genedit_lib.specs.Output.{OutputLine, ReplyLine, OwnLine, steps, no_patterns, events_among, step_line}
use Rattle.script_faults.specs.declared.note.Note.{Note}
use Rattle.script_faults.specs.declared.note.Place.{Place}
use Rattle.script_faults.specs.Faults.{command_lines, fault_lines, faulty_lines}
use Rattle.script_faults.specs.Laws.{Begin}
use Rattle.script_check.specs.declared.refusals.Refusal.{Refusal}
use Rattle.script_check.specs.declared.check.CheckOutcome.{CheckOutcome}
use Rattle.script_check.specs.declared.check.CheckOutcome.TheVariants.{Clean, Told}
use Rattle.script_check.specs.Block.{fault_place}
use Rattle.script_check.specs.Report.{IsReportText}

-- the number that the first of some words spells; 0 where it spells none of 8 bits
abbrev pub number_first : List (List ℕ) → ℕ
number_first [] = 0
number_first (word ∷ words) = unwrap_or (decimal_number 255 word) 0

-- the number of 64 bits that the third of some words spells, if it does
abbrev pub number_third : List (List ℕ) → Option ℕ
number_third (first ∷ second ∷ word ∷ words) = decimal_number 18446744073709551615 word
number_third _ = None

-- the refusal of the command at a place that its own line tells: `refused NUMBER NAME`, and a byte of its block where it
-- is of that byte
abbrev pub own_refusal : List NumberedLine → Place → List (List ℕ) → Option Refusal
own_refusal lines place [] = None
own_refusal lines place (word ∷ words) =
    if bytes_eq word (codes "refused") then
    Some (record { command = place.line; place = fault_place lines place (number_first words) (number_third words); number = number_first words })
    else None

-- the refusal of the command at a place that a reply tells
abbrev pub refusal_in_reply : Place → Reply → Option Refusal
refusal_in_reply place (Refused fault) = Some (record { command = place.line; place = place; number = replica_fault_number fault })
refusal_in_reply place (Drawn stamp) = None
refusal_in_reply place (Sent message) = None
refusal_in_reply place Taken = None
refusal_in_reply place (Shown write) = None
refusal_in_reply place (Same same) = None
refusal_in_reply place (Bytes text) = None
refusal_in_reply place (Text text) = None
refusal_in_reply place (Counted counted) = None

-- the refusals of the commands at these places of a script's lines, by what is printed at each and the replies in order
abbrev pub refusals_among : List NumberedLine → List Place → List OutputLine → List Reply → List Refusal
refusals_among lines [] printed replies = []
refusals_among lines (place ∷ places) [] replies = []
refusals_among lines (place ∷ places) (OwnLine text ∷ printed) replies =
    option_to_list (own_refusal lines place (words text)) ++ refusals_among lines places printed replies
refusals_among lines (place ∷ places) (ReplyLine ∷ printed) [] = []
refusals_among lines (place ∷ places) (ReplyLine ∷ printed) (reply ∷ replies) =
    option_to_list (refusal_in_reply place reply) ++ refusals_among lines places printed replies

-- these are the refusals that the run of a script prints, of its lines and with its commands at these places
pub record AreRefusedOf (script : ScriptValue) (lines : List NumberedLine) (places : List Place) (refusals : List Refusal) : Type 0 where
  pub replies : List Reply
  pub answered : AreReplies (opening script.rule script.replicas) (events_among (steps no_patterns script.commands)) replies
  pub are : refusals ≡ refusals_among lines places (map step_line (steps no_patterns script.commands)) replies

-- the text is a script, and these are the refusals that its run prints, each told in its command's line or its block
pub record IsRefusedRun (text : List ℕ) (refusals : List Refusal) : Type 0 where
  pub script : ScriptValue
  pub read : script_of text ≡ Ok script
  pub places : List Place
  pub at : map (λ (place : Place). place.line) places ≡ command_lines text
  pub of_script : AreRefusedOf script (lines_from 1 text) places refusals

-- what is told of the refusals of a text with these faulty lines: none where there is one
abbrev pub AreRefused : List ℕ → List ℕ → List Refusal → Type 0
AreRefused text [] refusals = IsRefusedRun text refusals
AreRefused text (line ∷ lines) refusals = refusals ≡ []

-- what comes of faulty lines and refusals
abbrev pub outcome_of : List ℕ → List Refusal → CheckOutcome
outcome_of [] [] = Clean
outcome_of [] (refusal ∷ refusals) = Told
outcome_of (line ∷ lines) refusals = Told

-- what comes of a text
pub record ComesTo (text : List ℕ) (outcome : CheckOutcome) : Type 0 where
  pub refusals : List Refusal
  pub refused : AreRefused text (faulty_lines text) refusals
  pub is : outcome ≡ outcome_of (faulty_lines text) refusals

-- this is printed of a text
pub record ReportsAs (name text out : List ℕ) : Type 0 where
  pub notes : List Note
  pub refusals : List Refusal
  pub faults : fault_lines notes ≡ faulty_lines text
  pub first : Begin (fault_lines notes) (script_of text)
  pub refused : AreRefused text (faulty_lines text) refusals
  pub printed : IsReportText name text notes refusals out
