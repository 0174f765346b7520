-- What the text of a script comes to, and how a run ends by it.
use Rattle.std.specs.Prelude.{◌≡◌, ◌⊎◌, ℕ, List, Result, Ok, Err}
use Rattle.devices.specs.Source.{KnownSource}
use Rattle.devices.specs.Sink.{KnownSink}
use Rattle.genedit_io.specs.Runs.{IsRun}
use Rattle.genedit_io.specs.declared.fault.RunFault.{RunFault}
use Rattle.genedit_io.specs.declared.fault.RunFault.TheVariants.{Script, Memory, StoreFull}
use Rattle.genedit_script.specs.Script.{ScriptValue, script_of}
use Rattle.genedit_script.specs.declared.fault.ScriptFault.{ScriptFault}
use Rattle.genedit_script.specs.declared.fault.ScriptFault.TheVariants as script_faults
use Rattle.replica_core.specs.declared.event.Stop.{Stop}
use Rattle.replica_core.specs.declared.event.Stop.TheVariants as stops
use Rattle.replica_events.specs.declared.event.Event.{Event}
use Rattle.replica_core.specs.World.{History, IsStoppedAt, opening}
use Rattle.genedit_lib.specs.Output.{IsScriptOutput, events_among, no_patterns, steps}

-- the text is a script, and this is its output
pub record PrintsAs (text out : List ℕ) : Type 0 where
  pub script : ScriptValue
  pub read : script_of text ≡ Ok script
  pub printed : IsScriptOutput script out

-- the text is no script, and the fault tells the line of its first fault
pub record IsFaultyScript (text : List ℕ) (fault : RunFault) : Type 0 where
  pub line : ℕ
  pub told : fault ≡ Script line
  pub first : script_of text ≡ Err line

-- the events of a script, in its world
abbrev pub script_events : ScriptValue → List Event
script_events script = events_among (steps no_patterns script.commands)

abbrev pub script_opening : ScriptValue → History
script_opening script = opening script.rule script.replicas

-- the text is a script, and its run was stopped at one of its events, at which there was no room for what it needs, and before which all were
-- replied to; each replica's plane has room for so many squares
pub record IsStopped (nodes : ℕ) (text : List ℕ) (fault : RunFault) : Type 0 where
  pub script : ScriptValue
  pub told : fault ≡ StoreFull
  pub read : script_of text ≡ Ok script
  pub stopped : IsStoppedAt nodes (script_opening script) (script_events script) stops.StoreFull

-- the text is no script, or its run was stopped
abbrev pub IsUnprinted : ℕ → List ℕ → RunFault → Type 0
IsUnprinted nodes text fault = IsFaultyScript text fault ⊎ IsStopped nodes text fault

-- the run of a script, in at most so many pulls, by replicas whose planes have room for so many squares
abbrev pub IsScriptRun : (turns nodes : ℕ) → {A : Type 0} → Result A RunFault → KnownSource → KnownSource → {K : Type 0} → (K → KnownSink) → K → K → Type 0
IsScriptRun turns nodes result source source' known sink sink' = IsRun PrintsAs (IsUnprinted nodes) turns result source source' known sink sink'

-- a text's fault, as the program ends with it
abbrev pub run_fault_of : ScriptFault → RunFault
run_fault_of (script_faults.Line line) = Script line
run_fault_of script_faults.Memory = Memory

-- why a list of events is not run to its end, as the program ends with it
abbrev pub run_fault_of_stop : Stop → RunFault
run_fault_of_stop stops.Memory = Memory
run_fault_of_stop stops.StoreFull = StoreFull
