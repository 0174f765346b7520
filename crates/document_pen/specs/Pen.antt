-- What one draws a document with, between two commands.
use Rattle.std.specs.Prelude.{◌≡◌, ℕ, List, ◌++◌, Option, Result, Ok, Err}
use Rattle.drawing_history.specs.Makings.{MakingState}
use Rattle.drawing_history.specs.declared.way.Way.{Way}
use Rattle.kept_devices.specs.Keep.{KnownKeep}
use Rattle.kept_log.specs.declared.log.LogState.{LogState}
use Rattle.replica_core.specs.Replica.{ReplicaState}
use Rattle.genedit_lib.specs.declared.patterns.Patterns.{Patterns}
use Rattle.document_pen.specs.declared.fault.PenFault.{PenFault}
use Rattle.document_pen.specs.declared.fault.PenFault.TheVariants.{Memory}

-- the file that has the document, and what it takes; the replica that holds it; what was drawn, and can be taken back; which way something is
-- being taken back, if it is; what pattern each name stands for; and what was printed
pub record PenState : Type 0 where
  pub file : KnownKeep
  pub takes : LogState
  pub replica : ReplicaState
  pub making : MakingState
  pub way : Option Way
  pub patterns : Patterns
  pub out : List ℕ

-- a text was printed, and nothing else done
abbrev pub Prints : List ℕ → PenState → PenState → Type 0
Prints text m n = n ≡ record m { out = m.out ++ text }

-- a text is printed, or memory is wanting for it: then all is as it was
abbrev pub IsPrinted : {A : Type 0} → A → List ℕ → PenState → PenState → Result A PenFault → Type 0
IsPrinted answer text m n (Ok given) = (given ≡ answer) × Prints text m n
IsPrinted answer text m n (Err fault) = (fault ≡ Memory) × (n ≡ m)

-- memory is wanting, and all is as it was
abbrev pub LacksMemory : {A : Type 0} → PenState → PenState → Result A PenFault → Type 0
LacksMemory m n result = (result ≡ Err Memory) × (n ≡ m)
