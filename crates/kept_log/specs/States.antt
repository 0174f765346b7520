-- What a log takes.
use Rattle.std.specs.Prelude.{ℕ, Option, Some, None, Result, Ok, Err, Vec}
use Rattle.std.specs.declared.alloc.Global.{Global}
use Rattle.kept_log.specs.declared.log.LogFault.{LogFault}
use Rattle.kept_log.specs.declared.log.LogFault.TheVariants.{Begun, CutBack, Doubtful, Memory, Stopped, Unbegun}
use Rattle.kept_log.specs.declared.log.LogState.{LogState}
use Rattle.kept_log.specs.declared.log.LogState.TheVariants.{Empty, Failed, Open}

-- behind a call that was to put the first body into the file, or others behind it
abbrev pub state_after : {A : Type 0} → Result A LogFault → LogState → LogState
state_after (Ok done) before = Open
state_after (Err Memory) before = before
state_after (Err Stopped) before = before
state_after (Err Begun) before = before
state_after (Err Unbegun) before = before
state_after (Err CutBack) before = Failed
state_after (Err Doubtful) before = Failed

-- where the file was opened, by the head that was read
abbrev pub state_by : Option (Vec ℕ Global) → LogState
state_by (Some head) = Open
state_by None = Empty
