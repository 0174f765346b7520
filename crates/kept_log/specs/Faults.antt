-- How often a file has failed behind a call of its log.
use Rattle.std.specs.Prelude.{ℕ, Result, Ok, Err}
use Rattle.devices.specs.Count.{one_more}
use Rattle.kept_log.specs.declared.log.LogFault.{LogFault}
use Rattle.kept_log.specs.declared.log.LogFault.TheVariants.{Begun, CutBack, Doubtful, Memory, Stopped, Unbegun}

-- behind a commit: its push or its sync failed, and then the cut too
abbrev pub failures_of_commit : {A : Type 0} → Result A LogFault → ℕ → ℕ
failures_of_commit (Ok done) n = n
failures_of_commit (Err Memory) n = n
failures_of_commit (Err Stopped) n = n
failures_of_commit (Err Begun) n = n
failures_of_commit (Err Unbegun) n = n
failures_of_commit (Err CutBack) n = one_more n
failures_of_commit (Err Doubtful) n = one_more (one_more n)

-- behind the first body: its replacement failed
abbrev pub failures_of_begin : {A : Type 0} → Result A LogFault → ℕ → ℕ
failures_of_begin (Ok done) n = n
failures_of_begin (Err Memory) n = n
failures_of_begin (Err Stopped) n = n
failures_of_begin (Err Begun) n = n
failures_of_begin (Err Unbegun) n = n
failures_of_begin (Err CutBack) n = n
failures_of_begin (Err Doubtful) n = one_more n
