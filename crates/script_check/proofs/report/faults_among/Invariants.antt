use Rattle.std.proofs.Common.{◌≡◌, ◌≤◌, take}
use Rattle.std.specs.Prelude.{count_by}
use Rattle.script_faults.specs.Faults.{is_fault}
use Rattle.script_check.proofs.report.faults_among.Given as goal

abbrev pub invariant-loop-note : goal.invariant-loop-note
invariant-loop-note l = record { count : l.faults ≡ count_by is_fault (take l.note-index l.notes); few : l.faults ≤ l.note-index }
