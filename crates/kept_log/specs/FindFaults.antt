-- How often a file has failed behind a search for its records.
use Rattle.std.specs.Prelude.{ℕ}
use Rattle.devices.specs.Count.{one_more}
use Rattle.kept_log.specs.declared.finding.FindFault.{FindFault}
use Rattle.kept_log.specs.declared.finding.FindFault.TheVariants.{Failed, Memory, NoRecord}

abbrev pub failures_of_find : FindFault → ℕ → ℕ
failures_of_find Memory n = n
failures_of_find NoRecord n = n
failures_of_find Failed n = one_more n
