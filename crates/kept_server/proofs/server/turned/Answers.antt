use Rattle.std.proofs.Common.{◌∙◌, ap, subst, sym}
use Rattle.board_keeper.specs.Keeping.{Keeping}
use Rattle.board_keeper.specs.Turns.{FailsBy}
use Rattle.board_keeper.specs.declared.fault.KeepFault.{KeepFault}
use Rattle.kept_server.specs.Running.{IsAmid}
use Rattle.kept_server.proofs.Ends.{attend_reason}
use Rattle.kept_server.proofs.Runs.{amid_closed, runs_closed}
use Rattle.kept_server.proofs.server.turned.Goals as goal

pub returns-in-Some-Write-clause-reason : goal.returns-in-Some-Write-clause-reason
returns-in-Some-Write-clause-reason g c =
    let k : Keeping = c.take_kept_turns.new.keeper in
    let fails = subst (λ (f : KeepFault). FailsBy f k) c.in-Some-Write.field-0-is c.in-Some-Write.ensures.fault in (
      c.refuse.new.keeper,
      runs_closed c.args.keeper k c.refuse.new.keeper c.in-Some-Write.ensures.run c.refuse.ensures,
      sym c.into_log.ensures.file,
      ap (λ (b : Keeping). b.takes) c.refuse.ensures ∙ fails,
    )

pub returns-in-Ok-clause-run : goal.returns-in-Ok-clause-run
returns-in-Ok-clause-run g c =
    let k : Keeping = c.take_kept_turns.new.keeper in
    let same = c.in-None.ensures.same in
    let amid : IsAmid c.args.keeper k = record { run = c.in-None.ensures.run; made = same.0; origin = same.1; rule = same.2 } in
    (amid_closed c.args.keeper k c.close.new.self amid c.close.ensures.closed, ap (λ (b : Keeping). b.relay.closed) c.close.ensures.closed)

pub returns-in-Err-clause-reason : goal.returns-in-Err-clause-reason
returns-in-Err-clause-reason g c = (
  c.close.new.self,
  runs_closed c.args.keeper c.take_kept_turns.new.keeper c.close.new.self c.in-None.ensures.run c.close.ensures.closed,
  sym c.into_log-in-Err.ensures.file,
  attend_reason c.in-Err.fault c.kept_fault.result c.close.new.self c.in-Err.ensures.fault c.kept_fault.ensures,
)
