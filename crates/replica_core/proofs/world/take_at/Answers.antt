use Rattle.std.proofs.Common.{if◌then◌else◌, None, refl, sym, ◌∙◌, ap}
use Rattle.replica_core.proofs.CurrentLaws.{remembered_refused, remembered_taken}
use Rattle.replica_core.proofs.StandingLaws.{takes_sent}
use Rattle.replica_core.proofs.RoomLaws.{take_full, wants_room}
use Rattle.replica_core.proofs.world.take_at.Goals as goal
use Rattle.replica_core.proofs.world.take_at.Goals.{then-changed, else-changed}

pub returns-after-changed-clause-step : goal.returns-after-changed-clause-step
returns-after-changed-clause-step c = λ rule h sent stands sends. (
  refl,
  takes_sent rule c.args.replica.now.number h sent c.args.replica.now c.take_bytes_noting_change.new.self c.args.text.now c.in-Ok.changed stands sends (c.in-Ok.ensures.edits, c.in-Ok.ensures.map),
)

pub returns-after-changed-clause-remembered : goal.returns-after-changed-clause-remembered
returns-after-changed-clause-remembered c =
    remembered_taken c.args.replica.now c.take_bytes_noting_change.new.self c.args.text.now _ c.in-Ok.changed c.args.current.now c.if-changed.current c.in-Ok.ensures.told c.in-Ok.ensures.change
    (elim c.if-changed.branch [ then-changed w ↦ w.current-is ∙ ap (λ b. if b then None else c.args.current.now) (sym w.if-changed.true) | else-changed w ↦ w.current-is ∙ ap (λ b. if b then None else c.args.current.now) (sym w.if-changed.false) ])

pub returns-in-Err-clause-remembered : goal.returns-in-Err-clause-remembered
returns-in-Err-clause-remembered c = remembered_refused c.args.replica.now c.take_bytes_noting_change.new.self c.args.text.now _ c.in-Err.fault c.args.current.now c.in-Err.ensures.told

pub returns-in-Err-clause-full : goal.returns-in-Err-clause-full
returns-in-Err-clause-full c = λ is rule h sent stands sends.
    take_full rule h sent c.args.replica.now c.take_bytes_noting_change.new.self c.args.text.now c.in-Err.fault stands sends (c.in-Err.ensures.edits, c.in-Err.ensures.map)
    (wants_room c.in-Err.fault c.refused.result c.refused.ensures.err is)
