use Rattle.std.proofs.Common.{◌∙◌, ◌+◌, map, ap, subst, sym}
use Rattle.board.specs.Origins.{list_of}
use Rattle.board_keeper.proofs.Ends.{on_err, on_ok}
use Rattle.board_keeper.specs.Keeping.{Keeping, bodies_in}
use Rattle.generations_rule.specs.Rule.{GenerationsRule}
use Rattle.kept_log.specs.Kept.{Keeps}
use Rattle.seat_server.proofs.ListLaws.{as_many, in_order}
use Rattle.kept_server.proofs.Ends.{both_ok, close_reason, served_beside, turn_reason}
use Rattle.kept_server.proofs.Runs.{runs_on}
use Rattle.kept_server.proofs.server.serve_kept.Goals as goal

pub closed-requires-clause-all : goal.closed-requires-clause-all
closed-requires-clause-all g c =
    let are = c.in-Ok.ensures.attended in
    c.in-Ok.ensures.run.0.made ∙ (c.requires.all ∙ ap (λ n. n + 1) (sym (as_many c.args.seats.attendance are.visits (map (λ a. a.0) c.in-Ok.attended.items) are.attended)))

pub closed-requires-clause-order : goal.closed-requires-clause-order
closed-requires-clause-order g c =
    let are = c.in-Ok.ensures.attended in
    in_order 0 c.args.seats.attendance are.visits (map (λ a. a.0) c.in-Ok.attended.items) are.attended c.requires.order

pub closed-requires-clause-last : goal.closed-requires-clause-last
closed-requires-clause-last g c =
    let are = c.in-Ok.ensures.attended in
    c.requires.last ∙ sym (as_many c.args.seats.attendance are.visits (map (λ a. a.0) c.in-Ok.attended.items) are.attended)

pub returns-in-Err-clause-reason : goal.returns-in-Err-clause-reason
returns-in-Err-clause-reason g c =
    let r = c.in-Err.ensures.reason in (r.0, r.1, r.2, turn_reason c.args.seats.attendance c.args.seats.file c.in-Err.refused.0 r.0 r.3)

pub returns-in-Ok-clause-served : goal.returns-in-Ok-clause-served
returns-in-Ok-clause-served g c =
    let k : Keeping = c.in-Ok.keeper in
    on_ok c.closed.result _ _
    (λ e w. served_beside c.args.keeper.relay.origin k.relay.origin c.args.seats.attendance (map (λ a. a.0) c.in-Ok.attended.items) c.args.seats.file (map (λ a. a.1) c.in-Ok.attended.items) k.relay.list e.0
    c.in-Ok.ensures.run.0.origin c.in-Ok.ensures.attended w.0 w.1)
    (both_ok c.closed.result _ _ c.closed.ensures.ends c.closed.ensures.whole)

pub returns-in-Ok-clause-file : goal.returns-in-Ok-clause-file
returns-in-Ok-clause-file g c =
    on_ok c.closed.result _ _ (λ e k. subst (λ (r : GenerationsRule). Keeps (bodies_in r (list_of e.0.account.front)) (g.D.Keep.known e.1.keep)) c.in-Ok.ensures.run.0.rule k) c.closed.ensures.file

pub returns-in-Ok-clause-run : goal.returns-in-Ok-clause-run
returns-in-Ok-clause-run g c =
    on_ok c.closed.result _ _ (λ e d. (d.0, runs_on d.1.0 c.args.keeper c.in-Ok.keeper d.0 c.in-Ok.ensures.run.0.run d.1.1, d.2, d.3)) c.closed.ensures.drained

pub returns-in-Ok-clause-reason : goal.returns-in-Ok-clause-reason
returns-in-Ok-clause-reason g c =
    let are = c.in-Ok.ensures.attended in
    on_err c.closed.result _ _
    (λ e d. (d.0, runs_on d.1.0 c.args.keeper c.in-Ok.keeper d.0 c.in-Ok.ensures.run.0.run d.1.1, d.2, close_reason c.args.seats.attendance (map (λ a. a.0) c.in-Ok.attended.items) c.args.seats.file are.visits e.0 d.0 are.attended d.3))
    c.closed.ensures.reason
