use Rattle.std.proofs.Common.{◌≡◌, ◌∙◌, ◌++◌, ◌∷◌, [], zero, List, ap, map, refl, sym, subst}
use Rattle.board.specs.Origins.{list_of}
use Rattle.board_keeper.specs.Keeping.{bodies_in}
use Rattle.kept_log.specs.Kept.{Keeps}
use Rattle.relay_board.specs.Closing.{IsWhole}
use Rattle.relay_board.specs.Seating.{Numbered, Seating}
use Rattle.relay_board.specs.declared.finish.Account.{Account}
use Rattle.seat_server.specs.Serving.{FinishedValue}
use Rattle.kept_server.proofs.Ends.{end_reason, numbered_all}
use Rattle.kept_server.proofs.server.closed.Goals as goal

pub returns-in_default-clause-reason : goal.returns-in_default-clause-reason
returns-in_default-clause-reason g c = (c.args.keeper, (zero, refl), sym c.into_log.ensures.file, tt)

pub finish-requires-clause-order : goal.finish-requires-clause-order
finish-requires-clause-order g c =
    subst (Numbered 0) (sym c.in-Ok.ensures.seats) (numbered_all (map (λ a. a.0) c.args.attended.items) c.args.file c.requires.order c.requires.last)

pub returns-in-Err-clause-reason : goal.returns-in-Err-clause-reason
returns-in-Err-clause-reason g c =
    let all : List Seating = map (λ a. a.0) c.args.attended.items ++ c.args.file ∷ [] in (
      c.in-Err.keeper,
      c.in-Err.ensures.steps,
      sym c.into_log-in-Err.ensures.file,
      end_reason c.in-Err.fault c.in-Err.keeper c.in-Err.field-0-1.items all c.end_fault.result (c.in-Err.ensures.same.2 ∙ c.in-Ok.ensures.seats) c.end_fault.ensures c.in-Err.ensures.fault,
    )

pub returns-in-Ok-finish-clause-whole : goal.returns-in-Ok-finish-clause-whole
returns-in-Ok-finish-clause-whole g c =
    let all : List Seating = map (λ a. a.0) c.args.attended.items ++ c.args.file ∷ [] in
    let same : c.in-Ok-finish.account ≡ c.of.result.account = sym (ap (λ (f : FinishedValue). f.account) c.of.ensures) in
    subst (λ (a : Account). IsWhole c.args.keeper.relay.origin c.args.keeper.relay.list (list_of a.front) all a) same
    (subst (λ (ss : List Seating). IsWhole c.args.keeper.relay.origin c.args.keeper.relay.list (list_of c.in-Ok-finish.account.front) ss c.in-Ok-finish.account) c.in-Ok.ensures.seats c.in-Ok-finish.ensures.whole)

pub returns-in-Ok-finish-clause-file : goal.returns-in-Ok-finish-clause-file
returns-in-Ok-finish-clause-file g c =
    let same : c.in-Ok-finish.account ≡ c.of.result.account = sym (ap (λ (f : FinishedValue). f.account) c.of.ensures) in
    subst (λ (a : Account). Keeps (bodies_in c.args.keeper.rule (list_of a.front)) (g.D.Keep.known c.in-Ok-finish.log.keep)) same c.in-Ok-finish.ensures.file
