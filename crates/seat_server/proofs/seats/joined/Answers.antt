use Rattle.std.proofs.Common.{◌≡◌, ◌∙◌, sym, rules, length}
use Rattle.std.specs.Vec.{vec_len}
use Rattle.seat_server.proofs.ListLaws.{each_ended}
use Rattle.seat_server.proofs.seats.joined.Goals as goal

pub returns-in-Ok-clause-served : goal.returns-in-Ok-clause-served
returns-in-Ok-clause-served g c =
    let many : vec_len c.args.threads ≡ length c.args.threads.items = search rules in
    let all : vec_len c.in-Ok.all ≡ length c.in-Ok.all.items = search rules in
    each_ended _ (λ p. p.seat.value) (λ a. a.0) (λ a. a.1) (λ p r kept. kept) (vec_len c.args.threads) c.args.threads.items c.in-Ok.all.items
    many (sym all ∙ c.in-Ok.ensures.len) c.in-Ok.ensures.each
