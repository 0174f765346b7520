use Rattle.std.proofs.Common.{◌≡◌, ◌<◌, length, sym, ap, subst, arith}
use Rattle.std.proofs.lemmas.List.{length-map}
use Rattle.inbox.specs.declared.submission.Submission.{Submission}
use Rattle.relay_board.specs.Kept.{kept_of, relaying_of}
use Rattle.relay_board.specs.Relaying.{Relaying}
use Rattle.relay_board.specs.Turns.{ShowsFirst, Turns}
use Rattle.relay_board.proofs.Turning.{turn_ready, turn_behind}
use Rattle.relay_board.proofs.relay.Relay.turn.Goals as goal

pub returns-then-self-gt0-clause-turned : goal.returns-then-self-gt0-clause-turned
returns-then-self-gt0-clause-turned g c =
    let s = c.self.inside in
    let i = c.self.invariant in
    let t = c.show_first.result in
    let d : Relaying = c.show_first.new.self in
    let long : length (kept_of s.kept.items) ≡ length s.kept.items = length-map s.kept.items (λ (x : Submission). x.entry) in
    let within = i.ready.within in
    let some : 0 < length (kept_of s.kept.items) = omega (arith, c.if-self-gt0.true, long, within) in
    subst (λ (r : Relaying). Turns r t d) c.self.view_is
    (turn_ready (relaying_of s) d t some i.out (subst (λ (r : Relaying). ShowsFirst r t d) (sym c.self.view_is) c.show_first.ensures.turned))

pub returns-in-Ready-clause-turned : goal.returns-in-Ready-clause-turned
returns-in-Ready-clause-turned g c =
    let readied = rw c.in-Ready.is at c.ready.ensures.readied in
    let ready : c.self.inside.ready ≡ c.args.self.now.ready = ap (λ (r : Relaying). r.ready) c.self.view_is in
    turn_behind c.args.self.now c.ready.new.self c.show_first-in-Ready.new.self c.show_first-in-Ready.result readied.0 (omega (arith, ready, c.if-self-gt0.false)) readied.1 c.show_first-in-Ready.ensures.turned
