use Rattle.std.proofs.Common.{ap, sym, ◌∙◌}
use Rattle.relay_board.specs.Seating.{Seating}
use Rattle.replica_sessions.specs.Answer.{SessionState}
use Rattle.seat_hub.specs.declared.hub.SeatHub.{SeatHub}
use Rattle.seat_server.specs.Sessions.{session_at}
use Rattle.session_hub.specs.Replies.{nothing_kept}
use Rattle.seat_server.proofs.SeatLaws.{visited}
use Rattle.seat_server.proofs.sitting.serve_one.Goals as goal

pub returns : goal.returns
returns g c =
    visited (λ (h : SeatHub g.row.J.Denot g.row.R.Denot). h.seat) c.args.seat c.into_seat.result c.serve-end.result c.new-session.result c.serve-end.new.session _ _ _ _
    (ap (λ (s : SessionState (SeatHub g.row.J.Denot g.row.R.Denot)). session_at s.hub.seat s.kept) c.new-session.ensures ∙ ap (λ (a : Seating). session_at a nothing_kept) c.new.ensures)
    (sym (c.into_seat.ensures ∙ ap (λ (h : SeatHub g.row.J.Denot g.row.R.Denot). h.seat) c.into_hub.ensures))
    c.serve-end.ensures
