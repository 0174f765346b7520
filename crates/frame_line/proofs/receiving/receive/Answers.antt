use Rattle.std.proofs.Common.{ℕ, Vec, Global, arith}
use Rattle.frame_line.proofs.PullingLaws.{ends_pulled, on_pulled}
use Rattle.frame_line.proofs.receiving.receive.Goals as goal

pub returns-in-Err-pull_piece : goal.returns-in-Err-pull_piece
returns-in-Err-pull_piece g c =
    ends_pulled {B = Vec ℕ Global} (λ body. body.items) _ _ _ _ _ c.loop-turn.invariant _ (rw (c.in-Ok-None.is, c.in-Ok-None.field-0-is) at c.next_body.ensures) _ _ (Unit {0}) c.args.turns _ (omega arith) (rw c.in-Err-pull_piece.is at c.pull_piece.ensures)

pub loop-turn-preserved : goal.loop-turn-preserved
loop-turn-preserved g c =
    on_pulled {B = Vec ℕ Global} (λ body. body.items) _ _ _ _ _ c.loop-turn.invariant _ (rw (c.in-Ok-None.is, c.in-Ok-None.field-0-is) at c.next_body.ensures) _ _ (Unit {0}) c.in-Ok.field-0 (rw c.in-Ok.is at c.pull_piece.ensures)
