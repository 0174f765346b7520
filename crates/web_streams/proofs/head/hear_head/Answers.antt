use Rattle.std.proofs.Common.{arith, subst}
use Rattle.web_streams.specs.Behind.{ReadsMore}
use Rattle.web_streams.proofs.HeadLaws.{hears_clear, hears_end, hears_too_long, reads_on}
use Rattle.web_streams.proofs.head.hear_head.Goals as goal

pub returns-in_default : goal.returns-in_default
returns-in_default g c =
    hears_clear _ _ c.args.house.now c.loop-piece.head.items c.deref.result.now _ c.loop-piece.invariant.bytes c.loop-piece.invariant.few c.deref.ensures.value c.wanted.ensures.row
    (rw c.deref-in_default.ensures.value at c.in_ok-behind-in_default.ensures) c.in_default.not-Waits

pub returns-then-len-ge-HEAD_BYTES : goal.returns-then-len-ge-HEAD_BYTES
returns-then-len-ge-HEAD_BYTES g c =
    hears_too_long _ _ c.args.house.now c.loop-piece.head.items c.deref.result.now _ c.loop-piece.invariant.bytes c.loop-piece.invariant.few (omega arith) c.deref.ensures.value c.in-Waits.ensures.row
    c.nothing_behind.ensures.visit c.nothing_behind.ensures.behind

pub returns-then-branch : goal.returns-then-branch
returns-then-branch g c =
    hears_end _ _ c.args.house.now c.loop-piece.head.items c.deref.result.now _ _ c.read_more.new.head.items c.loop-piece.invariant.bytes c.loop-piece.invariant.few c.deref.ensures.value c.in-Waits.ensures.row
    c.nothing_behind-then-branch.ensures.visit c.nothing_behind-then-branch.ensures.behind
    (subst (λ ended. ReadsMore (g.R.Read.remaining c.loop-piece.reader) (g.R.Read.remaining c.read_more.new.reader) c.loop-piece.head.items c.read_more.new.head.items ended) c.if-branch.true c.in_ok-read_more.ensures)

pub loop-piece-preserved : goal.loop-piece-preserved
loop-piece-preserved g c = record {
  bytes = reads_on _ _ _ c.loop-piece.head.items c.read_more.new.head.items c.in_ok-read_more.field-0 c.loop-piece.invariant.bytes c.in_ok-read_more.ensures;
  few = c.in_ok-read_more.ensures.few;
}
