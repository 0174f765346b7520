use Rattle.std.proofs.Common.{◌≡◌, ◌∙◌, sym, get_or, true}
use Rattle.macrocell_text.specs.Marks.{may_stand}
use Rattle.macrocell_text.proofs.Bits.{column_behind, marked_step, misplaced_step, row_behind, told_whole}
use Rattle.macrocell_text.proofs.marks.rows_told.Goals as goal

pub loop-i-preserved : goal.loop-i-preserved
loop-i-preserved c =
    let stands : may_stand c.loop-i.spot (get_or c.args.marks.now c.loop-i.i 0) ≡ true = sym c.takes.ensures ∙ c.if-not-takes.false in
    record {
      column = rw c.behind-spot.ensures (column_behind c.loop-i.spot (get_or c.args.marks.now c.loop-i.i 0) c.loop-i.i c.loop-i.invariant.column);
      row = rw c.behind-spot.ensures (row_behind c.loop-i.spot (get_or c.args.marks.now c.loop-i.i 0) c.loop-i.i c.loop-i.invariant.row);
      well = rw c.behind-spot.ensures (misplaced_step c.args.marks.now c.loop-i.i c.args.place c.loop-i.spot _ c.loop-i-test.true stands c.loop-i.invariant.well);
      bits = λ u v hu hv. rw c.behind-spot.ensures
          (marked_step c.args.marks.now c.loop-i.i c.loop-i.spot _ _ u v c.loop-i-test.true (c.with_mark-rows.ensures u v hu hv) ∙ c.loop-i.invariant.bits u v hu hv);
    }

pub returns : goal.returns
returns c = told_whole c.args.place c.loop-i.rows c.loop-i.i c.loop-i.spot c.args.marks.now c.loop-i-test.false c.loop-i.invariant.well c.loop-i.invariant.bits
