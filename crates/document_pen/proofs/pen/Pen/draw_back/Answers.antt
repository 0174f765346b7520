use Rattle.std.proofs.Common.{Some, None, ap, subst}
use Rattle.drawing_history.specs.Makings.{EndsTakingBack}
use Rattle.document_pen.specs.Opening.{DrawsAll}
use Rattle.document_pen.specs.Pen.{PenState}
use Rattle.document_pen.proofs.pen.Pen.draw_back.Goals as goal

pub returns : goal.returns
returns g c =
    let mid = c.draw_all-outcome.new.self in
    record {
      mid = mid;
      draws = subst (λ (p : PenState). DrawsAll 0 c.args.cells.now (record p { way = Some c.args.way }) mid c.draw_all-outcome.result) c.self.view_is c.draw_all-outcome.ensures;
      ends = subst (λ (p : PenState). EndsTakingBack c.args.way p.making c.end_back.new.self) c.self-2.view_is c.end_back.ensures;
      rest = ap (λ (p : PenState). record p { making = c.end_back.new.self; way = None }) c.self-2.view_is;
    }
