use Rattle.std.proofs.Common.{◌≡◌, ◌+◌, ap, sym, pos, List, [], map, drop, get_or}
use Rattle.std.proofs.Math.ListN.{drop_of_length-le}
use Rattle.pattern_cells.specs.declared.cell.Cell.{Cell}
use Rattle.pattern_cells.specs.Cells.{place_of}
use Rattle.cell_pictures.specs.Runs.{cells_of_state}
use Rattle.cell_pictures.proofs.PathLaws.{begun_on, begun_as, path_ended, seen_here, seen_later}
use Rattle.cell_pictures.proofs.svg.push_path.Goals as goal
use Rattle.cell_pictures.proofs.svg.push_path.Goals.{then-is_seen+in_ok-push_place, else-is_seen}

abbrev none : Cell
none = record { x = pos 0; y = pos 0; state = 0 }

pub loop-cell-preserved : goal.loop-cell-preserved
loop-cell-preserved g c =
    let w = c.args.window in
    let s = c.args.state in
    let cells = c.args.cells.now in
    let i = c.loop-cell.cell-index in
    let left = map place_of (cells_of_state w s (drop i cells)) in
    let later = map place_of (cells_of_state w s (drop (i + 1) cells)) in
    let all = map place_of (cells_of_state w s cells) in
    let k = g.K.Sink.known in
    elim c.if-is_seen.branch [
      | then-is_seen+in_ok-push_place t ↦
          let here = seen_here w s cells i none c.loop-cell-test.true (sym t.if-is_seen.ensures) in
          rw (t.sink-is, t.begun-is) (begun_on c.args.states s (k c.args.sink.now) (k c.loop-cell.sink) (k t.push_place.new.sink) c.loop-cell.begun t.in_ok-push_place.field-0
          (place_of (get_or cells i none)) left later all here c.loop-cell.invariant t.in_ok-push_place.ensures.taken)
      | else-is_seen t ↦
          let same = seen_later w s cells i none c.loop-cell-test.true (sym t.if-is_seen.ensures) in
          rw (t.sink-is, t.begun-is) (begun_as c.args.states s (k c.args.sink.now) (k c.loop-cell.sink) c.loop-cell.begun left later all same c.loop-cell.invariant)
    ]

pub returns : goal.returns
returns g c =
    let w = c.args.window in
    let s = c.args.state in
    let cells = c.args.cells.now in
    let i = c.loop-cell.cell-index in
    let none_left : map place_of (cells_of_state w s (drop i cells)) ≡ [] =
    ap (λ (rest : List Cell). map place_of (cells_of_state w s rest)) (drop_of_length-le cells c.loop-cell-test.false) in
    path_ended c.args.states s (g.K.Sink.known c.args.sink.now) (g.K.Sink.known c.loop-cell.sink) (g.K.Sink.known c.push_last.new.sink) c.loop-cell.begun
    (map place_of (cells_of_state w s (drop i cells))) (map place_of (cells_of_state w s cells)) c.push_last.result none_left c.loop-cell.invariant c.push_last.ensures
