use Rattle.std.proofs.Common.{sym, ap, ◌∙◌, inr, rules}
use Rattle.stamped_tree.specs.Plane.{map_of}
use Rattle.drawing_history.specs.declared.drawn.Drawn.TheVariants.{Strokes}
use Rattle.drawing_history.specs.Drawings.{IsLastOf}
use Rattle.drawing_history.specs.Strokes.{cells_back}
use Rattle.drawing_history.specs.Ways.{stack_of}
use Rattle.drawing_history.proofs.Ending.{err_holds, none_held, some_held}
use Rattle.drawing_history.proofs.history.History.found.Goals as goal

pub returns-then-is_empty-clause-found : goal.returns-then-is_empty-clause-found
returns-then-is_empty-clause-found c =
    let last : IsLastOf (stack_of c.args.way c.args.self.now) (Strokes c.in-Some-Strokes.strokes) = search rules in
    let told = c.in_ok-cells-in-Some-Strokes.ensures ∙ ap (cells_back (map_of c.args.plane.now)) c.deref.ensures.value in
    inr (c.in-Some-Strokes.strokes, (last, sym told ∙ none_held c.in_ok-cells-in-Some-Strokes.cells c.if-is_empty.ensures))

pub returns-else-is_empty-clause-found : goal.returns-else-is_empty-clause-found
returns-else-is_empty-clause-found c =
    let last : IsLastOf (stack_of c.args.way c.args.self.now) (Strokes c.in-Some-Strokes.strokes) = search rules in
    let told = c.in_ok-cells-in-Some-Strokes.ensures ∙ ap (cells_back (map_of c.args.plane.now)) c.deref.ensures.value in
    (c.in-Some-Strokes.strokes, (last, told, some_held c.in_ok-cells-in-Some-Strokes.cells c.if-is_empty.ensures))

pub returns-in_err-cells-in-Some-Strokes-clause-want : goal.returns-in_err-cells-in-Some-Strokes-clause-want
returns-in_err-cells-in-Some-Strokes-clause-want c =
    let last : IsLastOf (stack_of c.args.way c.args.self.now) (Strokes c.in-Some-Strokes.strokes) = search rules in
    err_holds c.from_residual.result (c.in-Some-Strokes.strokes, last)
