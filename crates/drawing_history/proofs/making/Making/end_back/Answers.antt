use Rattle.std.proofs.Common.{◌≡◌, ◌⊎◌, ap, ◌∙◌, rules}
use Rattle.drawing_history.specs.Drawings.{HistoryState, forgotten}
use Rattle.drawing_history.specs.Ways.{TakesBack}
use Rattle.drawing_history.specs.Makings.{EndsBy, MakingState}
use Rattle.drawing_history.specs.contracts.making.Making.{the_view}
use Rattle.drawing_history.proofs.Ending.{ends_taken}
use Rattle.drawing_history.proofs.making.Making.end_back.Goals as goal

pub returns-in-Some-2 : goal.returns-in-Some-2
returns-in-Some-2 c =
    let old = c.args.self.now in
    let strokes = c.in-Some.strokes in
    let between = the_view c.self.inside in
    let same = c.self.view_is ∙ c.taken.ensures.rest in
    let ends : (new : HistoryState) → TakesBack c.args.way strokes between.history new ⊎ (new ≡ forgotten) → EndsBy (TakesBack c.args.way) old.strokes old.history new =
    λ new kept. ends_taken (TakesBack c.args.way) strokes old between new c.in-Some.ensures.strokes c.if-is_empty.ensures same kept
    in record { history = ends _ (search rules); strokes = ap (λ (m : MakingState). m.strokes) same }
