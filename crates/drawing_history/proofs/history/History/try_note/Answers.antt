use Rattle.std.proofs.Common.{[], ◌∷◌, ◌++◌, ap, subst, ◌∙◌, rules}
use Rattle.drawing_history.specs.Drawings.{HistoryState, KeepsNewest, kept_within, most_cells}
use Rattle.drawing_history.proofs.Dropping.{keeps_last}
use Rattle.drawing_history.proofs.Moving.{kept_fits}
use Rattle.drawing_history.proofs.history.History.try_note.Goals as goal

pub returns-clause-ok : goal.returns-clause-ok
returns-clause-ok c =
    let old = c.args.self.now in
    let kept = c.drop_oldest.new.self in
    let drawing = kept_within most_cells c.args.strokes in
    let newest : KeepsNewest (old.drawn ++ drawing ∷ []) kept =
    subst (λ all. KeepsNewest all kept)
    (c.in_ok-push.ensures.ok ∙ ap (λ (h : HistoryState). h.drawn ++ c.kept_within.result ∷ []) c.self.view_is ∙ ap (λ d. old.drawn ++ d ∷ []) c.kept_within.ensures)
    c.drop_oldest.ensures
    in record { drawn = newest; last = keeps_last old.drawn kept drawing (kept_fits most_cells c.args.strokes) newest; undone = search rules }
