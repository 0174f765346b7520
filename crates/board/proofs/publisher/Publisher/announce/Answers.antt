use Rattle.std.proofs.Common.{◌≡◌, true, [], ◌∷◌, ◌++◌, sym, ap, ◌∙◌}
use Rattle.board.specs.Origins.{origin, list_of}
use Rattle.board.specs.Sights.{sight}
use Rattle.board.proofs.Keeping.{announces, same_origin}
use Rattle.board.proofs.publisher.Publisher.announce.Goals as goal

pub invariant_of-self : goal.invariant_of-self
invariant_of-self c =
    let old = c.self.inside.front in
    let new = c.again.result in
    let same : origin new ≡ origin old = ap origin c.again.ensures ∙ same_origin old c.in_ok-front.front c.in_ok-front.ensures.same.0 c.in_ok-front.ensures.same.1 in
    let at : list_of old ≡ c.self.inside.writer.desk.shown.value.list = ap (λ p. p.announced) c.self.view_is ∙ (c.requires.list ∙ sym (ap (λ p. p.list) c.self.view_is)) in record {
      history = c.self.invariant.history ∙ sym (ap (λ h. h.book) same);
      same = c.self.invariant.same ∙ sym same;
      rests = announces old new _ _ _ _ c.self.invariant.rests at (sym c.again.ensures, ap list_of c.again.ensures ∙ (c.in_ok-front.ensures.added ∙ ap (λ l. l ++ c.args.entry ∷ []) at));
      knows = c.self.invariant.knows ∙ ap (sight true c.self.inside.writer.desk.shown.value.list) (sym same);
    }
