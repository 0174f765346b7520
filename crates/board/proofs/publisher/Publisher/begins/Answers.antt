use Rattle.std.proofs.Common.{◌⊎◌, ◌≤◌, List, drop, length, sym, ap, ◌∙◌, subst}
use Rattle.std.proofs.lemmas.Bool.{leb-true, le-leb}
use mathlib.Core.List.{IsPrefix}
use Rattle.board.specs.declared.entry.Entry.{Entry}
use Rattle.board.specs.Origins.{list_of}
use Rattle.board.specs.Publishing.{Publishing}
use Rattle.board.proofs.Fronts.{prefix_fewer, prefix_length}
use Rattle.board.proofs.Published.{begins_either, rests_begins}
use Rattle.board.proofs.publisher.Publisher.begins.Goals as goal

pub returns-clause-one : goal.returns-clause-one
returns-clause-one c =
    let s = c.self.inside in
    let begun = rests_begins s.front s.waiting (drop s.writer.behind s.writer.log.items) s.writer.desk.shown.value.list c.self.invariant.rests in
    subst (λ (l : List Entry). IsPrefix l (list_of c.args.front.now) ⊎ IsPrefix (list_of c.args.front.now) l) (ap (λ (p : Publishing). p.list) c.self.view_is)
    (begins_either s.writer.desk.shown.value.list (list_of s.front) (list_of c.args.front.now) c.begins-one.result begun c.begins-one.ensures.begins)

pub returns-clause-exact : goal.returns-clause-exact
returns-clause-exact c = (
  λ yes. prefix_fewer c.args.self.now.list (list_of c.args.front.now) (returns-clause-one c)
      (subst (λ n. n ≤ length (list_of c.args.front.now)) (c.len.ensures ∙ ap length c.board.ensures) (subst (λ n. c.len.result ≤ n) c.len-2.ensures (leb-true _ _ yes))),
  λ begun. le-leb _ _ (subst (λ n. n ≤ c.len-2.result) (sym (c.len.ensures ∙ ap length c.board.ensures)) (subst (λ n. length c.args.self.now.list ≤ n) (sym c.len-2.ensures) (prefix_length c.args.self.now.list (list_of c.args.front.now) begun))),
)
