use Rattle.std.proofs.Common.{◌≡◌, ◌++◌, ◌∷◌, [], List, true, take, sym, ap, subst, ◌∙◌}
use Rattle.edit_stamps.specs.Edit.{has_states_below}
use Rattle.board.specs.declared.entry.Entry.{Entry}
use Rattle.board.specs.declared.rule.Label.{Label}
use Rattle.board.specs.Sights.{label_of}
use Rattle.inbox.specs.declared.submission.Submission.{Submission}
use Rattle.inbox.specs.Books.{label_in}
use Rattle.relay_board.specs.Kept.{kept_of}
use Rattle.relay_board.proofs.Keeping.{for_first, kept_first}
use Rattle.relay_board.proofs.relay.announced.Goals as goal
use Rattle.relay_board.proofs.relay.announced.Goals.{in-Ok-announce, in-Err}

pub announce-requires-clause-below : goal.announce-requires-clause-below
announce-requires-clause-below c =
    let x : Submission = c.in-Some.first.now in
    let origin = c.args.publisher.now.origin in
    let own : label_in x ≡ label_of origin = for_first c.args.kept.now.items x (label_of origin) c.requires.label (sym c.in-Some.ensures) in
    subst (λ (e : Entry). has_states_below origin.states e.edit ≡ true) (sym c.in-Ok.ensures) (subst (λ (l : Label). has_states_below l.states x.entry.edit ≡ true) own x.below)

pub returns-clause-announced : goal.returns-clause-announced
returns-clause-announced c =
    let x : Submission = c.in-Some.first.now in
    let list : List Entry = c.args.publisher.now.list in
    let items : List Submission = c.args.kept.now.items in
    let kept : take 1 (kept_of items) ≡ x.entry ∷ [] = ap (λ (l : List Entry). take 1 l) (kept_first items x (sym c.in-Some.ensures)) in
    elim c.match-announce.branch [
      | in-Ok-announce w ↦
          let more : c.announce.new.self.announced ≡ list ++ c.in-Ok.entry ∷ [] = rw w.in-Ok-announce.is at c.announce.ensures.announced in
          rw w.result-is (more ∙ (ap (λ (e : Entry). list ++ e ∷ []) c.in-Ok.ensures ∙ ap (λ (l : List Entry). list ++ l) (sym kept)))
      | in-Err w ↦
          let same : c.announce.new.self.announced ≡ c.args.publisher.now.announced = rw w.in-Err.is at c.announce.ensures.announced in
          rw w.result-is same
    ]
