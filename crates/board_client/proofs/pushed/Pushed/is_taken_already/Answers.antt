use Rattle.std.proofs.Common.{◌∙◌, refl}
use Rattle.board_client.proofs.OwnLaws.{taken_already}
use Rattle.board_client.proofs.pushed.Pushed.is_taken_already.Goals as goal

pub returns : goal.returns
returns c = λ has.
    taken_already c.args.replica.now c.self.inside.rule c.self.inside.edit c.self.inside.request c.as_body.result.now c.behind_kind-told.result.now c.args.text.now c.self.invariant.bytes c.as_body.ensures
    c.behind_kind-told.ensures (c.if-not-are_same.ensures.0 refl) (c.if-not-same.ensures.0 refl ∙ c.rule.ensures) c.states-states.ensures.rule (c.has_at.ensures.tellable has) (c.has_at.ensures.taken has)
