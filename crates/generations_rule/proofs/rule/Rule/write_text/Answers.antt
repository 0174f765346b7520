use Rattle.std.proofs.lemmas.Result.{IfOk-weaker}
use Rattle.generations_rule.proofs.TextLaws.{has_short_text}
use Rattle.generations_rule.proofs.rule.Rule.write_text.Goals as goal

pub returns-clause-short : goal.returns-clause-short
returns-clause-short c =
    IfOk-weaker c.text_of_parts.result _ _ (λ text is. rw is (has_short_text
    (record { survival = c.self.inside.survival; birth = c.self.inside.birth; states = c.self.inside.states }) c.self.invariant)) c.text_of_parts.ensures
