use Rattle.documents.proofs.Made.{made_is}
use Rattle.documents.proofs.gathering.gather.Goals as goal

pub of_parts-requires : goal.of_parts-requires
of_parts-requires c = made_is c.args.rule.now c.in_ok-edits.edits.items c.in-Ok.set.items c.states-states.ensures.rule c.in_ok-edits.ensures.under c.in-Ok.ensures
