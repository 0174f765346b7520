use Rattle.genedit_documents.proofs.Exports.{state_told}
use Rattle.genedit_documents.proofs.states.state_text.Goals as goal

pub returns-in-Ok-clause-text : goal.returns-in-Ok-clause-text
returns-in-Ok-clause-text c = state_told c.args.listed.now.rule _ _ c.in_ok-replica.replica _ c.in_ok-replica.ensures.held c.in-Ok.ensures.text
