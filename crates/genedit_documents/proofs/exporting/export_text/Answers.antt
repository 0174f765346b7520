use Rattle.std.proofs.Common.{◌≤◌, arith}
use Rattle.export.specs.Export.{last_generation}
use Rattle.genedit_documents.proofs.Exports.{exported, not_exported}
use Rattle.genedit_documents.proofs.exporting.export_text.Goals as goal

pub returns-clause-text : goal.returns-clause-text
returns-clause-text c = exported c.args.listed.now.rule _ _ c.in_ok-replica.replica c.args.generation c.export.result c.in_ok-replica.ensures.held c.export.ensures.text

pub returns-clause-refused : goal.returns-clause-refused
returns-clause-refused c =
    let late : c.args.generation ≤ last_generation = omega arith in
    not_exported c.args.listed.now.rule _ _ c.in_ok-replica.replica c.args.generation c.export.result c.in_ok-replica.ensures.held late c.export.ensures.err c.export.ensures.full
