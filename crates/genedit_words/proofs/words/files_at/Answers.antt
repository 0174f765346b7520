use Rattle.std.proofs.Common.{◌∙◌, Some, ap, sym}
use Rattle.clap.proofs.WalkLemmas.{raw_values-rows}
use Rattle.clap.specs.Matches.{found_of}
use Rattle.genedit_words.proofs.TextLaws.{same_texts, some_texts}
use Rattle.genedit_words.proofs.words.files_at.Goals as goal

pub unwrap-requires : goal.unwrap-requires
unwrap-requires c = some_texts c.get_strs.result c.requires.0 (c.get_strs.ensures ∙ (raw_values-rows (found_of c.args.words.now) c.args.id.now ∙ c.requires.1))

pub returns : goal.returns
returns c =
    c.requires.1 ∙ ap Some (sym (same_texts c.get_strs.result c.unwrap.result c.requires.0 (c.get_strs.ensures ∙ (raw_values-rows (found_of c.args.words.now) c.args.id.now ∙ c.requires.1)) c.unwrap.ensures))
