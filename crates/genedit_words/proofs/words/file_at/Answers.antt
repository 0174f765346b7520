use Rattle.std.proofs.Common.{◌∙◌, Some, ap, sym}
use Rattle.clap.proofs.WalkLemmas.{first_value-rows}
use Rattle.clap.specs.Matches.{found_of}
use Rattle.genedit_words.proofs.TextLaws.{same_text, some_text}
use Rattle.genedit_words.proofs.words.file_at.Goals as goal

pub unwrap-requires : goal.unwrap-requires
unwrap-requires c = some_text c.get_str.result c.requires.0 (c.get_str.ensures ∙ (first_value-rows (found_of c.args.words.now) c.args.id.now ∙ c.requires.1))

pub returns : goal.returns
returns c =
    c.requires.1 ∙ ap Some (sym (same_text c.get_str.result c.unwrap.result c.requires.0 (c.get_str.ensures ∙ (first_value-rows (found_of c.args.words.now) c.args.id.now ∙ c.requires.1)) c.unwrap.ensures))
