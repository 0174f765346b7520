use Rattle.std.proofs.Common.{◌∙◌, codes, ap}
use Rattle.clap.proofs.WalkLemmas.{first_value-rows}
use Rattle.clap.specs.Matches.{found_of}
use Rattle.genedit_words.specs.Words.{rule_asked}
use Rattle.genedit_words.proofs.TextLaws.{same_text, some_text}
use Rattle.genedit_words.proofs.words.rule.Goals as goal

pub unwrap-text-requires : goal.unwrap-text-requires
unwrap-text-requires c = some_text c.get_str.result c.requires.0 (c.get_str.ensures ∙ (first_value-rows (found_of c.args.words.now) (codes "rule") ∙ c.requires.1))

pub returns : goal.returns
returns c = λ text first.
    c.rule_of.ensures ∙ ap rule_asked (same_text c.get_str.result c.unwrap-text.result text (c.get_str.ensures ∙ (first_value-rows (found_of c.args.words.now) (codes "rule") ∙ first)) c.unwrap-text.ensures)
