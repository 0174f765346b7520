use Rattle.multistate_rle.proofs.TokenLaws.{has_tokens, has_one_token_list, has_one_text}
use Rattle.multistate_rle.proofs.LetterLaws.{has_letters}
use Rattle.multistate_rle.proofs.laws.token_laws.Goals as goal

pub returns-clause-tokens : goal.returns-clause-tokens
returns-clause-tokens c = has_tokens

pub returns-clause-only : goal.returns-clause-only
returns-clause-only c = has_one_token_list

pub returns-clause-text : goal.returns-clause-text
returns-clause-text c = has_one_text

pub returns-clause-letters : goal.returns-clause-letters
returns-clause-letters c = has_letters
