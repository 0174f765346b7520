use Rattle.std.proofs.Common.{◌≡◌, true}
use Rattle.command_words.specs.Spelled.{is_whole, spoken_of}
use Rattle.command_words.proofs.QuoteLaws.{whole_spelled}
use Rattle.command_words.proofs.spelled.Spelled.if_whole.Goals as goal

pub returns-then-is_whole : goal.returns-then-is_whole
returns-then-is_whole c = let whole : is_whole (spoken_of c.args.self.now) ≡ true = cc in whole_spelled c.args.self.now whole
