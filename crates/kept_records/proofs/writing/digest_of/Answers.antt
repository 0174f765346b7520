use Rattle.std.proofs.Common.{rules}
use Rattle.kept_records.specs.Records.{digest}
use Rattle.kept_records.proofs.writing.digest_of.Goals as goal

pub returns : goal.returns
unfolding digest
returns c = search rules
