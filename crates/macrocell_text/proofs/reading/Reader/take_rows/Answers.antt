use Rattle.std.proofs.Common.{refl}
use Rattle.macrocell_text.proofs.Levels.{level_square}
use Rattle.macrocell_text.proofs.reading.Reader.take_rows.Goals as goal

pub push-requires : goal.push-requires
push-requires c = record { level = level_square 3 _; bytes = refl }
