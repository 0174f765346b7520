use Rattle.std.proofs.Common.{subst, sym}
use Rattle.std.specs.Prelude.{option_map}
use Rattle.macrocell_text.specs.Macrocells.{AreSquares}
use Rattle.macrocell_text.specs.Readings.{reading_of}
use Rattle.macrocell_text.specs.Texts.{Reading, lines_left}
use Rattle.macrocell_text.proofs.SquaresRead.{lines_kept}
use Rattle.macrocell_text.proofs.text.read_macrocell.Goals as goal

pub told_of-requires : goal.told_of-requires
told_of-requires c =
    lines_kept (lines_left (option_map (λ rest. rest.now) c.split_line.result.1)) (reading_of c.new.result) (reading_of c.in_ok-reader.reader)
    (subst (λ (r : Reading). AreSquares r.squares) (sym c.new.ensures) (λ i q at. absurd (cc))) c.in_ok-reader.ensures
