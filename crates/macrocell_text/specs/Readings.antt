-- What a macrocell and its reader show.
use Rattle.macrocell_text.specs.declared.macrocell.Macrocell.{Macrocell}
use Rattle.macrocell_text.specs.declared.reading.Reader.{Reader}
use Rattle.macrocell_text.specs.Macrocells.{MacrocellTold, squares_of}
use Rattle.macrocell_text.specs.Texts.{Reading}

abbrev pub macrocell_told : Macrocell → MacrocellTold
macrocell_told m = record { rule = m.rule; generation = m.generation; squares = squares_of m.entries.items }

abbrev pub reading_of : Reader → Reading
reading_of r = record { start = r.start; rule = r.rule; generation = r.generation; leaves = r.leaves; squares = squares_of r.entries.items }
