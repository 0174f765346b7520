use Rattle.std.proofs.Common.{◌∙◌, ap, arith, eqb-true, length}
use Rattle.std.proofs.lemmas.List.{length-map}
use Rattle.macrocell_text.specs.LiveCells.{capped_count}
use Rattle.macrocell_text.specs.Macrocells.{squares_of}
use Rattle.macrocell_text.proofs.Prefixes.{count_stands, length_squares}
use Rattle.macrocell_text.proofs.standing.count_is_0.Goals as goal

pub bounds-counts-index : goal.bounds-counts-index
bounds-counts-index c = omega (arith, ap length c.requires.counts, length-map (squares_of c.args.entries.now) capped_count, length_squares c.args.entries.now, c.requires.within)

pub returns : goal.returns
returns c = λ none d. count_stands c.args.index c.args.entries.now c.args.counts.now d c.requires.counts c.requires.within (eqb-true _ _ none)
