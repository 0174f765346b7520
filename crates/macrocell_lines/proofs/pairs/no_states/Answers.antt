use Rattle.std.proofs.lemmas.List.{get_or-replicate}
use Rattle.macrocell_lines.proofs.pairs.no_states.Goals as goal

pub returns : goal.returns
returns c = λ i h. get_or-replicate 64 i 0 0 h
