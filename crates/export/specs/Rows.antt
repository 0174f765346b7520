-- Worked values of the definitions.
use Rattle.std.specs.Prelude.{◌≡◌, pos, negsuc, refl}
use Rattle.generations_rule.specs.Place.{at_place, moved}
use Rattle.generation_engine.specs.Universe.{universe_corner}
use Rattle.export.specs.Export.{last_generation, most_cells}

pub last : last_generation ≡ 536870912
last = refl

pub most : most_cells ≡ 16777216
most = refl

-- the first place whose cells are counted, and the last
pub first_place : moved universe_corner (pos 0) (pos 0) ≡ at_place (negsuc 4294967295) (negsuc 4294967295)
first_place = refl

pub last_place : moved universe_corner (pos 8589934591) (pos 8589934591) ≡ at_place (pos 4294967295) (pos 4294967295)
last_place = refl
