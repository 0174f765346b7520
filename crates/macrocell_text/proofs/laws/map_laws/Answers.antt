use Rattle.macrocell_text.proofs.MapLaws.{lists_only_map, lists_whole_map}
use Rattle.macrocell_text.proofs.OncePlaced.{lists_each_place_once, lists_no_place_twice}
use Rattle.macrocell_text.proofs.laws.map_laws.Goals as goal

pub returns : goal.returns
returns c = record { only = lists_only_map; whole = lists_whole_map; no_place_twice = lists_no_place_twice; once = lists_each_place_once }
