-- Worked values.
use Rattle.std.specs.Fmt.{digits}
use Rattle.std.specs.Prelude.{◌≡◌, codes, refl, pos, negsuc, None, Some, Ok, Err}
use Rattle.export.specs.declared.fault.ExportFault.TheVariants.{GenRange, TooManyCells}
use Rattle.told_generations.specs.Searches.{searched_line}

pub glider_told : searched_line 100 (Ok (Some (record { generations = 4; by = record { x = pos 1; y = negsuc 0 } }))) ≡ codes "period 4 moves 1 -1\n"
unfolding digits
glider_told = refl

pub none_told : searched_line 100 (Ok None) ≡ codes "none to 100\n"
unfolding digits
none_told = refl

pub refused_past_the_last : searched_line 100 (Err GenRange) ≡ codes "refused 22 GenRange\n"
unfolding digits
refused_past_the_last = refl

pub refused_as_too_many : searched_line 100 (Err TooManyCells) ≡ codes "refused 23 TooManyCells\n"
unfolding digits
refused_as_too_many = refl
