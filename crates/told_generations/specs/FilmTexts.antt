-- The texts of films.
use Rattle.std.specs.Prelude.{ℕ, List, Option, Some, None, Ok, Err, if◌then◌else◌}
use Rattle.generations_rule.specs.Place.{Place}
use Rattle.generations_rule.specs.Rule.{GenerationsRule}
use Rattle.generations_rule.specs.Evolution.{at}
use Rattle.export.specs.declared.fault.ExportFault.TheVariants.{TooManyCells}
use Rattle.export.specs.Export.{IsExport, most_cells}
use Rattle.macrocell_lines.specs.FileNames.{ends_with_mc}
use Rattle.macrocell_lines.specs.Macrocell.{IsMacrocell}
use Rattle.told_generations.specs.declared.film_form.FilmForm.{FilmForm}
use Rattle.told_generations.specs.declared.film_form.FilmForm.TheVariants.{Rle, Macrocell}

-- files whose name ends with `.mc` have macrocells
abbrev pub form_of : List ℕ → FilmForm
form_of name = if ends_with_mc name then Macrocell else Rle

-- the text of what the rule makes of a map of states in so many generations
abbrev pub IsFilmText : FilmForm → GenerationsRule → (Place → ℕ) → ℕ → List ℕ → Type 0
IsFilmText Rle r f g text = IsExport r f g most_cells (Ok text)
IsFilmText Macrocell r f g text = IsMacrocell r g (at r f g) text

-- that has none: it has more cells than an RLE text may have
abbrev pub HasNoFilmText : FilmForm → GenerationsRule → (Place → ℕ) → ℕ → Type 0
HasNoFilmText Rle r f g = IsExport r f g most_cells (Err TooManyCells)
HasNoFilmText Macrocell r f g = ⊥

-- the one or the other
abbrev pub IsFilmAnswer : FilmForm → GenerationsRule → (Place → ℕ) → ℕ → Option (List ℕ) → Type 0
IsFilmAnswer form r f g (Some text) = IsFilmText form r f g text
IsFilmAnswer form r f g None = HasNoFilmText form r f g
