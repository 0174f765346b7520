-- The universe that a text tells, some generations later.
use Rattle.std.specs.Prelude.{◌≡◌, ℕ, true, List, Option, None, Some}
use Rattle.generations_rule.specs.Place.{Place}
use Rattle.generations_rule.specs.Rule.{GenerationsRule}
use Rattle.generation_engine.specs.Universe.{EngineValue}
use Rattle.export.specs.Kept.{IsRunOf}
use Rattle.cell_pictures.specs.declared.picture.Form.TheVariants.{Plain}
use Rattle.genedit_view.specs.declared.options.ViewOptions.{ViewOptions}
use Rattle.genedit_view.specs.Reading.{IsReadAs}

-- what is asked of a view of the same generation
abbrev pub universe_view : Option GenerationsRule → ℕ → ViewOptions
universe_view given g = record { form = Plain; window = None; generation = Some g; rule = given }

-- a text is read as a map, and a universe is what the rule made of it in so many generations
pub record IsUniverseOf (given : Option GenerationsRule) (g : ℕ) (text : List ℕ) (r : GenerationsRule) (e : EngineValue) : Type 0 where
  pub states : Place → ℕ
  pub read : IsReadAs true given text r states
  pub run : IsRunOf r states e
  pub at : e.generation ≡ g
