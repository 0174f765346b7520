-- What is told of the counts of cells at several generations.
use Rattle.std.specs.Prelude.{◌≡◌, ◌⊎◌, ◌<◌, ◌≤◌, ℕ, List, [], ◌∷◌, ◌++◌, codes, decimal}
use Rattle.generations_rule.specs.Place.{Place}
use Rattle.generations_rule.specs.Rule.{GenerationsRule}
use Rattle.command_words.specs.declared.ranges.GenerationRange.{GenerationRange}
use Rattle.command_words.specs.Ranges.{generation_at, generations_of, last_of, steps_of}
use Rattle.square_store.specs.Limits.{usual_room}
use Rattle.stamped_tree.specs.Plane.{StampedPlane}
use Rattle.export.specs.declared.asking.Count.{Count}
use Rattle.export.specs.declared.fault.ExportFault.TheVariants.{GenRange}
use Rattle.export.specs.Asking.{CountsAt}
use Rattle.export.specs.Export.{IsRoomWanted, last_generation}
use Rattle.genedit_lib.specs.Output.{count_line}
use Rattle.told_generations.specs.Refusals.{refusal_line}

-- how many cells there are at a generation, and where
abbrev pub counted_line : ℕ → Count → List ℕ
counted_line g count = codes "generation " ++ decimal g ++ codes ": " ++ count_line count

-- a line for each of some generations, in their order
pub data AreCountLines (r : GenerationsRule) (f : Place → ℕ) : List ℕ → List ℕ → Type 0 where
  none : AreCountLines r f [] []
  more : {g : ℕ} {gs text : List ℕ} (count : Count) → CountsAt r f g count → AreCountLines r f gs text → AreCountLines r f (g ∷ gs) (counted_line g count ++ text)

-- the line of a count is printed
pub record PrintsCount (r : GenerationsRule) (f : Place → ℕ) (g : ℕ) (out out' : List ℕ) : Type 0 where
  pub count : Count
  pub counts : CountsAt r f g count
  pub printed : out' ≡ out ++ counted_line g count

-- each generation of a range is one, and a line is printed for each
pub record PrintsEachCount (r : GenerationsRule) (f : Place → ℕ) (range : GenerationRange) (out out' : List ℕ) : Type 0 where
  pub within : last_of range ≤ last_generation
  pub text : List ℕ
  pub lines : AreCountLines r f (generations_of range) text
  pub printed : out' ≡ out ++ text

-- the last generation of a range is none, and that is printed, and nothing else
pub record PrintsNoCount (range : GenerationRange) (out out' : List ℕ) : Type 0 where
  pub past : last_generation < last_of range
  pub printed : out' ≡ out ++ refusal_line GenRange

-- the one or the other
abbrev pub PrintsCounts : GenerationsRule → (Place → ℕ) → GenerationRange → List ℕ → List ℕ → Type 0
PrintsCounts r f range out out' = PrintsEachCount r f range out out' ⊎ PrintsNoCount range out out'

-- each generation of a range is one, and at one of them a universe of a plane finds no room
pub record IsRoomWantedWithin (r : GenerationsRule) (p : StampedPlane) (range : GenerationRange) : Type 0 where
  pub within : last_of range ≤ last_generation
  pub steps : ℕ
  pub one : steps ≤ steps_of range
  pub wanted : IsRoomWanted r p (generation_at range steps) usual_room
