-- What is handed on and told of films: of the generations of a range, a text each.
use Rattle.std.specs.Prelude.{◌≡◌, ◌⊎◌, ◌<◌, ◌≤◌, ℕ, List, [], ◌∷◌, ◌++◌, Option, Some, None, option_map, Result, Ok, Err}
use mathlib.Core.List.{IsPrefix}
use Rattle.generations_rule.specs.Place.{Place}
use Rattle.generations_rule.specs.Rule.{GenerationsRule}
use Rattle.command_words.specs.Ranges.{generations_of, last_of}
use Rattle.export.specs.declared.fault.ExportFault.TheVariants.{GenRange, TooManyCells}
use Rattle.export.specs.Export.{last_generation}
use Rattle.told_generations.specs.declared.album.Put.{Put}
use Rattle.told_generations.specs.declared.album.Put.TheVariants.{Taken, Refused}
use Rattle.told_generations.specs.declared.film_form.FilmForm.{FilmForm}
use Rattle.told_generations.specs.declared.film_form.FilmPlan.{FilmPlan}
use Rattle.told_generations.specs.FilmTexts.{HasNoFilmText, IsFilmText}
use Rattle.told_generations.specs.Refusals.{refusal_line}

-- ---- albums

-- what an album was handed: the text of a generation; whether it took it, and what it printed of that
pub record Frame : Type 0 where
  pub generation : ℕ
  pub text : List ℕ
  pub put : Put
  pub line : List ℕ

-- more behind those that an album was handed, where these are known
abbrev pub with_frames : Option (List Frame) → List Frame → Option (List Frame)
with_frames known frames = option_map (λ before. before ++ frames) known

-- An album is handed the text of a generation: it takes it or not, and puts a line behind what is printed. Or memory is wanting: it
-- has what it had, and what was printed stands.
abbrev pub IsPut : {E : Type 0} → ℕ → List ℕ → Option (List Frame) → Option (List Frame) → List ℕ → List ℕ → Result Put E → Type 0
IsPut g text album album' out out' (Ok put) =
    (line : List ℕ) × (album' ≡ with_frames album (record { generation = g; text = text; put = put; line = line } ∷ [])) × (out' ≡ out ++ line)
IsPut g text album album' out out' (Err want) = (album' ≡ album) × IsPrefix out out'

-- That is done with a text, if there is one; else it is printed that there are too many cells, and the album is handed nothing.
abbrev pub IsFrameTold : {E : Type 0} → ℕ → Option (List ℕ) → Option (List Frame) → Option (List Frame) → List ℕ → List ℕ → Result Put E → Type 0
IsFrameTold g (Some text) album album' out out' result = IsPut g text album album' out out' result
IsFrameTold g None album album' out out' (Ok put) = (put ≡ Refused) × (album' ≡ album) × (out' ≡ out ++ refusal_line TooManyCells)
IsFrameTold g None album album' out out' (Err want) = (album' ≡ album) × IsPrefix out out'

-- ---- films

module _ (form : FilmForm) (r : GenerationsRule) (f : Place → ℕ) where
  -- an album took a text of each of some generations, in their order, and printed this of them
  pub data AreTaken : List ℕ → List Frame → List ℕ → Type 0 where
    none : AreTaken [] [] []
    more : {g : ℕ} {gs text line lines : List ℕ} {frames : List Frame} → IsFilmText form r f g text → AreTaken gs frames lines →
        AreTaken (g ∷ gs) (record { generation = g; text = text; put = Taken; line = line } ∷ frames) (line ++ lines)

  -- it did not take that of one
  pub record IsLeft (g : ℕ) (frames : List Frame) (lines : List ℕ) : Type 0 where
    pub text : List ℕ
    pub is : IsFilmText form r f g text
    pub handed : frames ≡ record { generation = g; text = text; put = Refused; line = lines } ∷ []

  -- one has none, and that is printed
  pub record IsTooMany (g : ℕ) (frames : List Frame) (lines : List ℕ) : Type 0 where
    pub none : HasNoFilmText form r f g
    pub handed : frames ≡ []
    pub told : lines ≡ refusal_line TooManyCells

  -- How a film ends, by the generations that are left behind those whose texts were taken: none is; or the text of the first of them is
  -- not taken, or there is none.
  abbrev pub EndsWith : List ℕ → List Frame → List ℕ → Type 0
  EndsWith [] frames lines = (frames ≡ []) × (lines ≡ [])
  EndsWith (g ∷ gs) frames lines = IsLeft g frames lines ⊎ IsTooMany g frames lines

-- the last generation of a range is one; an album took the texts of its generations, in their order, to the film's end
pub record MakesFilm (plan : FilmPlan) (r : GenerationsRule) (f : Place → ℕ) (album album' : Option (List Frame)) (out out' : List ℕ) : Type 0 where
  pub within : last_of plan.range ≤ last_generation
  pub done : List ℕ
  pub left : List ℕ
  pub all : generations_of plan.range ≡ done ++ left
  pub frames : List Frame
  pub lines : List ℕ
  pub taken : AreTaken plan.form r f done frames lines
  pub last : List Frame
  pub told : List ℕ
  pub ends : EndsWith plan.form r f left last told
  pub handed : album' ≡ with_frames album (frames ++ last)
  pub printed : out' ≡ out ++ (lines ++ told)

-- the last generation of a range is none, and that is printed, and nothing else done
pub record MakesNoFilm (plan : FilmPlan) (album album' : Option (List Frame)) (out out' : List ℕ) : Type 0 where
  pub past : last_generation < last_of plan.range
  pub kept : album' ≡ album
  pub printed : out' ≡ out ++ refusal_line GenRange

-- the one or the other
abbrev pub TellsFilm : FilmPlan → GenerationsRule → (Place → ℕ) → Option (List Frame) → Option (List Frame) → List ℕ → List ℕ → Type 0
TellsFilm plan r f album album' out out' = MakesFilm plan r f album album' out out' ⊎ MakesNoFilm plan album album' out out'

-- memory or room is wanting amid a film: an album took the texts of its generations up to there, and what was printed stands
pub record BreaksFilm (plan : FilmPlan) (r : GenerationsRule) (f : Place → ℕ) (album album' : Option (List Frame)) (out out' : List ℕ) : Type 0 where
  pub done : List ℕ
  pub left : List ℕ
  pub all : generations_of plan.range ≡ done ++ left
  pub frames : List Frame
  pub lines : List ℕ
  pub taken : AreTaken plan.form r f done frames lines
  pub handed : album' ≡ with_frames album frames
  pub printed : IsPrefix (out ++ lines) out'
