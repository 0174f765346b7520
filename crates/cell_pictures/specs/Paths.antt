-- A path that is written so far, and what is still to come.
use Rattle.std.specs.Prelude.{◌≡◌, ℕ, List, [], ◌∷◌, ◌++◌, Option, Some, None, if◌then◌else◌}
use Rattle.devices.specs.Sink.{KnownSink}
use Rattle.generations_rule.specs.Place.{Place}
use Rattle.cell_pictures.specs.Drawn.{IsAdded}
use Rattle.cell_pictures.specs.Runs.{RunValue, is_behind, longer, run_at, runs_behind}
use Rattle.cell_pictures.specs.Svg.{path_begin, path_end, run_text, runs_text}

-- the rest of a path, from a run that was begun on, with the places that follow
abbrev pub rest_of_path : RunValue → List Place → List ℕ
rest_of_path r places = runs_text (runs_behind r places) ++ path_end

-- what is still to come of a path, where a run was begun or none
abbrev pub path_left : ℕ → ℕ → Option RunValue → List Place → List ℕ
path_left states state None [] = []
path_left states state None (c ∷ places) = path_begin states state ++ rest_of_path (run_at c) places
path_left states state (Some r) places = rest_of_path r places

-- the end of a path, where a run was begun or none
abbrev pub path_closed : Option RunValue → List ℕ
path_closed None = []
path_closed (Some r) = run_text r ++ path_end

-- a run with the place right behind it, if it is that
abbrev pub extended : RunValue → Place → Option RunValue
extended r c = if is_behind r c then Some (longer r) else None

-- One place was taken: what was added, and what is still to come then, is what was to come before.
pub record TakesPlace (states state : ℕ) (old : KnownSink) (begun : Option RunValue) (c : Place) (r : RunValue) (new : KnownSink) : Type 0 where
  pub text : List ℕ
  pub added : IsAdded old new text
  pub whole : (places : List Place) → text ++ path_left states state (Some r) places ≡ path_left states state begun (c ∷ places)

-- A path was begun, and the rest of it is still to come.
pub record IsPathBegun (states state : ℕ) (old new : KnownSink) (begun : Option RunValue) (left all : List Place) : Type 0 where
  pub text : List ℕ
  pub added : IsAdded old new text
  pub whole : text ++ path_left states state begun left ≡ path_left states state None all
