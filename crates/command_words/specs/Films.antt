-- Names of the files of a film.
use Rattle.std.specs.Prelude.{ℕ, Bool, ◌==◌, if◌then◌else◌, List, [], ◌∷◌, count_by, decimal, flat_map}

-- what the number of a generation takes the place of: a `%`
abbrev pub is_generation_sign : ℕ → Bool
is_generation_sign byte = byte == 37

-- the name of a film's files has one
abbrev pub is_film_name : List ℕ → Bool
is_film_name name = count_by is_generation_sign name == 1

-- the name of the file of a generation
abbrev pub film_name_at : List ℕ → ℕ → List ℕ
film_name_at name generation = flat_map (λ byte. if is_generation_sign byte then decimal generation else byte ∷ []) name
