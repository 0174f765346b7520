-- Names of files.
use Rattle.std.specs.Prelude.{ℕ, ◌-◌, Bool, List, length, drop, codes}
use Rattle.std.specs.Str.{bytes_eq}

-- the name of a macrocell
abbrev pub ends_with_mc : List ℕ → Bool
ends_with_mc path = bytes_eq (drop (length path - 3) path) (codes ".mc")
