-- A poll that waits.
use Rattle.std.specs.Prelude.{ℕ, List, ◌∷◌}
use Rattle.std.specs.Int.{w32, to_be_bytes}

-- the body of the request, of so many milliseconds
abbrev pub await_request : ℕ → List ℕ
await_request milliseconds = 8 ∷ to_be_bytes w32 milliseconds
