-- How many squares a store has room for, where nothing else is said.
use Rattle.std.specs.Prelude.{ℕ, ◌^◌}

abbrev pub usual_room : ℕ
usual_room = 2 ^ 26
