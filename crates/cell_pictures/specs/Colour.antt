-- The colours that Golly shows of a rule of the Generations family.
use Rattle.std.specs.Prelude.{ℕ, ◌+◌, ◌-◌, ◌*◌, ◌/◌, ◌==◌, min, nat_le, if◌then◌else◌}
use Rattle.cell_pictures.specs.declared.colour.Colour.{Colour}

abbrev pub dead_colour : Colour
dead_colour = record { red = 48; green = 48; blue = 48 }

-- how much green: none where there are two states; else from 0 at state 1 to 255 at the last, in even steps, rounded, and
-- no more behind the last
abbrev pub green_of : ℕ → ℕ → ℕ
green_of states state = if nat_le states 2 then 0 else min ((510 * (state - 1) + (states - 2)) / (2 * (states - 2))) 255

abbrev pub live_colour : ℕ → ℕ → Colour
live_colour states state = record { red = 255; green = green_of states state; blue = 0 }

-- the colour of a state under a rule of so many states
abbrev pub colour_of : ℕ → ℕ → Colour
colour_of states state = if state == 0 then dead_colour else live_colour states state
