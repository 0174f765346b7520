-- Why a macrocell is no universe.
use Rattle.std.specs.Prelude.{◌≡◌, ◌≢◌, ℕ, ◌<◌, ◌≤◌, false, ⊤}
use Rattle.generations_rule.specs.Place.{Place}
use Rattle.edit_stamps.specs.Plane.{is_in_plane}
use Rattle.macrocell_universes.specs.declared.fault.UniverseFault.{UniverseFault}
use Rattle.macrocell_universes.specs.declared.fault.UniverseFault.TheVariants.{OutOfPlane, StateRange, StoreFull, Memory}
use Rattle.macrocell_universes.specs.Middles.{LiesInPlane}

-- all states are below a number
abbrev pub HasStatesBelow : ℕ → (Place → ℕ) → Type 0
HasStatesBelow n f = (c : Place) → f c < n

-- The refusal of a map under a rule of so many states: a live cell lies outside the plane; else a state is not below the number; and
-- where room is wanting neither is so. Memory may be wanting before any of that is known.
abbrev pub IsRefused : ℕ → (Place → ℕ) → UniverseFault → Type 0
IsRefused n f OutOfPlane = (c : Place) × ((is_in_plane c ≡ false) × (f c ≢ 0))
IsRefused n f StateRange = LiesInPlane f × ((c : Place) × (n ≤ f c))
IsRefused n f StoreFull = LiesInPlane f × HasStatesBelow n f
IsRefused n f Memory = ⊤
