-- Why a step of tiles, or a run, is refused.
use Rattle.std.specs.Prelude.{⊤, ℕ, zero, suc, ◌+◌, ◌*◌, ◌-◌, ◌/◌, ◌%◌, ◌<◌, ◌≤◌, length}
use Rattle.std.specs.List.{IsDistinct}
use Rattle.std.specs.Map.{keys_of}
use Rattle.generations_rule.specs.Place.{Place}
use Rattle.generations_rule.specs.Rule.{GenerationsRule}
use Rattle.generations_rule.specs.Evolution.{at}
use Rattle.tile_steps.specs.declared.fault.TileFault.{TileFault}
use Rattle.tile_steps.specs.declared.fault.TileFault.TheVariants.{Far, Full, Long, Memory}
use Rattle.tile_steps.specs.declared.tiles.Corner.{Corner}
use Rattle.tile_steps.specs.Tiles.{AllInside, Entries, IsInside, IsOrigin, Shows, is_corner}

-- ---- later

-- the origin of the grid behind so many steps: each goes to the other grid
abbrev pub origin_after : ℕ → ℕ → ℕ
origin_after origin zero = origin
origin_after origin (suc steps) = 16 - origin_after origin steps

-- whatever map the old tiles show, the new ones show it g generations and so many steps later
abbrev pub ShowLater : (n : ℕ) → GenerationsRule → ℕ → ℕ → Entries n → Entries n → Type 0
ShowLater n r g steps old new =
    (origin : ℕ) (f : Place → ℕ) → IsOrigin origin → ((c : Place) → f c < r.states) → Shows n origin old f → Shows n (origin_after origin steps) new (at r f g)

-- whatever map the tiles show, something holds of all tiles that show it g generations and so many steps later
abbrev pub HoldsLater : (n : ℕ) → GenerationsRule → ℕ → ℕ → Entries n → (Entries n → Type 0) → Type 0
HoldsLater n r g steps tiles P =
    (origin : ℕ) (f : Place → ℕ) → IsOrigin origin → ((c : Place) → f c < r.states) → Shows n origin tiles f → (others : Entries n) → Shows n (origin_after origin steps) others (at r f g) → P others

-- it takes no fewer tiles to show it
abbrev pub AreFewest : (n : ℕ) → GenerationsRule → ℕ → ℕ → Entries n → Entries n → Type 0
AreFewest n r g steps old new = HoldsLater n r g steps old (λ others. length new ≤ length others)

-- ---- one step

-- more tiles than there is room for are not dead then: it takes more to show it
abbrev pub IsRoomWanted : (n : ℕ) → GenerationsRule → ℕ → ℕ → Entries n → Type 0
IsRoomWanted n r g room tiles = HoldsLater n r g 1 tiles (λ others. room < length others)

-- a tile that lies too far out is not dead then: it takes such a one to show it
abbrev pub IsTooFar : (n : ℕ) → GenerationsRule → ℕ → Entries n → Type 0
IsTooFar n r g tiles = HoldsLater n r g 1 tiles (λ others. AllInside n others → ⊥)

-- why a step is refused; want of memory has no cause
abbrev pub IsRefusedStep : (n : ℕ) → GenerationsRule → ℕ → ℕ → Entries n → TileFault → Type 0
IsRefusedStep n r g room tiles Full = IsRoomWanted n r g room tiles
IsRefusedStep n r g room tiles Far = IsTooFar n r g tiles
IsRefusedStep n r g room tiles Long = ⊥
IsRefusedStep n r g room tiles Memory = ⊤

-- why a tile is not put at a corner
abbrev pub IsNotPut : (n : ℕ) → ℕ → Entries n → Corner → TileFault → Type 0
IsNotPut n room tiles c Full = (room ≤ length tiles) × IsDistinct is_corner (keys_of tiles)
IsNotPut n room tiles c Far = IsInside 128 c → ⊥
IsNotPut n room tiles c Long = ⊥
IsNotPut n room tiles c Memory = ⊤

-- ---- runs

-- how many generations the first steps of a run of g make: the first what sixteens leave, and so many others 16 each
abbrev pub generations_by : ℕ → ℕ → ℕ
generations_by g others = g % 16 + 16 * others

-- behind some step of a run of g generations, counted from 0, something holds of all tiles that show the map then
pub record HoldsAtStep (n : ℕ) (r : GenerationsRule) (g : ℕ) (tiles : Entries n) (P : Entries n → Type 0) : Type 0 where
  pub step : ℕ
  pub of : step ≤ g / 16
  pub holds : HoldsLater n r (generations_by g step) (suc step) tiles P

-- how many tiles the first of some lists have
abbrev pub tiles_in : (n : ℕ) → ℕ → (ℕ → Entries n) → ℕ
tiles_in n zero lists = 0
tiles_in n (suc count) lists = tiles_in n count lists + length (lists count)

-- A run within what it may take: behind each step there are tiles that show whatever map the tiles show, all inside and no
-- more than there is room for, and these and the first make no more windows than may be, four for each tile that a step
-- begins with.
pub record IsWithin (n : ℕ) (r : GenerationsRule) (g room windows : ℕ) (tiles : Entries n) : Type 0 where
  pub behind : ℕ → Entries n
  pub show : (step : ℕ) → step ≤ g / 16 → ShowLater n r (generations_by g step) (suc step) tiles (behind step)
  pub few : (step : ℕ) → step ≤ g / 16 → length (behind step) ≤ room
  pub inside : (step : ℕ) → step ≤ g / 16 → AllInside n (behind step)
  pub most : 4 * (length tiles + tiles_in n (g / 16) behind) ≤ windows

-- Behind so many steps of a run the next one would make more windows than may be, four for each tile that a step begins
-- with: whatever map the tiles show, and whatever tiles show it behind each step before.
pub record IsTooLong (n : ℕ) (r : GenerationsRule) (g windows : ℕ) (tiles : Entries n) : Type 0 where
  pub steps : ℕ
  pub of : steps ≤ g / 16
  pub more : (origin : ℕ) (f : Place → ℕ) → IsOrigin origin → ((c : Place) → f c < r.states) → Shows n origin tiles f
      → (behind : ℕ → Entries n) → ((step : ℕ) → step < steps → Shows n (origin_after origin (suc step)) (behind step) (at r f (generations_by g step)))
      → windows < 4 * (length tiles + tiles_in n steps behind)

-- why a run is refused; want of memory has no cause
abbrev pub IsRefusedRun : (n : ℕ) → GenerationsRule → ℕ → ℕ → ℕ → Entries n → TileFault → Type 0
IsRefusedRun n r g room windows tiles Full = HoldsAtStep n r g tiles (λ others. room < length others)
IsRefusedRun n r g room windows tiles Far = HoldsAtStep n r g tiles (λ others. AllInside n others → ⊥)
IsRefusedRun n r g room windows tiles Long = IsTooLong n r g windows tiles
IsRefusedRun n r g room windows tiles Memory = ⊤
