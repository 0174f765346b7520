-- What is wanted of a plane where something is joined, and what it is full of.
use Rattle.std.specs.Prelude.{◌≡◌, ◌⊎◌, ℕ, ◌≤◌, List, length, take}
use Rattle.edit_stamps.specs.Edit.{PlaneEdit, greatest}
use Rattle.stamped_writes.specs.Write.{Writes, AreSame, joined}
use Rattle.square_store.specs.Store.{IsHeld}
use Rattle.square_store.specs.Pieces.{IsPieceOfGrid}
use Rattle.stamped_tree.specs.LeafKind.{plane_grid}
use Rattle.stamped_tree.specs.MapPieces.{IsFullForMap, square_of}
use Rattle.stamped_tree.specs.Plane.{StampedPlane, above_leaf, map_of}
use Rattle.held_plane.specs.declared.added.Added.{Added}
use Rattle.held_plane.specs.declared.added.Added.TheVariants.{Edits, Map}

-- ---- which maps are wanted on the way

-- the map with the first so many of some edits joined into it
abbrev pub IsJoinedSoFar : Writes → List PlaneEdit → Writes → Type 0
IsJoinedSoFar old edits map = (i : ℕ) × ((i ≤ length edits) × AreSame map (joined old (greatest (take i edits))))

-- what is wanted where a map is joined is the joined one; where edits are, each that they make of the map one after another
abbrev pub IsWantedOf : Writes → Added → Writes → Type 0
IsWantedOf old (Edits edits) map = IsJoinedSoFar old edits.now map
IsWantedOf old (Map plane) map = AreSame map (joined old (map_of plane.now))

-- ---- their squares

-- at q stands the plane's square of a map, or one of those that it is cut into
abbrev pub IsPieceOfMap : StampedPlane → Writes → ℕ → Type 0
IsPieceOfMap p map q = IsPieceOfGrid plane_grid 8 p.store (above_leaf 31) (square_of map) q

-- the same of some map of a kind
abbrev pub IsPieceOfSome : StampedPlane → (Writes → Type 0) → ℕ → Type 0
IsPieceOfSome p IsOne q = (map : Writes) × (IsOne map × IsPieceOfMap p map q)

-- each square that is new is one of those that some map of a kind is cut into
abbrev pub AddsPiecesOfSome : (old new : StampedPlane) → (Writes → Type 0) → Type 0
AddsPiecesOfSome old new IsOne = (q : ℕ) → IsHeld new.store q → IsHeld old.store q ⊎ IsPieceOfSome new IsOne q

-- the store is full, and the plane's square of some map of a kind is not there
abbrev pub IsFullForSome : StampedPlane → (Writes → Type 0) → Type 0
IsFullForSome p IsOne = (map : Writes) × (IsOne map × IsFullForMap p map)

-- a plane is full of what it needs: it holds as many squares as it has room for, each a piece of its map or of one that is wanted, and one that is wanted is not there
pub record IsFullOfNeeds (old new : StampedPlane) (added : Added) : Type 0 where
  pub full : length new.store.squares ≡ new.store.room
  pub needed : (q : ℕ) → IsHeld new.store q → IsPieceOfMap new (map_of old) q ⊎ IsPieceOfSome new (IsWantedOf (map_of old) added) q
  pub lacking : IsFullForSome new (IsWantedOf (map_of old) added)
