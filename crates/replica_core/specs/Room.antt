-- Which planes are full of what they need where something is joined.
use Rattle.std.specs.Prelude.{◌≡◌, ◌⊎◌, ℕ, List, length}
use Rattle.edit_stamps.specs.Edit.{PlaneEdit, greatest}
use Rattle.stamped_writes.specs.Write.{Writes, AreSame, joined}
use Rattle.square_store.specs.Store.{IsHeld, IsStore}
use Rattle.stamped_tree.specs.LeafKind.{IsPlaneLeaf, plane_grid}
use Rattle.stamped_tree.specs.Plane.{StampedPlane, map_of}
use Rattle.held_plane.specs.Wanted.{IsFullForSome, IsJoinedSoFar, IsPieceOfMap, IsPieceOfSome}
use Rattle.delta_exchange.specs.declared.message.Content.{Content}
use Rattle.delta_exchange.specs.declared.message.Content.TheVariants.{Edits, State}

-- which maps are wanted where content is joined into a map: each that its edits make of it one after another, or the joined one
abbrev pub IsWantedJoining : Writes → Content → Writes → Type 0
IsWantedJoining old (Edits edits) map = IsJoinedSoFar old edits map
IsWantedJoining old (State plane) map = AreSame map (joined old (map_of plane))

-- A plane became full of what it needs: each square is stored once, there are as many as it has room for, each is a piece of its
-- map or of one that is wanted, and one that is wanted is not there.
pub record IsFullOf (old new : StampedPlane) (IsWanted : Writes → Type 0) : Type 0 where
  pub store : IsStore plane_grid 8 IsPlaneLeaf new.store
  pub full : length new.store.squares ≡ new.store.room
  pub needed : (q : ℕ) → IsHeld new.store q → IsPieceOfMap new (map_of old) q ⊎ IsPieceOfSome new IsWanted q
  pub lacking : IsFullForSome new IsWanted

-- so it became where some content was joined that is as P says
abbrev pub IsFullJoining : (old new : StampedPlane) → (Content → Type 0) → Type 0
IsFullJoining old new P = (content : Content) × P content × IsFullOf old new (IsWantedJoining (map_of old) content)

-- A plane with room for so many squares, whose map has at each place the greatest write of some edits, became full of what it needs
-- where some content was joined that is as P says.
pub record IsFullFor (nodes : ℕ) (taken : List PlaneEdit) (P : Content → Type 0) : Type 0 where
  pub old : StampedPlane
  pub new : StampedPlane
  pub shows : AreSame (map_of old) (greatest taken)
  pub room : new.store.room ≡ nodes
  pub full : IsFullJoining old new P
