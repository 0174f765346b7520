-- Groups of slots in which places stand under tags of hashes, and how a search goes from one to the next.
use Rattle.std.specs.Prelude.{◌≡◌, ◌≢◌, ◌⊎◌, ℕ, ◌/◌, ◌^◌, ◌<◌, ◌≤◌, ◌-◌, ◌++◌, ◌∷◌, [], max, List, length, replicate, slice_get, slice_set, slice_index, Option, None, Some, bit_and}
use Rattle.square_store.specs.declared.group.Group.{Group}
use Rattle.square_store.specs.declared.groups.FreeSlot.{FreeSlot}

-- the highest byte of a hash, and never 0
unfoldable pub tag_of : ℕ → ℕ
tag_of hash = max (hash / 2 ^ 24) 1

-- where a search for a hash begins, among so many groups
unfoldable pub head_of : ℕ → ℕ → ℕ
head_of heads hash = bit_and hash (heads - 1)

unfoldable pub empty_group : Group
empty_group = record { tags = replicate 16 0; places = replicate 11 0; next = 0 }

-- a place stands in a slot, under a tag
pub record HasSlot (g : Group) (slot tag place : ℕ) : Type 0 where
  pub within : slot < 11
  pub tagged : slice_index g.tags slot ≡ tag
  pub placed : slice_index g.places slot ≡ place

-- one slot has another tag and place, all else is as it was
pub record IsWritten (old new : Group) (slot tag place : ℕ) : Type 0 where
  pub written : HasSlot new slot tag place
  pub others : (k t p : ℕ) → k ≢ slot → HasSlot old k t p → HasSlot new k t p
  pub next : new.next ≡ old.next

-- a search that begins at a group comes by a place, under its tag
pub data IsMet (groups : List Group) (tag place : ℕ) : ℕ → Type 0 where
  here : (at slot : ℕ) (g : Group) → slice_get groups at ≡ Some g → HasSlot g slot tag place → IsMet groups tag place at
  behind : (at : ℕ) (g : Group) → slice_get groups at ≡ Some g → 0 < g.next → IsMet groups tag place g.next → IsMet groups tag place at

-- a search goes on to a later group, or ends
abbrev pub AreLinked : List Group → Type 0
AreLinked groups = (at : ℕ) (g : Group) → slice_get groups at ≡ Some g → (g.next ≡ 0) ⊎ ((at < g.next) × (g.next < length groups))

-- a search that begins at one group comes to another
pub data Reaches (groups : List Group) : ℕ → ℕ → Type 0 where
  there : (at : ℕ) → Reaches groups at at
  onward : (at to : ℕ) (g : Group) → slice_get groups at ≡ Some g → 0 < g.next → Reaches groups g.next to → Reaches groups at to

-- a slot of the group is free; or it has none, and is the last
abbrev pub IsFreeIn : Option Group → Option ℕ → Type 0
IsFreeIn None slot = ⊥
IsFreeIn (Some g) None = g.next ≡ 0
IsFreeIn (Some g) (Some slot) = (slot < 11) × (slice_index g.tags slot ≡ 0)

-- where a place may be put that a search which begins at a group is to come by
pub record IsFree (groups : List Group) (head : ℕ) (free : FreeSlot) : Type 0 where
  pub reached : Reaches groups head free.group
  pub free_in : IsFreeIn (slice_get groups free.group) free.slot

-- a new group stands behind one, and is the last, with a place
pub record IsBehind (old new : List Group) (last tag place : ℕ) : Type 0 where
  pub group : Group
  pub was : slice_get old last ≡ Some group
  pub made : Group
  pub holds : HasSlot made 0 tag place
  pub ends : made.next ≡ 0
  pub whole : new ≡ slice_set old last (record { tags = group.tags; places = group.places; next = length old }) ++ made ∷ []

-- a search that begins at a group comes by one place more, and by all that it came by
pub record IsPut (old new : List Group) (head tag place : ℕ) : Type 0 where
  pub longer : length old ≤ length new
  pub linked : AreLinked new
  pub met : IsMet new tag place head
  pub stay : (t p at : ℕ) → 0 < t → IsMet old t p at → IsMet new t p at
