-- What the hub in memory does.
use Rattle.std.specs.Prelude.{◌≡◌, ◌≢◌, ◌⊎◌, ⊤, ℕ, ◌+◌, ◌-◌, ◌^◌, ◌<◌, min, false, IsTrue, List, [], ◌∷◌, ◌++◌, length, Option, Some, Ok, Err}
use Rattle.generations_rule.specs.Rule.{GenerationsRule}
use Rattle.edit_stamps.specs.Edit.{PlaneEdit, HaveStatesBelow, has_states_below}
use Rattle.edit_stamps.specs.PlaneMap.{HasStatesBelow}
use Rattle.edit_stamps.specs.Stamp.{replica_in}
use Rattle.stamped_writes.specs.Write.{AreSame}
use Rattle.stamped_tree.specs.Plane.{StampedPlane, map_of}
use Rattle.session_hub.specs.declared.fault.HubFault.{HubFault}
use Rattle.session_hub.specs.declared.fault.HubFault.TheVariants.{NotYours, StateRange, OldStamp, Full, Closed, StoreFull, Memory}
use Rattle.poll_news.specs.declared.news.News.TheVariants.{Edits, Whole}
use Rattle.session_hub.specs.HubCall.{HubCall, Pushes, Polls, Shows, Hands}

-- what is known of it: its rule and its seat, the edits that the next poll hands out, the plane that it shows, how many
-- edits that plane is of, where the next poll gives it, and what it refuses each call by
pub record MemoryState : Type 0 where
  pub rule : GenerationsRule
  pub number : ℕ
  pub fresh : List PlaneEdit
  pub plane : StampedPlane
  pub behind : ℕ
  pub refuses : Option HubFault

-- each state is below the rule's number of states
pub record IsMemoryState (h : MemoryState) : Type 0 where
  pub edits : HaveStatesBelow h.rule.states h.fresh
  pub below : HasStatesBelow h.rule.states (map_of h.plane)

-- the plane, the rule, the seat and what it refuses calls by are as they were
pub record KeepsPlane (old new : MemoryState) : Type 0 where
  pub rule : new.rule ≡ old.rule
  pub number : new.number ≡ old.number
  pub plane : new.plane ≡ old.plane
  pub refuses : new.refuses ≡ old.refuses

-- an edit is refused by itself
abbrev pub IsEditRefused : MemoryState → PlaneEdit → HubFault → Type 0
IsEditRefused h edit NotYours = replica_in edit.stamp ≢ h.number
IsEditRefused h edit StateRange = (replica_in edit.stamp ≡ h.number) × (has_states_below h.rule.states edit ≡ false)
IsEditRefused h edit OldStamp = ⊥
IsEditRefused h edit Memory = ⊤
IsEditRefused h edit Full = ⊥
IsEditRefused h edit Closed = ⊥
IsEditRefused h edit StoreFull = ⊥

-- a fault that each call is refused by, or want of memory; the hub is as it was
abbrev pub IsRefused : MemoryState → HubFault → MemoryState → Type 0
IsRefused old fault new = (new ≡ old) × ((old.refuses ≡ Some fault) ⊎ (fault ≡ Memory))

-- of how many edits a plane is that is handed out: those behind it, and those that a poll would hand out; more than a word
-- says are told as the most that it says
abbrev pub edits_in : MemoryState → ℕ
edits_in h = min (2 ^ 64 - 1) (h.behind + length h.fresh)

abbrev pub IsMemoryCall : MemoryState → HubCall → MemoryState → Type 0
IsMemoryCall old (Pushes edit (Ok done)) new = KeepsPlane old new × (replica_in edit.stamp ≡ old.number) × IsTrue (has_states_below old.rule.states edit)
    × (new.fresh ≡ old.fresh ++ edit ∷ []) × (new.behind ≡ old.behind)
IsMemoryCall old (Pushes edit (Err fault)) new = KeepsPlane old new × (new.fresh ≡ old.fresh) × (new.behind ≡ old.behind) × ((old.refuses ≡ Some fault) ⊎ IsEditRefused old edit fault)
IsMemoryCall old (Polls (Ok (Edits edits))) new = KeepsPlane old new × (old.behind ≡ 0) × (edits ≡ old.fresh) × (new.fresh ≡ []) × (new.behind ≡ 0)
IsMemoryCall old (Polls (Ok (Whole plane count))) new = KeepsPlane old new × (0 < old.behind) × (count ≡ old.behind) × AreSame (map_of plane) (map_of old.plane)
    × (new.fresh ≡ old.fresh) × (new.behind ≡ 0)
IsMemoryCall old (Polls (Err fault)) new = IsRefused old fault new
IsMemoryCall old (Shows (Ok plane)) new = (new ≡ old) × AreSame (map_of plane) (map_of old.plane)
IsMemoryCall old (Shows (Err fault)) new = IsRefused old fault new
IsMemoryCall old (Hands (Ok given)) new = KeepsPlane old new × AreSame (map_of given.0) (map_of old.plane) × (given.1 ≡ edits_in old)
    × (new.fresh ≡ []) × (new.behind ≡ 0)
IsMemoryCall old (Hands (Err fault)) new = IsRefused old fault new
