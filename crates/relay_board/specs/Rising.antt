-- Seats whose stamps rise: on a board that is kept in a file, no stamp stands for two edits.
use Rattle.std.specs.Prelude.{⊤, ◌≡◌, ◌≤◌, ◌<◌, ◌+◌, ℕ, Bool, true, nat_lt, List, [], ◌∷◌, ◌++◌, Option, Some, None, slice_get}
use Rattle.edit_stamps.specs.Edit.{PlaneEdit}
use Rattle.edit_stamps.specs.Stamp.{counter_in, replica_in}
use Rattle.board.specs.declared.entry.Entry.{Entry}
use Rattle.inbox.specs.Settled.{IsOf}
use Rattle.relay_board.specs.Seating.{Seating, mines_of}

-- the counter of the last entry, or else a floor
abbrev pub last_counter : ℕ → List Entry → ℕ
last_counter floor [] = floor
last_counter floor (e ∷ entries) = last_counter (counter_in e.edit.stamp) entries

-- whether an edit's counter is above those of the entries, and a floor; where there is no floor, any is
abbrev pub is_newer : Option ℕ → List Entry → PlaneEdit → Bool
is_newer None mine edit = true
is_newer (Some floor) mine edit = nat_lt (last_counter floor mine) (counter_in edit.stamp)

-- the same of an edit's counter and the newest one, which is that of the last entry or else the floor
abbrev pub has_risen : Option ℕ → ℕ → PlaneEdit → Bool
has_risen None newest edit = true
has_risen (Some floor) newest edit = nat_lt newest (counter_in edit.stamp)

-- the counters rise from a floor on
abbrev pub RisesFrom : ℕ → List Entry → Type 0
RisesFrom floor [] = ⊤
RisesFrom floor (e ∷ entries) = (floor < counter_in e.edit.stamp) × RisesFrom (counter_in e.edit.stamp) entries

-- each is of one replica
abbrev pub AreOfReplica : ℕ → List Entry → Type 0
AreOfReplica number [] = ⊤
AreOfReplica number (e ∷ entries) = (replica_in e.edit.stamp ≡ number) × AreOfReplica number entries

-- where a seat of this number has a floor, what it put is of that number, and rises from the floor on
abbrev pub IsRising : Option ℕ → ℕ → List Entry → Type 0
IsRising None number mine = ⊤
IsRising (Some floor) number mine = RisesFrom floor mine × AreOfReplica number mine

-- an edit that a seat of this number may put behind what it put
abbrev pub GoesOn : Option ℕ → ℕ → List Entry → PlaneEdit → Type 0
GoesOn None number mine edit = ⊤
GoesOn (Some floor) number mine edit = (replica_in edit.stamp ≡ number) × (is_newer (Some floor) mine edit ≡ true)

-- ---- the published list

-- no stamp stands for two of the entries
abbrev pub HasEachOnce : List Entry → Type 0
HasEachOnce list = (i j : ℕ) (e f : Entry) → slice_get list i ≡ Some e → slice_get list j ≡ Some f → e.edit.stamp ≡ f.edit.stamp → i ≡ j

-- a seat with a floor, which all counters of its replica in some entries are at most, and whose own rise from there on
pub record IsAbove (entries : List Entry) (s : Seating) : Type 0 where
  pub floor : ℕ
  pub has : s.floor ≡ Some floor
  pub rises : IsRising s.floor s.number s.mine
  pub above : (i : ℕ) (e : Entry) → slice_get entries i ≡ Some e → replica_in e.edit.stamp ≡ s.number → counter_in e.edit.stamp ≤ floor

-- A list that has just what these seats and a file put, the file's behind them all, no two of one stamp among the file's, the
-- seats' numbers one after another from a first on, and each seat above the file's: no stamp stands for two entries of it.
abbrev pub KeepsStamps : Type 0
KeepsStamps =
    (first : ℕ) (list : List Entry) (seats : List Seating) (file : Seating) → ((k : ℕ) (s : Seating) → slice_get seats k ≡ Some s → (s.place ≡ k) × (s.number ≡ first + k) × IsAbove file.mine s)
    → HasEachOnce file.mine → IsOf list (mines_of (seats ++ file ∷ [])) → HasEachOnce list
