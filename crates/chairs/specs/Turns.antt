-- Chairs, and whose turn comes first.
use Rattle.std.specs.Prelude.{◌≡◌, ◌⊎◌, ◌<◌, ◌≤◌, ◌+◌, ◌-◌, ◌^◌, ◌&&◌, ℕ, Bool, List, Option, Some, None, if◌then◌else◌, is_some, min, nat_lt, slice_get, slice_set}
use Rattle.chairs.specs.declared.chair.Chair.{Chair}
use Rattle.chairs.specs.declared.chair.Chair.TheVariants.{Fresh, Taken, Left}
use Rattle.chairs.specs.declared.leaving.Leaving.{Leaving}

-- the chairs in the order of their numbers, and how often one was left
pub record PlanState : Type 0 where
  pub chairs : List Chair
  pub leavings : ℕ

-- the chair is still kept for the page that left it: less than 10,000 milliseconds have passed. None have where the
-- clock shows a moment before the leaving
abbrev pub is_kept : ℕ → Leaving → Bool
is_kept now leaving = is_some leaving.page && nat_lt (now - leaving.time) 10000

-- when a chair's turn comes: first where nobody has sat yet, then as they were left; never where somebody sits, and not
-- while it is kept for a page
abbrev pub turn_of : ℕ → Chair → Option ℕ
turn_of now Fresh = Some 0
turn_of now (Taken page) = None
turn_of now (Left leaving) = if is_kept now leaving then None else Some leaving.number

-- one of the chairs has this turn
abbrev pub HasTurn : ℕ → List Chair → ℕ → ℕ → Type 0
HasTurn now chairs at turn = (chair : Chair) × (slice_get chairs at ≡ Some chair) × (turn_of now chair ≡ Some turn)

-- no chair's turn comes: somebody sits at each, or it is kept for a page
abbrev pub NoTurnComes : ℕ → List Chair → Type 0
NoTurnComes now chairs = (at turn : ℕ) → HasTurn now chairs at turn → ⊥

-- its turn comes before that of every other, or it is the first of those with this turn
pub record IsNext (now : ℕ) (chairs : List Chair) (at : ℕ) : Type 0 where
  pub turn : ℕ
  pub has : HasTurn now chairs at turn
  pub first : (other later : ℕ) → HasTurn now chairs other later → (turn < later) ⊎ ((turn ≡ later) × (at ≤ other))

-- of a chair and one behind it, each with its turn, if it has one, the one whose turn comes first
abbrev pub earlier_of : Option (ℕ × ℕ) → ℕ → Option ℕ → Option (ℕ × ℕ)
earlier_of next at None = next
earlier_of None at (Some turn) = Some (at, turn)
earlier_of (Some next) at (Some turn) = if nat_lt turn next.1 then Some (at, turn) else Some next

-- at one of them nobody has sat yet
abbrev pub HasFresh : List Chair → Type 0
HasFresh chairs = (at : ℕ) × (slice_get chairs at ≡ Some Fresh)

-- somebody sits at the chair: a page with this key, or a connection, which has none
abbrev pub Sits : List Chair → ℕ → Option (List ℕ) → Type 0
Sits chairs at page = slice_get chairs at ≡ Some (Taken page)

-- nobody sits at the chair
abbrev pub IsFreeAt : List Chair → ℕ → Type 0
IsFreeAt chairs at = (page : Option (List ℕ)) → Sits chairs at page → ⊥

-- the number of the next leaving; 2^64 - 1 stays
abbrev pub leave_number : ℕ → ℕ
leave_number leavings = min (leavings + 1) (2 ^ 64 - 1)

-- the plan once whoever sat at a chair has left it at this moment: a page's key stays there
abbrev pub once_left : ℕ → PlanState → ℕ → Option (List ℕ) → PlanState
once_left now plan at page =
    record { chairs = slice_set plan.chairs at (Left (record { number = leave_number plan.leavings; time = now; page = page })); leavings = leave_number plan.leavings }
