-- Which refusals of a submission there are, in their order, and what is known of an inbox that was full.
use Rattle.std.specs.Prelude.{◌≡◌, ℕ, ◌==◌, Bool, true, false, List, ◌++◌}
use Rattle.crossbeam_queue.specs.Fifo.{Held}
use Rattle.board.specs.declared.entry.Entry.{Entry}
use Rattle.inbox.specs.declared.submission.Submission.{Submission}
use Rattle.inbox.specs.Counts.{Risen}
use Rattle.inbox.specs.Hands.{of, entries_of}
use Rattle.edit_stamps.specs.Edit.{PlaneEdit, has_states_below}
use Rattle.edit_stamps.specs.Stamp.{replica_in}
use Rattle.relay_board.specs.Rising.{is_newer}
use Rattle.relay_board.specs.Seating.{Seating}
use Rattle.relay_board.specs.declared.fault.SubmitFault.{SubmitFault}
use Rattle.relay_board.specs.declared.fault.SubmitFault.TheVariants.{NotYours, StateRange, OldStamp, Closed, Memory, Full}

-- What of an edit is looked at: whether it is the seat's, whether its states are the rule's, and whether it is newer than
-- what the seat put.
pub record Looks : Type 0 where
  pub mine : Bool
  pub below : Bool
  pub newer : Bool

-- what is looked at of an edit that a seat submits
abbrev pub looks_at : Seating → PlaneEdit → Looks
looks_at s edit = record { mine = replica_in edit.stamp == s.number; below = has_states_below s.rule.states edit; newer = is_newer s.floor s.mine edit }

-- none of the three first refusals holds
abbrev pub Passes : Looks → Type 0
Passes l = (l.mine ≡ true) × (l.below ≡ true) × (l.newer ≡ true)

-- the first three come exactly where they hold, in this order, and the others only behind them; where the inbox was full, its count has risen from a to b, and a fact is held of it
abbrev pub Refuses : SubmitFault → Looks → ℕ → ℕ → Type 0 → Type 0
Refuses NotYours l a b held = (l.mine ≡ false) × (b ≡ a)
Refuses StateRange l a b held = (l.mine ≡ true) × (l.below ≡ false) × (b ≡ a)
Refuses OldStamp l a b held = (l.mine ≡ true) × (l.below ≡ true) × (l.newer ≡ false) × (b ≡ a)
Refuses Closed l a b held = Passes l × (b ≡ a)
Refuses Memory l a b held = Passes l × (b ≡ a)
Refuses Full l a b held = Passes l × Risen a b × held

-- The same of an edit that the file's seat brings: it may be of any replica, and with any counter.
abbrev pub BringRefuses : SubmitFault → Bool → ℕ → ℕ → Type 0 → Type 0
BringRefuses NotYours below a b held = ⊥
BringRefuses StateRange below a b held = (below ≡ false) × (b ≡ a)
BringRefuses OldStamp below a b held = ⊥
BringRefuses Closed below a b held = (below ≡ true) × (b ≡ a)
BringRefuses Memory below a b held = (below ≡ true) × (b ≡ a)
BringRefuses Full below a b held = (below ≡ true) × Risen a b × held

-- it held as many submissions as it has room for, and of this seat just the last ones that it put
abbrev pub Lasts : ℕ → ℕ → List Entry → Type 0
Lasts room place mine = Held room (λ (items : List Submission). (before : List Entry) × (before ++ of place (entries_of items) ≡ mine))
