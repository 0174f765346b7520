-- Worked values of the definitions.
use Rattle.std.specs.Prelude.{◌≡◌, ℕ, ◌-◌, ◌^◌, List, [], ◌∷◌, Some, None, Ok, Err, pos, refl}
use Rattle.generations_rule.specs.Place.{at_place}
use Rattle.generations_rule.specs.Rule.{GenerationsRule}
use Rattle.generations_rule.specs.RuleText.{rule_of_text}
use Rattle.std.specs.Prelude.{codes}
use Rattle.edit_stamps.specs.declared.fault.EditFault.TheVariants as edit_faults
use Rattle.edit_stamps.specs.Edit.{PlaneEdit, greatest}
use Rattle.edit_stamps.specs.Stamp.{last_counter, stamp_of}
use Rattle.replica_events.specs.declared.event.Event.{Event}
use Rattle.replica_events.specs.declared.event.Event.TheVariants.{Draw, SendState, Deliver}
use Rattle.replica_core.specs.declared.fault.Fault.TheVariants as faults
use Rattle.replica_events.specs.declared.edit_spec.EditSpec.{EditSpec}
use Rattle.replica_events.specs.declared.edit_spec.EditSpec.TheVariants.{Cells, Clear}
use Rattle.replica_core.specs.Fault.{replica_fault_number, fault_of_edit}
use Rattle.replica_core.specs.Replica.{edit_drawn, stamp_after}
use Rattle.replica_core.specs.World.{after, after_all, delivered, drawn, numbered, opening, replica}

abbrev rule : GenerationsRule
rule = rule_of_text (codes "/2/3")

-- ---- stamps of draws

pub first_stamp : stamp_after 0 1 ≡ Ok 65537
first_stamp = refl

pub last_replica : stamp_after 0 65535 ≡ Ok 131071
last_replica = refl

pub last_stamp : stamp_after (last_counter - 1) 65535 ≡ Ok (2 ^ 64 - 1)
last_stamp = refl

pub full_clock : stamp_after last_counter 1 ≡ Err faults.ClockFull
full_clock = refl

-- ---- draws

abbrev one_cell : ℕ → EditSpec
one_cell state = Cells (record { x = pos 0; y = pos 0; state = state } ∷ [])

-- a full clock is told before what is wrong with the edit
pub clock_before_edit : edit_drawn rule last_counter 1 (Cells []) ≡ Err faults.ClockFull
clock_before_edit = refl

pub no_cell : edit_drawn rule 0 1 (Cells []) ≡ Err (faults.Edit edit_faults.Nothing)
no_cell = refl

pub state_of_the_rule_number : edit_drawn rule 0 1 (one_cell 3) ≡ Err (faults.Edit edit_faults.StateRange)
state_of_the_rule_number = refl

pub wide_clear : edit_drawn rule 0 1 (Clear (record { x = pos 0; y = pos 0; width = 1073741825; height = 1 })) ≡ Err (faults.Edit edit_faults.OutOfPlane)
wide_clear = refl

-- ---- numbers

pub no_number : numbered {A = ℕ} (7 ∷ 8 ∷ []) 0 ≡ None
no_number = refl

pub first_number : numbered {A = ℕ} (7 ∷ 8 ∷ []) 1 ≡ Some 7
first_number = refl

pub last_number : numbered {A = ℕ} (7 ∷ 8 ∷ []) 2 ≡ Some 8
last_number = refl

pub past_the_last : numbered {A = ℕ} (7 ∷ 8 ∷ []) 3 ≡ None
past_the_last = refl

-- ---- refusals

pub unknown_replica : drawn (opening rule 2) 3 (one_cell 1) ≡ Err faults.NoReplica
unknown_replica = refl

-- a delivery is refused for want of the message first
pub message_before_replica : delivered (opening rule 0) 1 1 ≡ Err faults.NoMessage
message_before_replica = refl

pub replica_of_a_delivery : delivered (after (opening rule 1) (SendState 1)) 1 2 ≡ Err faults.NoReplica
replica_of_a_delivery = refl

pub refused_draw_changes_nothing : after (opening rule 1) (Draw 2 (one_cell 1)) ≡ opening rule 1
refused_draw_changes_nothing = refl

pub numbers_of_edits : replica_fault_number (fault_of_edit edit_faults.OutOfPlane) ≡ 10
numbers_of_edits = refl

pub want_of_an_edit : fault_of_edit edit_faults.Memory ≡ faults.Memory
want_of_an_edit = refl

-- ---- a world

-- replicas 1 and 2 draw the same cell under equal counters, and 1 takes what 2 sent
abbrev tie : List Event
tie = Draw 1 (one_cell 2) ∷ Draw 2 (one_cell 1) ∷ SendState 2 ∷ Deliver 1 1 ∷ []

-- an edit of one cell at the origin
abbrev edit_at : ℕ → ℕ → PlaneEdit
edit_at stamp state = record { stamp = stamp; area = None; cells = record { x = pos 0; y = pos 0; state = state } ∷ [] }

-- what was delivered stands in what was taken, and not in the journal
pub tie_at_1 : replica (after_all (opening rule 2) tie) 1
    ≡ Ok (record { taken = edit_at (stamp_of 1 1) 2 ∷ edit_at (stamp_of 1 2) 1 ∷ []; journal = edit_at (stamp_of 1 1) 2 ∷ [] })
tie_at_1 = refl

-- the greater replica wins, also over a greater state
pub greater_replica_wins : greatest (edit_at (stamp_of 1 1) 2 ∷ edit_at (stamp_of 1 2) 1 ∷ []) (at_place (pos 0) (pos 0)) ≡ record { stamp = stamp_of 1 2; state = 1 }
greater_replica_wins = refl
