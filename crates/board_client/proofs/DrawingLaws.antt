-- Want of memory never stands in the place of a refusal.
use Rattle.std.proofs.Common.{◌≡◌, ℕ, ◌+◌, Bool, true, false, [], ◌∷◌, Option, Some, None, Err, refl, inl, inr}
use Rattle.std.specs.Prelude.{not, nat_lt, length, ◌==◌}
use Rattle.std.specs.Result.{IsOk}
use Rattle.generations_rule.specs.Refusal.{◌>>=◌, first_of, unless, when}
use Rattle.generations_rule.specs.Rule.{GenerationsRule}
use Rattle.pattern_cells.specs.Cells.{are_states_below}
use Rattle.edit_stamps.specs.declared.fault.EditFault.{EditFault}
use Rattle.edit_stamps.specs.declared.fault.EditFault.TheVariants as edits
use Rattle.edit_stamps.specs.Edit.{PlaneEdit, most_cells}
use Rattle.edit_stamps.specs.Making.{are_in_plane, cells_fault, settled}
use Rattle.edit_stamps.specs.Pasting.{box_of, clear_fault, copy_fault, or_fault, placed}
use Rattle.edit_stamps.specs.Plane.{is_area_in_plane, is_empty}
use Rattle.edit_stamps.specs.Stamp.{last_counter, stamp_of}
use Rattle.replica_core.specs.declared.fault.Fault.TheVariants as faults
use Rattle.replica_core.specs.Replica.{IsMadeAs, edit_drawn, made, or_edit_fault}
use Rattle.replica_events.specs.declared.edit_spec.EditSpec.{EditSpec}
use Rattle.replica_events.specs.declared.edit_spec.EditSpec.TheVariants.{Cells, Copy, Or, Clear}

-- of these tests, none of which wants memory, the first that holds is no want of memory
first_of_two : (a b : Bool) (x y : EditFault) → (x ≡ edits.Memory → ⊥) → (y ≡ edits.Memory → ⊥) → first_of (when a x ∷ when b y ∷ []) ≡ Some edits.Memory → ⊥
first_of_two true b x y no_x no_y is = no_x cc
first_of_two false true x y no_x no_y is = no_y cc
first_of_two false false x y no_x no_y is = absurd cc

first_of_three : (a b c : Bool) (x y z : EditFault) → (x ≡ edits.Memory → ⊥) → (y ≡ edits.Memory → ⊥) → (z ≡ edits.Memory → ⊥)
    → first_of (when a x ∷ when b y ∷ when c z ∷ []) ≡ Some edits.Memory → ⊥
first_of_three true b c x y z no_x no_y no_z is = no_x cc
first_of_three false b c x y z no_x no_y no_z is = first_of_two b c y z no_y no_z is

first_of_four : (a b c d : Bool) (x y z w : EditFault) → (x ≡ edits.Memory → ⊥) → (y ≡ edits.Memory → ⊥) → (z ≡ edits.Memory → ⊥) → (w ≡ edits.Memory → ⊥)
    → first_of (when a x ∷ when b y ∷ when c z ∷ when d w ∷ []) ≡ Some edits.Memory → ⊥
first_of_four true b c d x y z w no_x no_y no_z no_w is = no_x cc
first_of_four false b c d x y z w no_x no_y no_z no_w is = first_of_three b c d y z w no_y no_z no_w is

no_cell : edits.Nothing ≡ edits.Memory → ⊥
no_cell is = cc

too_many : edits.TooMany ≡ edits.Memory → ⊥
too_many is = cc

outside : edits.OutOfPlane ≡ edits.Memory → ⊥
outside is = cc

no_such_state : edits.StateRange ≡ edits.Memory → ⊥
no_such_state is = cc

-- a want of memory in the place of what is made is one in the place of its refusal
refused_so : (fault : Option EditFault) (kept : PlaneEdit) → or_edit_fault (unless fault kept) ≡ Err faults.Memory → fault ≡ Some edits.Memory
refused_so None kept is = absurd cc
refused_so (Some edits.Nothing) kept is = absurd cc
refused_so (Some edits.TooMany) kept is = absurd cc
refused_so (Some edits.OutOfPlane) kept is = absurd cc
refused_so (Some edits.StateRange) kept is = absurd cc
refused_so (Some edits.Memory) kept is = refl

never_made : (g : GenerationsRule) (stamp : ℕ) (spec : EditSpec) → or_edit_fault (made g stamp spec) ≡ Err faults.Memory → ⊥
never_made g stamp (Cells cells) is =
    first_of_four (length cells == 0) (nat_lt most_cells (length cells)) (not (are_in_plane cells)) (not (are_states_below g.states cells)) edits.Nothing edits.TooMany edits.OutOfPlane edits.StateRange no_cell too_many outside no_such_state
    (refused_so (cells_fault g.states cells) (record { stamp = stamp; area = None; cells = settled cells }) is)
never_made g stamp (Copy p x y) is =
    first_of_three (is_empty (box_of p x y)) (not (is_area_in_plane (box_of p x y))) (not (are_states_below g.states (placed x y p.cells))) edits.Nothing edits.OutOfPlane edits.StateRange no_cell outside no_such_state
    (refused_so (copy_fault g.states (box_of p x y) (placed x y p.cells)) (record { stamp = stamp; area = Some (box_of p x y); cells = placed x y p.cells }) is)
never_made g stamp (Or p x y) is =
    first_of_three (length (placed x y p.cells) == 0) (not (are_in_plane (placed x y p.cells))) (not (are_states_below g.states (placed x y p.cells))) edits.Nothing edits.OutOfPlane edits.StateRange no_cell outside no_such_state
    (refused_so (or_fault g.states (placed x y p.cells)) (record { stamp = stamp; area = None; cells = placed x y p.cells }) is)
never_made g stamp (Clear area) is =
    first_of_two (is_empty area) (not (is_area_in_plane area)) edits.Nothing edits.OutOfPlane no_cell outside
    (refused_so (clear_fault area) (record { stamp = stamp; area = Some area; cells = [] }) is)

never_drawn : (b : Bool) (stamp : ℕ) (g : GenerationsRule) (spec : EditSpec) → (unless (when b faults.ClockFull) stamp >>= (λ s. or_edit_fault (made g s spec))) ≡ Err faults.Memory → ⊥
never_drawn true stamp g spec is = cc
never_drawn false stamp g spec is = never_made g stamp spec is

-- where memory is wanting for the edit that is meant, nothing refuses it
pub unrefused : (g : GenerationsRule) (counter number : ℕ) (spec : EditSpec) → IsMadeAs (edit_drawn g counter number spec) (Err faults.Memory) → IsOk (edit_drawn g counter number spec)
unrefused g counter number spec (inl is) = absurd (never_drawn (not (nat_lt counter last_counter)) (stamp_of (counter + 1) number) g spec is)
unrefused g counter number spec (inr last) = last.1
