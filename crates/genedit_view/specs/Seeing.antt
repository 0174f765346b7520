-- Which cells are drawn of a text, or why none are.
use Rattle.std.specs.Prelude.{◌≡◌, ◌⊎◌, ℕ, ◌≤◌, true, false, List, Option, Some, None, is_some, Err}
use Rattle.generations_rule.specs.Place.{Place}
use Rattle.generations_rule.specs.Rule.{GenerationsRule}
use Rattle.pattern_cells.specs.declared.cell.Cell.{Cell}
use Rattle.delta_exchange.specs.declared.fault.ReadFault.{ReadFault}
use Rattle.stamped_writes.specs.Write.{Writes}
use Rattle.square_store.specs.Limits.{usual_room}
use Rattle.stamped_tree.specs.Plane.{StampedPlane, map_of}
use Rattle.delta_exchange.specs.MessageReading.{MayWantRoom, message_of}
use Rattle.delta_exchange.specs.Room.{IsMapTooLargeFor}
use Rattle.delta_exchange.specs.State.{IsTellableMap}
use Rattle.delta_exchange.specs.Versions.{IsReadableStateText}
use Rattle.generation_engine.specs.Universe.{states_in_writes}
use Rattle.generation_engine.specs.Walk.{AreCellsOf}
use Rattle.export.specs.declared.fault.ExportFault.{ExportFault}
use Rattle.export.specs.Export.{AreExported, IsExport, IsRoomWanted, last_generation, most_cells}
use Rattle.genedit_io.specs.declared.fault.RunFault.TheVariants.{Memory, StoreFull}
use Rattle.cell_pictures.specs.Picture.{picture_text}
use Rattle.genedit_view.specs.declared.fault.ViewFault.{ViewFault}
use Rattle.genedit_view.specs.declared.fault.ViewFault.TheVariants.{NoRule, Run}
use Rattle.genedit_view.specs.declared.options.ViewOptions.{ViewOptions}
use Rattle.genedit_view.specs.Fault.{fault_of_generation, fault_of_state}
use Rattle.genedit_view.specs.Reading.{IsReadAs, IsRefusedFile, begins_as_state, state_rule}

-- the cells of a map of states that are not dead, or of what a rule makes of it in some generations
abbrev pub AreCellsAt : GenerationsRule → (Place → ℕ) → Option ℕ → List Cell → Type 0
AreCellsAt r f None cells = AreCellsOf f cells
AreCellsAt r f (Some g) cells = (g ≤ last_generation) × AreExported r f g most_cells cells

-- a generation of a map of states is refused
pub record IsLateRefused (r : GenerationsRule) (f : Place → ℕ) (g : ℕ) (fault : ViewFault) : Type 0 where
  pub refusal : ExportFault
  pub refused : IsExport r f g most_cells (Err refusal)
  pub told : fault ≡ fault_of_generation refusal

-- the generation that is asked for is refused
abbrev pub IsRefusedAt : GenerationsRule → (Place → ℕ) → Option ℕ → ViewFault → Type 0
IsRefusedAt r f None fault = ⊥
IsRefusedAt r f (Some g) fault = IsLateRefused r f g fault

-- the cells that are drawn of a text, and the rule
pub record AreSeen (o : ViewOptions) (text : List ℕ) (r : GenerationsRule) (cells : List Cell) : Type 0 where
  pub states : Place → ℕ
  pub read : IsReadAs (is_some o.generation) o.rule text r states
  pub are : AreCellsAt r states o.generation cells

-- a text is drawn as a picture
pub record IsPictureOf (o : ViewOptions) (text picture : List ℕ) : Type 0 where
  pub rule : GenerationsRule
  pub cells : List Cell
  pub seen : AreSeen o text rule cells
  pub drawn : picture ≡ picture_text o.form rule.states cells o.window

-- ---- wants, which are no part of what a picture means

-- a text is read as a state, and may want more room than 2^26 squares; where it tells a map, no plane of so many holds it
pub record IsStateTooLarge (o : ViewOptions) (text : List ℕ) : Type 0 where
  pub rule : GenerationsRule
  pub begins : begins_as_state text ≡ true
  pub ruled : state_rule o.rule text ≡ Some rule
  pub may : MayWantRoom usual_room text
  pub large : (map : Writes) → IsTellableMap rule.states map → IsReadableStateText rule map text → IsMapTooLargeFor usual_room map

-- a generation of a map of states wants more room than 2^26 squares: of a plane that shows it
pub record IsLateFull (r : GenerationsRule) (f : Place → ℕ) (g : ℕ) : Type 0 where
  pub within : g ≤ last_generation
  pub plane : StampedPlane
  pub shows : states_in_writes (map_of plane) ≡ f
  pub wanted : IsRoomWanted r plane g usual_room

-- the generation that is asked for wants more room
abbrev pub IsFullAt : GenerationsRule → (Place → ℕ) → Option ℕ → Type 0
IsFullAt r f None = ⊥
IsFullAt r f (Some g) = IsLateFull r f g

-- that of what is read of a text
pub record IsViewFull (o : ViewOptions) (text : List ℕ) : Type 0 where
  pub rule : GenerationsRule
  pub states : Place → ℕ
  pub read : IsReadAs (is_some o.generation) o.rule text rule states
  pub full : IsFullAt rule states o.generation

-- a want of memory; or of room for squares, where a state is too large, or the universe of a generation
abbrev pub IsWantAt : ViewOptions → List ℕ → ViewFault → Type 0
IsWantAt o text fault = (fault ≡ Run Memory) ⊎ ((fault ≡ Run StoreFull) × (IsStateTooLarge o text ⊎ IsViewFull o text))

-- why nothing is drawn of a text: it is a file of cells that is refused; a state without a rule, or a text that is no
-- state; or a generation that is not shown
pub data IsNotSeen (o : ViewOptions) (text : List ℕ) (fault : ViewFault) : Type 0 where
  NoFile : begins_as_state text ≡ false → IsRefusedFile (is_some o.generation) o.rule text fault → IsNotSeen o text fault
  NoStateRule : begins_as_state text ≡ true → state_rule o.rule text ≡ None → fault ≡ NoRule → IsNotSeen o text fault
  NoState : (r : GenerationsRule) (refusal : ReadFault) → begins_as_state text ≡ true → state_rule o.rule text ≡ Some r → message_of r text ≡ Err refusal
      → fault ≡ fault_of_state refusal → IsNotSeen o text fault
  NoGeneration : (r : GenerationsRule) (states : Place → ℕ) → IsReadAs (is_some o.generation) o.rule text r states → IsRefusedAt r states o.generation fault
      → IsNotSeen o text fault
