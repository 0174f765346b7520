-- What the text of a file draws that is opened.
use Rattle.std.specs.Prelude.{◌≡◌, ⊤, ℕ, Bool, true, false, List, Result, Ok, Err}
use Rattle.square_store.specs.Limits.{usual_room}
use Rattle.generations_rule.specs.Rule.{GenerationsRule}
use Rattle.pattern_cells.specs.declared.cell.Cell.{Cell}
use Rattle.pattern_cells.specs.Pattern.{RlePattern}
use Rattle.cell_files.specs.declared.format.CellFormat.{CellFormat}
use Rattle.cell_files.specs.declared.format.CellFormat.TheVariants as formats
use Rattle.cell_files.specs.Files.{LacksHeader, file_parsed}
use Rattle.cell_files.specs.Formats.{format_of}
use Rattle.macrocell_text.specs.Texts.{macrocell_read}
use Rattle.stamped_writes.specs.Write.{Writes}
use Rattle.edit_stamps.specs.PlaneMap.{IsGreatestStamp}
use Rattle.stamped_tree.specs.Plane.{map_of}
use Rattle.delta_exchange.specs.declared.fault.ReadFault.{ReadFault}
use Rattle.delta_exchange.specs.declared.fault.ReadFault.TheVariants as reads
use Rattle.delta_exchange.specs.MessageReading.{MayWantRoom, begins_as_delta, message_of}
use Rattle.delta_exchange.specs.Room.{IsMapTooLargeFor}
use Rattle.delta_exchange.specs.State.{IsTellableMap}
use Rattle.delta_exchange.specs.Versions.{IsReadableStateText}
use Rattle.replica_events.specs.declared.edit_spec.EditSpec.TheVariants.{Or}
use Rattle.replica_core.specs.Replica.{ReplicaState}
use Rattle.replica_core.specs.declared.fault.Fault.{Fault}
use Rattle.replica_core.specs.declared.fault.Fault.TheVariants as faults
use Rattle.opened_files.specs.declared.opening.Opening.{Opening}
use Rattle.opened_files.specs.declared.opening.Opening.TheVariants as opens
use Rattle.opened_files.specs.declared.opening.Unopened.{Unopened}
use Rattle.opened_files.specs.declared.opening.Unopened.TheVariants as opens_not
use Rattle.opened_files.specs.Counters.{suffice}
use Rattle.opened_files.specs.Macrocells.{IsMacrocellAt, RefusesMacrocell}
use Rattle.opened_files.specs.Saved.{IsSaved}

-- ---- boards that were saved

-- the text is that of a board, and this tells whether counters suffice for it at a replica
pub record IsBoardAt (r : ReplicaState) (text : List ℕ) (cells : List Cell) (counter : ℕ) (suffices : Bool) : Type 0 where
  pub saved : IsSaved r.rule text cells counter
  pub stamp : ℕ
  pub greatest : IsGreatestStamp stamp (map_of r.plane)
  pub told : suffice counter stamp cells ≡ suffices

-- it is none, and this is its first fault; or counters do not suffice
pub data RefusesBoard (r : ReplicaState) (text : List ℕ) : Fault → Type 0 where
  unread : (fault : ReadFault) → message_of r.rule text ≡ Err fault → RefusesBoard r text (faults.Read fault)
  clock_full : (cells : List Cell) (counter : ℕ) → IsBoardAt r text cells counter false → RefusesBoard r text faults.ClockFull

-- room is wanting for the plane of a text's map, which is too large; the text is not a short one
pub record LacksRoom (r : GenerationsRule) (text : List ℕ) : Type 0 where
  pub long : MayWantRoom usual_room text
  pub large : (meant : Writes) → IsTellableMap r.states meant → IsReadableStateText r meant text → IsMapTooLargeFor usual_room meant

-- a text that begins as a state
abbrev pub OpensBoard : ReplicaState → List ℕ → Result Opening Unopened → Type 0
OpensBoard r text (Ok (opens.Board saved)) = IsBoardAt r text saved.cells.items saved.counter true
OpensBoard r text (Ok (opens.Cells cells)) = ⊥
OpensBoard r text (Ok (opens.Pattern spec)) = ⊥
OpensBoard r text (Err (opens_not.Refused fault)) = RefusesBoard r text fault
OpensBoard r text (Err (opens_not.NoPattern fault)) = ⊥
OpensBoard r text (Err (opens_not.NoMacrocell fault)) = ⊥
OpensBoard r text (Err opens_not.Memory) = ⊤
OpensBoard r text (Err opens_not.StoreFull) = LacksRoom r.rule text

-- why a text draws nothing that is not read
abbrev pub unopened_by : ReadFault → Unopened
unopened_by reads.Memory = opens_not.Memory
unopened_by reads.StoreFull = opens_not.StoreFull
unopened_by fault = opens_not.Refused (faults.Read fault)

-- ---- patterns

-- a file that is read as a pattern: its cells that are not dead are drawn at its own position; or it is none, and this is its first
-- fault; or memory is wanting, though not of an RLE text without a header: that is refused for it
abbrev pub OpensPattern : List ℕ → Result Opening Unopened → Type 0
OpensPattern text (Ok (opens.Board saved)) = ⊥
OpensPattern text (Ok (opens.Cells cells)) = ⊥
OpensPattern text (Ok (opens.Pattern spec)) = (pattern : RlePattern) × (file_parsed text ≡ Ok pattern) × (spec ≡ Or pattern pattern.pos.0 pattern.pos.1)
OpensPattern text (Err (opens_not.Refused fault)) = ⊥
OpensPattern text (Err (opens_not.NoPattern fault)) = file_parsed text ≡ Err fault
OpensPattern text (Err (opens_not.NoMacrocell fault)) = ⊥
OpensPattern text (Err opens_not.Memory) = LacksHeader text → ⊥
OpensPattern text (Err opens_not.StoreFull) = ⊥

-- ---- macrocells

-- a macrocell whose cells that are not dead are drawn; or that may not be drawn; or it is none, and this is its first fault; or memory
-- is wanting
abbrev pub OpensMacrocell : ReplicaState → List ℕ → Result Opening Unopened → Type 0
OpensMacrocell r text (Ok (opens.Board saved)) = ⊥
OpensMacrocell r text (Ok (opens.Cells cells)) = IsMacrocellAt r text cells.items true
OpensMacrocell r text (Ok (opens.Pattern spec)) = ⊥
OpensMacrocell r text (Err (opens_not.Refused fault)) = RefusesMacrocell r text fault
OpensMacrocell r text (Err (opens_not.NoPattern fault)) = ⊥
OpensMacrocell r text (Err (opens_not.NoMacrocell fault)) = macrocell_read text ≡ Err fault
OpensMacrocell r text (Err opens_not.Memory) = ⊤
OpensMacrocell r text (Err opens_not.StoreFull) = ⊥

-- why a macrocell draws nothing whose cells may not be drawn
abbrev pub refused_by : Fault → Unopened
refused_by faults.Memory = opens_not.Memory
refused_by fault = opens_not.Refused fault

-- ---- any text

-- a file of cells of a format
abbrev pub OpensFile : CellFormat → ReplicaState → List ℕ → Result Opening Unopened → Type 0
OpensFile formats.Macrocell r text result = OpensMacrocell r text result
OpensFile formats.MCell r text result = OpensPattern text result
OpensFile formats.Plaintext r text result = OpensPattern text result
OpensFile formats.Rle r text result = OpensPattern text result
OpensFile formats.State r text result = OpensPattern text result
OpensFile formats.Document r text result = OpensPattern text result

abbrev pub OpensBy : Result Bool ReadFault → ReplicaState → List ℕ → Result Opening Unopened → Type 0
OpensBy (Ok false) r text result = OpensBoard r text result
OpensBy (Ok true) r text result = OpensFile (format_of text) r text result
OpensBy (Err fault) r text result = OpensFile (format_of text) r text result

-- a text is opened as a board that was saved where it begins as one, else as a macrocell where it begins so, and else as a pattern
abbrev pub IsOpening : ReplicaState → List ℕ → Result Opening Unopened → Type 0
IsOpening r text result = OpensBy (begins_as_delta text) r text result
