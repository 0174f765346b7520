-- What is drawn in a document: the edit, the replica that holds it, the file that keeps it, and its line.
use Rattle.std.specs.Prelude.{◌≡◌, ◌≢◌, ◌⊎◌, ℕ, max, List, [], ◌∷◌, ◌++◌, codes, Option, Some, None, IsSome, option_map, Result, Ok, Err}
use Rattle.generations_rule.specs.Rule.{GenerationsRule}
use Rattle.pattern_cells.specs.Pattern.{RlePattern}
use Rattle.edit_stamps.specs.Edit.{PlaneEdit}
use Rattle.edit_stamps.specs.PlaneMap.{IsGreatestStamp}
use Rattle.edit_stamps.specs.Stamp.{counter_in}
use Rattle.stamped_tree.specs.Plane.{map_of}
use Rattle.delta_exchange.specs.declared.message.Content.TheVariants.{Edits}
use Rattle.document_bodies.specs.Bodies.{edit_body}
use Rattle.kept_log.specs.Kept.{Always, Keeps, Leaves}
use Rattle.kept_log.specs.declared.log.LogState.TheVariants.{Open}
use Rattle.replica_events.specs.declared.edit_spec.EditSpec.{EditSpec}
use Rattle.replica_events.specs.declared.edit_spec.EditSpec.TheVariants as spec
use Rattle.drawing_history.specs.Makings.{EndsDrawing, NotesStroke}
use Rattle.drawing_history.specs.Ways.{way_done}
use Rattle.drawing_history.specs.declared.way.Way.{Way}
use Rattle.replica_core.specs.Replica.{IsUnchanged, ReplicaState, MeetsWant, edit_drawn}
use Rattle.replica_core.specs.Exchange.{TakesSome}
use Rattle.replica_core.specs.declared.fault.Fault.{Fault}
use Rattle.replica_core.specs.declared.fault.Fault.TheVariants as faults
use Rattle.replica_core.specs.declared.event.Reply.TheVariants as reply
use Rattle.genedit_lib.specs.Output.{no_pattern_line, reply_line, taken_back_line}
use Rattle.genedit_lib.specs.Patterns.{pattern_in}
use Rattle.client_commands.specs.declared.command.Placement.{Placement}
use Rattle.document_pen.specs.declared.naming.PasteMode.{PasteMode}
use Rattle.document_pen.specs.declared.naming.PasteMode.TheVariants as mode
use Rattle.document_pen.specs.declared.pen.Outcome.{Outcome}
use Rattle.document_pen.specs.declared.pen.Outcome.TheVariants as outcome
use Rattle.document_pen.specs.declared.fault.PenFault.{PenFault}
use Rattle.document_pen.specs.declared.fault.PenFault.TheVariants as fault
use Rattle.document_pen.specs.Pen.{IsPrinted, PenState, Prints}

-- ---- the edit

-- what a replica draws of a specification, with a counter above a given one too: an edit, or why there is none
pub record IsEditFor (after : ℕ) (spec : EditSpec) (r : ReplicaState) (meant : Result PlaneEdit Fault) : Type 0 where
  pub stamp : ℕ
  pub greatest : IsGreatestStamp stamp (map_of r.plane)
  pub made : edit_drawn r.rule (max after (counter_in stamp)) r.number spec ≡ meant

-- ---- the replica

abbrev pub HoldsEdit : PlaneEdit → ReplicaState → ReplicaState → Type 0
HoldsEdit e r s = TakesSome r s (λ content. content ≡ Edits (e ∷ []))

abbrev pub FindsNoRoom : PlaneEdit → ReplicaState → ReplicaState → Type 0
FindsNoRoom e r s = MeetsWant r s (λ content. content ≡ Edits (e ∷ [])) faults.StoreFull

-- it holds the edit; or memory, or room, is wanting for that, and then its map is as it was
abbrev pub IsTaken : {A : Type 0} → PlaneEdit → ReplicaState → ReplicaState → Result A PenFault → Type 0
IsTaken e r s (Ok done) = HoldsEdit e r s
IsTaken e r s (Err fault.Memory) = IsUnchanged r s
IsTaken e r s (Err fault.StoreFull) = FindsNoRoom e r s
IsTaken e r s (Err fault.Write) = ⊥

-- ---- the file

-- the bodies of a document, and an edit's behind them
abbrev pub with_edit : GenerationsRule → List (List ℕ) → PlaneEdit → List (List ℕ)
with_edit r bodies e = bodies ++ edit_body r e ∷ []

-- where the file keeps a document, whatever a crash leaves at any moment is that, or that and the edit
abbrev pub IsSafe : PlaneEdit → PenState → PenState → Type 0
IsSafe e m n = (bodies : List (List ℕ)) → Keeps bodies m.file → Always (Leaves bodies (with_edit m.replica.rule bodies e)) m.file n.file

-- it keeps the edit then, on the disk, and takes others
pub record Commits (e : PlaneEdit) (m n : PenState) : Type 0 where
  pub kept : (bodies : List (List ℕ)) → Keeps bodies m.file → Keeps (with_edit m.replica.rule bodies e) n.file
  pub safe : IsSafe e m n
  pub open_still : n.takes ≡ Open

-- it failed, now or before, and takes nothing more
pub record FailsCommit (e : PlaneEdit) (m n : PenState) : Type 0 where
  pub safe : IsSafe e m n
  pub stopped : n.takes ≢ Open

-- it was not touched
pub record LeavesFile (m n : PenState) : Type 0 where
  pub file : n.file ≡ m.file
  pub takes : n.takes ≡ m.takes

abbrev pub IsKept : {A : Type 0} → PlaneEdit → PenState → PenState → Result A PenFault → Type 0
IsKept e m n (Ok done) = Commits e m n
IsKept e m n (Err fault.Memory) = LeavesFile m n
IsKept e m n (Err fault.StoreFull) = ⊥
IsKept e m n (Err fault.Write) = FailsCommit e m n

-- ---- lines

-- that an edit was drawn, or what it took back, by its counter and its replica
abbrev pub done_line : Option Way → ℕ → List ℕ
done_line None stamp = reply_line (reply.Drawn stamp)
done_line (Some way) stamp = taken_back_line (way_done way) stamp

-- ---- a drawing

-- The replica holds the edit, the file keeps it, its stroke is noted, and its line is printed.
pub record DrawsEdit (e : PlaneEdit) (m n : PenState) : Type 0 where
  pub held : HoldsEdit e m.replica n.replica
  pub kept : Commits e m n
  pub noted : NotesStroke (map_of m.replica.plane) e (map_of n.replica.plane) m.making n.making
  pub told : n.out ≡ m.out ++ done_line m.way e.stamp
  pub rest : (n.patterns ≡ m.patterns) × (n.way ≡ m.way)

-- the replica holds the edit, and its stroke is noted; but the file failed, and nothing is printed
pub record FailsDrawing (e : PlaneEdit) (m n : PenState) : Type 0 where
  pub held : HoldsEdit e m.replica n.replica
  pub failed : FailsCommit e m n
  pub noted : NotesStroke (map_of m.replica.plane) e (map_of n.replica.plane) m.making n.making
  pub told : n.out ≡ m.out
  pub rest : (n.patterns ≡ m.patterns) × (n.way ≡ m.way)

-- nothing was done but, maybe, at the replica
abbrev pub LeavesRest : PenState → PenState → Type 0
LeavesRest m n = n ≡ record m { replica = n.replica }

-- the replica holds the edit, and its stroke is noted; but memory is wanting for its line, or for its record, and nothing else is done
pub record HoldsUnkept (e : PlaneEdit) (m n : PenState) : Type 0 where
  pub held : HoldsEdit e m.replica n.replica
  pub noted : NotesStroke (map_of m.replica.plane) e (map_of n.replica.plane) m.making n.making
  pub left : n ≡ record m { replica = n.replica; making = n.making }

-- memory is wanting for an edit that was made: the replica's map is as it was, and all else; or the replica holds the edit, which the file lacks
abbrev pub LacksForEdit : PlaneEdit → PenState → PenState → Type 0
LacksForEdit e m n = (IsUnchanged m.replica n.replica × LeavesRest m n) ⊎ HoldsUnkept e m n

-- an edit that was made is drawn
abbrev pub IsEditDrawn : PlaneEdit → PenState → PenState → Result Outcome PenFault → Type 0
IsEditDrawn e m n (Ok outcome.Drawn) = DrawsEdit e m n
IsEditDrawn e m n (Ok outcome.Refused) = ⊥
IsEditDrawn e m n (Err fault.Memory) = LacksForEdit e m n
IsEditDrawn e m n (Err fault.StoreFull) = FindsNoRoom e m.replica n.replica × LeavesRest m n
IsEditDrawn e m n (Err fault.Write) = FailsDrawing e m n

-- the edit of a specification is drawn; or there is none, which is printed; or memory is wanting for the edit, or before anything is done
abbrev pub IsDrawn : ℕ → EditSpec → PenState → PenState → Result Outcome PenFault → Type 0
IsDrawn after spec m n (Ok outcome.Drawn) = (e : PlaneEdit) × IsEditFor after spec m.replica (Ok e) × DrawsEdit e m n
IsDrawn after spec m n (Ok outcome.Refused) = (why : Fault) × IsEditFor after spec m.replica (Err why) × Prints (reply_line (reply.Refused why)) m n
IsDrawn after spec m n (Err fault.Memory) = (n ≡ m) ⊎ ((e : PlaneEdit) × IsEditFor after spec m.replica (Ok e) × LacksForEdit e m n)
IsDrawn after spec m n (Err fault.StoreFull) = (e : PlaneEdit) × IsEditFor after spec m.replica (Ok e) × FindsNoRoom e m.replica n.replica × LeavesRest m n
IsDrawn after spec m n (Err fault.Write) = (e : PlaneEdit) × IsEditFor after spec m.replica (Ok e) × FailsDrawing e m n

-- ---- the end of a drawing

-- something is drawn, and then the drawing that was being made is ended
pub record DrawsAndEnds (Draws : PenState → PenState → Result Outcome PenFault → Type 0) (m n : PenState) (result : Result Outcome PenFault) : Type 0 where
  pub mid : PenState
  pub draws : Draws m mid result
  pub ends : EndsDrawing mid.making n.making
  pub rest : n ≡ record mid { making = n.making }

-- ---- pastes

-- what is drawn of a pattern whose box has its upper left corner at a place
abbrev pub paste_spec : PasteMode → Placement → RlePattern → EditSpec
paste_spec mode.Copy placed pattern = spec.Copy pattern placed.x placed.y
paste_spec mode.Or placed pattern = spec.Or pattern placed.x placed.y

-- the same of the pattern that its name stands for, if it stands for one
abbrev pub pasted : PasteMode → Placement → PenState → Option EditSpec
pasted mode placed m = option_map (paste_spec mode placed) (pattern_in m.patterns placed.name)

-- a paste is the drawing of what the name's pattern makes; a name that stands for none is refused
abbrev pub PastesAs : Option EditSpec → PenState → PenState → Result Outcome PenFault → Type 0
PastesAs (Some drawn) m n result = DrawsAndEnds (IsDrawn 0 drawn) m n result
PastesAs None m n result = IsPrinted outcome.Refused (no_pattern_line ++ codes "\n") m n result

-- or memory for a copy of the name's pattern is wanting before anything is done
abbrev pub IsPaste : Option EditSpec → PenState → PenState → Result Outcome PenFault → Type 0
IsPaste drawn m n (Ok came) = PastesAs drawn m n (Ok came)
IsPaste drawn m n (Err why) = ((why ≡ fault.Memory) × IsSome drawn × (n ≡ m)) ⊎ PastesAs drawn m n (Err why)
