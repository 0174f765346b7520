-- A client between two commands.
use Rattle.std.specs.Prelude.{◌≡◌, ⊤, ℕ, ◌-◌, List, ◌++◌, length, drop, Result, Ok, Err}
use mathlib.Core.List.{IsPrefix}
use Rattle.edit_stamps.specs.Edit.{PlaneEdit}
use Rattle.board_client.specs.Client.{LineState}
use Rattle.client_session.specs.declared.fault.CommandFault.{CommandFault}
use Rattle.client_session.specs.declared.fault.CommandFault.TheVariants.{Client, Refused, Memory, StoreFull}
use Rattle.client_session.specs.declared.workspace.Workspace.{Workspace}

-- the line to the server, what the client works with, and what it printed
pub record Moment : Type 0 where
  pub line : LineState
  pub workspace : Workspace
  pub out : List ℕ

-- how many edits of others came since a number of edits, or a whole plane, was last told: those of the journal that are not counted off, of which one of its own that was in doubt is one as it comes
abbrev pub others : Workspace → ℕ
others s = length s.replica.journal - s.counted

-- how many are counted off so that there are as many others as before, where the journal had so many edits then: what was drawn since is none of others
abbrev pub counted_behind : ℕ → Workspace → ℕ
counted_behind known s = length s.replica.journal - (known - s.counted)

-- the edits that a poll or a drawing put behind a client's journal
abbrev pub came : Workspace → Workspace → List PlaneEdit
came old new = drop (length old.replica.journal) new.replica.journal

-- all but the replica stays
abbrev pub KeepsRest : Workspace → Workspace → Type 0
KeepsRest old new = new ≡ record old { replica = new.replica }

-- what a client works with as it was, but that its replica took what came
abbrev pub taken : Moment → Moment → Workspace
taken m n = record m.workspace { replica = n.workspace.replica }

-- nothing is said on the line, and of what the client works with the names alone may stand for others
pub record KeepsAllButNames (m n : Moment) : Type 0 where
  pub line : n.line ≡ m.line
  pub workspace : n.workspace ≡ record m.workspace { patterns = n.workspace.patterns }

-- a text was printed, and nothing else done
pub record Prints (text : List ℕ) (m n : Moment) : Type 0 where
  pub line : n.line ≡ m.line
  pub workspace : n.workspace ≡ m.workspace
  pub out : n.out ≡ m.out ++ text

-- ---- what is wanting

-- memory is wanting; or room is, where Full holds
abbrev pub IsWant : Type 0 → CommandFault → Type 0
IsWant Full Memory = ⊤
IsWant Full StoreFull = Full
IsWant Full (Client fault) = ⊥
IsWant Full (Refused number) = ⊥

-- a text is not printed whole: what was printed before stands, and nothing else is done
pub record BreaksOff (m n : Moment) : Type 0 where
  pub line : n.line ≡ m.line
  pub workspace : n.workspace ≡ m.workspace
  pub out : IsPrefix m.out n.out

-- not all is told: what was printed before stands, and of what the client works with the map that is told alone may be another
pub record IsCutShort (old new : Workspace) (out out' : List ℕ) : Type 0 where
  pub printed : IsPrefix out out'
  pub kept : new ≡ record old { shown = new.shown }

-- something was done at the board, and came to an answer, as Done says, but not all of that is told: memory is wanting, or room, where Full holds
pub record LacksTelling {A : Type 0} (Done Full : A → Type 0) (fault : CommandFault) (m n : Moment) : Type 0 where
  pub answer : A
  pub done : Done answer
  pub want : IsWant (Full answer) fault
  pub cut : IsCutShort (taken m n) n.workspace m.out n.out

-- ---- lines

-- how many edits of others came is told in a line, and the count starts anew
pub record TellsNumber (line_of : ℕ → List ℕ) (old new : Workspace) (out out' : List ℕ) : Type 0 where
  pub told : out' ≡ out ++ line_of (others old)
  pub counted : new ≡ record old { counted = length old.replica.journal }

-- it is told, or memory is wanting
abbrev pub IsNumberTold : {A : Type 0} → (ℕ → List ℕ) → Workspace → Workspace → List ℕ → List ℕ → Result A CommandFault → Type 0
IsNumberTold line_of old new out out' (Ok done) = TellsNumber line_of old new out out'
IsNumberTold line_of old new out out' (Err fault) = (fault ≡ Memory) × (new ≡ old) × IsPrefix out out'

-- nothing was said on the line meanwhile
abbrev pub TellsCount : {A : Type 0} → (ℕ → List ℕ) → Moment → Moment → Result A CommandFault → Type 0
TellsCount line_of m n result = (n.line ≡ m.line) × IsNumberTold line_of m.workspace n.workspace m.out n.out result

-- a text is printed, or memory is wanting for it
abbrev pub IsPrinted : {A : Type 0} → A → List ℕ → Moment → Moment → Result A CommandFault → Type 0
IsPrinted answer text m n (Ok given) = (given ≡ answer) × Prints text m n
IsPrinted answer text m n (Err fault) = (fault ≡ Memory) × BreaksOff m n
