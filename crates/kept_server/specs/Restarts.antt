-- One run of a kept board, and the next one on its file.
use Rattle.std.specs.Prelude.{ℕ, List, IfSome}
use mathlib.Core.List.{IsPrefix}
use Rattle.edit_stamps.specs.Edit.{PlaneEdit}
use Rattle.generations_rule.specs.Rule.{IsRule}
use Rattle.board.specs.Entries.{edits_of}
use Rattle.kept_records.specs.Records.{AreRead}
use Rattle.kept_devices.specs.Standing.{History, MayLeave}
use Rattle.document_bodies.specs.Bodies.{AreEditsUnder, bodies_of}
use Rattle.board_keeper.specs.Keeping.{Keeping}
use Rattle.kept_server.specs.Running.{Runs}

-- A crash leaves these bytes of the keeper's file, and they are read as the document of these edits.
pub record IsLeftAs (b : Keeping) (h : History) (edits : List PlaneEdit) : Type 0 where
  pub left : List ℕ
  pub may : MayLeave h.now left
  pub rest : List ℕ
  pub read : AreRead left (bodies_of b.rule edits) rest

-- they begin with all that was published, of which is all that was ever told, and with nothing that was not submitted
pub record GoesOnAcross (b : Keeping) (edits : List PlaneEdit) : Type 0 where
  pub published : IsPrefix (edits_of b.relay.list) edits
  pub taken : IsPrefix edits (edits_of b.relay.out)

-- Whatever a crash leaves behind a run of a keeper whose file tells its bytes, and all of whose edits its rule has, is such a
-- document: the next board, on which it is loaded, goes on from what this one told.
abbrev pub TellsAcrossRestarts : Type 0
TellsAcrossRestarts =
    (a b : Keeping) (edits : List PlaneEdit) → IsRule b.rule → AreEditsUnder b.rule (edits_of b.relay.out) → AreEditsUnder b.rule (edits_of b.relay.list) → AreEditsUnder b.rule edits
    → IfSome b.file.held (λ (h : History). Runs a b → IsLeftAs b h edits → GoesOnAcross b edits)
