-- What a crash leaves of a run, and what the next begins with.
use Rattle.std.proofs.Common.{Option, Some, None}
use Rattle.std.specs.Prelude.{IfSome}
use Rattle.board.specs.Entries.{edits_of}
use Rattle.kept_devices.specs.Standing.{History}
use Rattle.kept_log.specs.Kept.{Leaves}
use Rattle.document_bodies.specs.Bodies.{bodies_of}
use Rattle.document_bodies.proofs.BodyLaws.{are_body_laws}
use Rattle.board_keeper.specs.Keeping.{bodies_in}
use Rattle.kept_server.specs.Restarts.{GoesOnAcross, IsLeftAs, TellsAcrossRestarts}
use Rattle.kept_server.specs.Running.{Runs}
use Rattle.kept_server.proofs.Runs.{run_safe}

pub tells_across_restarts : TellsAcrossRestarts
tells_across_restarts a b edits rule out list under = go b.file.held (run_safe a b)
  where
    go : (held : Option History) → (Runs a b → IfSome held (λ (h : History). Leaves (bodies_in b.rule b.relay.list) (bodies_in b.rule b.relay.out) h.now))
        → IfSome held (λ (h : History). Runs a b → IsLeftAs b h edits → GoesOnAcross b edits)
    go None safe = tt
    go (Some h) safe = λ run left.
        let both = safe run left.left left.may (bodies_of b.rule edits) left.rest left.read in record {
          published = are_body_laws.begins b.rule (edits_of b.relay.list) edits rule list under both.0;
          taken = are_body_laws.begins b.rule edits (edits_of b.relay.out) rule under out both.1;
        }
