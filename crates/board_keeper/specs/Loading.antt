-- What a file has is put on a board, before any session.
use Rattle.std.specs.Prelude.{◌≡◌, ◌⊎◌, ◌<◌, ◌↔◌, ℕ, List, [], ◌∷◌, ◌++◌, take, map, Option, Some, None, Ok, Err, IsTrue, slice_get, Vec}
use Rattle.std.specs.declared.alloc.Global.{Global}
use Rattle.generations_rule.specs.Rule.{GenerationsRule}
use Rattle.edit_stamps.specs.Edit.{PlaneEdit}
use Rattle.board.specs.declared.entry.Entry.{Entry}
use Rattle.board.specs.Entries.{edits_of}
use Rattle.document_bodies.specs.Bodies.{edit_bodies}
use Rattle.document_bodies.specs.Counters.{AreNewestOf, counter_of}
use Rattle.document_bodies.specs.Newest.{MayFollow, RiseByReplica}
use Rattle.document_bodies.specs.Reading.{IsWant, edit_of}
use Rattle.relay_board.specs.Relaying.{Relaying}
use Rattle.relay_board.specs.Seating.{IsSame, Seating}
use Rattle.document_bodies.specs.declared.fault.BodyFault.{BodyFault}
use Rattle.board_keeper.specs.declared.loading.LoadFault.{LoadFault}
use Rattle.board_keeper.specs.declared.loading.LoadFault.TheVariants as fault

-- The board has the edits of these bodies, in order, and nothing else; all are published, and were put by the file's seat. No
-- two have one stamp, and of each replica it is known which counter is its newest.
pub record IsLoaded (r : GenerationsRule) (bodies : List (List ℕ)) (relay : Relaying) (file : Seating) (newest : List ℕ) : Type 0 where
  pub are : edit_bodies r (edits_of relay.list) ≡ bodies
  pub rise : RiseByReplica (edits_of relay.list)
  pub mine : file.mine ≡ relay.list
  pub kept : relay.kept ≡ []
  pub counters : AreNewestOf (edits_of relay.list) newest

-- the bodies before a place are those of edits whose counters rise
pub record AreGood (r : GenerationsRule) (bodies : List (List ℕ)) (at : ℕ) (edits : List PlaneEdit) : Type 0 where
  pub are : edit_bodies r edits ≡ take at bodies
  pub rise : RiseByReplica edits

-- Why a file is not put on a board: the first of its bodies that tells no edit, or whose stamp is not above the last of its
-- replica; or the board did not take it.
abbrev pub IsLoadFault : GenerationsRule → List (List ℕ) → LoadFault → Type 0
IsLoadFault r bodies (fault.Body at why) = (edits : List PlaneEdit) × (body : List ℕ) × AreGood r bodies at edits × (slice_get bodies at ≡ Some body) × (edit_of r body ≡ Err why)
IsLoadFault r bodies (fault.OldStamp at stamp) =
    (edits : List PlaneEdit) × (body : List ℕ) × (e : PlaneEdit) × AreGood r bodies at edits × (slice_get bodies at ≡ Some body) × (edit_of r body ≡ Ok e) × (e.stamp ≡ stamp) × (¬ MayFollow edits e)
IsLoadFault r bodies (fault.Submit why) = Unit {0}
IsLoadFault r bodies (fault.Turn why) = Unit {0}
IsLoadFault r bodies fault.NotAlone = Unit {0}
IsLoadFault r bodies fault.Memory = Unit {0}

-- a seat whose edits rise from the newest counter of its replica on
abbrev pub raised : List ℕ → Seating → Seating
raised newest s = record s { floor = Some (counter_of newest s.number) }

-- of these seats of a board all but the last are raised so, and the last is the file's
pub record AreRaised (newest : List ℕ) (before after : List Seating) (file : Seating) : Type 0 where
  pub first : List Seating
  pub last : Seating
  pub all : before ≡ first ++ last ∷ []
  pub raised : after ≡ map (raised newest) first
  pub same : IsSame last file

-- ---- the parts of it

-- want of memory is told as that, and any other fault with the place of the body
abbrev pub TellsFault : ℕ → BodyFault → LoadFault → Type 0
TellsFault at why told = (IsWant why × (told ≡ fault.Memory)) ⊎ ((¬ IsWant why) × (told ≡ fault.Body at why))

-- the body at a place tells no edit, for this cause; or memory was refused
abbrev pub IsBodyFault : GenerationsRule → List ℕ → ℕ → LoadFault → Type 0
IsBodyFault r body at (fault.Body place why) = (place ≡ at) × (edit_of r body ≡ Err why)
IsBodyFault r body at (fault.OldStamp place stamp) = ⊥
IsBodyFault r body at (fault.Submit why) = ⊥
IsBodyFault r body at (fault.Turn why) = ⊥
IsBodyFault r body at fault.NotAlone = ⊥
IsBodyFault r body at fault.Memory = Unit {0}

-- the board did not take it
abbrev pub IsNotTaken : LoadFault → Type 0
IsNotTaken (fault.Body place why) = ⊥
IsNotTaken (fault.OldStamp place stamp) = ⊥
IsNotTaken (fault.Submit why) = Unit {0}
IsNotTaken (fault.Turn why) = Unit {0}
IsNotTaken fault.NotAlone = Unit {0}
IsNotTaken fault.Memory = ⊥
