-- How a relay makes entries ready and publishes them, and what a turn does.
use Rattle.std.specs.Prelude.{◌≡◌, ◌≢◌, ◌<◌, ◌+◌, ◌-◌, ℕ, zero, suc, [], ◌∷◌, ◌++◌, length, take, drop, Option, Some, None, Result, Ok, Err}
use Rattle.board.specs.declared.entry.Entry.{Entry}
use Rattle.inbox.specs.Counts.{Risen}
use Rattle.receipts.specs.Topics.{topic}
use Rattle.relay_board.specs.Relaying.{Relaying}
use Rattle.relay_board.specs.Same.{Same}
use Rattle.relay_board.specs.declared.fault.TurnFault.{TurnFault}
use Rattle.relay_board.specs.declared.fault.TurnFault.TheVariants.{StoreFull, Memory}
use Rattle.relay_board.specs.declared.relay.Readiness.{Readiness}
use Rattle.relay_board.specs.declared.relay.Readiness.TheVariants as readiness
use Rattle.relay_board.specs.declared.relay.Turn.{Turn}
use Rattle.relay_board.specs.declared.relay.Turn.TheVariants.{Idle, Published, Failed}

-- the most entries that are ready at once
abbrev pub most_ready : ℕ
most_ready = 64

-- ---- an entry is made ready

-- e is the entry that was kept behind those that are ready, or else the next one that was taken; nothing is published
pub record IsBehind (a b : Relaying) (e : Entry) : Type 0 where
  pub kept : b.kept ≡ take a.ready a.kept ++ e ∷ []
  pub out : b.out ≡ a.list ++ b.kept
  pub was_kept : a.ready < length a.kept → (b.kept ≡ a.kept) × (b.out ≡ a.out)
  pub is_new : length a.kept ≡ a.ready → b.out ≡ a.out ++ e ∷ []
  pub list : b.list ≡ a.list
  pub answered : b.answered ≡ a.answered
  pub empties : b.empties ≡ a.empties

-- nothing was kept that is not ready, and nothing taken: the count of empty pops has risen, and all else is as it was
abbrev pub FindsNone : Relaying → Relaying → Type 0
FindsNone a b = (b ≡ record a { empties = b.empties }) × Risen a.empties b.empties × (length a.kept ≡ a.ready)

abbrev pub Readies : Relaying → Readiness → Relaying → Type 0
Readies a readiness.Idle b = FindsNone a b
Readies a readiness.Full b = (b ≡ a) × (a.ready ≡ most_ready)
Readies a readiness.Ready b = (e : Entry) × IsBehind a b e × (b.ready ≡ a.ready + 1)
Readies a (readiness.Failed fault) b = (e : Entry) × IsBehind a b e × (b.ready ≡ a.ready) × (fault ≡ StoreFull → b.stored ≡ b.room)

-- what making ready begins with, unless nothing is found: just one entry is kept behind those that are ready
abbrev pub IsFetched : Relaying → Relaying → Type 0
IsFetched a b = (e : Entry) × IsBehind a b e × (b.ready ≡ a.ready) × (a.ready < length b.kept)

-- ---- the first that is ready is published

-- it is published and answered; or, without memory, nothing was done
abbrev pub Shows : {E : Type 0} → Relaying → Result ℕ E → Relaying → Type 0
Shows a (Ok stamp) b =
    (e : Entry) × (e.edit.stamp ≡ stamp) × (a.kept ≡ e ∷ b.kept) × (b ≡ record a { list = a.list ++ e ∷ []; kept = b.kept; ready = a.ready - 1; answered = topic e a.origin ∷ [] })
Shows a (Err want) b = b ≡ a

-- ---- turns

-- e is the first entry that was kept, or else the next one that was taken
pub record IsNext (a b : Relaying) (e : Entry) : Type 0 where
  pub taken : b.out ≡ a.list ++ e ∷ drop 1 a.kept
  pub was_kept : a.kept ≢ [] → (a.kept ≡ e ∷ drop 1 a.kept) × (b.out ≡ a.out)
  pub is_new : a.kept ≡ [] → b.out ≡ a.out ++ e ∷ []
  pub empties : b.empties ≡ a.empties

-- nothing was kept and nothing taken: the count of empty pops has risen, and all else is as it was
abbrev pub Idles : Relaying → Relaying → Type 0
Idles a b = (b ≡ record a { empties = b.empties }) × Risen a.empties b.empties × (a.kept ≡ [])

-- from a to b by one turn: what is published is answered, and nothing else is
abbrev pub Turns : Relaying → Turn → Relaying → Type 0
Turns a Idle b = Idles a b
Turns a (Published s) b = (e : Entry) × (e.edit.stamp ≡ s) × IsNext a b e × (b.list ≡ a.list ++ e ∷ []) × (b.kept ≡ drop 1 a.kept) × (b.answered ≡ topic e b.origin ∷ [])
Turns a (Failed fault) b = (e : Entry) × IsNext a b e × (b.list ≡ a.list) × (b.kept ≡ e ∷ drop 1 a.kept) × (fault ≡ StoreFull → b.stored ≡ b.room) × (b.answered ≡ a.answered)

-- what a turn that finds an entry ready does: it shows it, and else there was no memory
abbrev pub ShowsFirst : Relaying → Turn → Relaying → Type 0
ShowsFirst a Idle b = ⊥
ShowsFirst a (Published s) b = Shows {E = TurnFault} a (Ok s) b
ShowsFirst a (Failed fault) b = (fault ≡ Memory) × (b ≡ a)

-- ---- turns, one after another

-- one turn of the same relay: whether it is closed stays as it was
pub record IsTurn (a : Relaying) (turn : Turn) (b : Relaying) : Type 0 where
  pub same : Same a b
  pub turned : Turns a turn b

-- one turn, which did not fail
abbrev pub GoesWell : Relaying → Turn → Relaying → Type 0
GoesWell a Idle b = IsTurn a Idle b
GoesWell a (Published stamp) b = IsTurn a (Published stamp) b
GoesWell a (Failed fault) b = ⊥

-- so many turns, none of which failed
abbrev pub GoOn : ℕ → Relaying → Relaying → Type 0
GoOn zero a b = b ≡ a
GoOn (suc turns) a b = (mid : Relaying) × (turn : Turn) × GoOn turns a mid × GoesWell mid turn b

-- nothing more was done, or one turn, which failed so
abbrev pub TriedOnce : Relaying → Option TurnFault → Relaying → Type 0
TriedOnce a None b = b ≡ a
TriedOnce a (Some fault) b = IsTurn a (Failed fault) b

-- Some turns, none of which failed; and where there is a fault one more, which failed so.
pub record Takes (a : Relaying) (fault : Option TurnFault) (b : Relaying) : Type 0 where
  pub turns : ℕ
  pub mid : Relaying
  pub went : GoOn turns a mid
  pub ends : TriedOnce mid fault b
