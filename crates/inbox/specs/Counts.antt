-- Counts of puts that found the inbox full, and of takes that found it empty.
use Rattle.std.specs.Prelude.{◌≡◌, ℕ, ◌+◌, ◌-◌, ◌^◌, ◌++◌, List, min}
use Rattle.crossbeam_queue.specs.Fifo.{Held}
use Rattle.board.specs.declared.entry.Entry.{Entry}
use Rattle.inbox.specs.declared.submission.Submission.{Submission}
use Rattle.inbox.specs.declared.rule.Hand.{Hand}
use Rattle.inbox.specs.declared.ends.Refused.{Refused}
use Rattle.inbox.specs.declared.ends.Refused.TheVariants.{Full, Memory}
use Rattle.inbox.specs.Hands.{of, entries_of}

-- a number as a count of 64 bits has it, which stays at its greatest value
abbrev pub counted : ℕ → ℕ
counted n = min n (2 ^ 64 - 1)

-- a count of 64 bits has risen by one, or stands at its greatest value
abbrev pub Risen : ℕ → ℕ → Type 0
Risen a b = b ≡ min (a + 1) (2 ^ 64 - 1)

-- some entries have, of a sender's seat, the last ones that it put
abbrev pub HasLast : Hand → List Entry → Type 0
HasLast v es = (before : List Entry) × (before ++ of v.seat es ≡ v.put)

-- at one moment the inbox held as many submissions as it has room for, and of a sender's seat the last ones that it put
abbrev pub WasFull : ℕ → Hand → Type 0
WasFull room v = Held room (λ (items : List Submission). HasLast v (entries_of items))

-- the count of full inboxes from a to b at a refusal, and a fact that holds where the inbox was full
abbrev pub Denies : Refused → ℕ → ℕ → Type 0 → Type 0
Denies Full a b held = Risen a b × held
Denies Memory a b held = b ≡ a
