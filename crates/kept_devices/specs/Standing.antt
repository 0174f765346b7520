-- How a file that is added to at its end stands, and what a crash may leave of it.
use Rattle.std.specs.Prelude.{⊤, ◌≡◌, ◌⊎◌, ℕ, Bool, true, false, List, [], ◌∷◌, ◌++◌, take, drop, Option, Some, None}
use Rattle.kept_records.specs.Laws.{IsLowered}

pub record Standing : Type 0 where
  -- the bytes that are on the disk
  pub durable : List ℕ
  -- behind them, those that were added since the last sync
  pub pending : List ℕ
  -- bytes that were durable, and behind them some that were pending, which were cut off; that they were is not on the
  -- disk yet
  pub cut_durable : List ℕ
  pub cut_pending : List ℕ
  -- what was put in the place of the whole file, where it is not on the disk yet that it was
  pub others : List (List ℕ)
  -- whether a sync failed, or such a cut or replacement: no later sync says anything of it, since the system may call
  -- bytes written that are not
  pub is_doubtful : Bool

-- the text is one of the list
abbrev pub Has : List (List ℕ) → List ℕ → Type 0
Has [] text = ⊥
Has (x ∷ more) text = (text ≡ x) ⊎ Has more text

pub data MayLeave (s : Standing) (left : List ℕ) : Type 0 where
  -- All that was synced stays. Of what was added since, each byte is as it was added, or less: it may be 0 still; and the
  -- file ends anywhere in it.
  Added : (end : List ℕ) → IsLowered end s.pending → left ≡ s.durable ++ end → MayLeave s left
  -- A file that is being cut may end anywhere in what was cut off,
  Cut : (n : ℕ) → left ≡ s.durable ++ take n s.cut_durable → MayLeave s left
  -- or be as it was before.
  Uncut : (end : List ℕ) → IsLowered end s.cut_pending → left ≡ s.durable ++ (s.cut_durable ++ end) → MayLeave s left
  -- Another file may have its place.
  Replaced : Has s.others left → MayLeave s left

-- these bytes, all of them on the disk
abbrev pub stands : List ℕ → Standing
stands bytes = record { durable = bytes; pending = []; cut_durable = []; cut_pending = []; others = []; is_doubtful = false }

-- nothing of it was cut off or replaced that is not so on the disk
pub record IsSettled (s : Standing) : Type 0 where
  pub cut_durable : s.cut_durable ≡ []
  pub cut_pending : s.cut_pending ≡ []
  pub others : s.others ≡ []

-- ---- what calls make of it

-- bytes were added
abbrev pub added : List ℕ → Standing → Standing
added bytes s = record s { pending = s.pending ++ bytes }

-- all that was added is on the disk
abbrev pub synced : Standing → Standing
synced s = stands (s.durable ++ s.pending)

-- a sync failed
abbrev pub in_doubt : Standing → Standing
in_doubt s = record s { is_doubtful = true }

-- it was cut to so many bytes, and not synced
abbrev pub cutting : ℕ → Standing → Standing
cutting n s = record { durable = take n s.durable; pending = []; cut_durable = drop n s.durable; cut_pending = s.pending; others = []; is_doubtful = true }

-- other bytes were put in its place, and that was not synced
abbrev pub replacing : List ℕ → Standing → Standing
replacing bytes s = record s { others = s.others ++ bytes ∷ []; is_doubtful = true }

-- ---- how it stood before

-- how a file stands, and how it stood before, the earliest first
pub record History : Type 0 where
  pub past : List Standing
  pub now : Standing

abbrev pub moves_to : History → Standing → History
moves_to h s = record { past = h.past ++ h.now ∷ []; now = s }

abbrev pub Each : (Standing → Type 0) → List Standing → Type 0
Each P [] = ⊤
Each P (s ∷ more) = P s × Each P more

-- at each moment from the first history up to the second
pub record Throughout (P : Standing → Type 0) (h k : History) : Type 0 where
  pub between : List Standing
  pub past : k.past ≡ h.past ++ between
  pub each : Each P between
  pub now : P k.now

-- where the first is known, so is the second
abbrev pub Both : Option History → Option History → (History → History → Type 0) → Type 0
Both (Some h) (Some k) P = P h k
Both (Some h) None P = ⊥
Both None (Some k) P = ⊥
Both None None P = ⊤
