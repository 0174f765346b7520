-- The rule of a channel of answers.
use Rattle.std.specs.Prelude.{◌≡◌, ℕ, ◌+◌, true, false, List, [], length, slice_index_or}
use mathlib.Core.Option.{some}
use lib.ListN.{get_elem?}
use Rattle.board.specs.declared.entry.Entry.{Entry}
use Rattle.board.specs.Origins.{origin, list_of}
use Rattle.board.specs.Sights.{label_of, origin_in}
use Rattle.receipts.specs.Topics.{Topic, topic, no_entry, no_topic}
use Rattle.receipts.specs.declared.rule.Answer.{Answer}
use Rattle.receipts.specs.declared.rule.About.{About}

-- the entry that an answer names: the one at its place of its list
abbrev pub entry_of : Answer → Entry
entry_of x = slice_index_or (list_of x.front) x.at no_entry

-- what an answer is of
abbrev pub told_by : Answer → Topic
told_by x = topic (entry_of x) (origin x.front)

-- what a bound pass knows
abbrev pub known_by : About → Topic
known_by v = topic v.entry (origin_in v.label)

-- the view of a pass that is bound to a topic
abbrev pub about : Topic → About
about t = record { bound = true; entry = t.entry; label = label_of t.origin; sent = 0; received = 0 }

-- the view of the one pass of a channel that is not bound yet
abbrev pub unbound : About
unbound = record { bound = false; entry = no_topic.entry; label = label_of no_topic.origin; sent = 0; received = 0 }

-- one answer more was sent
abbrev pub after_sending : About → About
after_sending v = record v { sent = v.sent + 1 }

-- one answer more was received
abbrev pub after_receipt : About → About
after_receipt v = record v { received = v.received + 1 }

-- a bound pass knows the topic; until a pass is bound the channel is empty, and has no other pass
abbrev pub Fits : List Answer → List About → Topic → About → Type 0
Fits items views t v = (v.bound ≡ true → known_by v ≡ t) × (v.bound ≡ false → (items ≡ []) × (length views ≡ 1))

-- the answers that the channel holds are of one topic, which each bound pass knows
pub record IsOfOne (items : List Answer) (views : List About) : Type 0 where
  pub of : Topic
  pub all : (k : ℕ) (x : Answer) → get_elem? items k ≡ some x → told_by x ≡ of
  pub each : (port : ℕ) (v : About) → get_elem? views port ≡ some v → Fits items views of v
