-- The entries that a relay keeps, and which relays there are.
use Rattle.std.specs.Prelude.{⊤, ◌≡◌, ◌≤◌, ◌+◌, Bool, true, false, List, [], ◌∷◌, ◌++◌, length, map, take, Option, Some, None}
use Rattle.std.specs.Arc.{arc_value}
use Rattle.atomic_table.specs.Seated.{TableId}
use Rattle.crossbeam_queue.specs.Passes.{view}
use Rattle.edit_stamps.specs.Edit.{greatest}
use Rattle.stamped_writes.specs.Write.{AreSame}
use Rattle.stamped_tree.specs.Plane.{map_of}
use Rattle.board.specs.declared.entry.Entry.{Entry}
use Rattle.board.specs.Entries.{edits_of}
use Rattle.board.specs.declared.rule.Label.{Label}
use Rattle.board.specs.Showing.{Origin}
use Rattle.board.specs.Sights.{label_of}
use Rattle.inbox.specs.declared.submission.Submission.{Submission}
use Rattle.inbox.specs.Books.{label_in}
use Rattle.receipts.specs.About.{known_by}
use Rattle.receipts.specs.Topics.{Topic}
use Rattle.receipts.specs.declared.rule.About.{About}
use Rattle.relay_board.specs.declared.relay.Relay.TheInside.{Inside}
use Rattle.relay_board.specs.Relaying.{Relaying}
use Rattle.relay_board.specs.Tallies.{Tallies}
use Rattle.relay_board.specs.Turns.{most_ready}

-- the last entry of a list
abbrev pub EndsWith : List Entry → Entry → Type 0
EndsWith list e = (before : List Entry) × (list ≡ before ++ e ∷ [])

-- the entries that are kept
abbrev pub kept_of : List Submission → List Entry
kept_of kept = map (λ (s : Submission). s.entry) kept

-- of what the last answer was, if there was one
abbrev pub answered_of : Option About → List Topic
answered_of None = []
answered_of (Some v) = known_by v ∷ []

-- whether the first kept entry was announced
abbrev pub IsTold : Bool → List Entry → List Entry → List Entry → Type 0
IsTold false kept announced list = announced ≡ list
IsTold true kept announced list = announced ≡ list ++ take 1 kept

-- what is kept is for this board
abbrev pub AreFor : List Submission → Label → Type 0
AreFor [] b = ⊤
AreFor (s ∷ kept) b = (label_in s ≡ b) × AreFor kept b

-- So many of the kept entries are ready, all but one at most; the relay's own plane has what was published, and these.
pub record HasReady {J : Type 0} {R : Type 0} (r : Inside J R) : Type 0 where
  pub most : r.ready ≤ most_ready
  pub within : r.ready ≤ length r.kept.items
  pub all_but_one : length r.kept.items ≤ r.ready + 1
  pub tried : AreSame (map_of r.tried) (greatest (edits_of (r.publisher.list ++ take r.ready (kept_of r.kept.items))))

-- what is seen of a relay
abbrev pub relaying_of : {J : Type 0} {R : Type 0} → Inside J R → Relaying
relaying_of r = record {
  list = r.publisher.list;
  kept = kept_of r.kept.items;
  ready = r.ready;
  answered = answered_of r.answered;
  out = (view r.drain.pass).out;
  known = (view r.drain.pass).known;
  made = (view r.drain.pass).made;
  origin = r.publisher.origin;
  inbox = (arc_value r.drain.queue).table.shared.table_id;
  closed = r.closed;
  empties = r.drain.empties;
  stored = length r.tried.store.squares;
  room = r.tried.store.room;
}

-- What was taken is the published list and then what is kept; only the first of that may be announced; board, inbox and kept
-- entries are of one origin; of each seat the published entries are counted. The board and the inbox are those that are named,
-- and no seat was taken in yet.
pub record IsRelay {J : Type 0} {R : Type 0} (board : Origin) (table : TableId) (r : Inside J R) : Type 0 where
  pub out : (view r.drain.pass).out ≡ r.publisher.list ++ kept_of r.kept.items
  pub told : IsTold r.told (kept_of r.kept.items) r.publisher.announced r.publisher.list
  pub ready : HasReady r
  pub room : r.kept.capacity ≡ most_ready
  pub label : (view r.drain.pass).label ≡ label_of r.publisher.origin
  pub kept : AreFor r.kept.items (label_of r.publisher.origin)
  pub tallies : Tallies r.counts.items r.publisher.list
  pub made : length r.counts.items ≡ (view r.drain.pass).made
  pub origin : r.publisher.origin ≡ board
  pub inbox : (arc_value r.drain.queue).table.shared.table_id ≡ table
  pub known : (view r.drain.pass).known ≡ []
