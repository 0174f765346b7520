-- The rule of the inbox.
use Rattle.std.specs.Prelude.{◌≡◌, ℕ, ◌+◌, ◌<◌, ◌≤◌, true, false, eqb, List, [], ◌∷◌, ◌++◌, length, map, filter, slice_index_or}
use mathlib.Core.Option.{Option, some, none}
use lib.ListN.{get_elem?}
use Rattle.edit_stamps.specs.Edit.{PlaneEdit}
use Rattle.board.specs.declared.entry.Entry.{Entry}
use Rattle.board.specs.declared.rule.Label.{Label}
use Rattle.board.specs.Sights.{label_of, no_origin}
use Rattle.inbox.specs.declared.submission.Submission.{Submission}
use Rattle.inbox.specs.declared.rule.Hand.{Hand}

-- ---- entries, and views

-- a seat's entry
abbrev pub entry : ℕ → ℕ → PlaneEdit → Entry
entry seat number edit = record { seat = seat; number = number; edit = edit }

-- the entries of one seat, in order
abbrev pub of : ℕ → List Entry → List Entry
of p es = filter (λ e. eqb e.seat p) es

-- the entries of some submissions, in order
abbrev pub entries_of : List Submission → List Entry
entries_of items = map (λ (s : Submission). s.entry) items

-- the view of who takes, before it is bound: what it took, how many senders it made, and what those put that it took in
abbrev pub receiver : List Entry → ℕ → List (List Entry) → Hand
receiver out made known = record { sends = false; seat = 0; put = []; channels = []; gets = true; out = out; made = made; known = known; bound = false; label = label_of no_origin }

-- the view of who puts as one seat, for a board, and has put nothing
abbrev pub sender : Label → ℕ → Hand
sender label seat = record { sends = true; seat = seat; put = []; channels = []; gets = false; out = []; made = 0; known = []; bound = true; label = label }

-- the view of a pass that neither puts nor takes
abbrev pub nobody : Hand
nobody = record { sends = false; seat = 0; put = []; channels = []; gets = false; out = []; made = 0; known = []; bound = false; label = label_of no_origin }

-- a view of who puts as one seat and does not take, for a board that it knows
abbrev pub IsSender : ℕ → Hand → Type 0
IsSender seat v = (v.sends ≡ true) × (v.gets ≡ false) × (v.seat ≡ seat) × (v.bound ≡ true)

-- a view of who takes and does not put, for a board that it knows
abbrev pub IsReceiver : Hand → Type 0
IsReceiver v = (v.gets ≡ true) × (v.sends ≡ false) × (v.bound ≡ true)

-- ---- what steps make of views

-- the receiver is told which board the inbox is for
abbrev pub after_bind : Label → Hand → Hand
after_bind b v = record v { bound = true; label = b }

-- a sender has put an entry, to be answered by a channel
abbrev pub after_put : Hand → Entry → ℕ → Hand
after_put v x channel = record v { put = v.put ++ x ∷ []; channels = v.channels ++ channel ∷ [] }

-- the receiver has taken an entry
abbrev pub after_take : Hand → Entry → Hand
after_take v x = record v { out = v.out ++ x ∷ [] }

-- the receiver has made a sender
abbrev pub after_hire : Hand → Hand
after_hire v = record v { made = v.made + 1 }

-- the receiver has taken a sender in
abbrev pub after_retire : Hand → Hand → Hand
after_retire v w = record v { known = v.known ++ w.put ∷ [] }

-- ---- the rule

-- each sender has one pass, which knows what was sent
abbrev pub FitsSender : (ℕ → Option ℕ) → (ℕ → List Entry) → ℕ → Hand → Type 0
FitsSender seat sent pass v = v.sends ≡ true → (seat v.seat ≡ some pass) × (v.put ≡ sent v.seat)

-- the one receiver knows what it took, that senders not made yet have sent nothing, and what those sent that it has taken in
pub record Receives (reader : ℕ) (seat : ℕ → Option ℕ) (sent : ℕ → List Entry) (out : List Entry) (pass : ℕ) (v : Hand) : Type 0 where
  pub here : pass ≡ reader
  pub took : v.out ≡ out
  pub later : (p : ℕ) → v.made ≤ p → (seat p ≡ none) × (sent p ≡ [])
  pub ended : (k : ℕ) → k < length v.known → (seat k ≡ none) × (slice_index_or v.known k [] ≡ sent k)
  pub fewer : length v.known ≤ v.made

-- the view of a pass tells the truth of its seat if it sends, and of all if it receives
abbrev pub Fits : ℕ → (ℕ → Option ℕ) → (ℕ → List Entry) → List Entry → ℕ → Hand → Type 0
Fits reader seat sent out pass v = FitsSender seat sent pass v × (v.gets ≡ true → Receives reader seat sent out pass v)

-- what each seat sent is what was taken of it, and then what the inbox holds of it, and each view tells the truth: which pass receives, which pass each seat has, what each seat sent, and what was taken
pub record Delivers (items : List Submission) (views : List Hand) : Type 0 where
  pub reader : ℕ
  pub seat : ℕ → Option ℕ
  pub sent : ℕ → List Entry
  pub out : List Entry
  pub all : (p : ℕ) → of p (out ++ entries_of items) ≡ sent p
  pub each : (pass : ℕ) (v : Hand) → get_elem? views pass ≡ some v → Fits reader seat sent out pass v

-- what the receiver took and then some rest is, of each sender that it took in, what that sender put, and nothing of a sender that was never made
pub record IsAll (v : Hand) (items : List Entry) : Type 0 where
  pub each : (k : ℕ) → k < length v.known → slice_index_or v.known k [] ≡ of k (v.out ++ items)
  pub none : (p : ℕ) → v.made ≤ p → of p (v.out ++ items) ≡ []
