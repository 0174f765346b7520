-- All submissions of an inbox are for one board.
use Rattle.std.specs.Prelude.{◌≡◌, ℕ, true, false, List, []}
use mathlib.Core.Option.{some}
use lib.ListN.{get_elem?}
use Rattle.crossbeam_channel.specs.Claims.{view}
use Rattle.board.specs.declared.rule.Label.{Label}
use Rattle.inbox.specs.declared.submission.Submission.{Submission}
use Rattle.inbox.specs.declared.rule.Hand.{Hand}
use Rattle.inbox.specs.Hands.{Delivers}

-- the board that a submission is for
abbrev pub label_in : Submission → Label
label_in s = (view s.answering.pass).label

-- no pass is bound
abbrev pub AreUnbound : List Hand → Type 0
AreUnbound views = (p : ℕ) (v : Hand) → get_elem? views p ≡ some v → v.bound ≡ false

-- what the inbox holds is for one board, which each bound pass knows; until the receiver is bound the inbox is empty, and no pass is bound
pub record Books (items : List Submission) (views : List Hand) : Type 0 where
  pub label : Label
  pub same : (k : ℕ) (s : Submission) → get_elem? items k ≡ some s → label_in s ≡ label
  pub each : (p : ℕ) (v : Hand) → get_elem? views p ≡ some v → v.bound ≡ true → v.label ≡ label
  pub early : (p : ℕ) (v : Hand) → get_elem? views p ≡ some v → v.gets ≡ true → v.bound ≡ false → (items ≡ []) × AreUnbound views

-- the rule of the inbox: it delivers what was put, and is for one board
abbrev pub Holds : List Submission → List Hand → Type 0
Holds items views = Delivers items views × Books items views
