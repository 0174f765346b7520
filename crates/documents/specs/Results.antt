-- What the calls that make documents answer.
use Rattle.std.specs.Prelude.{◌≡◌, ◌≢◌, Bool, true, false, ℕ, List, [], ◌∷◌, None, Some, Result, Ok, Err, Contains, IsTrue, length, ◌<◌, ◌≤◌, HoldsAt}
use Rattle.std.specs.List.{AllWithin}
use Rattle.generations_rule.specs.Rule.{GenerationsRule}
use Rattle.edit_stamps.specs.Edit.{PlaneEdit, has_states_below}
use Rattle.documents.specs.declared.fault.DocumentFault.{DocumentFault}
use Rattle.documents.specs.declared.fault.DocumentFault.TheVariants.{StateRange, OtherRule, SameStamp, NoDocument, Body, Memory}
use Rattle.documents.specs.Sets.{Agree, Clashes, ClashesWithin, DifferAt, HaveSameEdits, IsAscending, IsUnion, edit_at}
use Rattle.documents.specs.Documents.{DocumentState, IsDocument}

-- ---- a list of edits as a document

-- the states of each edit of a list are below a number of them
abbrev pub HasAllBelow : ℕ → List PlaneEdit → Type 0
HasAllBelow states edits = (e : PlaneEdit) → Contains edits e → IsTrue (has_states_below states e)

-- an edit has a state that is not below a number of them
pub record HasStateAbove (states : ℕ) (edits : List PlaneEdit) : Type 0 where
  pub edit : PlaneEdit
  pub has : Contains edits edit
  pub above : has_states_below states edit ≡ false

-- the same edits in order, each stamp once
pub record IsSetOf (edits set : List PlaneEdit) : Type 0 where
  pub ascending : IsAscending set
  pub same : HaveSameEdits set edits

-- another edit with the stamp of one stands next behind it
abbrev pub IsAnotherNext : PlaneEdit → List PlaneEdit → Type 0
IsAnotherNext e [] = ⊥
IsAnotherNext e (next ∷ behind) = (next.stamp ≡ e.stamp) × (next ≢ e)

pub record IsMadeOf (r : GenerationsRule) (edits : List PlaneEdit) (d : DocumentState) : Type 0 where
  pub is : IsDocument d
  pub rule : d.rule ≡ r
  pub set : IsSetOf edits d.edits

-- what is made of edits in any order
abbrev pub IsMade : GenerationsRule → List PlaneEdit → Result DocumentState DocumentFault → Type 0
IsMade r edits (Ok d) = IsMadeOf r edits d
IsMade r edits (Err StateRange) = HasStateAbove r.states edits
IsMade r edits (Err (SameStamp stamp)) = HasAllBelow r.states edits × ClashesWithin edits stamp
IsMade r edits (Err OtherRule) = ⊥
IsMade r edits (Err NoDocument) = ⊥
IsMade r edits (Err (Body fault place)) = ⊥
IsMade r edits (Err Memory) = ⊥

-- ---- two documents

-- two sets agree, and this is their union
pub record IsUnited (a b all : List PlaneEdit) : Type 0 where
  pub agree : Agree a b
  pub ascending : IsAscending all
  pub union : IsUnion a b all

pub record IsUnionOf (a b d : DocumentState) : Type 0 where
  pub is : IsDocument d
  pub rule : d.rule ≡ a.rule
  pub same_rule : a.rule ≡ b.rule
  pub united : IsUnited a.edits b.edits d.edits

-- what merging two documents gives
abbrev pub IsMerged : DocumentState → DocumentState → Result DocumentState DocumentFault → Type 0
IsMerged a b (Ok d) = IsUnionOf a b d
IsMerged a b (Err OtherRule) = a.rule ≢ b.rule
IsMerged a b (Err (SameStamp stamp)) = (a.rule ≡ b.rule) × Clashes a.edits b.edits stamp
IsMerged a b (Err Memory) = (a.rule ≡ b.rule) × Agree a.edits b.edits
IsMerged a b (Err StateRange) = ⊥
IsMerged a b (Err NoDocument) = ⊥
IsMerged a b (Err (Body fault place)) = ⊥

-- ---- one edit more

-- no edit had the stamp, and now the edit is there
pub record IsAddedTo (old : DocumentState) (e : PlaneEdit) (new : DocumentState) : Type 0 where
  pub is : IsDocument new
  pub rule : new.rule ≡ old.rule
  pub none : edit_at old.edits e.stamp ≡ None
  pub union : IsUnion old.edits (e ∷ []) new.edits

-- what putting an edit into a set does: it was new, it was there, or another of its stamp was
abbrev pub IsPut : List PlaneEdit → PlaneEdit → List PlaneEdit → Result Bool DocumentFault → Type 0
IsPut old e new (Ok true) = IsAscending new × (edit_at old e.stamp ≡ None) × IsUnion old (e ∷ []) new
IsPut old e new (Ok false) = (edit_at old e.stamp ≡ Some e) × (new ≡ old)
IsPut old e new (Err (SameStamp stamp)) = (stamp ≡ e.stamp) × DifferAt old (e ∷ []) stamp × (new ≡ old)
IsPut old e new (Err Memory) = (edit_at old e.stamp ≡ None) × (new ≡ old)
IsPut old e new (Err StateRange) = ⊥
IsPut old e new (Err OtherRule) = ⊥
IsPut old e new (Err NoDocument) = ⊥
IsPut old e new (Err (Body fault place)) = ⊥

-- the edit of a stamp stands at a place
abbrev pub IsAt : List PlaneEdit → ℕ → ℕ → Type 0
IsAt edits stamp place = (place < length edits) × HoldsAt (λ e. e.stamp ≡ stamp) edits place

-- no edit has a stamp, and those of lesser stamps are the ones before a place
abbrev pub IsPlaceFor : List PlaneEdit → ℕ → ℕ → Type 0
IsPlaceFor edits stamp place = (place ≤ length edits) × AllWithin (λ e. e.stamp < stamp) edits 0 place × AllWithin (λ e. stamp < e.stamp) edits place (length edits)

-- what adding an edit does: it was new, it was there, or it was refused, and then nothing changed
abbrev pub IsInserted : DocumentState → PlaneEdit → DocumentState → Result Bool DocumentFault → Type 0
IsInserted old e new (Ok true) = IsAddedTo old e new
IsInserted old e new (Ok false) = (edit_at old.edits e.stamp ≡ Some e) × (new ≡ old)
IsInserted old e new (Err StateRange) = (has_states_below old.rule.states e ≡ false) × (new ≡ old)
IsInserted old e new (Err (SameStamp stamp)) = IsTrue (has_states_below old.rule.states e) × (stamp ≡ e.stamp) × DifferAt old.edits (e ∷ []) stamp × (new ≡ old)
IsInserted old e new (Err OtherRule) = ⊥
IsInserted old e new (Err NoDocument) = ⊥
IsInserted old e new (Err (Body fault place)) = ⊥
IsInserted old e new (Err Memory) = IsTrue (has_states_below old.rule.states e) × (edit_at old.edits e.stamp ≡ None) × (new ≡ old)
