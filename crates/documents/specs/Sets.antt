-- Sets of edits, each stamp once, as lists: a grow-only set (Shapiro et al., INRIA RR-7506).
use Rattle.std.specs.Prelude.{⊤, ◌≡◌, ◌≢◌, ◌<◌, ◌↔◌, ◌==◌, ℕ, List, [], ◌∷◌, find, Option, Some, Contains}
use Rattle.std.specs.Option.{option_or}
use Rattle.edit_stamps.specs.Edit.{PlaneEdit}

-- the edit of a stamp: the first of the list that has it
abbrev pub edit_at : List PlaneEdit → ℕ → Option PlaneEdit
edit_at edits stamp = find (λ e. e.stamp == stamp) edits

-- two lists are one set: at each stamp they have the same edit, or none
abbrev pub AreOneSet : List PlaneEdit → List PlaneEdit → Type 0
AreOneSet a b = (stamp : ℕ) → edit_at a stamp ≡ edit_at b stamp

-- the same edits stand in two lists, in whatever order and however often
abbrev pub HaveSameEdits : List PlaneEdit → List PlaneEdit → Type 0
HaveSameEdits a b = (e : PlaneEdit) → Contains a e ↔ Contains b e

-- ---- order

-- each edit's stamp is above one
abbrev pub AreAbove : ℕ → List PlaneEdit → Type 0
AreAbove stamp [] = ⊤
AreAbove stamp (e ∷ edits) = (stamp < e.stamp) × AreAbove stamp edits

-- the stamps ascend strictly
abbrev pub IsAscending : List PlaneEdit → Type 0
IsAscending [] = ⊤
IsAscending (e ∷ edits) = AreAbove e.stamp edits × IsAscending edits

-- ---- two sets

-- both have an edit of a stamp, and not the same
pub record DifferAt (a b : List PlaneEdit) (stamp : ℕ) : Type 0 where
  pub one : PlaneEdit
  pub other : PlaneEdit
  pub in_a : edit_at a stamp ≡ Some one
  pub in_b : edit_at b stamp ≡ Some other
  pub differ : one ≢ other

-- where both have an edit of a stamp, it is the same
abbrev pub Agree : List PlaneEdit → List PlaneEdit → Type 0
Agree a b = (stamp : ℕ) (e f : PlaneEdit) → edit_at a stamp ≡ Some e → edit_at b stamp ≡ Some f → e ≡ f

-- the least stamp at which two sets differ
pub record Clashes (a b : List PlaneEdit) (stamp : ℕ) : Type 0 where
  pub here : DifferAt a b stamp
  pub least : (less : ℕ) → less < stamp → DifferAt a b less → ⊥

-- at each stamp the edit of the first set, or where it has none that of the second
abbrev pub IsUnion : List PlaneEdit → List PlaneEdit → List PlaneEdit → Type 0
IsUnion a b c = (stamp : ℕ) → edit_at c stamp ≡ option_or (edit_at a stamp) (edit_at b stamp)

-- each edit of the first set is one of the second
abbrev pub IsPartOf : List PlaneEdit → List PlaneEdit → Type 0
IsPartOf a b = (stamp : ℕ) (e : PlaneEdit) → edit_at a stamp ≡ Some e → edit_at b stamp ≡ Some e

-- ---- lists that are no sets

-- two edits of a list have one stamp
pub record HasTwoAt (edits : List PlaneEdit) (stamp : ℕ) : Type 0 where
  pub one : PlaneEdit
  pub other : PlaneEdit
  pub has_one : Contains edits one
  pub has_other : Contains edits other
  pub stamp_of_one : one.stamp ≡ stamp
  pub stamp_of_other : other.stamp ≡ stamp
  pub differ : one ≢ other

-- the least stamp that two edits of a list have
pub record ClashesWithin (edits : List PlaneEdit) (stamp : ℕ) : Type 0 where
  pub here : HasTwoAt edits stamp
  pub least : (less : ℕ) → less < stamp → HasTwoAt edits less → ⊥

-- at no stamp does a list have two edits
abbrev pub HasNoTwo : List PlaneEdit → Type 0
HasNoTwo edits = (stamp : ℕ) → HasTwoAt edits stamp → ⊥
