-- Two lists of edits, walked over together in the order of stamps.
use Rattle.std.specs.Prelude.{⊤, ◌≡◌, ◌≢◌, ◌<◌, ℕ, Bool, true, false, not, List, [], ◌∷◌}
use Rattle.edit_stamps.specs.Edit.{PlaneEdit, is_edit}
use Rattle.documents.specs.declared.walk.Next.{Next}
use Rattle.documents.specs.declared.walk.Next.TheVariants.{Left, Right, Both}

-- a stamp is below that of the first edit, if there is one
abbrev pub IsBeforeFirst : ℕ → List PlaneEdit → Type 0
IsBeforeFirst stamp [] = ⊤
IsBeforeFirst stamp (e ∷ edits) = stamp < e.stamp

-- an edit, or two of one stamp, stand first in two lists, before what is left of them
abbrev pub IsNext : List PlaneEdit → List PlaneEdit → Next → List PlaneEdit → List PlaneEdit → Type 0
IsNext left right (Left e) l r = (left ≡ e.now ∷ l) × (right ≡ r) × IsBeforeFirst e.now.stamp r
IsNext left right (Right e) l r = (left ≡ l) × (right ≡ e.now ∷ r) × IsBeforeFirst e.now.stamp l
IsNext left right (Both e f) l r = (left ≡ e.now ∷ l) × (right ≡ f.now ∷ r) × (e.now.stamp ≡ f.now.stamp)

-- the edit that stands first, and of two that of the left list
abbrev pub IsFirstEdit : Next → PlaneEdit → Type 0
IsFirstEdit (Left e) first = first ≡ e.now
IsFirstEdit (Right e) first = first ≡ e.now
IsFirstEdit (Both e f) first = first ≡ e.now

-- what stands first is one edit
abbrev pub IsOneEdit : Next → Type 0
IsOneEdit (Left e) = ⊤
IsOneEdit (Right e) = ⊤
IsOneEdit (Both e f) = e.now ≡ f.now

-- two different edits stand first, with this stamp
abbrev pub AreTwo : Next → ℕ → Type 0
AreTwo (Left e) stamp = ⊥
AreTwo (Right e) stamp = ⊥
AreTwo (Both e f) stamp = (stamp ≡ e.now.stamp) × (e.now ≢ f.now)

-- whether what stands first is an edit of the right list that the left one has not
abbrev pub is_new_next : Next → Bool
is_new_next (Left e) = false
is_new_next (Right e) = true
is_new_next (Both e f) = not (is_edit e.now f.now)
