-- Edits that are noted one after another.
use Rattle.std.proofs.Common.{◌≡◌, ℕ, Bool, true, false, ◌+◌, ◌<◌, List, [], ◌∷◌, ◌++◌, if◌then◌else◌, length, get_or, take, drop, drop-cons, add-one, append_assoc, sym, ◌∙◌, ap, subst, arith, inl, inr}
use Rattle.std.proofs.Math.Seq.{take-append_seam}
use Rattle.std.specs.Prelude.{Contains}
use Rattle.std.proofs.lemmas.Bool.{cases_lt}
use Rattle.std.proofs.lemmas.List.{get_or_default}
use Rattle.std.specs.List.{list_any}
use Rattle.edit_stamps.specs.Edit.{PlaneEdit, IsEdit, is_edit}
use Rattle.edit_journal.specs.Journal.{noted}

-- the first so many are edits
abbrev pub AreSeen : List PlaneEdit → ℕ → Type 0
AreSeen edits count = (k : ℕ) (e : PlaneEdit) → k < count → get_or edits k e ≡ e → IsEdit e

-- one more is seen
pub one_seen : (edits : List PlaneEdit) (i : ℕ) (item : PlaneEdit) → item ≡ get_or edits i item → i < length edits → IsEdit item
    → AreSeen edits i → AreSeen edits (i + 1)
one_seen edits i item is within edit far k e below at = elim (cases_lt k i) [
  | inl before ↦ far k e before at
  | inr behind ↦
      let here : i ≡ k = omega (arith, below, behind) in
      subst IsEdit (is ∙ get_or_default edits i item e within ∙ ap (λ j. get_or edits j e) here ∙ at) edit
]

-- what is noted of the rest when one more was noted
pub noted_next : (H N edits : List PlaneEdit) (i : ℕ) (x : PlaneEdit) → i < length edits → x ≡ get_or edits i x
    → N ≡ (if list_any (is_edit x) H then H else H ++ x ∷ []) → noted N (drop (i + 1) edits) ≡ noted H (drop i edits)
noted_next H N edits i x within is next =
    ap (λ (n : List PlaneEdit). noted n (drop (i + 1) edits)) next
    ∙ (λ j. noted H (is_here j)) where
      is_here : x ∷ drop (i + 1) edits ≡ drop i edits
      is_here = sym (drop-cons edits i x within ∙ (λ j. (sym is j) ∷ drop (sym (add-one i) j) edits))

-- all are seen
pub all_seen : (edits : List PlaneEdit) → AreSeen edits (length edits) → (e : PlaneEdit) → Contains edits e → IsEdit e
all_seen edits far e has = far has.0 e has.1 has.2

-- ---- edits put behind a journal

-- a list with another in front
abbrev pub BeginsWith : List PlaneEdit → List PlaneEdit → Type 0
BeginsWith front whole = (behind : List PlaneEdit) × (whole ≡ front ++ behind)

one_behind : (b : Bool) (H M : List PlaneEdit) (x : PlaneEdit) → BeginsWith H M → BeginsWith H (if b then M else M ++ x ∷ [])
one_behind true H M x begins = begins
one_behind false H M x begins = (begins.0 ++ x ∷ [], ap (λ m. m ++ x ∷ []) begins.1 ∙ append_assoc H begins.0 (x ∷ []))

-- a list that one more is inserted into still begins so
pub still_begins : (H M N : List PlaneEdit) (x : PlaneEdit) → N ≡ (if list_any (is_edit x) M then M else M ++ x ∷ []) → BeginsWith H M → BeginsWith H N
still_begins H M N x next begins = subst (BeginsWith H) (sym next) (one_behind (list_any (is_edit x) M) H M x begins)

-- what it begins with is what is left when the rest is cut off
pub front_left : (H M : List PlaneEdit) → BeginsWith H M → take (length H) M ≡ H
front_left H M begins = ap (take (length H)) begins.1 ∙ take-append_seam H begins.0
