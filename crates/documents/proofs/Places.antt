-- Where an edit is put into a set.
use Rattle.std.proofs.Common.{◌≡◌, ◌≢◌, ◌<◌, ◌-◌, ℕ, zero, suc, false, List, [], ◌∷◌, length, get_or, refl, sym, ap, subst, ◌∙◌, arith, add-one}
use Rattle.std.specs.Prelude.{Some, None, Contains, slice_get, slice_index_or}
use Rattle.std.specs.List.{AllWithin, insert}
use Rattle.std.specs.List.Sorted.{IsBinarySearchResult, IsNonDecreasingBy, IsSearchInRange, IsSortedBy}
use Rattle.std.specs.Result.{MatchResult}
use Rattle.std.specs.Prelude.{Result, Ok, Err}
use Rattle.std.specs.Ordering.{nat_cmp, ordering_index, is_lt}
use Rattle.std.specs.declared.cmp.Ordering.TheVariants.{Less, Equal, Greater}
use Rattle.std.specs.Cmp.{nat_cmp_total}
use Rattle.std.proofs.lemmas.Bool.Decides.{nat_tests}
use Rattle.std.proofs.lemmas.List.Sorted.{searchable_from_sorted}
use Rattle.edit_stamps.specs.Edit.{PlaneEdit}
use Rattle.documents.specs.Sets.{AreAbove, DifferAt, IsAscending, IsUnion, edit_at}
use Rattle.documents.specs.Results.{IsAt, IsPlaceFor}
use Rattle.documents.proofs.SetLaws.{has_behind, has_first, held_is_read, none_below, read_behind, read_first}
use Rattle.documents.proofs.Unions.{add, add_front, add_higher, ascending_add, read_add}
use Rattle.documents.proofs.Distinct.{last_greatest}

-- ---- a place

above_all : (n : ℕ) (xs : List PlaneEdit) → AllWithin (λ (e : PlaneEdit). n < e.stamp) xs 0 (length xs) → AreAbove n xs
above_all n [] above = tt
above_all n (x ∷ xs) above = (above 0 x (omega arith) (omega arith), above_all n xs (λ k d low high. above (suc k) d (omega arith) (omega (arith, high))))

behind_place : (xs : List PlaneEdit) (x : PlaneEdit) (stamp place : ℕ) → IsPlaceFor (x ∷ xs) stamp (suc place) → IsPlaceFor xs stamp place
behind_place xs x stamp place is = (
  omega (arith, is.0),
  (λ k d low high. is.1 (suc k) d (omega arith) (omega (arith, high))),
  (λ k d low high. is.2 (suc k) d (omega (arith, low)) (omega (arith, high))),
)

-- an edit inserted at its place is put in its place
pub insert_is_add : (xs : List PlaneEdit) (e : PlaneEdit) (place : ℕ) → IsPlaceFor xs e.stamp place → insert xs place e ≡ add e xs
insert_is_add xs e zero is = sym (add_front e xs (above_all e.stamp xs is.2))
insert_is_add [] e (suc place) is = absurd (omega (arith, is.0))
insert_is_add (x ∷ xs) e (suc place) is =
    ap (λ (l : List PlaneEdit). x ∷ l) (insert_is_add xs e place (behind_place xs x e.stamp place is)) ∙ sym (add_higher e x xs (is.1 0 x (omega arith) (omega arith)))

pub none_at_place : (xs : List PlaneEdit) (stamp place : ℕ) → IsPlaceFor xs stamp place → edit_at xs stamp ≡ None
none_at_place xs stamp zero is = none_below stamp xs stamp (above_all stamp xs is.2) (omega arith)
none_at_place [] stamp (suc place) is = refl
none_at_place (x ∷ xs) stamp (suc place) is =
    let less : x.stamp < stamp = is.1 0 x (omega arith) (omega arith) in
    read_behind x xs stamp (λ same. omega (arith, same, less)) ∙ none_at_place xs stamp place (behind_place xs x stamp place is)

-- ---- the search

-- neighbours ascend
neighbours : (xs : List PlaneEdit) (k : ℕ) (d : PlaneEdit) → IsAscending xs → suc k < length xs → (get_or xs k d).stamp < (get_or xs (suc k) d).stamp
neighbours [] k d up inside = absurd (omega (arith, inside))
neighbours (x ∷ []) k d up inside = absurd (omega (arith, inside))
neighbours (x ∷ y ∷ xs) zero d up inside = up.0.0
neighbours (x ∷ y ∷ xs) (suc k) d up inside = neighbours (y ∷ xs) k d up.1 (omega (arith, inside))

not_less : (a b : ℕ) → a < b → is_lt (nat_cmp b a) ≡ false
not_less a b less = grind (arith, nat_tests)

sorted_by_stamp : (xs : List PlaneEdit) → IsAscending xs → IsSortedBy (λ (a b : PlaneEdit). is_lt (nat_cmp a.stamp b.stamp)) xs
sorted_by_stamp xs up k d low high = rw add-one (not_less (get_or xs k d).stamp (get_or xs (suc k) d).stamp (neighbours xs k d up (omega (arith, high))))

pub searchable : (xs : List PlaneEdit) (stamp : ℕ) → IsAscending xs → IsNonDecreasingBy (λ (e : PlaneEdit). ordering_index (nat_cmp e.stamp stamp)) xs
searchable xs stamp up = searchable_from_sorted nat_cmp_total (λ (e : PlaneEdit). e.stamp) xs stamp (sorted_by_stamp xs up)

pub equal_told : (a b : ℕ) → nat_cmp a b ≡ Equal → a ≡ b
equal_told a b is = grind (arith, nat_tests)

pub less_told : (a b : ℕ) → nat_cmp a b ≡ Less → a < b
less_told a b is = grind (arith, nat_tests)

pub greater_told : (a b : ℕ) → nat_cmp a b ≡ Greater → b < a
greater_told a b is = grind (arith, nat_tests)

pub place_found : (xs : List PlaneEdit) (stamp : ℕ) (r : Result ℕ ℕ) → IsAscending xs → IsSearchInRange r (length xs) → IsBinarySearchResult (λ (e : PlaneEdit). nat_cmp e.stamp stamp) xs r
    → MatchResult r (λ place. IsAt xs stamp place) (λ place. IsPlaceFor xs stamp place)
place_found xs stamp (Ok place) up within found = (within, λ d. equal_told (get_or xs place d).stamp stamp (found d))
place_found xs stamp (Err place) up within found =
    let parts = found (searchable xs stamp up) in (
      within,
      (λ k d low high. less_told (get_or xs k d).stamp stamp (parts.0 k d low high)),
      (λ k d low high. greater_told (get_or xs k d).stamp stamp (parts.1 k d low high)),
    )

-- what holds of each edit of a list holds at each place
within_each : (xs : List PlaneEdit) (P : PlaneEdit → Type 0) → ((f : PlaneEdit) → Contains xs f → P f) → (k : ℕ) (d : PlaneEdit) → k < length xs → P (get_or xs k d)
within_each [] P each k d inside = absurd (omega (arith, inside))
within_each (x ∷ xs) P each zero d inside = each x (has_first x xs)
within_each (x ∷ xs) P each (suc k) d inside = within_each xs P (λ f has. each f (has_behind x xs f has)) k d (omega (arith, inside))

-- a stamp above the last has its place behind all
pub behind_all : (xs : List PlaneEdit) (x : PlaneEdit) (stamp : ℕ) → IsAscending xs → slice_get xs (length xs - 1) ≡ Some x → x.stamp < stamp → IsPlaceFor xs stamp (length xs)
behind_all xs x stamp up at less = (
  omega arith,
  (λ k d low high. within_each xs (λ (e : PlaneEdit). e.stamp < stamp) (λ f has. omega (arith, less, last_greatest xs x f up at has)) k d high),
  (λ k d low high. absurd (omega (arith, low, high))),
)

-- ---- what is put

-- the edit at the place of a stamp is read there
pub found_at : (xs : List PlaneEdit) (stamp place : ℕ) (f : PlaneEdit) → IsAscending xs → IsAt xs stamp place → f ≡ slice_index_or xs place f → edit_at xs stamp ≡ Some f
found_at xs stamp place f up is e =
    let same : f.stamp ≡ stamp = ap (λ (g : PlaneEdit). g.stamp) e ∙ is.1 f in
    subst (λ (s : ℕ). edit_at xs s ≡ Some f) same (held_is_read xs f up (place, is.0, sym e))

pub another_there : (xs : List PlaneEdit) (e f : PlaneEdit) (place : ℕ) → IsAscending xs → IsAt xs e.stamp place → f ≡ slice_index_or xs place f → f ≢ e → DifferAt xs (e ∷ []) e.stamp
another_there xs e f place up is at differ = record { one = f; other = e; in_a = found_at xs e.stamp place f up is at; in_b = read_first e [] e.stamp refl; differ = differ }

pub put_in_place : (xs more : List PlaneEdit) (e : PlaneEdit) (place : ℕ) → IsAscending xs → IsPlaceFor xs e.stamp place → more ≡ insert xs place e → IsAscending more × (edit_at xs e.stamp ≡ None) × IsUnion xs (e ∷ []) more
put_in_place xs more e place up is inserted =
    let same : more ≡ add e xs = inserted ∙ insert_is_add xs e place is in (
      subst IsAscending (sym same) (ascending_add e xs up),
      none_at_place xs e.stamp place is,
      subst (IsUnion xs (e ∷ [])) (sym same) (λ stamp. read_add e xs stamp up),
    )
