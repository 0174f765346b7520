-- Macrocells that are opened.
use Rattle.std.proofs.Common.{◌≡◌, ◌∙◌, ℕ, Bool, true, false, List, [], ◌∷◌, refl, sym, ap, subst, inl, inr}
use Rattle.std.specs.Prelude.{◌⊎◌, not, nat_lt, Option, Some, None, Result, Ok, Err, option_map}
use Rattle.std.specs.List.{list_all}
use Rattle.std.specs.List.Sorted.{IsPermutation}
use Rattle.std.proofs.lemmas.Bool.{cases_Bool}
use Rattle.std.proofs.lemmas.List.Sorted.{All-permutation, IsPermutation-sym}
use Rattle.std.proofs.lemmas.List.Sums.{AllPass-from_list_all, list_all-from_AllPass}
use Rattle.generations_rule.specs.Refusal.{AnswersAs, first_of, when}
use Rattle.generations_rule.specs.Rule.{GenerationsRule}
use Rattle.pattern_cells.specs.declared.cell.Cell.{Cell}
use Rattle.pattern_cells.specs.Cells.{place_of}
use Rattle.edit_stamps.specs.declared.fault.EditFault.TheVariants as edits
use Rattle.edit_stamps.specs.Plane.{is_in_plane}
use Rattle.edit_stamps.specs.PlaneMap.{IsGreatestStamp}
use Rattle.stamped_tree.specs.Plane.{StampedPlane, map_of}
use Rattle.macrocell_lines.specs.Squares.{StateSquare}
use Rattle.macrocell_text.specs.declared.fault.MacrocellFault.{MacrocellFault}
use Rattle.macrocell_text.specs.declared.fault.MacrocellFault.TheVariants as macrocells
use Rattle.macrocell_text.specs.declared.listing_fault.ListingFault.{ListingFault}
use Rattle.macrocell_text.specs.declared.listing_fault.ListingFault.TheVariants as listings
use Rattle.macrocell_text.specs.declared.macrocell.Macrocell.{Macrocell}
use Rattle.macrocell_text.specs.Finding.{AreListed}
use Rattle.macrocell_text.specs.LiveCells.{cells_of_root, listing_refusal}
use Rattle.macrocell_text.specs.Macrocells.{MacrocellTold}
use Rattle.macrocell_text.specs.Maps.{root_of_squares}
use Rattle.macrocell_text.specs.Readings.{macrocell_told}
use Rattle.macrocell_text.specs.Texts.{macrocell_read}
use Rattle.replica_core.specs.Replica.{ReplicaState}
use Rattle.replica_core.specs.declared.fault.Fault.{Fault}
use Rattle.replica_core.specs.declared.fault.Fault.TheVariants as faults
use Rattle.opened_files.specs.Counters.{suffice}
use Rattle.opened_files.specs.Macrocells.{IsMacrocellAt, RefusesMacrocell, cells_refusal, fault_of_listing, squares_refusal}
use Rattle.opened_files.specs.Macrocells.RefusesMacrocell.{counters_out, not_drawn}
use Rattle.opened_files.specs.Opening.{OpensMacrocell, refused_by}

-- ---- refusals

kept_true : {X : Type 0} (p : X → Bool) (xs ys : List X) → IsPermutation xs ys → list_all p xs ≡ true → list_all p ys ≡ true
kept_true p xs ys moved all = list_all-from_AllPass p ys (All-permutation (λ x. p x ≡ true) xs ys moved (AllPass-from_list_all p xs all))

-- a test of each cell, in another order
moved_test : {X : Type 0} (p : X → Bool) (xs ys : List X) → IsPermutation xs ys → list_all p xs ≡ list_all p ys
moved_test p xs ys moved = elim (cases_Bool (list_all p xs)) [
  | inl all ↦ all ∙ sym (kept_true p xs ys moved all)
  | inr some ↦ elim (cases_Bool (list_all p ys)) [
    | inl all ↦ kept_true p ys xs (IsPermutation-sym xs ys moved) all ∙ sym all
    | inr other ↦ some ∙ sym other
  ]
]

behind_none : (o : Option Fault) → first_of (None ∷ o ∷ []) ≡ o
behind_none None = refl
behind_none (Some fault) = refl

-- squares whose cells are listed are refused as these are
pub refusal_listed : (states : ℕ) (squares : List StateSquare) (cells : List Cell) → AreListed squares cells → squares_refusal states squares ≡ cells_refusal states cells
refusal_listed states squares cells listed =
    let raw : List Cell = cells_of_root (root_of_squares squares) in
    (λ i. first_of (option_map fault_of_listing (listed.allowed i) ∷ cells_refusal states raw ∷ [])) ∙ behind_none (cells_refusal states raw)
    ∙ (λ i. first_of (when (not (moved_test (λ (cell : Cell). is_in_plane (place_of cell)) raw cells listed.all i)) (faults.Edit edits.OutOfPlane)
    ∷ when (not (moved_test (λ (cell : Cell). nat_lt cell.state states) raw cells listed.all i)) (faults.Edit edits.StateRange) ∷ []))

-- and those that are not listed for this
pub refusal_unlisted : (states : ℕ) (squares : List StateSquare) (e : ListingFault) → (e ≡ listings.Memory) ⊎ (listing_refusal squares ≡ Some e) →
    (fault_of_listing e ≡ faults.Memory) ⊎ (squares_refusal states squares ≡ Some (fault_of_listing e))
refusal_unlisted states squares e (inl want) = inl (ap fault_of_listing want)
refusal_unlisted states squares e (inr is) = inr (λ i. first_of (option_map fault_of_listing (is i) ∷ cells_refusal states (cells_of_root (root_of_squares squares)) ∷ []))

-- ---- what is read

pub read_whole : (m : Macrocell) (meant : Result MacrocellTold MacrocellFault) → AnswersAs (λ (m : Macrocell) (told : MacrocellTold). macrocell_told m ≡ told) (λ (fault : MacrocellFault). fault ≡ macrocells.Memory) (Ok m) meant → meant ≡ Ok (macrocell_told m)
read_whole m (Ok told) h = ap Ok (sym h)
read_whole m (Err fault) h = absurd h

-- a fault that is no want is the text's
pub unread_for : (e : MacrocellFault) (meant : Result MacrocellTold MacrocellFault) → (e ≡ macrocells.Memory → ⊥) → AnswersAs (λ (m : Macrocell) (told : MacrocellTold). macrocell_told m ≡ told) (λ (fault : MacrocellFault). fault ≡ macrocells.Memory) (Err e) meant → meant ≡ Err e
unread_for e (Ok told) other h = absurd (other h)
unread_for e (Err fault) other (inl want) = absurd (other want)
unread_for e (Err fault) other (inr same) = ap (λ f. Err f) (sym same)

-- ---- what is drawn

-- cells that may be drawn under a replica's rule, and whether counters suffice
pub macrocell_at : (r : ReplicaState) (g : GenerationsRule) (text : List ℕ) (told : MacrocellTold) (cells : List Cell) (stamp : ℕ) (p : StampedPlane) (told_enough enough : Bool) → g ≡ r.rule → macrocell_read text ≡ Ok told →
    squares_refusal g.states told.squares ≡ None → AreListed told.squares cells → p ≡ r.plane → IsGreatestStamp stamp (map_of p) → told_enough ≡ suffice 0 stamp cells → told_enough ≡ enough → IsMacrocellAt r text cells enough
macrocell_at r g text told cells stamp p told_enough enough own read allowed listed held greatest is which = record {
  told = told;
  read = read;
  allowed = subst (λ (x : GenerationsRule). squares_refusal x.states told.squares ≡ None) own allowed;
  listed = listed;
  stamp = stamp;
  greatest = subst (λ (x : StampedPlane). IsGreatestStamp stamp (map_of x)) held greatest;
  enough = sym is ∙ which;
}

pub refuses_full : (r : ReplicaState) (text : List ℕ) (cells : List Cell) → IsMacrocellAt r text cells false → RefusesMacrocell r text faults.ClockFull
refuses_full r text cells at = counters_out cells at refl

-- a refusal that is no want
refuses_cells : (r : ReplicaState) (g : GenerationsRule) (text : List ℕ) (told : MacrocellTold) (fault : Fault) → g ≡ r.rule → macrocell_read text ≡ Ok told → (fault ≡ faults.Memory → ⊥) →
    (fault ≡ faults.Memory) ⊎ (squares_refusal g.states told.squares ≡ Some fault) → RefusesMacrocell r text fault
refuses_cells r g text told fault own read other (inl want) = absurd (other want)
refuses_cells r g text told fault own read other (inr is) = not_drawn told read (subst (λ (x : GenerationsRule). squares_refusal x.states told.squares ≡ Some fault) own is)

-- cells that may not be drawn are not opened, for their refusal, or for want of memory
module _ (r : ReplicaState) (g : GenerationsRule) (text : List ℕ) (told : MacrocellTold) (own : g ≡ r.rule) (read : macrocell_read text ≡ Ok told) where
  pub opens_no_cells : (fault : Fault) → (fault ≡ faults.Memory) ⊎ (squares_refusal g.states told.squares ≡ Some fault) → OpensMacrocell r text (Err (refused_by fault))
  opens_no_cells faults.Memory why = tt
  opens_no_cells (faults.Edit fault) why = refuses_cells r g text told (faults.Edit fault) own read (λ is. absurd (cc)) why
  opens_no_cells faults.StoreFull why = refuses_cells r g text told faults.StoreFull own read (λ is. absurd (cc)) why
  opens_no_cells (faults.Read fault) why = refuses_cells r g text told (faults.Read fault) own read (λ is. absurd (cc)) why
  opens_no_cells (faults.Export fault) why = refuses_cells r g text told (faults.Export fault) own read (λ is. absurd (cc)) why
  opens_no_cells faults.OtherRule why = refuses_cells r g text told faults.OtherRule own read (λ is. absurd (cc)) why
  opens_no_cells faults.ClockFull why = refuses_cells r g text told faults.ClockFull own read (λ is. absurd (cc)) why
  opens_no_cells faults.NoSuchEdit why = refuses_cells r g text told faults.NoSuchEdit own read (λ is. absurd (cc)) why
  opens_no_cells faults.NoReplica why = refuses_cells r g text told faults.NoReplica own read (λ is. absurd (cc)) why
  opens_no_cells faults.NoMessage why = refuses_cells r g text told faults.NoMessage own read (λ is. absurd (cc)) why
