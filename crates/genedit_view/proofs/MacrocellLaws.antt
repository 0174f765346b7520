-- What is seen of a macrocell.
use Rattle.std.proofs.Common.{◌≡◌, ◌∙◌, ℕ, Bool, true, false, List, [], ◌∷◌, refl, sym, ap, inl, inr}
use Rattle.std.specs.Prelude.{◌⊎◌, ◌≢◌, ◌&&◌, not, Contains, Option, Some, None, Result, Ok, Err, nat_lt, option_map}
use Rattle.std.specs.Bool.{OnTrue}
use Rattle.std.specs.List.{list_all}
use Rattle.std.specs.List.Sorted.{IsPermutation}
use Rattle.std.proofs.lemmas.List.Sorted.{Contains-permutation, IsPermutation-sym}
use Rattle.generations_rule.specs.Place.{Place}
use Rattle.generations_rule.specs.Refusal.{AnswersAs, first_of, unless, when}
use Rattle.generations_rule.specs.Rule.{GenerationsRule, IsRule}
use Rattle.pattern_cells.specs.declared.cell.Cell.{Cell}
use Rattle.pattern_cells.specs.Cells.{are_states_below, place_of}
use Rattle.edit_stamps.specs.Making.{are_in_plane}
use Rattle.edit_stamps.specs.Plane.{is_in_plane}
use Rattle.cell_pictures.specs.Shown.{state_at}
use Rattle.macrocell_lines.specs.Squares.{StateSquare}
use Rattle.macrocell_text.specs.declared.fault.MacrocellFault.{MacrocellFault}
use Rattle.macrocell_text.specs.declared.fault.MacrocellFault.TheVariants as macrocells
use Rattle.macrocell_text.specs.declared.listing_fault.ListingFault.{ListingFault}
use Rattle.macrocell_text.specs.declared.listing_fault.ListingFault.TheVariants.{OutOfPlane, TooManyCells}
use Rattle.macrocell_text.specs.declared.listing_fault.ListingFault.TheVariants as listings
use Rattle.macrocell_text.specs.declared.macrocell.Macrocell.{Macrocell}
use Rattle.macrocell_text.specs.Finding.{AreListed}
use Rattle.macrocell_text.specs.Laws.{ListsNoPlaceTwice, ListsOnlyMap, ListsWholeMap}
use Rattle.macrocell_text.specs.LiveCells.{lies_in_plane, listing_refusal, most_listed, population_of}
use Rattle.macrocell_text.specs.Macrocells.{MacrocellTold}
use Rattle.macrocell_text.specs.Maps.{map_of_squares, root_of_squares}
use Rattle.macrocell_text.specs.Readings.{macrocell_told}
use Rattle.macrocell_text.specs.Texts.{macrocell_read}
use Rattle.genedit_view.specs.declared.fault.ViewFault.{ViewFault}
use Rattle.genedit_view.specs.Cells.{ArePatternCells}
use Rattle.genedit_view.specs.Fault.{fault_of_listing, fault_of_macrocell, memory_wanted, out_of_plane, state_range}
use Rattle.genedit_view.specs.Macrocells.{cells_fault, cells_of_squares, macrocell_seen, rule_at_place, squares_fault}
use Rattle.genedit_view.specs.Rules.{given_or_told}
use Rattle.genedit_view.proofs.ListedMaps.{moved_test, nonzero_of_map, places_once, sorted_in_rows, states_of_map}

-- ---- refusals

is_allowed : (a b : Bool) → first_of (when a TooManyCells ∷ when (not b) OutOfPlane ∷ []) ≡ None → b ≡ true
is_allowed true b e = absurd (cc)
is_allowed false true e = refl
is_allowed false false e = absurd (cc)

-- cells are refused alike in another order
pub moved_fault : (is_run : Bool) (states : ℕ) (raw cells : List Cell) → IsPermutation raw cells → cells_fault is_run states raw ≡ cells_fault is_run states cells
moved_fault is_run states raw cells moved =
    (λ i. first_of (when (is_run && not (moved_test (λ (cell : Cell). is_in_plane (place_of cell)) raw cells moved i)) out_of_plane
    ∷ when (not (moved_test (λ (cell : Cell). nat_lt cell.state states) raw cells moved i)) state_range ∷ []))

behind_none : (o : Option ViewFault) → first_of (None ∷ o ∷ []) ≡ o
behind_none None = refl
behind_none (Some fault) = refl

-- squares whose cells are listed are refused as these are
pub fault_listed : (is_run : Bool) (states : ℕ) (squares : List StateSquare) (cells : List Cell) → AreListed squares cells → squares_fault is_run states squares ≡ cells_fault is_run states cells
fault_listed is_run states squares cells listed =
    (λ i. first_of (option_map fault_of_listing (listed.allowed i) ∷ cells_fault is_run states (cells_of_squares squares) ∷ []))
    ∙ behind_none (cells_fault is_run states (cells_of_squares squares)) ∙ moved_fault is_run states (cells_of_squares squares) cells listed.all

-- and those that are not listed for this
pub fault_unlisted : (is_run : Bool) (states : ℕ) (squares : List StateSquare) (fault : ListingFault) → listing_refusal squares ≡ Some fault → squares_fault is_run states squares ≡ Some (fault_of_listing fault)
fault_unlisted is_run states squares fault is = (λ i. first_of (option_map fault_of_listing (is i) ∷ cells_fault is_run states (cells_of_squares squares) ∷ []))

neither : (a b : Bool) (f g : ViewFault) → first_of (when a f ∷ when (not b) g ∷ []) ≡ None → (a ≡ false) × (b ≡ true)
neither true b f g e = absurd (cc)
neither false false f g e = absurd (cc)
neither false true f g e = (refl, refl)

inside : (is_run b : Bool) → (is_run && not b) ≡ false → OnTrue is_run (b ≡ true)
inside false b e = tt
inside true true e = refl
inside true false e = absurd (cc)

-- ---- cells

-- the cells that are listed of a text's squares can be drawn, and run, and have the states of its map
pub record AreSeenCells (is_run : Bool) (r : GenerationsRule) (squares : List StateSquare) (cells : List Cell) : Type 0 where
  pub cells_are : ArePatternCells is_run r cells
  pub states_are : state_at cells ≡ map_of_squares squares

pub listed_are : ListsOnlyMap → ListsWholeMap → ListsNoPlaceTwice → (text : List ℕ) (told : MacrocellTold) (is_run : Bool) (r : GenerationsRule) (cells : List Cell) → macrocell_read text ≡ Ok told → IsRule r →
    AreListed told.squares cells → squares_fault is_run r.states told.squares ≡ None → AreSeenCells is_run r told.squares cells
listed_are only whole once text told is_run r cells read rule listed none =
    let raw : List Cell = cells_of_squares told.squares in
    let back = IsPermutation-sym raw cells listed.all in
    let on : list_all lies_in_plane raw ≡ true = is_allowed (nat_lt most_listed (population_of (root_of_squares told.squares))) (list_all lies_in_plane raw) listed.allowed in
    let parts = neither (is_run && not (are_in_plane cells)) (are_states_below r.states cells) out_of_plane state_range (sym (fault_listed is_run r.states told.squares cells listed) ∙ none) in
    let onto : (c : Cell) → Contains cells c → (map_of_squares told.squares (place_of c) ≡ c.state) × (c.state ≢ 0) = (λ c h. only text told c read (Contains-permutation cells raw c back h)) in
    let all : (at : Place) → map_of_squares told.squares at ≢ 0 → Contains cells (record { x = at.x; y = at.y; state = map_of_squares told.squares at }) =
    (λ at live. Contains-permutation raw cells (record { x = at.x; y = at.y; state = map_of_squares told.squares at }) listed.all (whole text told at read live)) in
    record {
      cells_are = record {
        rule = rule;
        sorted = sorted_in_rows raw cells listed.all (places_once raw (once text told read)) on listed.ordered;
        nonzero = nonzero_of_map (map_of_squares told.squares) cells onto all;
        below = parts.1;
        inside = inside is_run (are_in_plane cells) parts.0;
      };
      states_are = (λ i at. states_of_map (map_of_squares told.squares) cells onto all at i);
    }

-- ---- what is read

pub read_whole : (m : Macrocell) (meant : Result MacrocellTold MacrocellFault) → AnswersAs (λ (m : Macrocell) (told : MacrocellTold). macrocell_told m ≡ told) (λ (fault : MacrocellFault). fault ≡ macrocells.Memory) (Ok m) meant → meant ≡ Ok (macrocell_told m)
read_whole m (Ok told) h = ap Ok (sym h)
read_whole m (Err fault) h = absurd h

pub unread_for : (e : MacrocellFault) (meant : Result MacrocellTold MacrocellFault) → AnswersAs (λ (m : Macrocell) (told : MacrocellTold). macrocell_told m ≡ told) (λ (fault : MacrocellFault). fault ≡ macrocells.Memory) (Err e) meant → (meant ≡ Err e) ⊎ (e ≡ macrocells.Memory)
unread_for e (Ok told) h = inr h
unread_for e (Err fault) (inl want) = inr want
unread_for e (Err fault) (inr same) = inl (ap (λ f. Err f) (sym same))

-- a text that is not read is refused for that
pub unread_refused : (is_run : Bool) (given : Option GenerationsRule) (text : List ℕ) (e : MacrocellFault) → (macrocell_read text ≡ Err e) ⊎ (e ≡ macrocells.Memory) →
    (macrocell_seen is_run given text ≡ Err (fault_of_macrocell e)) ⊎ (fault_of_macrocell e ≡ memory_wanted)
unread_refused is_run given text e (inl is) = inl (rw is refl)
unread_refused is_run given text e (inr want) = inr (ap fault_of_macrocell want)

pub unruled : (is_run : Bool) (given : Option GenerationsRule) (text : List ℕ) (told : MacrocellTold) (e : ViewFault) → macrocell_read text ≡ Ok told → given_or_told given (rule_at_place text told.rule) ≡ Err e →
    macrocell_seen is_run given text ≡ Err e
unruled is_run given text told e read none = rw (read, none) refl

pub seen_is : (is_run : Bool) (given : Option GenerationsRule) (text : List ℕ) (told : MacrocellTold) (r : GenerationsRule) → macrocell_read text ≡ Ok told → given_or_told given (rule_at_place text told.rule) ≡ Ok r →
    macrocell_seen is_run given text ≡ unless (squares_fault is_run r.states told.squares) (r, told.squares)
seen_is is_run given text told r read rule = rw (read, rule) refl

pub refused_listing : (is_run : Bool) (states : ℕ) (squares : List StateSquare) (e : ListingFault) → (e ≡ listings.Memory) ⊎ (listing_refusal squares ≡ Some e) →
    (squares_fault is_run states squares ≡ Some (fault_of_listing e)) ⊎ (fault_of_listing e ≡ memory_wanted)
refused_listing is_run states squares e (inl want) = inr (ap fault_of_listing want)
refused_listing is_run states squares e (inr is) = inl (fault_unlisted is_run states squares e is)
