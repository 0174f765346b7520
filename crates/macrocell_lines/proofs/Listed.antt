-- Lines that were put from none on.
use Rattle.std.proofs.Common.{◌≡◌, ℕ, [], Some, None, sym, ◌∙◌}
use Rattle.indexmap.specs.IndexMap.{get}
use Rattle.macrocell_lines.specs.declared.lines.Pair.{Pair}
use Rattle.macrocell_lines.specs.declared.lines.Lines.{Lines}
use Rattle.std.specs.Prelude.{Bool}
use Rattle.macrocell_lines.specs.Squares.{StateSquare}
use Rattle.macrocell_lines.specs.Lines.{lines_of}
use Rattle.macrocell_lines.specs.Listing.{IsListing, IsWalked, is_pair}

none_listed : (of_two : Bool) (meaning : Pair → StateSquare) (w : Lines) → w.lines.keys ≡ [] → ((pair : Pair) → get is_pair w.numbers pair ≡ None) → IsListing of_two meaning w []
none_listed of_two meaning w none noted = record { lines = none; placed = λ q h. absurd (cc); noted = λ key n h. absurd (apart (sym (noted key) ∙ h)) }
  where
    apart : {n : ℕ} → None ≡ Some n → ⊥
    apart e = cc

-- a walk over a square makes its lines
pub all_listed : (of_two : Bool) (meaning : Pair → StateSquare) (old new : Lines) (q : StateSquare) (n : ℕ) → old.lines.keys ≡ [] → ((pair : Pair) → get is_pair old.numbers pair ≡ None) → IsWalked of_two meaning old new q n
    → new.lines.keys ≡ lines_of of_two q
all_listed of_two meaning old new q n none noted w = (w.listing [] (none_listed of_two meaning old none noted)).lines
