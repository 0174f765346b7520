-- What a text of a saved board tells.
use Rattle.std.proofs.Common.{◌≡◌, ℕ, List, Some, Result, Ok, Err, sym, ap, subst, inl, inr}
use Rattle.std.specs.Prelude.{◌⊎◌}
use Rattle.generations_rule.specs.Rule.{GenerationsRule}
use Rattle.generations_rule.specs.Refusal.{AnswersAs}
use Rattle.pattern_cells.specs.declared.cell.Cell.{Cell}
use Rattle.edit_stamps.specs.PlaneMap.{IsGreatestStamp}
use Rattle.edit_stamps.specs.Stamp.{counter_in}
use Rattle.stamped_tree.specs.Plane.{StampedPlane, map_of}
use Rattle.stamped_tree.specs.Walk.{AreNonzeroCells}
use Rattle.delta_exchange.specs.declared.message.Content.{Content}
use Rattle.delta_exchange.specs.declared.message.Content.TheVariants as content
use Rattle.delta_exchange.specs.Message.{plane_of}
use Rattle.delta_exchange.specs.MessageReading.{IsTextOf}
use Rattle.delta_exchange.specs.State.{IsTellableMap}
use Rattle.delta_exchange.specs.Versions.{IsReadableStateText}
use Rattle.opened_files.specs.Saved.{IsSaved}

-- the fault of a reading is a want, or the one that is meant
pub answered : {A B F : Type 0} (S : A → B → Type 0) (W : F → Type 0) (e : F) (meant : Result B F) → AnswersAs S W (Err e) meant → W e ⊎ (meant ≡ Err e)
answered S W e (Ok y) h = inl h
answered S W e (Err f) (inl want) = inl want
answered S W e (Err f) (inr same) = inr (ap (λ x. Err x) (sym same))

-- what was read is the map of the plane that was read
pub saved_of : (r : GenerationsRule) (text : List ℕ) (shared : Content) (p : StampedPlane) (cells : List Cell) (stamp counter : ℕ) → Some p ≡ plane_of shared → IsTextOf r shared text
    → AreNonzeroCells (map_of p) cells → IsGreatestStamp stamp (map_of p) → counter ≡ counter_in stamp → IsSaved r text cells counter
saved_of r text (content.Edits edits) p cells stamp counter is found listed greatest counts = absurd cc
saved_of r text (content.State q) p cells stamp counter is found listed greatest counts =
    let same : p ≡ q = cc in
    record {
      map = map_of p;
      tellable = subst (λ (x : StampedPlane). IsTellableMap r.states (map_of x)) (sym same) found.0;
      spelt = subst (λ (x : StampedPlane). IsReadableStateText r (map_of x) text) (sym same) found.1;
      listed = listed;
      stamp = stamp;
      greatest = greatest;
      counts = counts;
    }
