-- Texts that begin as states.
use Rattle.std.proofs.Common.{◌≡◌, ◌∙◌, ℕ, Bool, false, List, Err, refl, sym, subst, inl, inr}
use Rattle.std.specs.Prelude.{◌⊎◌}
use Rattle.square_store.specs.Limits.{usual_room}
use Rattle.generations_rule.specs.Rule.{GenerationsRule}
use Rattle.pattern_cells.specs.declared.cell.Cell.{Cell}
use Rattle.stamped_writes.specs.Write.{Writes}
use Rattle.edit_stamps.specs.PlaneMap.{IsGreatestStamp}
use Rattle.stamped_tree.specs.Plane.{StampedPlane, map_of}
use Rattle.delta_exchange.specs.declared.fault.ReadFault.{ReadFault}
use Rattle.delta_exchange.specs.declared.fault.ReadFault.TheVariants as reads
use Rattle.delta_exchange.specs.Fault.{IsWantOrFull}
use Rattle.delta_exchange.specs.MessageReading.{MayWantRoom, message_of}
use Rattle.delta_exchange.specs.Room.{IsMapTooLargeFor}
use Rattle.delta_exchange.specs.State.{IsTellableMap}
use Rattle.delta_exchange.specs.Versions.{IsReadableStateText}
use Rattle.replica_core.specs.Replica.{ReplicaState}
use Rattle.replica_core.specs.declared.fault.Fault.TheVariants as faults
use Rattle.opened_files.specs.Saved.{IsSaved}
use Rattle.opened_files.specs.Counters.{suffice}
use Rattle.opened_files.specs.Opening.{OpensBoard, RefusesBoard, unopened_by}
use Rattle.opened_files.specs.Opening.RefusesBoard.{clock_full, unread}

-- counters do not suffice for a board
pub finds_clock_full : (r : ReplicaState) (g : GenerationsRule) (text : List ℕ) (cells : List Cell) (counter stamp : ℕ) (p : StampedPlane) (told : Bool) → g ≡ r.rule → IsSaved g text cells counter → p ≡ r.plane
    → IsGreatestStamp stamp (map_of p) → told ≡ suffice counter stamp cells → told ≡ false → RefusesBoard r text faults.ClockFull
finds_clock_full r g text cells counter stamp p told own saved held greatest is lacks =
    clock_full cells counter (record {
      saved = subst (λ (x : GenerationsRule). IsSaved x text cells counter) own saved;
      stamp = stamp;
      greatest = subst (λ (x : StampedPlane). IsGreatestStamp stamp (map_of x)) held greatest;
      told = sym is ∙ lacks;
    })

module _ (r : ReplicaState) (g : GenerationsRule) (text : List ℕ) (own : g ≡ r.rule) where
  -- a fault that is no want is the text's
  refused : (fault : ReadFault) → (fault ≡ reads.Memory → ⊥) → (fault ≡ reads.StoreFull → ⊥) → IsWantOrFull fault ⊎ (message_of g text ≡ Err fault) → RefusesBoard r text (faults.Read fault)
  refused fault not_memory not_full (inl (inl want)) = absurd (not_memory want)
  refused fault not_memory not_full (inl (inr full)) = absurd (not_full full)
  refused fault not_memory not_full (inr meant) = unread fault (subst (λ (x : GenerationsRule). message_of x text ≡ Err fault) own meant)

  -- a text that is not read draws nothing, for its fault, or for a want
  pub opens_not : (fault : ReadFault) → IsWantOrFull fault ⊎ (message_of g text ≡ Err fault) → (fault ≡ reads.StoreFull → MayWantRoom usual_room text)
      → ((meant : Writes) → IsTellableMap g.states meant → IsReadableStateText g meant text → fault ≡ reads.StoreFull → IsMapTooLargeFor usual_room meant) → OpensBoard r text (Err (unopened_by fault))
  opens_not reads.Memory why long large = tt
  opens_not reads.StoreFull why long large =
      record {
        long = long refl;
        large = λ meant tellable spelt. large meant (subst (λ (x : GenerationsRule). IsTellableMap x.states meant) (sym own) tellable) (subst (λ (x : GenerationsRule). IsReadableStateText x meant text) (sym own) spelt) refl;
      }
  opens_not reads.TooMany why long large = refused reads.TooMany (λ is. absurd (cc)) (λ is. absurd (cc)) why
  opens_not reads.Nothing why long large = refused reads.Nothing (λ is. absurd (cc)) (λ is. absurd (cc)) why
  opens_not reads.OutOfPlane why long large = refused reads.OutOfPlane (λ is. absurd (cc)) (λ is. absurd (cc)) why
  opens_not reads.StateRange why long large = refused reads.StateRange (λ is. absurd (cc)) (λ is. absurd (cc)) why
  opens_not reads.Magic why long large = refused reads.Magic (λ is. absurd (cc)) (λ is. absurd (cc)) why
  opens_not reads.Version why long large = refused reads.Version (λ is. absurd (cc)) (λ is. absurd (cc)) why
  opens_not reads.OtherRule why long large = refused reads.OtherRule (λ is. absurd (cc)) (λ is. absurd (cc)) why
  opens_not reads.Short why long large = refused reads.Short (λ is. absurd (cc)) (λ is. absurd (cc)) why
  opens_not reads.StampRange why long large = refused reads.StampRange (λ is. absurd (cc)) (λ is. absurd (cc)) why
  opens_not reads.NotCanonical why long large = refused reads.NotCanonical (λ is. absurd (cc)) (λ is. absurd (cc)) why
  opens_not reads.Trailing why long large = refused reads.Trailing (λ is. absurd (cc)) (λ is. absurd (cc)) why
