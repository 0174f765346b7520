-- Replies that tell answers.
use Rattle.std.proofs.Common.{◌≡◌, ◌⊎◌, ℕ, ◌≤◌, List, refl, sym, subst, inl, inr}
use Rattle.std.specs.Prelude.{Result, Ok, Err, IfOk, IfErr}
use Rattle.std.specs.Global.{Vec}
use Rattle.export.specs.declared.asking.Count.{Count}
use Rattle.export.specs.declared.fault.ExportFault.{ExportFault}
use Rattle.export.specs.declared.fault.ExportFault.TheVariants as exports
use Rattle.stamped_tree.specs.Plane.{StampedPlane, map_of}
use Rattle.generation_engine.specs.Universe.{states_in_writes}
use Rattle.export.specs.Export.{IsExportRefused, IsWant, last_generation, most_cells}
use Rattle.replica_core.specs.declared.event.Reply.{Reply}
use Rattle.replica_core.specs.declared.event.Reply.TheVariants as replies
use Rattle.replica_core.specs.declared.event.Stop.TheVariants as stops
use Rattle.replica_core.specs.Exporting.{IsExportFault, TellsAnswer, count_reply, export_reply, refusal_or_stop, reply_or_stop}
use Rattle.replica_core.specs.declared.fault.Fault.{Fault}
use Rattle.replica_core.specs.Fault.{IsWant as IsReplicaWant, fault_of_export}
use Rattle.replica_core.specs.Replica.{ReplicaState}

-- a refusal of an asker, or a want at a generation that is one
abbrev IsRefusedOr : {B : Type 0} → (Result B ExportFault → Type 0) → ℕ → ExportFault → Type 0
IsRefusedOr {B} IsAnswer g fault = (IsWant fault × (g ≤ last_generation)) ⊎ IsAnswer (Err fault)

module _ {A B : Type 0} (value : A → B) (reply_of : Result B ExportFault → Reply) (refuses : (fault : ExportFault) → replies.Refused (fault_of_export fault) ≡ reply_of (Err fault)) (IsAnswer : Result B ExportFault → Type 0) (g : ℕ) where
  refusal_tells : (fault : ExportFault) → IsRefusedOr IsAnswer g fault → IfOk (refusal_or_stop fault) (TellsAnswer IsAnswer reply_of)
  refusal_tells exports.Memory is = tt
  refusal_tells exports.StoreFull is = tt
  refusal_tells exports.GenRange (inl want) = absurd want.0
  refusal_tells exports.GenRange (inr refused) = (Err exports.GenRange, refused, refuses exports.GenRange)
  refusal_tells exports.TooManyCells (inl want) = absurd want.0
  refusal_tells exports.TooManyCells (inr refused) = (Err exports.TooManyCells, refused, refuses exports.TooManyCells)

  -- what is told is an answer
  tells : (answer : Result A ExportFault) → IfOk answer (λ x. IsAnswer (Ok (value x))) → IfErr answer (IsRefusedOr IsAnswer g)
      → IfOk (reply_or_stop (λ x. reply_of (Ok (value x))) answer) (TellsAnswer IsAnswer reply_of)
  tells (Ok x) is refused = (Ok (value x), is, refl)
  tells (Err fault) is refused = refusal_tells fault refused

-- wants come only at a generation that is one, where no answer is a want
module _ {B : Type 0} (IsAnswer : Result B ExportFault → Type 0) (no_memory : IsAnswer (Err exports.Memory) → ⊥) (no_room : IsAnswer (Err exports.StoreFull) → ⊥) (g : ℕ) where
  want_stops : (fault : ExportFault) → IsRefusedOr IsAnswer g fault → IfErr (refusal_or_stop fault) (λ _. g ≤ last_generation)
  want_stops exports.Memory (inl want) = want.1
  want_stops exports.Memory (inr never) = absurd (no_memory never)
  want_stops exports.StoreFull (inl want) = want.1
  want_stops exports.StoreFull (inr never) = absurd (no_room never)
  want_stops exports.GenRange is = tt
  want_stops exports.TooManyCells is = tt

  pub stops_late : {A : Type 0} (told : A → Reply) (answer : Result A ExportFault) → IfErr answer (IsRefusedOr IsAnswer g) → IfErr (reply_or_stop told answer) (λ _. g ≤ last_generation)
  stops_late told (Ok x) is = tt
  stops_late told (Err fault) is = want_stops fault is

-- a full store is told of one
full_refusal : (fault : ExportFault) → refusal_or_stop fault ≡ Err stops.StoreFull → fault ≡ exports.StoreFull
full_refusal exports.Memory is = absurd (cc)
full_refusal exports.StoreFull is = refl
full_refusal exports.GenRange is = absurd (cc)
full_refusal exports.TooManyCells is = absurd (cc)

pub full_told : {A : Type 0} (told : A → Reply) (answer : Result A ExportFault) → reply_or_stop told answer ≡ Err stops.StoreFull → answer ≡ Err exports.StoreFull
full_told told (Ok x) is = absurd (cc)
full_told told (Err fault) is = λ i. Err (full_refusal fault is i)

-- of texts
pub tells_text : (IsAnswer : Result (List ℕ) ExportFault → Type 0) (g : ℕ) (answer : Result (Vec ℕ) ExportFault) → IfOk answer (λ text. IsAnswer (Ok text.items)) → IfErr answer (IsRefusedOr IsAnswer g)
    → IfOk (reply_or_stop (λ (text : Vec ℕ). replies.Text text.items) answer) (TellsAnswer IsAnswer export_reply)
tells_text IsAnswer g answer is refused = tells (λ (text : Vec ℕ). text.items) export_reply (λ fault. refl) IsAnswer g answer is refused

-- of counts
pub tells_count : (IsAnswer : Result Count ExportFault → Type 0) (g : ℕ) (answer : Result Count ExportFault) → IfOk answer (λ count. IsAnswer (Ok count)) → IfErr answer (IsRefusedOr IsAnswer g)
    → IfOk (reply_or_stop replies.Counted answer) (TellsAnswer IsAnswer count_reply)
tells_count IsAnswer g answer is refused = tells (λ (count : Count). count) count_reply (λ fault. refl) IsAnswer g answer is refused

-- ---- exports alone

want_of : (refusal : ExportFault) → IsWant refusal → IsReplicaWant (fault_of_export refusal)
want_of exports.Memory want = tt
want_of exports.StoreFull want = tt
want_of exports.GenRange want = absurd want
want_of exports.TooManyCells want = absurd want

refused_so : (q : ReplicaState) (g : ℕ) (refusal : ExportFault) → IsExportRefused q.rule (states_in_writes (map_of q.plane)) g most_cells refusal → IsExportFault q g (fault_of_export refusal)
refused_so q g refusal (inl want) = inl (want_of refusal want.0, want.1)
refused_so q g refusal (inr refused) = inr (refusal, refl, refused)

-- an export of a replica's plane is refused as one of the replica
pub export_refused : (q : ReplicaState) (p : StampedPlane) (g : ℕ) (refusal : ExportFault) (fault : Fault) → fault ≡ fault_of_export refusal → p ≡ q.plane
    → IsExportRefused q.rule (states_in_writes (map_of p)) g most_cells refusal → IsExportFault q g fault
export_refused q p g refusal fault told same refused =
    subst (IsExportFault q g) (sym told) (refused_so q g refusal (subst (λ (x : StampedPlane). IsExportRefused q.rule (states_in_writes (map_of x)) g most_cells refusal) same refused))
