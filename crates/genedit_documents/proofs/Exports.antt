-- What a new replica exports that took some edits.
use Rattle.std.proofs.Common.{◌≡◌, ◌∙◌, inl, inr, refl, ℕ, ◌≤◌, List, [], ◌∷◌, ap, subst}
use Rattle.std.specs.Prelude.{IfErr, IfOk, Result, Ok, Err, Vec}
use Rattle.std.specs.declared.alloc.Global.{Global}
use Rattle.generations_rule.specs.Place.{Place}
use Rattle.generations_rule.specs.Rule.{GenerationsRule}
use Rattle.stamped_writes.specs.declared.write.Write.{Write}
use Rattle.stamped_writes.specs.Write.{AreSame, Writes, greater}
use Rattle.edit_stamps.specs.Edit.{HaveStatesBelow, PlaneEdit, greatest}
use Rattle.edit_stamps.proofs.WriteLaws.{unwritten-greater}
use Rattle.document_bodies.specs.Bodies.{AreEditsUnder}
use Rattle.stamped_tree.specs.Plane.{map_of}
use Rattle.generation_engine.specs.Universe.{states_in_writes}
use Rattle.square_store.specs.Limits.{usual_room}
use Rattle.export.specs.Export.{IsExport, IsRoomWanted, last_generation, most_cells}
use Rattle.delta_exchange.specs.Message.{writes_in}
use Rattle.delta_exchange.specs.StateText.{IsStateText}
use Rattle.delta_exchange.specs.declared.message.Content.{Content}
use Rattle.delta_exchange.specs.declared.message.Content.TheVariants.{Edits}
use Rattle.replica_core.specs.declared.fault.Fault.{Fault}
use Rattle.replica_core.specs.declared.fault.Fault.TheVariants.{Edit, StoreFull, Read, Export, OtherRule, ClockFull, NoSuchEdit, NoReplica, NoMessage, Memory}
use Rattle.replica_core.specs.Fault.{IsWant}
use Rattle.replica_core.specs.Exchange.{TakesSome}
use Rattle.replica_core.specs.Exporting.{IsExportFault, IsExportOf}
use Rattle.replica_core.specs.Replica.{IsNew, MeetsWant, ReplicaState}
use Rattle.genedit_documents.specs.Exporting.{IsExportRefused, IsRunWant}
use Rattle.genedit_documents.specs.Holding.{HoldsMap, IsHoldingWant}

-- edits under a rule have states of the rule
pub have_below : (r : GenerationsRule) (edits : List PlaneEdit) → AreEditsUnder r edits → HaveStatesBelow r.states edits
have_below r [] under = tt
have_below r (e ∷ edits) under = (under.0.below.0, have_below r edits under.1)

-- a new replica that took some edits holds their map
pub holds_taken : (r : GenerationsRule) (number room : ℕ) (edits : List PlaneEdit) (old new : ReplicaState) → IsNew r number room old → TakesSome old new (λ content. content ≡ Edits edits) → HoldsMap r number edits new
holds_taken r number room edits old new fresh takes = record {
  rule = takes.2.one.rule ∙ fresh.same_rule;
  number = takes.2.one.number ∙ fresh.same_number;
  map = λ c. takes.2.map c ∙ ap (λ (w : Write). greater w (writes_in takes.0 c)) (fresh.map c) ∙ unwritten-greater (writes_in takes.0 c) ∙ ap (λ (k : Content). writes_in k c) takes.1;
}

-- two maps that are the same are one map of states
same_states : (a b : Writes) → AreSame a b → states_in_writes a ≡ states_in_writes b
same_states a b same = λ i c. (same c i).state

pub exported : (r : GenerationsRule) (number : ℕ) (edits : List PlaneEdit) (s : ReplicaState) (g : ℕ) (answer : Result (Vec ℕ Global) Fault) → HoldsMap r number edits s → IfOk answer (λ text. IsExportOf s g (Ok text.items))
    → IfOk answer (λ text. IsExport r (states_in_writes (greatest edits)) g most_cells (Ok text.items))
exported r number edits s g (Ok text) holds is =
    subst (λ (f : Place → ℕ). IsExport r f g most_cells (Ok text.items)) (same_states (map_of s.plane) (greatest edits) holds.map)
    (subst (λ (q : GenerationsRule). IsExport q (states_in_writes (map_of s.plane)) g most_cells (Ok text.items)) holds.rule is)
exported r number edits s g (Err fault) holds is = tt

pub not_exported : (r : GenerationsRule) (number : ℕ) (edits : List PlaneEdit) (s : ReplicaState) (g : ℕ) (answer : Result (Vec ℕ Global) Fault) → HoldsMap r number edits s → g ≤ last_generation
    → IfErr answer (IsExportFault s g) → (answer ≡ Err StoreFull → IsRoomWanted s.rule s.plane g usual_room) → IfErr answer (IsExportRefused r edits g)
not_exported r number edits s g (Ok text) holds late is full = tt
not_exported r number edits s g (Err fault) holds late (inl want) full = inl (late, inr (run_want fault want.0 (λ h. full (ap Err h))))
  where
    run_want : (fault : Fault) → IsWant fault → (fault ≡ StoreFull → IsRoomWanted s.rule s.plane g usual_room) → IsRunWant r edits g fault
    run_want Memory w h = tt
    run_want StoreFull w h = (s.plane, holds.map, subst (λ (q : GenerationsRule). IsRoomWanted q s.plane g usual_room) holds.rule (h refl))
    run_want (Edit e) w h = absurd w
    run_want (Read e) w h = absurd w
    run_want (Export e) w h = absurd w
    run_want OtherRule w h = absurd w
    run_want ClockFull w h = absurd w
    run_want NoSuchEdit w h = absurd w
    run_want NoReplica w h = absurd w
    run_want NoMessage w h = absurd w
not_exported r number edits s g (Err fault) holds late (inr refused) full = inr (record {
  refusal = refused.0;
  told = refused.1;
  refused = subst (λ (f : Place → ℕ). IsExport r f g most_cells (Err refused.0)) (same_states (map_of s.plane) (greatest edits) holds.map)
      (subst (λ (q : GenerationsRule). IsExport q (states_in_writes (map_of s.plane)) g most_cells (Err refused.0)) holds.rule refused.2);
})

-- a want of a new replica that was to take some edits
pub wants_holding : (r : GenerationsRule) (number : ℕ) (edits : List PlaneEdit) (old new : ReplicaState) (fault : Fault) → IsNew r number usual_room old
    → MeetsWant old new (λ content. content ≡ Edits edits) fault → IsHoldingWant edits fault
wants_holding r number edits old new Memory fresh wants = tt
wants_holding r number edits old new StoreFull fresh wants = record {
  old = old.plane;
  new = new.plane;
  shows = fresh.map;
  room = wants.unchanged.one.room ∙ fresh.room;
  full = wants.full refl;
}
wants_holding r number edits old new (Edit e) fresh wants = absurd wants.want
wants_holding r number edits old new (Read e) fresh wants = absurd wants.want
wants_holding r number edits old new (Export e) fresh wants = absurd wants.want
wants_holding r number edits old new OtherRule fresh wants = absurd wants.want
wants_holding r number edits old new ClockFull fresh wants = absurd wants.want
wants_holding r number edits old new NoSuchEdit fresh wants = absurd wants.want
wants_holding r number edits old new NoReplica fresh wants = absurd wants.want
wants_holding r number edits old new NoMessage fresh wants = absurd wants.want

-- the text of what a replica holds is that of the map of its edits
pub state_told : (r : GenerationsRule) (number : ℕ) (edits : List PlaneEdit) (s : ReplicaState) (text : List ℕ) → HoldsMap r number edits s → IsStateText s.rule (map_of s.plane) text → IsStateText r (greatest edits) text
state_told r number edits s text holds is =
    subst (λ (w : Writes). IsStateText r w text) (λ i c. holds.map c i) (subst (λ (q : GenerationsRule). IsStateText q (map_of s.plane) text) holds.rule is)
