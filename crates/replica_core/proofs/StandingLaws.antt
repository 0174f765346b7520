-- A replica that stands for what it took still does after a draw and after a message.
use Rattle.std.proofs.Common.{inl, inr, ◌≡◌, ℕ, ◌≤◌, List, [], ◌∷◌, ◌++◌, refl, sym, ◌∙◌, ap, subst, suc, arith}
use Rattle.std.specs.Prelude.{Contains, Result, Ok, Err, MatchResult, pos}
use Rattle.std.specs.List.{AllByRecursion}
use Rattle.generations_rule.specs.Rule.{GenerationsRule}
use Rattle.stamped_writes.specs.declared.write.Write.{Write}
use Rattle.edit_stamps.specs.Edit.{PlaneEdit, IsEdit, greatest, writes_of, greatest_counter}
use Rattle.edit_stamps.specs.PlaneMap.{IsGreatestStamp}
use Rattle.stamped_tree.specs.Plane.{map_of}
use Rattle.edit_stamps.specs.Stamp.{counter_in}
use Rattle.stamped_writes.specs.Write.{unwritten, greater, Writes, AreSame, joined}
use Rattle.edit_stamps.proofs.WriteLaws.{is_lattice, is_least_upper_bound, is_total, joins_lists}
use Rattle.replica_core.specs.declared.fault.Fault.{Fault}
use Rattle.delta_exchange.specs.declared.message.Content.{Content}
use Rattle.delta_exchange.specs.declared.message.Content.TheVariants as contents
use Rattle.replica_events.specs.declared.edit_spec.EditSpec.{EditSpec}
use Rattle.edit_stamps.proofs.ClockLaws.{tells_counter}
use Rattle.delta_exchange.specs.Delta.{AreTellable}
use Rattle.delta_exchange.specs.Spelling.{delta_text}
use Rattle.delta_exchange.specs.State.{IsTellableMap}
use Rattle.delta_exchange.specs.StateText.{IsStateText}
use Rattle.delta_exchange.specs.Versions.{IsReadableStateText}
use Rattle.edit_journal.specs.Journal.{noted}
use Rattle.replica_core.specs.Exchange.{IsTakingMap, IsTakingOf, TakesSome}
use Rattle.replica_core.proofs.SameMaps.{same_tellable, same_text}
use Rattle.replica_core.specs.Fault.{IsWant}
use Rattle.replica_core.specs.Replica.{ReplicaState, DrawsAs, Takes, IsDraw, edit_drawn}
use Rattle.replica_core.specs.World.{Carries, IsStateOf, ReplicaHistory, Sent, Delta, State, StandsFor, StandsForSent, after_drawing, after_message}

-- ---- messages

joins_taken : (taken edits : List PlaneEdit) (old new added : Writes) → AreSame old (greatest taken) → AreSame added (greatest edits)
    → AreSame new (joined old added) → AreSame new (greatest (taken ++ edits))
joins_taken taken edits old new added held more join c =
    join c ∙ ap (λ w. greater w (added c)) (held c) ∙ ap (greater (greatest taken c)) (more c) ∙ sym (joins_lists taken edits c)

takes_edits : (rule : GenerationsRule) (number : ℕ) (h : ReplicaHistory) (edits : List PlaneEdit) (old new : ReplicaState)
    → StandsFor rule number h old → Takes old new (contents.Edits edits) → StandsFor rule number (after_message h (Delta edits)) new
takes_edits rule number h edits old new stands takes = record {
  same_rule = takes.one.rule ∙ stands.same_rule;
  same_number = takes.one.number ∙ stands.same_number;
  map = joins_taken h.taken edits (map_of old.plane) (map_of new.plane) (greatest edits) stands.map (λ c. refl) takes.map;
  journal = takes.journal ∙ ap (λ j. noted j edits) stands.journal;
}

takes_content : (rule : GenerationsRule) (number : ℕ) (h : ReplicaHistory) (sent : Sent) (old new : ReplicaState) (content : Content)
    → StandsFor rule number h old → Carries sent content → Takes old new content → StandsFor rule number (after_message h sent) new
takes_content rule number h (Delta edits) old new content stands carries takes = takes_edits rule number h edits old new stands (subst (Takes old new) carries takes)
takes_content rule number h (State edits) old new (contents.State plane) stands carries takes = record {
  same_rule = takes.one.rule ∙ stands.same_rule;
  same_number = takes.one.number ∙ stands.same_number;
  map = joins_taken h.taken edits (map_of old.plane) (map_of new.plane) (map_of plane) stands.map carries takes.map;
  journal = takes.journal ∙ stands.journal;
}
takes_content rule number h (State edits) old new (contents.Edits given) stands carries takes = absurd carries

-- what comes of the bytes of what was sent, where they are taken
abbrev pub IsTakingSent : {A : Type 0} → ReplicaState → ReplicaState → List ℕ → Result A Fault → Type 0
IsTakingSent old new text result =
    ((meant : List PlaneEdit) → AreTellable old.rule.states meant → text ≡ delta_text old.rule meant → IsTakingOf old new (λ content. content ≡ contents.Edits meant) result)
    × ((meant : Writes) → IsTellableMap old.rule.states meant → IsReadableStateText old.rule meant text → IsTakingMap old new meant result)

taking_sent : {A : Type 0} (old new : ReplicaState) (sent : Sent) (text : List ℕ) (done : A) → StandsForSent old.rule sent text
    → IsTakingSent old new text (Ok done) → TakesSome old new (Carries sent)
taking_sent old new (Delta edits) text done stands takes = takes.0 edits stands.tellable stands.spelt
taking_sent old new (State edits) text done stands takes = takes.1 (greatest edits) stands.tellable (inr stands.spelt)

pub takes_sent : {A : Type 0} (rule : GenerationsRule) (number : ℕ) (h : ReplicaHistory) (sent : Sent) (old new : ReplicaState) (text : List ℕ) (done : A)
    → StandsFor rule number h old → StandsForSent rule sent text → IsTakingSent old new text (Ok done) → StandsFor rule number (after_message h sent) new
takes_sent rule number h sent old new text done stands sends takes =
    let taken = taking_sent old new sent text done (subst (λ g. StandsForSent g sent text) (sym stands.same_rule) sends) takes in
    takes_content rule number h sent old new taken.0 stands taken.1 taken.2

-- the state text of a replica's map is that of what it took
pub sends_taken : (rule : GenerationsRule) (number : ℕ) (h : ReplicaHistory) (r : ReplicaState) (text : List ℕ)
    → StandsFor rule number h r → IsStateOf r text → StandsForSent rule (State h.taken) text
sends_taken rule number h r text stands state = record {
  spelt = same_text rule (map_of r.plane) (greatest h.taken) text stands.map (subst (λ g. IsStateText g (map_of r.plane) text) stands.same_rule state.spelt);
  tellable = same_tellable rule.states (map_of r.plane) (greatest h.taken) stands.map (subst (λ g. IsTellableMap g.states (map_of r.plane)) stands.same_rule state.tellable);
}

-- ---- draws

pub all_recursively : (edits : List PlaneEdit) → ((e : PlaneEdit) → Contains edits e → IsEdit e) → AllByRecursion (λ e. IsEdit e) edits
all_recursively [] each = tt
all_recursively (e ∷ edits) each = (each e (0, omega arith, refl), all_recursively edits (λ x there. each x (suc there.0, omega (arith, there.1), there.2)))

-- the clock that is read of the map is that of the edits
pub draws_at_clock : (rule : GenerationsRule) (number n : ℕ) (h : ReplicaHistory) (r : ReplicaState) (spec : EditSpec)
    → ((e : PlaneEdit) → Contains h.taken e → IsEdit e) → StandsFor rule number h r → IsGreatestStamp n (map_of r.plane)
    → edit_drawn r.rule (counter_in n) r.number spec ≡ edit_drawn rule (greatest_counter h.taken) number spec
draws_at_clock rule number n h r spec valid stands clock =
    let in_edits : IsGreatestStamp n (greatest h.taken) = record {
      above = λ c. subst (λ w. w.stamp ≤ n) (stands.map c) (clock.above c);
      least = λ m bound. clock.least m (λ c. subst (λ w. w.stamp ≤ m) (sym (stands.map c)) (bound c));
    } in
    ap (λ g. edit_drawn g (counter_in n) r.number spec) stands.same_rule
    ∙ ap (λ k. edit_drawn rule (counter_in n) k spec) stands.same_number
    ∙ ap (λ k. edit_drawn rule k number spec) (tells_counter h.taken n (all_recursively h.taken valid) in_edits)

greater-unwritten : (w : Write) → greater w unwritten ≡ w
greater-unwritten w = is_lattice.commutative w unwritten ∙ (is_least_upper_bound.absorbs (λ _. unwritten) (λ _. w)).0 (λ _. is_total.least w) (record { x = pos 0; y = pos 0 })

pub draws_edit : (rule : GenerationsRule) (number : ℕ) (h : ReplicaHistory) (old new : ReplicaState) (e : PlaneEdit)
    → StandsFor rule number h old → DrawsAs old new e → StandsFor rule number (after_drawing h e) new
draws_edit rule number h old new e stands draws = record {
  same_rule = draws.one.rule ∙ stands.same_rule;
  same_number = draws.one.number ∙ stands.same_number;
  map = joins_taken h.taken (e ∷ []) (map_of old.plane) (map_of new.plane) (writes_of e) stands.map (λ c. sym (greater-unwritten (writes_of e c))) draws.map;
  journal = draws.journal ∙ ap (λ j. j ++ e ∷ []) stands.journal;
}

-- ---- what is answered where the meaning is known

pub given_ok : {A F : Type 0} (P : A → Type 0) (Q : F → Type 0) (meant : Result A F) (x : A) → meant ≡ Ok x → P x → MatchResult meant P Q
given_ok P Q meant x is p = subst (λ r. MatchResult r P Q) (sym is) p

pub given_err : {A F : Type 0} (P : A → Type 0) (Q : F → Type 0) (meant : Result A F) (fault : F) → meant ≡ Err fault → Q fault → MatchResult meant P Q
given_err P Q meant fault is q = subst (λ r. MatchResult r P Q) (sym is) q

-- a draw that was refused, and met no want
pub refused_as_meant : (old new : ReplicaState) (meant : Result PlaneEdit Fault) (fault : Fault)
    → IsDraw old new meant (Err fault) → ¬ IsWant fault → (meant ≡ Err fault) × (new ≡ old)
refused_as_meant old new meant fault (inl want) other = absurd (other want.2.want)
refused_as_meant old new meant fault (inr is) other = is
