-- What is seen of a text, and why nothing is.
use Rattle.std.proofs.Common.{◌≡◌, inl, inr, Bool, ℕ, true, false, List, refl, sym, ap, subst, ◌∙◌}
use Rattle.std.specs.Prelude.{◌⊎◌, Option, Some, None, Result, Ok, Err, IfErr, IfOk, IsErrAnd, OnOk, IsTrue, is_some}
use Rattle.generations_rule.specs.Place.{Place}
use Rattle.generations_rule.specs.Refusal.{AnswersAs}
use Rattle.generations_rule.specs.Rule.{GenerationsRule}
use Rattle.pattern_cells.specs.declared.cell.Cell.{Cell}
use Rattle.pattern_cells.specs.Cells.{are_nonzero, is_sorted}
use Rattle.stamped_tree.specs.Plane.{StampedPlane, map_of}
use Rattle.stamped_writes.specs.Write.{Writes}
use Rattle.square_store.specs.Limits.{usual_room}
use Rattle.delta_exchange.specs.declared.fault.ReadFault.{ReadFault}
use Rattle.delta_exchange.specs.declared.fault.ReadFault.TheVariants as reads
use Rattle.delta_exchange.specs.Room.{IsMapTooLargeFor}
use Rattle.delta_exchange.specs.State.{IsTellableMap}
use Rattle.delta_exchange.specs.Versions.{IsReadableStateText}
use Rattle.genedit_io.specs.declared.fault.RunFault.TheVariants.{Memory, StoreFull}
use Rattle.genedit_view.specs.declared.fault.ViewFault.TheVariants.{Run}
use Rattle.delta_exchange.specs.declared.message.Content.{Content}
use Rattle.delta_exchange.specs.declared.message.Content.TheVariants as content
use Rattle.delta_exchange.specs.Fault.{IsWantOrFull}
use Rattle.delta_exchange.specs.Message.{plane_of}
use Rattle.delta_exchange.specs.MessageReading.{IsTextOf, MayWantRoom, StandsForTold, message_of}
use Rattle.generation_engine.specs.Universe.{states_in_writes}
use Rattle.export.specs.declared.fault.ExportFault.{ExportFault}
use Rattle.export.specs.declared.fault.ExportFault.TheVariants as exports
use Rattle.export.specs.Export.{IsExport, IsExportRefused, IsWant, most_cells}
use Rattle.cell_pictures.specs.Shown.{state_at}
use Rattle.genedit_view.specs.declared.fault.ViewFault.{ViewFault}
use Rattle.genedit_view.specs.declared.options.ViewOptions.{ViewOptions}
use Rattle.genedit_view.specs.Fault.{IsViewWant, fault_of_generation, fault_of_state, memory_wanted}
use Rattle.genedit_view.specs.Reading.{IsReadAs, IsRefusedFile, begins_as_state, state_rule}
use Rattle.genedit_view.specs.Reading.IsReadAs.{State}
use Rattle.genedit_view.specs.Seeing.{AreCellsAt, AreSeen, IsFullAt, IsLateFull, IsLateRefused, IsNotSeen, IsRefusedAt, IsStateTooLarge, IsViewFull, IsWantAt}
use Rattle.genedit_view.specs.Seeing.IsNotSeen.{NoFile, NoGeneration, NoState}

-- the end of a call by another's fault
pub at_end : {A : Type 0} (r : Result A ViewFault) (Q P : ViewFault → Type 0) → IsErrAnd r Q → ((e : ViewFault) → Q e → P e) → IfErr r P
at_end (Ok x) Q P h f = tt
at_end (Err e) Q P h f = f e h

-- what holds of what a call gives well
pub on_ok : {A F : Type 0} (r : Result A F) (P Q : A → Type 0) → IfOk r P → ((x : A) → P x → Q x) → IfOk r Q
on_ok (Ok x) P Q h f = f x h
on_ok (Err e) P Q h f = tt

pub on_done : {A F : Type 0} (r : Result A F) (P Q : Type 0) → OnOk r P → (P → Q) → OnOk r Q
on_done (Ok x) P Q h f = f h
on_done (Err e) P Q h f = tt

-- ---- generations

want_told : (refusal : ExportFault) (e : ViewFault) → IsWant refusal → e ≡ fault_of_generation refusal → IsViewWant e
want_told exports.Memory e want told = inl told
want_told exports.StoreFull e want told = inr told
want_told exports.GenRange e want told = absurd want
want_told exports.TooManyCells e want told = absurd want

-- a full store is told of an export alone that became full
pub room_of_generation : (refusal : ExportFault) (e : ViewFault) → e ≡ fault_of_generation refusal → e ≡ Run StoreFull → refusal ≡ exports.StoreFull
room_of_generation exports.StoreFull e told is = refl
room_of_generation exports.Memory e told is = let other : Run Memory ≡ Run StoreFull = sym told ∙ is in absurd (cc)
room_of_generation exports.GenRange e told is = let other = sym told ∙ is in absurd (cc)
room_of_generation exports.TooManyCells e told is = let other = sym told ∙ is in absurd (cc)

pub late_told : (r : GenerationsRule) (f h : Place → ℕ) (g : ℕ) (refusal : ExportFault) (e : ViewFault) → f ≡ h → IsExportRefused r f g most_cells refusal → e ≡ fault_of_generation refusal →
    IsLateRefused r h g e ⊎ IsViewWant e
late_told r f h g refusal e same (inl want) told = inr (want_told refusal e want.0 told)
late_told r f h g refusal e same (inr refused) told = inl (record { refusal = refusal; refused = subst (λ k. IsExport r k g most_cells (Err refusal)) same refused; told = told })

-- ---- files of cells

pub file_shown : (o : ViewOptions) (text : List ℕ) (r : GenerationsRule) (cells : List Cell) → o.generation ≡ None → IsReadAs (is_some o.generation) o.rule text r (state_at cells) →
    is_sorted cells ≡ true → are_nonzero cells ≡ true → AreSeen o text r cells
file_shown o text r cells none read sorted nonzero = record {
  states = state_at cells;
  read = read;
  are = subst (λ g. AreCellsAt r (state_at cells) g cells) (sym none) (record { sorted = sorted; nonzero = nonzero; states = λ c. refl });
}

pub file_later : (o : ViewOptions) (text : List ℕ) (r : GenerationsRule) (cells later : List Cell) (g : ℕ) → o.generation ≡ Some g → IsReadAs (is_some o.generation) o.rule text r (state_at cells) →
    AreCellsAt r (state_at cells) (Some g) later → AreSeen o text r later
file_later o text r cells later g some read are = record {
  states = state_at cells;
  read = read;
  are = subst (λ n. AreCellsAt r (state_at cells) n later) (sym some) are;
}

-- a want, whose room is told
want_where : (o : ViewOptions) (text : List ℕ) (e : ViewFault) → (e ≡ Run StoreFull → IsStateTooLarge o text ⊎ IsViewFull o text) → IsViewWant e → IsWantAt o text e
want_where o text e why (inl memory) = inl memory
want_where o text e why (inr full) = inr (full, why full)

pub file_late : (o : ViewOptions) (text : List ℕ) (r : GenerationsRule) (cells : List Cell) (g : ℕ) (e : ViewFault) → o.generation ≡ Some g → IsReadAs (is_some o.generation) o.rule text r (state_at cells) →
    (e ≡ Run StoreFull → IsLateFull r (state_at cells) g) → IsLateRefused r (state_at cells) g e ⊎ IsViewWant e → IsNotSeen o text e ⊎ IsWantAt o text e
file_late o text r cells g e some read full (inl late) =
    inl (NoGeneration r (state_at cells) read (subst (λ n. IsRefusedAt r (state_at cells) n e) (sym some) late))
file_late o text r cells g e some read full (inr want) = inr (want_where o text e (λ is. inr (record {
  rule = r;
  states = state_at cells;
  read = read;
  full = subst (λ n. IsFullAt r (state_at cells) n) (sym some) (full is);
})) want)

-- what is not read is refused, or memory is wanting
pub file_unread : (o : ViewOptions) (text : List ℕ) (e : ViewFault) → begins_as_state text ≡ false → IsRefusedFile (is_some o.generation) o.rule text e ⊎ (e ≡ memory_wanted) → IsNotSeen o text e ⊎ IsWantAt o text e
file_unread o text e begins (inl refused) = inl (NoFile begins refused)
file_unread o text e begins (inr want) = inr (inl want)

-- ---- states

answered : {A B F : Type 0} (S : A → B → Type 0) (W : F → Type 0) (e : F) (meant : Result B F) → AnswersAs S W (Err e) meant → W e ⊎ (meant ≡ Err e)
answered S W e (Ok y) h = inl h
answered S W e (Err f) (inl want) = inl want
answered S W e (Err f) (inr same) = inr (ap (λ x. Err x) (sym same))

want_of_state : (refusal : ReadFault) (e : ViewFault) → IsWantOrFull refusal → e ≡ fault_of_state refusal → IsViewWant e
want_of_state refusal e (inl memory) told = inl (told ∙ ap fault_of_state memory)
want_of_state refusal e (inr full) told = inr (told ∙ ap fault_of_state full)

-- a full store is told of a text alone that is read into one
room_of_state : (refusal : ReadFault) (e : ViewFault) → IsWantOrFull refusal → e ≡ fault_of_state refusal → e ≡ Run StoreFull → refusal ≡ reads.StoreFull
room_of_state refusal e (inr full) told is = full
room_of_state refusal e (inl memory) told is = let other : Run Memory ≡ Run StoreFull = sym (told ∙ ap fault_of_state memory) ∙ is in absurd (cc)

state_told : (o : ViewOptions) (text : List ℕ) (r : GenerationsRule) (refusal : ReadFault) (e : ViewFault) → begins_as_state text ≡ true → state_rule o.rule text ≡ Some r →
    (refusal ≡ reads.StoreFull → IsStateTooLarge o text) → IsWantOrFull refusal ⊎ (message_of r text ≡ Err refusal) → e ≡ fault_of_state refusal → IsNotSeen o text e ⊎ IsWantAt o text e
state_told o text r refusal e begins rule large (inl want) told =
    inr (want_where o text e (λ is. inl (large (room_of_state refusal e want told is))) (want_of_state refusal e want told))
state_told o text r refusal e begins rule large (inr refused) told = inl (NoState r refusal begins rule refused told)

pub state_refused : (o : ViewOptions) (text : List ℕ) (r : GenerationsRule) (refusal : ReadFault) (e : ViewFault) → begins_as_state text ≡ true → state_rule o.rule text ≡ Some r →
    (refusal ≡ reads.StoreFull → MayWantRoom usual_room text) →
    ((map : Writes) → IsTellableMap r.states map → IsReadableStateText r map text → refusal ≡ reads.StoreFull → IsMapTooLargeFor usual_room map) →
    AnswersAs (StandsForTold r) IsWantOrFull (Err refusal) (message_of r text) → e ≡ fault_of_state refusal → IsNotSeen o text e ⊎ IsWantAt o text e
state_refused o text r refusal e begins rule may large exact told =
    state_told o text r refusal e begins rule (λ full. record { rule = r; begins = begins; ruled = rule; may = may full; large = λ map tellable spelt. large map tellable spelt full })
    (answered (StandsForTold r) IsWantOrFull refusal (message_of r text) exact) told

pub state_read : (is_run : Bool) (given : Option GenerationsRule) (text : List ℕ) (r : GenerationsRule) (shared : Content) (p : StampedPlane) → begins_as_state text ≡ true →
    state_rule given text ≡ Some r → Some p ≡ plane_of shared → IsTextOf r shared text → IsReadAs is_run given text r (states_in_writes (map_of p))
state_read is_run given text r (content.Edits edits) p begins rule is found = absurd (cc)
state_read is_run given text r (content.State q) p begins rule is found =
    let same : p ≡ q = cc in
    State (map_of q) begins rule found.0 found.1 (ap (λ x. states_in_writes (map_of x)) same)

pub state_shown : (o : ViewOptions) (text : List ℕ) (r : GenerationsRule) (f : Place → ℕ) (cells : List Cell) → IsReadAs (is_some o.generation) o.rule text r f →
    AreCellsAt r f o.generation cells → AreSeen o text r cells
state_shown o text r f cells read are = record { states = f; read = read; are = are }

pub state_late : (o : ViewOptions) (text : List ℕ) (r : GenerationsRule) (f : Place → ℕ) (e : ViewFault) → begins_as_state text ≡ true → IsReadAs (is_some o.generation) o.rule text r f →
    (e ≡ Run StoreFull → IsFullAt r f o.generation) → IsRefusedAt r f o.generation e ⊎ IsViewWant e → IsNotSeen o text e ⊎ IsWantAt o text e
state_late o text r f e begins read full (inl late) = inl (NoGeneration r f read late)
state_late o text r f e begins read full (inr want) = inr (want_where o text e (λ is. inr (record { rule = r; states = f; read = read; full = full is })) want)

-- ---- what is seen can be drawn

sorted_at : (r : GenerationsRule) (f : Place → ℕ) (generation : Option ℕ) (cells : List Cell) → AreCellsAt r f generation cells → IsTrue (is_sorted cells)
sorted_at r f None cells are = are.sorted
sorted_at r f (Some g) cells are = are.1.are_cells.sorted

pub seen_sorted : (o : ViewOptions) (text : List ℕ) (r : GenerationsRule) (cells : List Cell) → AreSeen o text r cells → IsTrue (is_sorted cells)
seen_sorted o text r cells seen = sorted_at r seen.states o.generation cells seen.are
