-- The bytes of messages, taken and given.
use Rattle.std.proofs.Common.{◌≡◌, ◌⊎◌, ℕ, zero, suc, ◌+◌, ◌<◌, ◌^◌, List, [], ◌∷◌, length, Bool, false, refl, sym, ap, subst, arith, inl, inr}
use Rattle.std.specs.Prelude.{IsTrue, nat_lt, take, drop, Option, Some, None, Result, Ok, Err}
use Rattle.std.specs.List.{AllByRecursion, Contains}
use Rattle.std.proofs.lemmas.List.{length-take, take-append-drop}
use Rattle.std.proofs.lemmas.List.Elements.{Contains-append_left, Contains-append_right}
use Rattle.square_store.specs.Limits.{usual_room}
use Rattle.generations_rule.specs.Refusal.{AnswersAs, ◌>>=◌, unless, when}
use Rattle.generations_rule.specs.Rule.{GenerationsRule}
use Rattle.edit_stamps.specs.Edit.{HaveStatesBelow, has_states_below, IsEdit, PlaneEdit}
use Rattle.stamped_writes.specs.Write.{Writes}
use Rattle.delta_exchange.specs.declared.fault.ReadFault.{ReadFault}
use Rattle.delta_exchange.specs.declared.fault.ReadFault.TheVariants as read_faults
use Rattle.delta_exchange.specs.declared.message.Content.{Content}
use Rattle.delta_exchange.specs.declared.message.Content.TheVariants as contents
use Rattle.delta_exchange.specs.Delta.{AreTellable}
use Rattle.delta_exchange.specs.Fault.{IsWantOrFull}
use Rattle.delta_exchange.specs.Message.{Shared}
use Rattle.delta_exchange.specs.Room.{IsMapTooLargeFor}
use Rattle.delta_exchange.specs.Spelling.{delta_text}
use Rattle.delta_exchange.specs.MessageReading.{HasContentTold, HasMap, MayWantRoom, StandsForMap, StandsForTold, Told, ToldEdits, begins_as_delta}
use Rattle.delta_exchange.proofs.MessageLaws.{both_kinds, delta_begins}
use Rattle.replica_core.specs.declared.fault.Fault.{Fault}
use Rattle.replica_core.specs.declared.fault.Fault.TheVariants as faults
use Rattle.replica_core.specs.Exchange.{entries, IsTakingMap, IsTakingOf, IsTakingText, MeetsWantReading}
use Rattle.replica_core.specs.Fault.{IsWant, fault_of_read}
use Rattle.replica_core.specs.Replica.{IsTaking, MeetsWant, ReplicaState}
use Rattle.replica_core.proofs.DrawLaws.{unchanged}
use Rattle.replica_core.proofs.StandingLaws.{all_recursively}

-- ---- entries of a journal

all_taken : {X : Type 0} (P : X → Type 0) (n : ℕ) (xs : List X) → AllByRecursion P xs → AllByRecursion P (take n xs)
all_taken P zero xs all = tt
all_taken P (suc n) [] all = tt
all_taken P (suc n) (x ∷ xs) all = (all.0, all_taken P n xs all.1)

all_dropped : {X : Type 0} (P : X → Type 0) (n : ℕ) (xs : List X) → AllByRecursion P xs → AllByRecursion P (drop n xs)
all_dropped P zero xs all = all
all_dropped P (suc n) [] all = tt
all_dropped P (suc n) (x ∷ xs) all = all_dropped P n xs all.1

all_between : {X : Type 0} (P : X → Type 0) (from count : ℕ) (xs : List X) → AllByRecursion P xs → AllByRecursion P (take count (drop from xs))
all_between P from count xs all = all_taken P count (drop from xs) (all_dropped P from xs all)

-- what is named is so many entries from a place on
entries_told : (fault : Option Fault) (kept edits : List PlaneEdit) → unless fault kept ≡ Ok edits → kept ≡ edits
entries_told None kept edits is = cc
entries_told (Some fault) kept edits is = absurd (cc)

pub entries_are : (journal : List PlaneEdit) (from count : ℕ) (edits : List PlaneEdit) → entries journal from count ≡ Ok edits → take count (drop from journal) ≡ edits
entries_are journal from count edits is = entries_told (when (nat_lt (length journal) (from + count)) faults.NoSuchEdit) (take count (drop from journal)) edits is

-- the entries whose text was given
pub entries_given : (rule : GenerationsRule) (found : Result (List PlaneEdit) Fault) (text : List ℕ) → (found >>= (λ edits. Ok (delta_text rule edits))) ≡ Ok text
    → (edits : List PlaneEdit) × (found ≡ Ok edits) × (text ≡ delta_text rule edits)
entries_given rule (Ok edits) text is = (edits, refl, cc)
entries_given rule (Err fault) text is = absurd (cc)

-- the entries that were refused
pub entries_refused : (rule : GenerationsRule) (found : Result (List PlaneEdit) Fault) (fault : Fault) (Wanted : Type 0) → (¬ IsWant fault)
    → ((fault ≡ faults.Memory) × Wanted) ⊎ ((found >>= (λ edits. Ok (delta_text rule edits))) ≡ Err fault) → found ≡ Err fault
entries_refused rule found fault Wanted other (inl want) = absurd (other (subst IsWant (sym want.0) tt))
entries_refused rule (Ok edits) fault Wanted other (inr is) = absurd (cc)
entries_refused rule (Err told) fault Wanted other (inr is) = cc

pub among_taken : {X : Type 0} (n : ℕ) (xs : List X) (x : X) → Contains (take n xs) x → Contains xs x
among_taken n xs x here = subst (λ l. Contains l x) (take-append-drop n xs) (Contains-append_left (take n xs) (drop n xs) x here)

pub among_dropped : {X : Type 0} (n : ℕ) (xs : List X) (x : X) → Contains (drop n xs) x → Contains xs x
among_dropped n xs x here = subst (λ l. Contains l x) (take-append-drop n xs) (Contains-append_right (take n xs) (drop n xs) x here)

-- fewer than 2^32 entries of a journal make a delta
pub entries_tellable : (states from count : ℕ) (journal : List PlaneEdit) → count < 2 ^ 32 → ((e : PlaneEdit) → Contains journal e → IsEdit e)
    → HaveStatesBelow states journal → AreTellable states (take count (drop from journal))
entries_tellable states from count journal few edits below = record {
  edits_are = all_between (λ e. IsEdit e) from count journal (all_recursively journal edits);
  below = all_between (λ e. IsTrue (has_states_below states e)) from count journal below;
  count = omega (arith, few, length-take count (drop from journal));
}

-- ---- what is taken

-- a want of the reader is one of the replica
want_read : (r : ReplicaState) (text : List ℕ) (fault : ReadFault) → (fault ≡ read_faults.StoreFull → MayWantRoom usual_room text) → IsWantOrFull fault
    → MeetsWantReading r r text (fault_of_read fault)
want_read r text fault room (inl memory) =
    subst (λ f. MeetsWantReading r r text (fault_of_read f)) (sym memory) (record { want = tt; same = refl; full = λ is. absurd (cc) })
want_read r text fault room (inr full) =
    subst (λ f. MeetsWantReading r r text (fault_of_read f)) (sym full) (record { want = tt; same = refl; full = λ is. room full })

memory_read : (r : ReplicaState) (P : Content → Type 0) (fault : ReadFault) → fault ≡ read_faults.Memory → MeetsWant r r P (fault_of_read fault)
memory_read r P fault memory =
    subst (λ f. MeetsWant r r P (fault_of_read f)) (sym memory) (record { want = tt; unchanged = unchanged r; full = λ is. absurd (cc) })

-- a text that is refused, or whose reading meets a want
pub refuses_text : (r : ReplicaState) (rule : GenerationsRule) (text : List ℕ) (meant : Result Told ReadFault) (refusal : ReadFault)
    → (refusal ≡ read_faults.StoreFull → MayWantRoom usual_room text)
    → AnswersAs (StandsForTold rule) IsWantOrFull (Err refusal) meant → IsTakingText {A = Bool} r r text meant (Err (fault_of_read refusal))
refuses_text r rule text (Ok told) refusal room want = inl (want_read r text refusal room want)
refuses_text r rule text (Err fault) refusal room (inl want) = inl (want_read r text refusal room want)
refuses_text r rule text (Err fault) refusal room (inr same) = inr (inr (refusal, ap Err (sym same), refl, refl))

-- the text of edits whose reading meets a want: it takes no room
pub refuses_edits : (r : ReplicaState) (rule : GenerationsRule) (edits : List PlaneEdit) (refusal : ReadFault) (P : Content → Type 0)
    → (refusal ≡ read_faults.StoreFull → begins_as_delta (delta_text rule edits) ≡ Ok false)
    → AnswersAs (StandsForTold rule) IsWantOrFull (Err refusal) (Ok (ToldEdits edits)) → IsTakingOf {A = Bool} r r P (Err (fault_of_read refusal))
refuses_edits r rule edits refusal P room (inl memory) = memory_read r P refusal memory
refuses_edits r rule edits refusal P room (inr full) = absurd (both_kinds (begins_as_delta (delta_text rule edits)) (delta_begins rule edits) (room full))

-- the text of a map whose reading meets a want
pub refuses_map : (r : ReplicaState) (rule : GenerationsRule) (p : Writes) (refusal : ReadFault)
    → (refusal ≡ read_faults.StoreFull → IsMapTooLargeFor usual_room p)
    → AnswersAs (StandsForMap rule) IsWantOrFull (Err refusal) (Ok p) → IsTakingMap {A = Bool} r r p (Err (fault_of_read refusal))
refuses_map r rule p refusal large (inl memory) = inl (memory_read r (λ content. HasMap content p) refusal memory)
refuses_map r rule p refusal large (inr full) = inr (ap fault_of_read full, refl, large full)

-- what was told is edits, and so is the content
pub edits_told : (content : Content) (edits : List PlaneEdit) → HasContentTold content (ToldEdits edits) → content ≡ contents.Edits edits
edits_told (contents.Edits given) edits is = ap contents.Edits is
edits_told (contents.State plane) edits is = absurd is

-- a want of some content is one of what is as Q says, where the content is
want_of : (old new : ReplicaState) (content : Content) (Q : Content → Type 0) (fault : Fault) → Q content → MeetsWant old new (λ c. c ≡ content) fault → MeetsWant old new Q fault
want_of old new content Q fault holds want = record {
  want = want.want;
  unchanged = want.unchanged;
  full = λ is. let full = want.full is in (full.0, subst Q (sym full.1) holds, full.2);
}

-- a message of the replica's rule
pub takes_some : {A : Type 0} (old new : ReplicaState) (m : Shared) (P : Content → Type 0) (result : Result A Fault)
    → m.rule ≡ old.rule → P m.content → IsTaking old new m result → IsTakingOf old new P result
takes_some old new m P (Ok done) same is taking = (m.content, is, taking.1)
takes_some old new m P (Err fault) same is (inl want) = want_of old new m.content P fault is want.1
takes_some old new m P (Err fault) same is (inr other) = absurd (other.1 same)

pub takes_map : {A : Type 0} (old new : ReplicaState) (p : Writes) (result : Result A Fault) → IsTakingOf old new (λ content. HasMap content p) result → IsTakingMap old new p result
takes_map old new p (Ok done) takes = takes
takes_map old new p (Err fault) want = inl want

-- what a text tells, as the message that was read of it is taken
takes_told : {A : Type 0} (old new : ReplicaState) (text : List ℕ) (told : Told) (result : Result A Fault)
    → IsTakingOf old new (λ content. HasContentTold content told) result → IsTakingText old new text (Ok told) result
takes_told old new text told (Ok done) takes = (told, refl, takes)
takes_told old new text told (Err fault) want = inr (inl (told, refl, want))

pub takes_text : {A : Type 0} (old new : ReplicaState) (m : Shared) (text : List ℕ) (meant : Result Told ReadFault) (result : Result A Fault)
    → AnswersAs (StandsForTold old.rule) IsWantOrFull (Ok m) meant → IsTaking old new m result → IsTakingText old new text meant result
takes_text old new m text (Ok told) result stands taking =
    takes_told old new text told result (takes_some old new m (λ content. HasContentTold content told) result stands.0 stands.1 taking)
takes_text old new m text (Err fault) result stands taking = absurd stands
