-- A list of events has one list of replies.
use Rattle.std.proofs.Common.{◌≡◌, ℕ, Bool, true, false, List, [], ◌∷◌, Result, Ok, Err, refl, sym, ◌∙◌, ap}
use Rattle.std.specs.Prelude.{IsTrue, ◌↔◌}
use Rattle.generations_rule.specs.Rule.{GenerationsRule}
use Rattle.edit_stamps.specs.Edit.{PlaneEdit, greatest}
use Rattle.generation_engine.specs.Universe.{states_in_writes}
use Rattle.export.specs.Export.{most_cells}
use Rattle.generations_rule.specs.Place.{Place}
use Rattle.export.proofs.AskingLaws.{has_one_count}
use Rattle.export.proofs.ExportLaws.{has_one_cut, has_one_export}
use Rattle.delta_exchange.proofs.StateLaws.{has_one_state_text}
use Rattle.replica_events.specs.declared.event.Event.{Event}
use Rattle.replica_events.specs.declared.event.Event.TheVariants.{Draw, SendDelta, SendState, Deliver, Show, Same, Dump, Export, Cut, Count}
use Rattle.replica_core.specs.declared.event.Reply.{Reply}
use Rattle.replica_core.specs.declared.event.Reply.TheVariants as replies
use Rattle.replica_core.specs.declared.fault.Fault.{Fault}
use Rattle.replica_core.specs.Headline.{HasOneListOfReplies}
use Rattle.replica_core.specs.declared.event.Question.{Question}
use Rattle.replica_core.specs.declared.event.Question.TheVariants as questions
use Rattle.replica_core.specs.Exporting.{Tells, count_reply, export_reply}
use Rattle.replica_core.specs.World.{History, Sent, Delta, State, Given, IsReply, IsReplyToQuestion, IsTextOfSent, TellsBytes, TellsOfEdits, TellsSame, after, both, delivered, drawn, message, named_entries, replica}

-- what was found, or the refusal, has one reply where each thing that may be found has one
given_one : {A : Type 0} (found : Result A Fault) (a b : Reply) (P : Reply → A → Type 0) → ((x : A) (c d : Reply) → P c x → P d x → c ≡ d) → Given found a (P a) → Given found b (P b) → a ≡ b
given_one (Err fault) a b P one x y = x ∙ sym y
given_one (Ok v) a b P one x y = one v a b x y

one_truth : (a b : Bool) (P : Type 0) → (IsTrue a ↔ P) → (IsTrue b ↔ P) → a ≡ b
one_truth true true P p q = refl
one_truth false false P p q = refl
one_truth true false P p q = sym (q.1 (p.0 refl))
one_truth false true P p q = p.1 (q.0 refl)

one_same : (es fs : List PlaneEdit) (a b : Reply) → TellsSame es fs a → TellsSame es fs b → a ≡ b
one_same es fs a b x y = x.1 ∙ ap replies.Same (one_truth x.0 y.0 _ x.2 y.2) ∙ sym y.1

one_text : (rule : GenerationsRule) (sent : Sent) (a b : List ℕ) → IsTextOfSent rule sent a → IsTextOfSent rule sent b → a ≡ b
one_text rule (Delta edits) a b x y = x ∙ sym y
one_text rule (State edits) a b x y = has_one_state_text rule (greatest edits) (greatest edits) a b x y (λ c. refl)

one_bytes : (rule : GenerationsRule) (sent : Sent) (a b : Reply) → TellsBytes rule sent a → TellsBytes rule sent b → a ≡ b
one_bytes rule sent a b x y = x.1 ∙ ap replies.Bytes (one_text rule sent x.0 y.0 x.2 y.2) ∙ sym y.1

-- what is told of one map is one reply
pub one_told : (rule : GenerationsRule) (f : Place → ℕ) (question : Question) (a b : Reply) → Tells rule f question a → Tells rule f question b → a ≡ b
one_told rule f (questions.Export g) a b x y = x.2 ∙ ap export_reply (has_one_export rule f f g most_cells x.0 y.0 (λ c. refl) x.1 y.1) ∙ sym y.2
one_told rule f (questions.Cut cut) a b x y = x.2 ∙ ap export_reply (has_one_cut rule f f cut.window cut.generation most_cells x.0 y.0 (λ c. refl) x.1 y.1) ∙ sym y.2
one_told rule f (questions.Count g) a b x y = x.2 ∙ ap count_reply (has_one_count rule f f g x.0 y.0 (λ c. refl) x.1 y.1) ∙ sym y.2

-- and so is the reply to a question of what a replica holds
one_answer : (w : History) (r : ℕ) (question : Question) (a b : Reply) → IsReplyToQuestion w r question a → IsReplyToQuestion w r question b → a ≡ b
one_answer w r question a b = given_one (replica w r) a b (λ c h. TellsOfEdits w.rule h.taken question c) (λ h c d p q. one_told w.rule (states_in_writes (greatest h.taken)) question c d p q)

one_reply : (w : History) (event : Event) (a b : Reply) → IsReply w event a → IsReply w event b → a ≡ b
one_reply w (Draw r spec) a b = given_one (drawn w r spec) a b (λ c d. c ≡ replies.Drawn d.0.stamp) (λ x c d p q. p ∙ sym q)
one_reply w (SendDelta r from count) a b = given_one (named_entries w r from count) a b (λ c edits. c ≡ replies.Sent _) (λ x c d p q. p ∙ sym q)
one_reply w (SendState r) a b = given_one (replica w r) a b (λ c h. c ≡ replies.Sent _) (λ x c d p q. p ∙ sym q)
one_reply w (Deliver m r) a b = given_one (delivered w m r) a b (λ c h. c ≡ replies.Taken) (λ x c d p q. p ∙ sym q)
one_reply w (Show r x y) a b = given_one (replica w r) a b (λ c h. c ≡ replies.Shown (greatest h.taken _)) (λ h c d p q. p ∙ sym q)
one_reply w (Same r s) a b = given_one (both w r s) a b (λ c hs. TellsSame hs.0.taken hs.1.taken c) (λ hs c d p q. one_same hs.0.taken hs.1.taken c d p q)
one_reply w (Dump m) a b = given_one (message w m) a b (λ c sent. TellsBytes w.rule sent c) (λ sent c d p q. one_bytes w.rule sent c d p q)
one_reply w (Export r g) a b = one_answer w r (questions.Export g) a b
one_reply w (Cut r window g) a b = one_answer w r (questions.Cut (record { window = window; generation = g })) a b
one_reply w (Count r g) a b = one_answer w r (questions.Count g) a b

pub has_one_list_of_replies : HasOneListOfReplies
has_one_list_of_replies w [] [] [] p q = refl
has_one_list_of_replies w [] (a ∷ more) bs p q = absurd p
has_one_list_of_replies w [] [] (b ∷ more) p q = absurd q
has_one_list_of_replies w (event ∷ events) [] bs p q = absurd p
has_one_list_of_replies w (event ∷ events) (a ∷ more) [] p q = absurd q
has_one_list_of_replies w (event ∷ events) (a ∷ more) (b ∷ others) p q =
    ap (λ x. x ∷ more) (one_reply w event a b p.0 q.0) ∙ ap (λ l. b ∷ l) (has_one_list_of_replies (after w event) events more others p.1 q.1)
