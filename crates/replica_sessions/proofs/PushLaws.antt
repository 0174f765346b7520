-- Pushed texts that are refused.
use Rattle.std.proofs.Common.{◌≡◌, ℕ, List, Result, Ok, Err, inl, inr, sym, ap}
use Rattle.std.specs.Prelude.{◌⊎◌}
use Rattle.generations_rule.specs.Refusal.{AnswersAs, ◌>>=◌}
use Rattle.generations_rule.specs.Rule.{GenerationsRule}
use Rattle.delta_exchange.specs.declared.fault.ReadFault.{ReadFault}
use Rattle.delta_exchange.specs.declared.fault.ReadFault.TheVariants.{StoreFull}
use Rattle.delta_exchange.specs.Fault.{IsWantOrFull, read_fault_number}
use Rattle.delta_exchange.specs.Message.{Shared}
use Rattle.delta_exchange.specs.MessageReading.{Told, StandsForTold}
use Rattle.session_hub.specs.Request.{Push}
use Rattle.session_hub.specs.Replies.{IsTooLargePush, IsWanting, numbered, one_edit, refusal}

wanting : (r : GenerationsRule) (text : List ℕ) (fault : ReadFault) → (fault ≡ StoreFull → IsTooLargePush r text) → IsWantOrFull fault → IsWanting r (Push text) (refusal (read_fault_number fault))
wanting r text fault full (inl memory) = inl (ap (λ f. refusal (read_fault_number f)) memory)
wanting r text fault full (inr room) = inr (ap (λ f. refusal (read_fault_number f)) room, full room)

-- a fault of the reader is a want, or the text's own
pub unread : (r : GenerationsRule) (text : List ℕ) (fault : ReadFault) (told : Result Told ReadFault) → (fault ≡ StoreFull → IsTooLargePush r text)
    → AnswersAs {A = Shared} (StandsForTold r) IsWantOrFull (Err fault) told → IsWanting r (Push text) (refusal (read_fault_number fault)) ⊎ ((numbered told >>= one_edit) ≡ Err (read_fault_number fault))
unread r text fault (Ok told) full is = inl (wanting r text fault full is)
unread r text fault (Err f) full (inl want) = inl (wanting r text fault full want)
unread r text fault (Err f) full (inr same) = inr (ap (λ x. Err (read_fault_number x)) (sym same))
