use Rattle.std.proofs.Common.{Err, ap, subst}
use Rattle.square_store.specs.declared.limits.Limits.{Limits}
use Rattle.delta_exchange.specs.Fault.{IsWantOrFull}
use Rattle.delta_exchange.specs.MessageReading.{MayWantRoom, StandsForTold, message_of}
use Rattle.delta_exchange.specs.Room.{IsMapTooLargeFor}
use Rattle.opened_files.proofs.SavedLaws.{answered, saved_of}
use Rattle.opened_files.proofs.saved.saved_in.Goals as goal

pub returns-in-Err-clause-fault : goal.returns-in-Err-clause-fault
returns-in-Err-clause-fault c = answered (StandsForTold c.args.rule.now) IsWantOrFull c.in-Err.fault (message_of c.args.rule.now c.args.text.now) c.in-Err.ensures.exact

pub returns-in-Err-clause-too_large : goal.returns-in-Err-clause-too_large
returns-in-Err-clause-too_large c = λ meant tellable spelt is. subst (λ n. IsMapTooLargeFor n meant) (ap (λ (l : Limits). l.room) c.of_key.ensures) (c.in-Err.ensures.too_large meant tellable spelt (ap (λ fault. Err fault) is))

pub returns-in-Ok-walk-clause-saved : goal.returns-in-Ok-walk-clause-saved
returns-in-Ok-walk-clause-saved c =
    saved_of c.args.rule.now c.args.text.now c.in-Ok.message.content c.in-Some.plane.now c.in-Ok-walk.cells.items c.greatest_stamp.result c.counter_of.result c.in-Some.ensures.value c.in-Ok.ensures.found.1
    c.in-Ok-walk.ensures c.greatest_stamp.ensures.greatest c.counter_of.ensures

pub returns-in-Err-clause-full : goal.returns-in-Err-clause-full
returns-in-Err-clause-full c = λ is. subst (λ n. MayWantRoom n c.args.text.now) (ap (λ (l : Limits). l.room) c.of_key.ensures) (c.in-Err.ensures.full (ap (λ fault. Err fault) is))
