use Rattle.std.proofs.Common.{Err, ap, ◌∙◌}
use Rattle.delta_exchange.specs.MessageReading.{message_of}
use Rattle.replica_sessions.proofs.PushLaws.{unread}
use Rattle.replica_sessions.proofs.pushes.pushed.Goals as goal

pub returns-in-Err : goal.returns-in-Err
returns-in-Err c =
    unread c.args.rule.now c.args.text.now c.in-Err.fault (message_of c.args.rule.now c.args.text.now)
    (λ same. record { room = c.read.ensures.full (c.in-Err.is ∙ ap Err same); large = λ meant tellable spelt. c.read.ensures.too_large meant tellable spelt (c.in-Err.is ∙ ap Err same) })
    (rw c.in-Err.is at c.read.ensures.exact)
