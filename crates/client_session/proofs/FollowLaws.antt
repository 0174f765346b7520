-- A command's poll behind one that waits.
use Rattle.std.proofs.Common.{ℕ, Some, Result, Ok, Err, inr}
use Rattle.client_session.specs.declared.fault.CommandFault.{CommandFault}
use Rattle.client_session.specs.declared.polling.News.{News}
use Rattle.client_session.specs.Moment.{Moment}
use Rattle.client_session.specs.News.{HearsReply, IsAwaited, IsNewsAs, IsNewsBy}

-- both replies were heard
pub news_on : (milliseconds : ℕ) (m mid n : Moment) (result : Result News CommandFault) → HearsReply m mid → IsNewsBy IsAwaited mid n result → IsNewsAs (Some milliseconds) m n result
news_on milliseconds m mid n (Ok news) reply brought = (mid, reply, brought)
news_on milliseconds m mid n (Err fault) reply ends = inr (inr (mid, reply, ends))
