use Rattle.std.proofs.Common.{[], ◌∷◌}
use Rattle.web_streams.proofs.HearingLaws.{limit_kept}
use Rattle.web_streams.proofs.ReaderLaws.{hears_body}
use Rattle.web_streams.proofs.reader.SocketReader.hear_one.Goals as goal

pub invariant_of-self : goal.invariant_of-self
invariant_of-self g c = record { limited = λ on. limit_kept _ _ (c.in-Body.body ∷ []) (c.args.self.now.limited on) c.in-Body.ensures }

pub invariant_of-self-in-Passed : goal.invariant_of-self-in-Passed
invariant_of-self-in-Passed g c = record { limited = λ on. limit_kept _ _ [] (c.args.self.now.limited on) c.in-Passed.ensures }

pub invariant_of-self-in-Blocked : goal.invariant_of-self-in-Blocked
invariant_of-self-in-Blocked g c = record { limited = λ on. limit_kept _ _ [] (c.args.self.now.limited on) c.in-Blocked.ensures }

pub returns-in-Body : goal.returns-in-Body
returns-in-Body g c = hears_body _ _ c.in-Body.body c.requires.goes_on c.requires.goes_on c.in-Body.ensures c.of.ensures
