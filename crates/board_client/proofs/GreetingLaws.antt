-- Greetings again and again.
use Rattle.std.proofs.Common.{ℕ, ◌+◌, ◌∷◌, [], Ok, subst}
use Rattle.client_protocol.specs.declared.greeting.Greeting.{Greeting}
use Rattle.client_protocol.specs.declared.greeting.Greeting.TheVariants.{Seat, Refused, Faulty}
use Rattle.board_client.specs.Client.{LineState, IsTalk}
use Rattle.board_client.specs.Greeting.{IsGreetingRefusedForAMoment, IsMomentaryGreetingRefusal, IsGreetingOnce, hello_request}
use Rattle.board_client.specs.Tries.{IsRefused}
use Rattle.board_client.proofs.TryLaws.{refused_again}

-- one greeting more that was refused for a moment
pub greet_again : (times : ℕ) (a m b : LineState) (greeting : Greeting) → IsRefused IsMomentaryGreetingRefusal hello_request times a m → IsGreetingRefusedForAMoment greeting → IsGreetingOnce m b (Ok greeting)
    → IsRefused IsMomentaryGreetingRefusal hello_request (times + 1) a b
greet_again times a m b (Refused number) p brief once =
    refused_again IsMomentaryGreetingRefusal hello_request times number a m b p brief (subst (λ body. IsTalk m b (hello_request ∷ []) (body ∷ [])) once.spelt.1 once.talk)
greet_again times a m b (Seat number rule) p brief once = absurd brief
greet_again times a m b Faulty p brief once = absurd brief
