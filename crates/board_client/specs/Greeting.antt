-- What a greeting and a farewell do.
use Rattle.std.specs.Prelude.{◌≡◌, ◌⊎◌, ℕ, List, [], ◌∷◌, Result, Ok, Err}
use Rattle.client_protocol.specs.Spelling.{OffersSeat, SpellsGreeting}
use Rattle.client_protocol.specs.declared.greeting.Greeting.{Greeting}
use Rattle.client_protocol.specs.declared.greeting.Greeting.TheVariants.{Seat, Refused, Faulty}
use Rattle.board_client.specs.declared.fault.ClientFault.{ClientFault}
use Rattle.board_client.specs.declared.fault.ClientFault.TheVariants.{Line, NoReply, Text, Memory}
use Rattle.board_client.specs.declared.pushing.Pushing.{Pushing}
use Rattle.board_client.specs.Client.{LineState, IsTalk}
use Rattle.board_client.specs.Hearing.{IsAsked}
use Rattle.board_client.specs.Pushing.{IsPushOnce}
use Rattle.board_client.specs.Tries.{IsTried}

abbrev pub hello_request : List ℕ
hello_request = 1 ∷ []

abbrev pub bye_request : List ℕ
bye_request = 6 ∷ []

-- a request was said, and a body heard that spells this
pub record IsGreeted (greeting : Greeting) (a b : LineState) : Type 0 where
  pub body : List ℕ
  pub talk : IsTalk a b (hello_request ∷ []) (body ∷ [])
  pub spelt : SpellsGreeting body greeting

-- nothing was said, or a reply was heard that offers a seat, for whose rule no memory was found here
abbrev pub IsWanting : LineState → LineState → Type 0
IsWanting a b = (b ≡ a) ⊎ ((body : List ℕ) × OffersSeat body × IsTalk a b (hello_request ∷ []) (body ∷ []))

abbrev pub IsGreetingOnce : LineState → LineState → Result Greeting ClientFault → Type 0
IsGreetingOnce a b (Ok (Seat number rule)) = IsGreeted (Seat number rule) a b
IsGreetingOnce a b (Ok (Refused number)) = IsGreeted (Refused number) a b
IsGreetingOnce a b (Ok Faulty) = ⊥
IsGreetingOnce a b (Err NoReply) = IsGreeted Faulty a b
IsGreetingOnce a b (Err Memory) = IsWanting a b
IsGreetingOnce a b (Err (Line fault)) = IsAsked {B = List ℕ} (λ body. body) (hello_request ∷ []) a b (Err (Line fault))
IsGreetingOnce a b (Err (Text fault)) = ⊥

-- ---- tries

-- a refusal that may pass in a moment: memory was wanted
abbrev pub IsMomentaryGreetingRefusal : ℕ → Type 0
IsMomentaryGreetingRefusal number = number ≡ 255

abbrev pub IsGreetingRefusedForAMoment : Greeting → Type 0
IsGreetingRefusedForAMoment (Refused number) = IsMomentaryGreetingRefusal number
IsGreetingRefusedForAMoment _ = ⊥

-- what came of a greeting that was tried
abbrev pub IsGreeting : LineState → LineState → Result Greeting ClientFault → Type 0
IsGreeting a b result = IsTried 9 IsMomentaryGreetingRefusal IsGreetingRefusedForAMoment hello_request IsGreetingOnce a b result

-- ---- farewells

-- what came of a farewell
abbrev pub IsLeaving : LineState → LineState → Result Pushing ClientFault → Type 0
IsLeaving a b (Err Memory) = b ≡ a
IsLeaving a b result = IsPushOnce bye_request a b result
