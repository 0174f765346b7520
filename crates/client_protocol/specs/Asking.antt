-- What a client asks, as bytes and as a request.
use Rattle.std.specs.Prelude.{ℕ, nat_le, if◌then◌else◌, List, [], ◌∷◌}
use Rattle.std.specs.Int.{w32, to_be_bytes}
use Rattle.session_hub.specs.Request.{Request, most_wait}
use Rattle.session_hub.specs.Request as request
use Rattle.client_protocol.specs.declared.asking.Asking.{Asking}
use Rattle.client_protocol.specs.declared.asking.Asking.TheVariants.{Hello, Push, Poll, Bye, Await, Pieces}

-- the request that a session finds in it: none in a wait of more than a minute
abbrev pub asked_as : Asking → Request
asked_as Hello = request.Hello
asked_as (Push text) = request.Push text.now
asked_as Poll = request.Poll
asked_as Bye = request.Bye
asked_as (Await milliseconds) = if nat_le milliseconds most_wait then request.Await milliseconds else request.Faulty
asked_as Pieces = request.Pieces

-- its kind, and behind that of a push the text, behind that of a wait the milliseconds in four bytes
abbrev pub asking_bytes : Asking → List ℕ
asking_bytes Hello = 1 ∷ []
asking_bytes (Push text) = 2 ∷ text.now
asking_bytes Poll = 3 ∷ []
asking_bytes Bye = 6 ∷ []
asking_bytes (Await milliseconds) = 8 ∷ to_be_bytes w32 milliseconds
asking_bytes Pieces = 11 ∷ []
