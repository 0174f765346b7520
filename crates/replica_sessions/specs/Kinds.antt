-- Requests by their kinds.
use Rattle.std.specs.Prelude.{◌≡◌, ⊤, ℕ, ◌+◌, ◌*◌, List, length, drop}
use Rattle.session_hub.specs.Request.{Request, numbers}
use Rattle.session_hub.specs.Request as requests
use Rattle.replica_sessions.specs.declared.kind.Kind.{Kind}
use Rattle.replica_sessions.specs.declared.kind.Kind.TheVariants.{Hello, Push, Poll, Whole, Export, Cut, Bye, Many, Await, Pieces, Faulty}

-- the request of a kind, with the bytes behind the kind
abbrev pub request_by : Kind → List ℕ → Request
request_by Hello rest = requests.Hello
request_by Push rest = requests.Push rest
request_by Poll rest = requests.Poll
request_by Whole rest = requests.Whole
request_by (Export g) rest = requests.Export g
request_by (Cut cut) rest = requests.Cut cut.window cut.generation
request_by Bye rest = requests.Bye
request_by (Many count) rest = requests.Many (numbers count (drop 2 rest))
request_by (Await milliseconds) rest = requests.Await milliseconds
request_by Pieces rest = requests.Pieces
request_by Faulty rest = requests.Faulty

-- the bytes behind the kind of many exports are as many as it says
abbrev pub IsWholeRest : Kind → List ℕ → Type 0
IsWholeRest (Many count) rest = length rest ≡ 2 + 4 * count
IsWholeRest _ rest = ⊤
