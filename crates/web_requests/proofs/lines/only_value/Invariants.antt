use Rattle.std.proofs.Common.{◌≡◌, drop}
use Rattle.websocket.specs.Headers.{fields_of}
use Rattle.web_requests.specs.Head.{only_value}
use Rattle.web_requests.proofs.lines.only_value.Given as goal

abbrev pub invariant-loop-place : goal.invariant-loop-place
invariant-loop-place l = only_value (fields_of l.head l.lines) l.name ≡ only_value (fields_of l.head (drop l.place l.lines)) l.name
