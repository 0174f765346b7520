use Rattle.std.proofs.Common.{◌≡◌, drop}
use Rattle.std.specs.List.{list_any}
use Rattle.websocket.specs.Headers.{fields_of}
use Rattle.web_requests.specs.Head.{is_named}
use Rattle.web_requests.proofs.lines.has_line.Given as goal

abbrev pub invariant-loop-line : goal.invariant-loop-line
invariant-loop-line l = list_any (is_named l.name) (fields_of l.head l.lines) ≡ list_any (is_named l.name) (fields_of l.head (drop l.line-index l.lines))
