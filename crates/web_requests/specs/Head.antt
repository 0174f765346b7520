-- What of a request's head counts (RFC 9110, sections 5.1 and 5.5; RFC 9112, section 3).
use Rattle.std.specs.Prelude.{ℕ, Bool, List, [], ◌∷◌, map, if◌then◌else◌, Option, Some, None}
use Rattle.std.specs.List.{list_any}
use Rattle.httparse.specs.Grammar.{RequestHead}
use Rattle.httparse.specs.Spans.{name_and_value}
use Rattle.websocket.specs.Headers.{Fields, eq_ignore_case, is_some_text}

-- the header lines: of each its name, and its value without the white space around it
abbrev pub lines_of : RequestHead → Fields
lines_of head = map name_and_value head.fields

-- the line has the name, in any case of letters
abbrev pub is_named : List ℕ → (List ℕ × List ℕ) → Bool
is_named name line = eq_ignore_case line.0 name

-- the value of the one line of a name; none where there is no such line, or a second
abbrev pub only_value : Fields → List ℕ → Option (List ℕ)
only_value [] name = None
only_value (line ∷ lines) name =
    if is_named name line then (if list_any (is_named name) lines then None else Some line.1) else only_value lines name

-- one line has the name, no second has it, and its value is this, in any case of letters
abbrev pub has_only : Fields → List ℕ → List ℕ → Bool
has_only lines name value = is_some_text (only_value lines name) value
