-- The requests of a session, as bytes and as data. Numbers stand with their greatest byte first.
use Rattle.std.specs.Prelude.{ℕ, zero, suc, ◌+◌, ◌*◌, Bool, true, false, ◌&&◌, ◌==◌, nat_le, if◌then◌else◌, List, [], ◌∷◌, length, take, drop}
use Rattle.std.specs.Int.{cast_signed, w16, w32, from_be_bytes}
use Rattle.pattern_cells.specs.declared.window.Window.{Window}

pub data Request : Type 0 where
  Hello : Request
  -- the text of an edit
  Push : (text : List ℕ) → Request
  Poll : Request
  Whole : Request
  Export : (generation : ℕ) → Request
  -- the cells in a window, so many generations later
  Cut : (window : Window) → (generation : ℕ) → Request
  Bye : Request
  Many : (generations : List ℕ) → Request
  -- a poll that waits for news, for so many milliseconds at most
  Await : (milliseconds : ℕ) → Request
  -- the plane in pieces
  Pieces : Request
  -- bytes that are no request
  Faulty : Request

-- so many numbers of four bytes each
abbrev pub numbers : ℕ → List ℕ → List ℕ
numbers zero bytes = []
numbers (suc n) bytes = from_be_bytes w32 (take 4 bytes) ∷ numbers n (drop 4 bytes)

-- how many generations are announced
abbrev pub announced : List ℕ → ℕ
announced rest = from_be_bytes w16 (take 2 rest)

-- a number in two bytes, and so many generations
abbrev pub many_of : List ℕ → Request
many_of rest = if nat_le 2 (length rest) && length rest == 2 + 4 * announced rest then Many (numbers (announced rest) (drop 2 rest)) else Faulty

-- a window by its corner, in two's complement, and its sides; and a generation
abbrev pub cut_of : List ℕ → Request
cut_of (x ∷ y ∷ width ∷ height ∷ generation ∷ []) = Cut (record { x = cast_signed w32 x; y = cast_signed w32 y; width = width; height = height }) generation
cut_of _ = Faulty

-- the longest that a poll may wait, in milliseconds: a minute
abbrev pub most_wait : ℕ
most_wait = 60_000

-- four bytes, a number of milliseconds within that
abbrev pub await_of : List ℕ → Request
await_of rest = if length rest == 4 && nat_le (from_be_bytes w32 rest) most_wait then Await (from_be_bytes w32 rest) else Faulty

-- a request whose body has just so many bytes behind its kind
abbrev pub sized : ℕ → List ℕ → Request → Request
sized n rest request = if length rest == n then request else Faulty

-- a body by its kind
abbrev pub request_as : ℕ → List ℕ → Request
request_as kind rest =
    if kind == 1 then sized 0 rest Hello
    else (if kind == 2 then Push rest
    else (if kind == 3 then sized 0 rest Poll
    else (if kind == 4 then sized 0 rest Whole
    else (if kind == 5 then sized 4 rest (Export (from_be_bytes w32 rest))
    else (if kind == 6 then sized 0 rest Bye
    else (if kind == 7 then many_of rest
    else (if kind == 8 then await_of rest
    else (if kind == 10 then sized 20 rest (cut_of (numbers 5 rest))
    else (if kind == 11 then sized 0 rest Pieces
    else Faulty)))))))))

-- the request of a body: its first byte is the kind
abbrev pub request_of : List ℕ → Request
request_of [] = Faulty
request_of (kind ∷ rest) = request_as kind rest

-- whether a request ends the session
abbrev pub is_bye : Request → Bool
is_bye Bye = true
is_bye _ = false
