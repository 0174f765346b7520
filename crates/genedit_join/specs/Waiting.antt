-- How long a server is awaited that says nothing.
use Rattle.std.specs.Prelude.{ℕ, Bool, true, false, ◌&&◌, ◌==◌, nat_le, if◌then◌else◌, List, Option, Some, None, slice_get}
use Rattle.std.specs.declared.io.ErrorKind.{ErrorKind}
use Rattle.std.specs.declared.io.ErrorKind.TheVariants.{TimedOut, WouldBlock}
use Rattle.genedit_join.specs.declared.patience.WaitStep.{WaitStep}
use Rattle.genedit_join.specs.declared.patience.WaitStep.TheVariants.{Say, Wait, GiveUp}

-- after the first second it is said that the server is awaited; where the patience is limited, the tenth is the last
abbrev pub step_after : ℕ → Bool → WaitStep
step_after seconds limited = if seconds == 1 then Say else if limited && nat_le 10 seconds then GiveUp else Wait

-- after ten seconds, once, the board that the client holds is written to a file
abbrev pub is_kept_after : ℕ → Bool
is_kept_after seconds = seconds == 10

-- what the system says of a read or a connection whose time is over
abbrev pub has_waited : ErrorKind → Bool
has_waited WouldBlock = true
has_waited TimedOut = true
has_waited kind = false

-- a frame is of a kind by its fifth byte, which stands behind its length
abbrev pub is_the_kind : Option ℕ → ℕ → Bool
is_the_kind (Some said) kind = said == kind
is_the_kind None kind = false

abbrev pub is_of_kind : List ℕ → ℕ → Bool
is_of_kind frame kind = is_the_kind (slice_get frame 4) kind
