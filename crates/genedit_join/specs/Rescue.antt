-- The board of a client that lost its server, in a file.
use Rattle.std.specs.Prelude.{ℕ, Bool, ◌==◌, not, if◌then◌else◌, List, ◌++◌, codes, decimal}
use Rattle.std.specs.Str.{bytes_eq}
use Rattle.genedit_io.specs.Cause.{file_fault_text}
use Rattle.genedit_io.specs.declared.fault.RunFault.TheVariants.{Write}
use Rattle.typed_commands.specs.Files.{file_cause_text}
use Rattle.typed_commands.specs.declared.files.FileCause.{FileCause}
use Rattle.genedit_join.specs.declared.rescue.Holding.{Holding}
use Rattle.genedit_join.specs.declared.rescue.Holding.TheVariants.{Same, Other}
use Rattle.genedit_join.specs.declared.rescue.Kept.{Kept}
use Rattle.genedit_join.specs.declared.rescue.Kept.TheVariants.{In, Nowhere}
use Rattle.genedit_join.specs.declared.rescue.SeatPlace.{SeatPlace}

-- a map whose greatest stamp is this one has a write: 0 is no stamp
abbrev pub has_writes : ℕ → Bool
has_writes greatest = not (greatest == 0)

-- a file's name, by the port, the seat and a number from 1 on
abbrev pub rescue_name : SeatPlace → ℕ → List ℕ
rescue_name place number = codes "pazgrot-" ++ (decimal place.port ++ (codes "-" ++ (decimal place.seat ++ (codes "-" ++ (decimal number ++ codes ".state")))))

-- what a name has whose file has these bytes, beside those of a board
abbrev pub holding_of : List ℕ → List ℕ → Holding
holding_of bytes text = if bytes_eq bytes text then Same else Other

abbrev pub in_file_text : List ℕ → List ℕ
in_file_text name = codes "the board is kept in " ++ name

abbrev pub nowhere_text : List ℕ → FileCause → List ℕ
nowhere_text name cause = codes "the board is not kept: " ++ file_fault_text Write name (file_cause_text cause)

-- a board is kept in a file; or it is not, and why
abbrev pub kept_text : Kept → List ℕ
kept_text (In name) = in_file_text name
kept_text (Nowhere name cause) = nowhere_text name cause
