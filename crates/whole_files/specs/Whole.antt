-- Files that are written.
use Rattle.std.specs.Prelude.{Bool, true, false, Option, Some, None}
use Rattle.std.specs.declared.io.ErrorKind.{ErrorKind}
use Rattle.std.specs.declared.io.ErrorKind.TheVariants.{OutOfMemory}
use Rattle.genedit_io.specs.declared.cause.Cause.TheVariants as cause
use Rattle.genedit_io.specs.Cause.{cause_of, of_new_file}
use Rattle.whole_files.specs.declared.refusal.WriteRefusal.{WriteRefusal}
use Rattle.whole_files.specs.declared.refusal.WriteRefusal.TheVariants.{Exists, NoFile, System, Memory}
use Rattle.whole_files.specs.declared.standing.Standing.{Standing}
use Rattle.whole_files.specs.declared.standing.Standing.TheVariants as stands

-- A file is written where nothing has its name, or a file that may be replaced. Nothing else is ever replaced.
abbrev pub refusal_of : Standing → Bool → Option WriteRefusal
refusal_of stands.Nothing replaces = None
refusal_of stands.File true = None
refusal_of stands.File false = Some Exists
refusal_of stands.Folder replaces = Some (System cause.Folder)
refusal_of stands.Other replaces = Some NoFile

-- why a file is not written, by what the system says: what is not found is its folder
abbrev pub system_refusal : ErrorKind → WriteRefusal
system_refusal OutOfMemory = Memory
system_refusal kind = System (of_new_file (cause_of kind))
