-- Why the system refuses a file or a port.
use Rattle.std.specs.Prelude.{ℕ, List, ◌++◌, codes, decimal}
use Rattle.std.specs.declared.io.ErrorKind.{ErrorKind}
use Rattle.std.specs.declared.io.ErrorKind.TheVariants.{AddrInUse, IsADirectory, NotADirectory, NotFound, PermissionDenied, QuotaExceeded, ReadOnlyFilesystem, StorageFull}
use Rattle.genedit_io.specs.declared.cause.Cause.{Cause}
use Rattle.genedit_io.specs.declared.cause.Cause.TheVariants.{NoFile, NoFolder, Folder, Forbidden, Full, Taken, Other}
use Rattle.genedit_io.specs.declared.fault.RunFault.{RunFault}
use Rattle.genedit_io.specs.declared.fault.RunFault.TheVariants.{Read}
use Rattle.genedit_io.specs.RunFault.{run_fault_text}

-- the cause that a kind of error of the system is
abbrev pub cause_of : ErrorKind → Cause
cause_of NotFound = NoFile
cause_of NotADirectory = NoFolder
cause_of IsADirectory = Folder
cause_of PermissionDenied = Forbidden
cause_of ReadOnlyFilesystem = Forbidden
cause_of StorageFull = Full
cause_of QuotaExceeded = Full
cause_of AddrInUse = Taken
cause_of kind = Other

-- where a file that is to be made is not found, a folder is missing
abbrev pub of_new_file : Cause → Cause
of_new_file NoFile = NoFolder
of_new_file cause = cause

-- in words, of a file
abbrev pub cause_text : Cause → List ℕ
cause_text NoFile = codes "there is no such file"
cause_text NoFolder = codes "there is no such folder"
cause_text Folder = codes "it is a folder"
cause_text Forbidden = codes "permission denied"
cause_text Full = codes "the disk is full"
cause_text Taken = codes "another program has it"
cause_text Other = codes "the system refuses it"

-- in words, behind a port and its number
abbrev pub port_cause_text : Cause → List ℕ
port_cause_text Taken = codes "is taken"
port_cause_text Forbidden = codes "is not for this user"
port_cause_text cause = codes "cannot be had"

-- a fault, the path of the file that it is of, and its cause in words
abbrev pub file_fault_text : RunFault → List ℕ → List ℕ → List ℕ
file_fault_text fault path cause = run_fault_text fault ++ (codes " " ++ (path ++ (codes ": " ++ cause)))

-- that a port cannot be listened at, and its cause
abbrev pub port_fault_text : ℕ → Cause → List ℕ
port_fault_text port cause = run_fault_text Read ++ (codes ": port " ++ (decimal port ++ (codes " " ++ port_cause_text cause)))
