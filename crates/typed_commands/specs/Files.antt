-- Which files are written, and what is printed of them.
use Rattle.std.specs.Prelude.{ℕ, Bool, List, Vec, ◌++◌, codes, decimal}
use Rattle.std.specs.BTreeSet.{contains_by}
use Rattle.std.specs.declared.alloc.Global.{Global}
use Rattle.std.specs.Cmp.Lexicographic.{slice_cmp}
use Rattle.std.specs.Ordering.{nat_cmp}
use Rattle.std.specs.declared.io.ErrorKind.{ErrorKind}
use Rattle.std.specs.declared.io.ErrorKind.TheVariants.{OutOfMemory}
use Rattle.genedit_io.specs.declared.fault.RunFault.{RunFault}
use Rattle.genedit_io.specs.Cause.{cause_of, cause_text, file_fault_text}
use Rattle.whole_files.specs.declared.refusal.WriteRefusal.{WriteRefusal}
use Rattle.whole_files.specs.declared.refusal.WriteRefusal.TheVariants as refuses
use Rattle.typed_commands.specs.declared.files.FileCause.{FileCause}
use Rattle.typed_commands.specs.declared.files.FileCause.TheVariants as cause
use Rattle.typed_commands.specs.declared.files.FileFault.{FileFault}
use Rattle.typed_commands.specs.declared.files.FileFault.TheVariants as fault
use Rattle.typed_commands.specs.declared.own_files.OwnFiles.{OwnFiles}

-- how a file is not written, by why that is
abbrev pub fault_of : WriteRefusal → FileFault
fault_of refuses.Exists = fault.Refused cause.Exists
fault_of refuses.NoFile = fault.Refused cause.NoFile
fault_of (refuses.System system) = fault.Refused (cause.System system)
fault_of refuses.Memory = fault.Memory

-- the client wrote the file of a name
abbrev pub is_own : OwnFiles → List ℕ → Bool
is_own files name = contains_by (λ (own : Vec ℕ Global). slice_cmp nat_cmp name own.items) files.names

-- how a file is not read, by what the system says
abbrev pub read_fault : ErrorKind → FileFault
read_fault OutOfMemory = fault.Memory
read_fault kind = fault.Refused (cause.System (cause_of kind))

-- why a file is not written or read, in words, and what would be right
abbrev pub file_cause_text : FileCause → List ℕ
file_cause_text (cause.System system) = cause_text system
file_cause_text cause.Exists = codes "there is such a file; save! or export! replaces it"
file_cause_text cause.NoFile = codes "it is no file"
file_cause_text cause.NoText = codes "its name is not UTF-8"

-- a file was written, and has so many bytes
abbrev pub wrote_line : ℕ → List ℕ → List ℕ
wrote_line bytes name = codes "wrote " ++ (decimal bytes ++ (codes " " ++ (name ++ codes "\n")))

-- the refusal of a file: its name, and why
abbrev pub refused_line : RunFault → List ℕ → FileCause → List ℕ
refused_line refusal name cause = file_fault_text refusal name (file_cause_text cause) ++ codes "\n"
