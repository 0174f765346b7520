-- Worked values of the definitions.
use Rattle.std.specs.Prelude.{◌≡◌, true, false, Some, None, codes, refl}
use Rattle.std.specs.Fmt.{digits}
use Rattle.genedit_io.specs.declared.cause.Cause.TheVariants.{NoFolder}
use Rattle.genedit_io.specs.declared.fault.RunFault.TheVariants.{Refused}
use Rattle.whole_files.specs.declared.refusal.WriteRefusal.TheVariants as refuses
use Rattle.typed_commands.specs.declared.files.FileCause.TheVariants as cause
use Rattle.typed_commands.specs.declared.files.FileFault.TheVariants as files
use Rattle.typed_commands.specs.Files.{fault_of, refused_line, wrote_line}
use Rattle.typed_commands.specs.Refusals.{refusal_in, refused_number, well_status}

-- ---- files

pub written : wrote_line 120 (codes "a.rle") ≡ codes "wrote 120 a.rle\n"
unfolding digits
written = refl

pub not_written : refused_line (Refused 37 None) (codes "out/a.rle") (cause.System NoFolder) ≡ codes "refused 37 Write out/a.rle: there is no such folder\n"
unfolding digits
not_written = refl

pub not_replaced : refused_line (Refused 37 None) (codes "a.rle") cause.Exists ≡ codes "refused 37 Write a.rle: there is such a file; save! or export! replaces it\n"
unfolding digits
not_replaced = refl

-- a file that stands is told with the commands that replace it; want of memory is no refusal
pub stays : fault_of refuses.Exists ≡ files.Refused cause.Exists
stays = refl

pub wants_memory : fault_of refuses.Memory ≡ files.Memory
wants_memory = refl

-- ---- what came of lines

pub status_of_a_fault_among_lines : well_status (record { faulty = true; refused = true }) ≡ 2
status_of_a_fault_among_lines = refl

pub status_of_a_refusal : well_status (record { faulty = false; refused = true }) ≡ 1
status_of_a_refusal = refl

pub refusal_behind_a_line : refusal_in (codes "drawn 1 1\nrefused 30 Closed\n") ≡ Some (codes "refused 30 Closed\n")
refusal_behind_a_line = refl

pub refusal_amid_a_line : refusal_in (codes "wrote 3 refused 4\n") ≡ None
refusal_amid_a_line = refl

pub number_of_a_refusal : refused_number (codes "wrote 3 a\nrefused 11 StateRange\n") ≡ Some 11
number_of_a_refusal = refl
