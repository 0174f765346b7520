-- Worked values of the definitions.
use Rattle.std.specs.Prelude.{◌≡◌, true, false, Some, None, refl}
use Rattle.std.specs.declared.io.ErrorKind.TheVariants.{NotFound, StorageFull}
use Rattle.genedit_io.specs.declared.cause.Cause.TheVariants as cause
use Rattle.whole_files.specs.declared.refusal.WriteRefusal.TheVariants.{Exists, System}
use Rattle.whole_files.specs.declared.standing.Standing.TheVariants as stands
use Rattle.whole_files.specs.Whole.{refusal_of, system_refusal}

pub stays : refusal_of stands.File false ≡ Some Exists
stays = refl

pub is_replaced : refusal_of stands.File true ≡ None
is_replaced = refl

pub folder_stays : refusal_of stands.Folder true ≡ Some (System cause.Folder)
folder_stays = refl

pub no_folder : system_refusal NotFound ≡ System cause.NoFolder
no_folder = refl

pub full : system_refusal StorageFull ≡ System cause.Full
full = refl
