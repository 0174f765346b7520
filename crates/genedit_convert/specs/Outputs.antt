-- The file that is written.
use Rattle.std.specs.Prelude.{ℕ, ◌-◌, Bool, List, length, drop, codes}
use Rattle.std.specs.Str.{bytes_eq}
use Rattle.genedit_io.specs.Cause as causes
use Rattle.whole_files.specs.declared.refusal.WriteRefusal.{WriteRefusal}
use Rattle.whole_files.specs.declared.refusal.WriteRefusal.TheVariants.{Exists, NoFile, System, Memory}

-- the name of an RLE file
abbrev pub ends_with_rle : List ℕ → Bool
ends_with_rle path = bytes_eq (drop (length path - 4) path) (codes ".rle")

-- what is said of it, behind the file's name
abbrev pub output_text : WriteRefusal → List ℕ
output_text Exists = codes "there is such a file; --replace replaces it"
output_text NoFile = codes "it is no file"
output_text (System why) = causes.cause_text why
output_text Memory = codes "out of memory"

-- the status of the process: the words are at fault, a write failed, or memory
abbrev pub output_status : WriteRefusal → ℕ
output_status Exists = 2
output_status NoFile = 4
output_status (System why) = 4
output_status Memory = 5
