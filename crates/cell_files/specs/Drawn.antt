-- What the tokens of a file draw. The other formats' tokens are those of Golly's RLE by other letters: so they draw what the RLE
-- text draws that has the same tokens behind a header.
use Rattle.std.specs.Prelude.{ℕ, ◌-◌, List, ◌++◌, codes, min, Result, Ok, Err}
use Rattle.pattern_cells.specs.Pattern.{RlePattern}
use Rattle.multistate_rle.specs.declared.fault.RleFault.{RleFault}
use Rattle.multistate_rle.specs.declared.fault.RleFault.TheVariants.{Header, Tag, Count, State, TooMany, Memory}
use Rattle.multistate_rle.specs.Reading.{parsed}

-- a header that names no sides: a pattern is as wide and as high as its cells need
abbrev pub header : List ℕ
header = codes "x=0,y=0\n"

-- a place behind the header, in the file itself: the file's length where the tokens end
abbrev pub place_in_file : ℕ → ℕ → ℕ
place_in_file length place = min (place - 8) length

abbrev pub fault_in_file : ℕ → RleFault → RleFault
fault_in_file length (Tag place) = Tag (place_in_file length place)
fault_in_file length (Count place) = Count (place_in_file length place)
fault_in_file length (State place) = State (place_in_file length place)
fault_in_file length Header = Header
fault_in_file length TooMany = TooMany
fault_in_file length Memory = Memory

abbrev pub in_file : ℕ → Result RlePattern RleFault → Result RlePattern RleFault
in_file length (Ok pattern) = Ok pattern
in_file length (Err fault) = Err (fault_in_file length fault)

-- What tokens draw which a file of so many bytes has, each token in its own place in the file.
abbrev pub drawn : ℕ → List ℕ → Result RlePattern RleFault
drawn length tokens = in_file length (parsed (header ++ tokens))
