use Rattle.std.proofs.Common.{◌≡◌, ◌++◌, take}
use Rattle.std.specs.Prelude.{map}
use Rattle.cell_files.specs.MCell.{rle_byte}
use Rattle.cell_files.proofs.mcell.push_tokens.Given as goal

abbrev pub invariant-loop-byte : goal.invariant-loop-byte
invariant-loop-byte l = l.out.items ≡ l.initial.out.items ++ map rle_byte (take l.byte-index l.tokens)
