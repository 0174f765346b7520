use Rattle.std.proofs.Common.{◌≡◌, take}
use Rattle.command_words.specs.Films.{film_name_at}
use Rattle.client_commands.proofs.film.name_at.Given as goal

-- of the bytes so far
abbrev pub invariant-loop-byte : goal.invariant-loop-byte
invariant-loop-byte l = l.told.items ≡ film_name_at (take l.byte-index l.name) l.generation
