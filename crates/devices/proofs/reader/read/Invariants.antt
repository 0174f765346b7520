use Rattle.std.specs.Io.KnownBytes.{Keeps}
use Rattle.devices.proofs.reader.read.Given as goal

-- reads that were interrupted took nothing
abbrev pub invariant-loop-try : goal.invariant-loop-try
invariant-loop-try g l = Keeps (g.R.Read.remaining l.fn.reader) (g.R.Read.remaining l.reader)
