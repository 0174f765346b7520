use Rattle.kept_devices.proofs.CrashLaws.{AreLowered}
use Rattle.kept_devices.proofs.moment.lowered.Given as goal

abbrev pub invariant-loop-byte : goal.invariant-loop-byte
invariant-loop-byte l = AreLowered l.left.items l.byte-index l.front
