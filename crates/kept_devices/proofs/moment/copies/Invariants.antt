use Rattle.kept_devices.proofs.CrashLaws.{AreCopied}
use Rattle.kept_devices.proofs.moment.copies.Given as goal

abbrev pub invariant-loop-text : goal.invariant-loop-text
invariant-loop-text l = AreCopied l.all.items l.text-index l.texts
