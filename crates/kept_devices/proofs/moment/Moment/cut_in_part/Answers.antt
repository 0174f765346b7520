use Rattle.std.proofs.Common.{take, ap, List, ℕ}
use Rattle.kept_devices.specs.Memory.{standing_of}
use Rattle.kept_devices.proofs.CrashLaws.{may_be_cut}
use Rattle.kept_devices.proofs.moment.Moment.cut_in_part.Goals as goal

pub returns : goal.returns
returns c = may_be_cut c.joined.result (standing_of c.args.self.now) _ _ c.up_to-left.result c.deref.ensures.value (ap (λ (l : List ℕ). take c.up_to-left.result l) c.deref-2.ensures.value) c.joined.ensures
