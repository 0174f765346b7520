use Rattle.std.proofs.Common.{take, refl}
use Rattle.std.proofs.lemmas.List.{take_more}
use Rattle.kept_devices.proofs.CrashLaws.{all_lowered, one_lowered}
use Rattle.kept_devices.proofs.moment.lowered.Goals as goal

pub loop-byte-preserved : goal.loop-byte-preserved
loop-byte-preserved c =
    one_lowered c.loop-byte.left.items c.push.new.self.items (take c.count_left.result c.args.bytes.now) c.loop-byte.byte-index c.less.result _ c.loop-byte.invariant
    (take_more (take c.count_left.result c.args.bytes.now) c.loop-byte.byte-index 0 c.loop-byte-test.true) c.less.ensures c.in_ok-push.ensures.items

pub returns : goal.returns
returns c = all_lowered c.loop-byte.left.items (take c.count_left.result c.args.bytes.now) c.args.bytes.now c.loop-byte.byte-index c.count_left.result c.loop-byte.invariant refl
