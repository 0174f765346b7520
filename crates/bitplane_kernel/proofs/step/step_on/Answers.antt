use Rattle.std.proofs.Common.{◌^◌, ◌+◌, arith}
use Rattle.bitplane_kernel.specs.Step.{AreBelow, live_in}
use Rattle.bitplane_kernel.proofs.step.step_on.Goals as goal

pub returns : goal.returns
returns N c = record {
  inner = λ x y hx hy below.
      let wide : AreBelow (2 ^ N.row.N) c.args.planes.now x y = record { below = λ u v a b d e. omega (arith, below.below u v a b d e, c.requires.enough) } in
      c.make_changes.ensures (x + 1) (y + 1) (live_in c.args.planes.now x y) (omega arith) (omega arith)
      (below.below (x + 1) (y + 1) (omega arith) (omega arith) (omega arith) (omega arith)) (c.find_changes-changes.ensures x y hx hy wide);
}
