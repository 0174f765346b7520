use Rattle.std.proofs.Common.{◌≤◌, ◌-◌, ◌^◌, arith}
use Rattle.std.proofs.Math.Pow.{pow_mono}
use Rattle.macrocell_universes.proofs.reach.half_side.Goals as goal

pub returns-clause-most : goal.returns-clause-most
returns-clause-most c = (let e : 2 ^ (c.args.level - 1) ≤ 2 ^ 62 = pow_mono {j = 62} (omega (arith, c.requires.few)) in omega (arith, e))
