use Rattle.std.proofs.Common.{◌≡◌, ℕ, ◌/◌, ◌%◌, arith}
use Rattle.std.specs.Prelude.{ℤ, ◌+ℤ◌, ◌-ℤ◌, pos, nat_abs}
use Rattle.std.proofs.lemmas.Int.{ints, to_z-of_z}
use mir.Syntax.{w32, w64}
use mir.Val.{to_z, of_z}
use Rattle.tile_steps.proofs.filling.split_of.Goals as goal

pub returns : goal.returns
returns c =
    let n : ℤ = c.args.n in
    let own : to_z w32 (of_z w32 n) ≡ n = to_z-of_z w32 n c.ranges.n in
    let shifted : ℕ = nat_abs (to_z w64 (of_z w64 (to_z w64 (of_z w64 c.from.result) +ℤ pos 2147483648))) in
    let a = c.from.ensures in let b = c.from-2.ensures in let d = c.from-3.ensures in
    let low : c.from.result ≡ n = omega (arith, ints, a, own) in
    let first : to_z w32 (of_z w32 (to_z w64 (of_z w64 (to_z w64 (of_z w64 c.from-2.result) -ℤ to_z w64 (of_z w64 c.from-3.result))))) ≡ n -ℤ pos (shifted % 32) = omega (arith, ints, a, b, d, own, c.ranges.n) in
    record {
      within = omega arith;
      there = omega (arith, ints, first);
      grid = record { ups = shifted / 32; downs = 67108864; is = omega (arith, ints, first, low) };
    }
