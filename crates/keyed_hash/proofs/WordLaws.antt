-- Numbers come back from their bytes.
use Rattle.std.proofs.Common.{◌≡◌, ℕ, ◌^◌, ◌<◌, arith}
use Rattle.std.specs.Hash.{le_bytes}
use Rattle.keyed_hash.specs.Keyed.{word_of}

pub eight : (n : ℕ) → n < 2 ^ 64 → word_of (le_bytes 8 n) ≡ n
unfolding le_bytes
eight n h = omega (arith, h)

pub four : (n : ℕ) → n < 2 ^ 32 → word_of (le_bytes 4 n) ≡ n
unfolding le_bytes
four n h = omega (arith, h)
