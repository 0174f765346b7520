-- Where whole steps lead.
use Rattle.std.proofs.Common.{ℕ, ◌+◌, ◌-◌, ◌*◌, ◌/◌, ◌<◌, ◌≤◌, arith}
use Rattle.std.proofs.Math.Nat.{div-mul-le_self, mul-le-mul_right}

-- no further than to the last
pub steps_within : (way step steps : ℕ) → steps ≤ way / step → steps * step ≤ way
steps_within way step steps few =
    let far = mul-le-mul_right step few in
    let most = div-mul-le_self way step in
    omega (arith, far, most)

-- nor past what holds the first and the last
pub leads_within : (first last step steps limit : ℕ) → first < limit → last < limit → steps ≤ (last - first) / step → first + steps * step < limit
leads_within first last step steps limit one other few =
    let far = steps_within (last - first) step steps few in
    omega (arith, far)
