-- The states of a map where nothing was written.
use Rattle.std.proofs.Common.{◌≡◌, ℕ, ◌<◌, subst, sym}
use Rattle.stamped_writes.specs.declared.write.Write.{Write}
use Rattle.stamped_writes.specs.Write.{Writes, AreSame, unwritten}
use Rattle.edit_stamps.specs.PlaneMap.{HasStatesBelow}

pub blank_below : (n : ℕ) (p : Writes) → 0 < n → AreSame p (λ _. unwritten) → HasStatesBelow n p
blank_below n p some same c = subst (λ (w : Write). w.state < n) (sym (same c)) some
