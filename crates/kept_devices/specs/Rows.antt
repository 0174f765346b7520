-- Worked values of the definitions.
use Rattle.std.specs.Prelude.{◌≡◌, [], ◌∷◌, refl}
use Rattle.std.proofs.Common.{inl}
use Rattle.kept_devices.specs.Standing.{MayLeave, Standing, added, cutting, replacing, stands, synced}
use Rattle.kept_devices.specs.Standing.MayLeave.{Added, Cut, Replaced, Uncut}

-- three bytes that are on the disk
abbrev three : Standing
three = stands (1 ∷ 2 ∷ 3 ∷ [])

pub then_synced : synced (added (4 ∷ 5 ∷ []) three) ≡ stands (1 ∷ 2 ∷ 3 ∷ 4 ∷ 5 ∷ [])
then_synced = refl

-- of two bytes that were added, none may stand there
pub none_of_two : MayLeave (added (4 ∷ 5 ∷ []) three) (1 ∷ 2 ∷ 3 ∷ [])
none_of_two = Added [] tt refl

-- of two that are being cut off, one may come back
pub one_comes_back : MayLeave (cutting 1 three) (1 ∷ 2 ∷ [])
one_comes_back = Cut 1 refl

-- or both, and what was pending behind them
pub all_come_back : MayLeave (cutting 1 three) (1 ∷ 2 ∷ 3 ∷ [])
all_come_back = Uncut [] tt refl

pub another_in_its_place : MayLeave (replacing (7 ∷ []) three) (7 ∷ [])
another_in_its_place = Replaced (inl refl)
