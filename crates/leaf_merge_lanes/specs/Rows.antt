-- Worked values of the definitions.
use Rattle.std.specs.Prelude.{◌≡◌, ℕ, List, [], ◌∷◌, refl, replicate, slice_set, true, false}
use Rattle.stamped_writes.specs.declared.write.Write.{Write}
use Rattle.stamped_writes.specs.Write.{greater, unwritten}
use Rattle.leaf_merge_lanes.specs.Lanes.{zip2}
use Rattle.leaf_merge_lanes.specs.Leaf.{write_of, write_on_leaf, stamps_of, states_of}
use Rattle.leaf_merge_lanes.specs.Same.{is_same}

abbrev one_written : ℕ → List Write
one_written state = slice_set (replicate 64 unwritten) 63 (write_of 65537 state)

-- of two states with one stamp the greater stays, whichever side it is on
pub ties : zip2 greater (one_written 1) (one_written 2) ≡ one_written 2
ties = refl

pub ties_turned_round : zip2 greater (one_written 2) (one_written 1) ≡ one_written 2
ties_turned_round = refl

-- a greater counter wins over a greater replica, and a stamp over a state
pub stamps_decide : zip2 greater (write_of 131071 9 ∷ write_of 65537 0 ∷ []) (write_of 131073 0 ∷ write_of 0 9 ∷ []) ≡ write_of 131073 0 ∷ write_of 65537 0 ∷ []
stamps_decide = refl

pub last_place : write_on_leaf (one_written 1) 63 ≡ write_of 65537 1
last_place = refl

pub other_places : write_on_leaf (one_written 1) 62 ≡ unwritten
other_places = refl

pub stamps : stamps_of (write_of 65537 1 ∷ unwritten ∷ []) ≡ 65537 ∷ 0 ∷ []
stamps = refl

pub states : states_of (write_of 65537 1 ∷ unwritten ∷ []) ≡ 1 ∷ 0 ∷ []
states = refl

pub same_leaves : is_same (one_written 1) (one_written 1) ≡ true
same_leaves = refl

pub other_state : is_same (one_written 1) (one_written 2) ≡ false
other_state = refl
