-- States stay below a number as writes are joined.
use Rattle.std.proofs.Common.{◌≡◌, ℕ, ◌<◌, Bool, true, false, List, [], ◌∷◌, sym, subst, arith, inl, inr, pos}
use Rattle.std.specs.Prelude.{IsTrue, Option, Some, None, IfSome, nat_lt}
use Rattle.std.proofs.lemmas.Bool.{cases_Bool, and_parts, ltb-true}
use Rattle.generations_rule.specs.Place.{Place, is_place}
use Rattle.pattern_cells.specs.declared.cell.Cell.{Cell}
use Rattle.pattern_cells.specs.Cells.{are_states_below, place_of}
use Rattle.stamped_writes.specs.declared.write.Write.{Write}
use Rattle.edit_stamps.specs.Edit.{PlaneEdit, HaveStatesBelow, greatest, has_states_below, is_covered, listed, write_by, writes_of}
use Rattle.edit_stamps.specs.Laws.{WritesStatesBelow}
use Rattle.edit_stamps.specs.PlaneMap.{HasStatesBelow}
use Rattle.stamped_writes.specs.Write.{at_most, greater, Writes, AreSame, joined}

-- ---- joins

-- the same map has the same states
pub states_kept : (n : ℕ) (p q : Writes) → AreSame q p → HasStatesBelow n p → HasStatesBelow n q
states_kept n p q same below c = subst (λ w. w.state < n) (sym (same c)) (below c)

greater_below : (n : ℕ) (v w : Write) → v.state < n → w.state < n → (greater v w).state < n
greater_below n v w h k = elim (cases_Bool (at_most v w)) [ inl t ↦ rw t k | inr f ↦ rw f h ]

-- a join has the states of the two
pub states_joined : (n : ℕ) (p q added : Writes) → AreSame q (joined p added) → HasStatesBelow n p → HasStatesBelow n added → HasStatesBelow n q
states_joined n p q added whole below more c = subst (λ w. w.state < n) (sym (whole c)) (greater_below n (p c) (added c) (below c) (more c))

-- some state is below the number, so 0 is
pub zero_below : (n : ℕ) (p : Writes) → HasStatesBelow n p → 0 < n
zero_below n p below = omega (arith, below (record { x = pos 0; y = pos 0 }))

-- ---- edits

listed_below : (n : ℕ) (cells : List Cell) (c : Place) → are_states_below n cells ≡ true → IfSome (listed cells c) (λ state. state < n)
listed_below n [] c all = tt
listed_below n (a ∷ cells) c all =
    let parts = and_parts (nat_lt a.state n) (are_states_below n cells) all in
    elim (cases_Bool (is_place (place_of a) c)) [
      | inl here ↦ rw here (ltb-true a.state n parts.0)
      | inr later ↦ rw later (listed_below n cells c parts.1)
    ]

by_below : (n stamp : ℕ) (o : Option ℕ) (covered : Bool) → 0 < n → IfSome o (λ state. state < n) → (write_by stamp o covered).state < n
by_below n stamp (Some state) covered some below = below
by_below n stamp None true some below = some
by_below n stamp None false some below = some

-- the writes of an edit
pub written_below : (n : ℕ) (e : PlaneEdit) → 0 < n → IsTrue (has_states_below n e) → HasStatesBelow n (writes_of e)
written_below n e some below c = by_below n e.stamp (listed e.cells c) (is_covered e.area c) some (listed_below n e.cells c below)

-- the greatest writes of edits
pub greatest_below : (n : ℕ) (edits : List PlaneEdit) → 0 < n → HaveStatesBelow n edits → HasStatesBelow n (greatest edits)
greatest_below n [] some below c = some
greatest_below n (e ∷ edits) some below c = greater_below n (writes_of e c) (greatest edits c) (written_below n e some below.0 c) (greatest_below n edits some below.1 c)

pub writes_states_below : WritesStatesBelow
writes_states_below = record { one = written_below; greatest = greatest_below }
