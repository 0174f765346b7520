-- The states of an edit that writes none of a number or above.
use Rattle.std.proofs.Common.{◌≡◌, ℕ, ◌+◌, ◌<◌, ◌≤◌, Bool, true, false, List, [], ◌∷◌, inl, inr, refl, sym, ap, subst, arith}
use Rattle.std.specs.Prelude.{IsTrue, nat_lt}
use Rattle.std.proofs.lemmas.Bool.{and_parts, cases_Bool}
use Rattle.std.proofs.lemmas.Bool.Decides.{nat_tests}
use Rattle.generations_rule.specs.Place.{Place, is_place}
use Rattle.pattern_cells.specs.declared.cell.Cell.{Cell}
use Rattle.pattern_cells.specs.Cells.{place_of, are_states_below}
use Rattle.stamped_writes.specs.declared.write.Write.{Write}
use Rattle.edit_stamps.specs.Edit.{PlaneEdit, listed, write_by, writes_of, is_covered, has_states_below}
use Rattle.edit_stamps.specs.PlaneMap.{HasStatesBelow}
use Rattle.stamped_writes.specs.Write.{Writes, AreSame}

write_below : (n stamp : ℕ) (cells : List Cell) (c : Place) (covered : Bool) → 0 < n → are_states_below n cells ≡ true → (write_by stamp (listed cells c) covered).state < n
write_below n stamp [] c true some h = some
write_below n stamp [] c false some h = some
write_below n stamp (d ∷ cells) c covered some h = elim (cases_Bool (is_place (place_of d) c)) [
  | inl here ↦ rw here (small (and_parts _ _ h).0)
  | inr other ↦ rw other (write_below n stamp cells c covered some (and_parts _ _ h).1)
]
  where
    small : nat_lt d.state n ≡ true → d.state < n
    small t = grind (arith, nat_tests, t)

pub edit_below : (n : ℕ) (e : PlaneEdit) (p : Writes) → 0 < n → IsTrue (has_states_below n e) → AreSame p (writes_of e) → HasStatesBelow n p
edit_below n e p some h same c = subst (λ (w : Write). w.state < n) (sym (same c)) (write_below n e.stamp e.cells c (is_covered e.area c) some h)
