use Rattle.std.proofs.Common.{◌≡◌, ◌+◌, ◌*◌, ◌<◌, ◌≤◌, ℕ, max, drop}
use Rattle.std.specs.Int.{bit_at}
use Rattle.macrocell_text.specs.Marks.{first_spot, misplaced, state_marked}
use Rattle.macrocell_text.proofs.marks.rows_told.Given as goal

abbrev pub invariant-loop-i : goal.invariant-loop-i
invariant-loop-i l = record {
  column : l.spot.column ≤ l.i;
  row : l.spot.row ≤ l.i;
  well : misplaced (l.place + l.i) l.spot (drop l.i l.marks) ≡ misplaced l.place first_spot l.marks;
  bits : (u v : ℕ) → u < 8 → v < 8 → max (bit_at l.rows (8 * v + u)) (state_marked l.spot (drop l.i l.marks) u v) ≡ state_marked first_spot l.marks u v;
}
