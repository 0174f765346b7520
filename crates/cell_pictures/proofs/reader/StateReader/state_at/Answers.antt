use Rattle.std.proofs.Common.{◌≡◌, ◌∙◌, ap, w32, to_z, of_z, List}
use Rattle.std.proofs.lemmas.Int.{to_z-of_z}
use Rattle.generations_rule.specs.Place.{Place, at_place}
use Rattle.pattern_cells.specs.declared.cell.Cell.{Cell}
use Rattle.cell_pictures.specs.Shown.{state_at}
use Rattle.cell_pictures.specs.Reader.{first_state, from_place}
use Rattle.cell_pictures.proofs.ReaderLaws.{first_is, from_sorted, from_states}
use Rattle.cell_pictures.proofs.reader.StateReader.state_at.Goals as goal

pub invariant_of-self : goal.invariant_of-self
invariant_of-self c =
    let rest = c.args.self.now.rest.now in
    record { sorted = rw c.from_place-self.ensures (from_sorted (at_place (to_z w32 (of_z w32 c.args.x)) (to_z w32 (of_z w32 c.args.y))) rest c.args.self.now.sorted) }

pub returns : goal.returns
returns c =
    let x : to_z w32 (of_z w32 c.args.x) ≡ c.args.x = to_z-of_z w32 c.args.x c.ranges.x in
    let y : to_z w32 (of_z w32 c.args.y) ≡ c.args.y = to_z-of_z w32 c.args.y c.ranges.y in
    let rest = c.args.self.now.rest.now in
    let p = at_place c.args.x c.args.y in
    let place : at_place (to_z w32 (of_z w32 c.args.x)) (to_z w32 (of_z w32 c.args.y)) ≡ p = λ i. at_place (x i) (y i) in
    let left : c.from_place-self.result.now ≡ from_place p rest = c.from_place-self.ensures ∙ ap (λ (q : Place). from_place q rest) place in
    let first : c.first_state.result ≡ first_state p (from_place p rest) = c.first_state.ensures ∙ (λ i. first_state (place i) (left i)) in
    record {
      state = first ∙ first_is p rest c.args.self.now.sorted;
      rest = λ q behind. ap (λ (cells : List Cell). state_at cells q) left ∙ from_states p rest q behind;
    }
