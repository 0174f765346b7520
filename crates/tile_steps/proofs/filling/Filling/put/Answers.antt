use Rattle.std.proofs.Common.{◌≡◌, ◌∙◌, inl, inr, sym, subst, arith, rules}
use Rattle.std.proofs.lemmas.Int.{to_z-of_z}
use mir.Syntax.{w32}
use mir.Val.{to_z, of_z}
use Rattle.tile_steps.specs.Tiles.{IsOnGrid}
use Rattle.tile_steps.proofs.PutLemmas.{corner_as, has_set, in_tile, set_shows, split_as}
use Rattle.tile_steps.proofs.filling.Filling.put.Goals as goal

pub turn_to-requires : goal.turn_to-requires
turn_to-requires N c =
    let column : to_z w32 (of_z w32 c.split_of-column.result.first) ≡ c.split_of-column.result.first = to_z-of_z w32 _ (record { sfits = c.split_of-column.type_inv.1.1.0.1 }) in
    let row : to_z w32 (of_z w32 c.split_of-row.result.first) ≡ c.split_of-row.result.first = to_z-of_z w32 _ (record { sfits = c.split_of-row.type_inv.1.1.0.1 }) in
    (first_of (search rules, omega (arith, c.requires.few), grind (arith, c.requires.few)), record { column = subst (IsOnGrid 0) (sym column) c.split_of-column.ensures.grid; row = subst (IsOnGrid 0) (sym row) c.split_of-row.ensures.grid })

pub returns-clause-put : goal.returns-clause-put
returns-clause-put N c = λ f shows.
    let column : to_z w32 (of_z w32 c.split_of-column.result.first) ≡ c.split_of-column.result.first = to_z-of_z w32 _ (record { sfits = c.split_of-column.type_inv.1.1.0.1 }) in
    let row : to_z w32 (of_z w32 c.split_of-row.result.first) ≡ c.split_of-row.result.first = to_z-of_z w32 _ (record { sfits = c.split_of-row.type_inv.1.1.0.1 }) in
    set_shows N.row.N _ _ _ _ _ c.args.x c.args.y c.split_of-column.result.offset c.split_of-row.result.offset c.args.state f
    (c.in_ok-turn_to.ensures.corner ∙ corner_as _ _ _ _ row column) c.set_state.ensures
    (split_as _ _ _ _ (to_z-of_z w32 c.args.x c.ranges.x) c.split_of-column.ensures) (split_as _ _ _ _ (to_z-of_z w32 c.args.y c.ranges.y) c.split_of-row.ensures) (c.in_ok-turn_to.ensures.shows f shows)

pub returns-clause-corners : goal.returns-clause-corners
returns-clause-corners N c = λ q has.
    let column : to_z w32 (of_z w32 c.split_of-column.result.first) ≡ c.split_of-column.result.first = to_z-of_z w32 _ (record { sfits = c.split_of-column.type_inv.1.1.0.1 }) in
    let row : to_z w32 (of_z w32 c.split_of-row.result.first) ≡ c.split_of-row.result.first = to_z-of_z w32 _ (record { sfits = c.split_of-row.type_inv.1.1.0.1 }) in
    elim (c.in_ok-turn_to.ensures.corners q (has_set N.row.N _ _ _ _ q has)) [
      | inl before ↦ inl before
      | inr here ↦ inr (in_tile _ _ _ _ _ _ q (here ∙ corner_as _ _ _ _ row column) (split_as _ _ _ _ (to_z-of_z w32 c.args.x c.ranges.x) c.split_of-column.ensures) (split_as _ _ _ _ (to_z-of_z w32 c.args.y c.ranges.y) c.split_of-row.ensures))
    ]
