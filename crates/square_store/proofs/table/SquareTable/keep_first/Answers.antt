use Rattle.std.proofs.Common.{◌≡◌, ◌<◌, arith, ◌∙◌, map, length, refl, ap, Some}
use Rattle.std.specs.Prelude.{slice_get, slice_set}
use Rattle.std.proofs.lemmas.Option.{slice_get_read}
use Rattle.std.proofs.lemmas.List.{length-map}
use Rattle.square_store.specs.Stored.{node_of, first_of}
use Rattle.square_store.proofs.Chains.{as_long}
use Rattle.square_store.proofs.Tables.{level_within, map_set, map_same}
use Rattle.square_store.proofs.table.SquareTable.keep_first.Goals as goal

pub invariant_of-self : goal.invariant_of-self
invariant_of-self g c =
    let items = c.self.inside.squares.items in
    let level = rw (← c.self.view_is) at c.requires in
    let within : c.args.place < length items = (let w = level_within _ (map node_of items) c.args.place level in omega (arith, w, length-map items node_of)) in
    let there : slice_get items c.args.place ≡ Some c.index.result.now = slice_get_read items (length items) c.args.place c.index.result.now refl within c.index.ensures in
    let nodes : map node_of (slice_set items c.args.place c.in-Some.square) ≡ map node_of items = map_same node_of items c.args.place _ c.in-Some.square there c.in-Some.ensures.0 in
    rw (nodes, as_long items c.args.place c.in-Some.square) c.self.invariant

pub returns : goal.returns
returns g c =
    let items = c.self.inside.squares.items in
    let level = rw (← c.self.view_is) at c.requires in
    let within : c.args.place < length items = (let w = level_within _ (map node_of items) c.args.place level in omega (arith, w, length-map items node_of)) in
    let there : slice_get items c.args.place ≡ Some c.index.result.now = slice_get_read items (length items) c.args.place c.index.result.now refl within c.index.ensures in
    let nodes : map node_of (slice_set items c.args.place c.in-Some.square) ≡ map node_of items = map_same node_of items c.args.place _ c.in-Some.square there c.in-Some.ensures.0 in
    let firsts : map first_of (slice_set items c.args.place c.in-Some.square) ≡ slice_set (map first_of items) c.args.place (Some c.args.first) = map_set first_of items c.args.place c.in-Some.square ∙ ap (slice_set (map first_of items) c.args.place) c.in-Some.ensures.1 in
    rw (← c.self.view_is) (rw (nodes, firsts, as_long items c.args.place c.in-Some.square) refl)
