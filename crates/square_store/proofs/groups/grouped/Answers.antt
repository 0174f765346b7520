use Rattle.std.proofs.Common.{◌≡◌, ◌<◌, ◌∙◌, map, length, replicate, refl, sym, ap, subst, arith, Some}
use Rattle.std.specs.Prelude.{slice_get}
use Rattle.std.proofs.lemmas.List.{length-map}
use Rattle.std.proofs.lemmas.Option.{slice_get_read}
use Rattle.square_store.specs.Groups.{IsPut, empty_group, head_of, tag_of}
use Rattle.square_store.specs.Stored.{node_hash, node_of}
use Rattle.square_store.proofs.Chains.{some_tag}
use Rattle.square_store.proofs.Tables.{AreMetUpTo, none_met, one_more_met, all_met, put_as, made_empty, got_map}
use Rattle.square_store.proofs.groups.grouped.Goals as goal

pub loop-place-init : goal.loop-place-init
loop-place-init c =
    let made : c.resize.new.self.items ≡ replicate c.args.heads empty_group = c.in_ok-resize.ensures.items ∙ made_empty c.args.heads _ _ _ c.in_ok-groups.ensures.items c.in_ok-groups.ensures.len c.empty.ensures in
    subst (λ gs. AreMetUpTo c.args.key.now gs c.args.heads (map node_of c.args.squares.now) 0) (sym made) (none_met c.args.key.now c.args.heads (map node_of c.args.squares.now))

pub put-requires-clause-tag : goal.put-requires-clause-tag
put-requires-clause-tag c = subst (λ t. 0 < t) (sym c.tag_of.ensures) (some_tag c.hash_of-hash.result)

pub loop-place-preserved : goal.loop-place-preserved
loop-place-preserved c =
    let key = c.args.key.now in
    let place = c.loop-place.place in
    let within : place < length c.args.squares.now = omega (arith, c.loop-place-test.true) in
    let there : slice_get (map node_of c.args.squares.now) place ≡ Some c.node.result = got_map node_of c.args.squares.now place c.index-squares-place.result (slice_get_read c.args.squares.now (length c.args.squares.now) place c.index-squares-place.result refl within c.index-squares-place.is) ∙ ap (λ x. Some x) (sym c.node.ensures) in
    let put : IsPut c.reserve_group.new.groups.items c.put.new.groups.items (head_of c.args.heads (node_hash key c.node.result)) (tag_of (node_hash key c.node.result)) place
    = put_as _ _ _ _ _ _ _ _ (c.head_of.ensures.head ∙ ap (head_of c.args.heads) c.hash_of-hash.ensures) (c.tag_of.ensures ∙ ap tag_of c.hash_of-hash.ensures) refl c.put.ensures in
    one_more_met key c.loop-place.groups.items c.put.new.groups.items c.args.heads (map node_of c.args.squares.now) place c.node.result c.loop-place.invariant there
    (subst (λ gs. IsPut gs c.put.new.groups.items (head_of c.args.heads (node_hash key c.node.result)) (tag_of (node_hash key c.node.result)) place) c.in_ok-reserve_group.ensures.items put)

pub returns : goal.returns
returns c = all_met c.args.key.now c.loop-place.groups.items c.args.heads (map node_of c.args.squares.now) c.loop-place.place c.requires.some (omega (arith, c.loop-place-test.false, length-map c.args.squares.now node_of)) c.loop-place.invariant
