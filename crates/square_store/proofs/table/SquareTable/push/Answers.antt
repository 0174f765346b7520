use Rattle.std.proofs.Common.{◌≡◌, ◌<◌, ◌∙◌, ◌++◌, ◌∷◌, [], map, length, suc, arith, sym, ap, subst}
use Rattle.std.proofs.lemmas.List.{length-map}
use Rattle.square_store.specs.Groups.{IsPut, head_of, tag_of}
use Rattle.square_store.specs.Stored.{node_hash, node_of}
use Rattle.square_store.proofs.Chains.{some_tag}
use Rattle.square_store.proofs.Growth.{longer}
use Rattle.square_store.proofs.Tables.{last_met, map_more, put_as}
use Rattle.square_store.proofs.table.SquareTable.push.Goals as goal

pub put-requires-clause-tag : goal.put-requires-clause-tag
put-requires-clause-tag g c = subst (λ t. 0 < t) (sym c.tag_of.ensures) (some_tag c.hash_of-hash.result)

pub invariant_of-self : goal.invariant_of-self
invariant_of-self g c =
    let s = c.self.inside in
    let items = s.squares.items in
    let spare = rw (← c.self.view_is) at c.requires.spare in
    let some : 0 < s.heads = omega (arith, spare) in
    let put : IsPut s.groups.items c.put.new.groups.items (head_of s.heads (node_hash s.key c.args.node)) (tag_of (node_hash s.key c.args.node)) (length (map node_of items))
    = put_as _ _ _ _ _ _ _ _ (c.head_of.ensures.head ∙ ap (head_of s.heads) c.hash_of-hash.ensures) (c.tag_of.ensures ∙ ap tag_of c.hash_of-hash.ensures) (c.len-place.ensures ∙ s.squares.ok.0 ∙ sym (length-map items node_of)) c.put.ensures in
    let nodes : map node_of c.push_reserved.new.self.items ≡ map node_of items ++ c.args.node ∷ [] = ap (map node_of) c.push_reserved.ensures.items ∙ map_more node_of items c.of.result ∙ ap (λ x. map node_of items ++ x ∷ []) c.of.ensures.node in (
      rw nodes (last_met s.key s.groups.items c.put.new.groups.items s.heads (map node_of items) c.args.node some c.self.invariant.0 put),
      ap length c.push_reserved-2.ensures.items ∙ longer s.summaries.items c.args.summary ∙ ap suc c.self.invariant.1 ∙ sym (ap length c.push_reserved.ensures.items ∙ longer items c.of.result),
    )
