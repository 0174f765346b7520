use Rattle.std.proofs.Common.{rules}
use Rattle.std.proofs.lemmas.List.Sorted.{answers_always}
use Rattle.edit_stamps.specs.Edit.{PlaneEdit}
use Rattle.documents.proofs.Places.{place_found}
use Rattle.documents.proofs.put.place_of.Goals as goal

pub returns : goal.returns
returns c =
    place_found c.args.edits.now c.args.stamp c.binary_search_by_key.result c.requires c.binary_search_by_key.ensures.bound
    (c.binary_search_by_key.ensures.position (λ (e : PlaneEdit). e.stamp) (answers_always _ _ _ (λ f a r g h. search rules)))
