use Rattle.std.proofs.Common.{rules, List, refl, sym, subst}
use Rattle.std.specs.List.Sorted.{IsNonDecreasingBy}
use Rattle.std.proofs.lemmas.Fn.{dedup_same}
use Rattle.std.proofs.lemmas.List.Sorted.{IsNonDecreasingBy-from_sort_by_key}
use Rattle.edit_stamps.specs.Edit.{PlaneEdit}
use Rattle.documents.specs.Sets.{ClashesWithin, HasNoTwo}
use Rattle.documents.proofs.Distinct.{clash_before, same_stamp, set_found}
use Rattle.documents.proofs.set.set_of.Goals as goal

pub clash_within-requires : goal.clash_within-requires
clash_within-requires c =
    subst (IsNonDecreasingBy (λ (e : PlaneEdit). e.stamp)) (sym c.deref.ensures.value)
    (IsNonDecreasingBy-from_sort_by_key (λ (e : PlaneEdit). e.stamp) c.sort_unstable_by_key.new.self.items c.sort_unstable_by_key.ensures.sorted (λ a r q k. search rules))

pub returns-in-Some : goal.returns-in-Some
returns-in-Some c =
    clash_before c.args.edits.items c.sort_unstable_by_key.new.self.items c.in-Some.stamp c.sort_unstable_by_key.ensures.permutation
    (subst (λ (l : List PlaneEdit). ClashesWithin l c.in-Some.stamp) c.deref.ensures.value c.in-Some.ensures.some)

pub returns-in-None : goal.returns-in-None
returns-in-None c =
    set_found c.args.edits.items c.sort_unstable_by_key.new.self.items c.dedup_by_key.new.self.items c.sort_unstable_by_key.ensures.permutation
    (IsNonDecreasingBy-from_sort_by_key (λ (e : PlaneEdit). e.stamp) c.sort_unstable_by_key.new.self.items c.sort_unstable_by_key.ensures.sorted (λ a r q k. search rules))
    (subst HasNoTwo c.deref.ensures.value (c.in-None.ensures.none refl))
    (dedup_same _ same_stamp _ (λ x y b f' x' y' k. search rules) _ _ c.dedup_by_key.ensures.filtered)
