use Rattle.std.proofs.Common.{◌≡◌, true, subst}
use Rattle.std.proofs.lemmas.Option.{slice_get_within}
use Rattle.square_store.proofs.Lists.{found, not_found}
use Rattle.square_store.proofs.Nodes.{some_map, none_map}
use Rattle.square_store.proofs.store.Store.find_leaf.Goals as goal

pub returns-in-Some-clause-some : goal.returns-in-Some-clause-some
returns-in-Some-clause-some g c =
    let eq = g.L.PartialEq.eq in
    let at = found eq (λ a b. (g.met.L.LeafKind.same a b, λ e. subst (λ z. eq a z ≡ true) e (g.met.L.Eq.laws.refl a))) c.args.leaf.now _ _ c.in-Some.ensures.index in
    some_map c.find.result (λ p e. (c.in-Some.at, e, rw (← c.self.view_is) at)) c.find.ensures.some

pub returns-in-Some-clause-none : goal.returns-in-Some-clause-none
returns-in-Some-clause-none g c =
    let eq = g.L.PartialEq.eq in
    let at = found eq (λ a b. (g.met.L.LeafKind.same a b, λ e. subst (λ z. eq a z ≡ true) e (g.met.L.Eq.laws.refl a))) c.args.leaf.now _ _ c.in-Some.ensures.index in
    let named = c.self.invariant.0.canonical.named c.in-Some.at (slice_get_within _ _ _ at) in
    none_map c.find.result (λ absent. absurd (absent named.0 (rw (← c.self.view_is) named.1))) c.find.ensures.none

pub returns-in-None-clause-none : goal.returns-in-None-clause-none
returns-in-None-clause-none g c =
    let eq = g.L.PartialEq.eq in
    rw (← c.self.view_is) (not_found eq (λ a b. (g.met.L.LeafKind.same a b, λ e. subst (λ z. eq a z ≡ true) e (g.met.L.Eq.laws.refl a))) c.args.leaf.now _ c.in-None.ensures.index)
