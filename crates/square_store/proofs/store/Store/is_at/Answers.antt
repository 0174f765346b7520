use Rattle.std.proofs.Common.{sym, ap, ◌∙◌, refl, Some}
use Rattle.std.proofs.lemmas.Option.{slice_get_within}
use Rattle.square_store.specs.declared.node.Node.{Node}
use Rattle.square_store.proofs.Places.{at_node, node_at}
use Rattle.square_store.proofs.Nodes.{nat_same, same_nat}
use Rattle.square_store.proofs.store.Store.is_at.Goals as goal

pub returns-in-Some-Blank-clause-level : goal.returns-in-Some-Blank-clause-level
returns-in-Some-Blank-clause-level g c =
    let e = sym c.node.ensures ∙ c.in-Some-Blank.is ∙ ap (λ (x : Node). Some x) c.in-Some-Blank.field-0-is in
    (λ _. at_node _ _ _ _ e tt, λ _. refl)

pub returns-in-Some-Leaf-clause-level : goal.returns-in-Some-Leaf-clause-level
returns-in-Some-Leaf-clause-level g c =
    let e = sym c.node.ensures ∙ c.in-Some-Leaf.is ∙ ap (λ (x : Node). Some x) c.in-Some-Leaf.field-0-is in
    (λ h. at_node _ _ _ _ e (nat_same _ _ h), λ h. same_nat _ _ (node_at _ _ _ _ e h))

pub returns-in-Some-Four-clause-level : goal.returns-in-Some-Four-clause-level
returns-in-Some-Four-clause-level g c =
    let e = sym c.node.ensures ∙ c.in-Some-Four.is ∙ ap (λ (x : Node). Some x) c.in-Some-Four.field-0-is in
    (λ h. at_node _ _ _ _ e (nat_same _ _ h), λ h. same_nat _ _ (node_at _ _ _ _ e h))

pub returns-in-None-clause-level : goal.returns-in-None-clause-level
returns-in-None-clause-level g c = (λ z. cc, λ h. absurd (node_at _ _ _ _ (sym c.node.ensures ∙ c.in-None.is) h))

pub returns-in-Some-Blank-clause-held : goal.returns-in-Some-Blank-clause-held
returns-in-Some-Blank-clause-held g c = λ h. slice_get_within _ _ _ (sym c.node.ensures ∙ c.in-Some-Blank.is)

pub returns-in-Some-Leaf-clause-held : goal.returns-in-Some-Leaf-clause-held
returns-in-Some-Leaf-clause-held g c = λ h. slice_get_within _ _ _ (sym c.node.ensures ∙ c.in-Some-Leaf.is)

pub returns-in-Some-Four-clause-held : goal.returns-in-Some-Four-clause-held
returns-in-Some-Four-clause-held g c = λ h. slice_get_within _ _ _ (sym c.node.ensures ∙ c.in-Some-Four.is)
