use Rattle.std.proofs.Common.{◌≡◌, ◌∙◌, List, Err, IfErr, ap, sym, subst, rules}
use Rattle.generations_rule.specs.Rule.{GenerationsRule}
use Rattle.edit_stamps.specs.Edit.{HaveStatesBelow, PlaneEdit}
use Rattle.document_bodies.specs.Bodies.{AreEditsUnder}
use Rattle.delta_exchange.specs.declared.message.Content.TheVariants.{Edits}
use Rattle.replica_core.specs.Exchange.{TakesSome}
use Rattle.replica_core.specs.Replica.{IsNew, MeetsWant}
use Rattle.square_store.specs.declared.limits.Limits.{Limits}
use Rattle.genedit_documents.specs.Holding.{IsHoldingWant}
use Rattle.genedit_documents.specs.Listing.{first_of}
use Rattle.genedit_documents.proofs.Exports.{have_below, holds_taken, wants_holding}
use Rattle.genedit_documents.proofs.ListLaws.{under_first}
use Rattle.genedit_documents.proofs.holding.replica_of.Goals as goal

pub take_edits-requires : goal.take_edits-requires
take_edits-requires c =
    let are : c.first_edits.result.now ≡ first_of c.args.most c.args.listed.now.edits.items = c.first_edits.ensures ∙ ap (first_of c.args.most) c.deref.ensures.value in
    let under : AreEditsUnder c.args.listed.now.rule c.first_edits.result.now =
    subst (AreEditsUnder c.args.listed.now.rule) (sym are) (under_first c.args.listed.now.rule c.args.most c.args.listed.now.edits.items c.requires.under) in
    subst (λ (q : GenerationsRule). HaveStatesBelow q.states c.first_edits.result.now) (sym c.in_ok-replica.ensures.new.same_rule) (have_below c.args.listed.now.rule c.first_edits.result.now under)

pub returns-clause-held : goal.returns-clause-held
returns-clause-held c =
    let are : c.first_edits.result.now ≡ first_of c.args.most c.args.listed.now.edits.items = c.first_edits.ensures ∙ ap (first_of c.args.most) c.deref.ensures.value in
    let takes = subst (λ (l : List PlaneEdit). TakesSome c.in_ok-replica.replica c.take_edits.new.self (λ content. content ≡ Edits l)) are c.in_ok-take_edits.ensures in
    holds_taken c.args.listed.now.rule _ _ _ c.in_ok-replica.replica c.take_edits.new.self c.in_ok-replica.ensures.new takes

pub returns-in_err-take_edits-clause-want : goal.returns-in_err-take_edits-clause-want
returns-in_err-take_edits-clause-want c =
    let are : c.first_edits.result.now ≡ first_of c.args.most c.args.listed.now.edits.items = c.first_edits.ensures ∙ ap (first_of c.args.most) c.deref.ensures.value in
    let wants = subst (λ (l : List PlaneEdit). MeetsWant c.in_ok-replica.replica c.take_edits.new.self (λ content. content ≡ Edits l) c.in_err-take_edits.field-0.0) are c.in_err-take_edits.ensures in
    let is : c.from_residual-in_err-take_edits.result ≡ Err c.in_err-take_edits.field-0.0 = search rules in
    let fresh = subst (λ (l : Limits). IsNew c.args.listed.now.rule c.args.number l.room c.in_ok-replica.replica) c.of_key.ensures c.in_ok-replica.ensures.new in
    subst (λ r. IfErr r (IsHoldingWant (first_of c.args.most c.args.listed.now.edits.items))) (sym is)
    (wants_holding c.args.listed.now.rule _ _ c.in_ok-replica.replica c.take_edits.new.self c.in_err-take_edits.field-0.0 fresh wants)
