use Rattle.std.proofs.Common.{◌≡◌, ℕ, List, inl, inr, sym, subst}
use Rattle.std.specs.Prelude.{◌⊎◌}
use Rattle.genedit_view.specs.declared.fault.ViewFault.{ViewFault}
use Rattle.genedit_view.specs.declared.options.ViewOptions.{ViewOptions}
use Rattle.genedit_view.specs.Seeing.{IsNotSeen, IsWantAt}
use Rattle.genedit_view.proofs.SeenLaws.{at_end}
use Rattle.genedit_convert.specs.declared.options.ConvertOptions.{ConvertOptions}
use Rattle.genedit_convert.specs.Converted.{IsNotConverted, as_view}
use Rattle.genedit_convert.proofs.converting.conversion_of.Goals as goal

not_seen : (o : ConvertOptions) (v : ViewOptions) (text : List ℕ) (e : ViewFault) → v ≡ as_view o → IsNotSeen v text e ⊎ IsWantAt v text e →
    IsNotConverted o text e ⊎ IsWantAt (as_view o) text e
not_seen o v text e is (inl none) = inl (inl (subst (λ (w : ViewOptions). IsNotSeen w text e) is none))
not_seen o v text e is (inr want) = inr (subst (λ (w : ViewOptions). IsWantAt w text e) is want)

pub returns-in_err-seen-clause-fault : goal.returns-in_err-seen-clause-fault
returns-in_err-seen-clause-fault c =
    let o = c.args.options.now in
    let text = c.args.text.now in
    at_end c.from_residual.result _ _ c.from_residual.ensures.1
    (λ e told. subst (λ (x : ViewFault). IsNotConverted o text x ⊎ IsWantAt (as_view o) text x) (sym told) (not_seen o c.as_view.result text c.in_err-seen.field-0.0 c.as_view.ensures c.in_err-seen.ensures.fault))
