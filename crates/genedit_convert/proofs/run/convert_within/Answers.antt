use Rattle.std.proofs.Common.{◌≡◌, ℕ, List, ◌∙◌, ap, sym, subst, refl, Ok, Err}
use Rattle.std.specs.Prelude.{◌⊎◌, Option, Result, IfErr, IfOk}
use Rattle.std.proofs.lemmas.Result.{err_from_is_err_and}
use Rattle.devices.specs.Source.{KnownSource}
use Rattle.genedit_io.specs.Runs.{IsReadWhole}
use Rattle.genedit_view.specs.Reading.{bounds_told}
use Rattle.genedit_view.specs.declared.fault.ViewFault.{ViewFault}
use Rattle.genedit_view.specs.Seeing.{IsWantAt}
use Rattle.genedit_convert.specs.declared.options.ConvertOptions.{ConvertOptions}
use Rattle.genedit_convert.specs.Converted.{IsConverted, IsNotConverted, as_view}
use Rattle.genedit_convert.specs.Runs.{IsConversion}
use Rattle.genedit_convert.specs.Runs.IsConversion.{Made, Refused, Left}
use Rattle.genedit_convert.proofs.run.convert_within.Goals as goal

-- a conversion of a text that was read whole
converts : {A : Type 0} (o : ConvertOptions) (turns : ℕ) (out : A → List ℕ) (bounds : A → Option (List ℕ)) (result : Result A ViewFault) (source source' : KnownSource) (text : List ℕ) →
    IsReadWhole turns text source source' → IfOk result (λ made. IsConverted o text (out made)) → IfOk result (λ made. bounds made ≡ bounds_told text) →
    IfErr result (λ fault. IsNotConverted o text fault ⊎ IsWantAt (as_view o) text fault) → IsConversion o turns out bounds result source source'
converts o turns out bounds (Ok made) source source' text read is told fault = Made text made refl read is told
converts o turns out bounds (Err e) source source' text read is told fault = Refused text e refl read fault

pub returns-in_err-text : goal.returns-in_err-text
returns-in_err-text g c =
    let p = err_from_is_err_and c.from_residual.result c.from_residual.ensures.1 in
    Left c.in_err-text.field-0.0 (p.1 ∙ ap (λ (e : ViewFault). Err e) p.2) c.in_err-text.ensures.left

pub returns : goal.returns
returns g c =
    let read = subst (λ (t : List ℕ). IsReadWhole c.args.turns t (g.S.Source.known c.args.source.now) (g.S.Source.known c.pull_all.new.source)) (sym c.deref.ensures.value) c.in_ok-text.ensures.all in
    converts c.args.options.now c.args.turns _ _ c.conversion_of.result _ _ c.deref.result.now read c.conversion_of.ensures.made c.conversion_of.ensures.bounds c.conversion_of.ensures.fault
