use Rattle.std.proofs.Common.{◌≡◌, ℕ, Err, sym, subst, rules}
use Rattle.std.specs.Global.{Vec}
use Rattle.genedit_documents.specs.Holding.{IsAsState}
use Rattle.genedit_documents.specs.declared.states.StateFault.TheVariants.{Want}
use Rattle.genedit_documents.proofs.states.as_state.Goals as goal

pub returns-in_err-text : goal.returns-in_err-text
returns-in_err-text c =
    let is : c.from_residual-in_err-text.result ≡ Err (Want c.in_err-text.field-0.0) = search rules in
    subst (IsAsState (λ (text : Vec ℕ). text.items) c.args.bytes.now c.args.most) (sym is) (c.in_ok-listed.listed, c.in_ok-listed.ensures.told, c.in_err-text.ensures.want)
