use Rattle.std.proofs.Common.{◌≡◌, ◌∙◌, ap, sym, subst}
use Rattle.std.specs.Prelude.{Option, Ok, Err}
use Rattle.std.specs.Option.{ok_or}
use Rattle.std.proofs.lemmas.Result.{IfErr-weaker, IfOk-weaker, err_from_is_err_and}
use Rattle.text_scan.specs.Words.{words}
use Rattle.genedit_script.specs.declared.command.Command.{Command}
use Rattle.genedit_script.specs.declared.fault.ScriptFault.{ScriptFault}
use Rattle.genedit_script.specs.declared.fault.ScriptFault.TheVariants.{Line}
use Rattle.genedit_script.specs.Script.{command_spelled}
use Rattle.genedit_script.specs.ScriptFault.{IsFaultOf}
use Rattle.genedit_script.proofs.ScriptLemmas.{opens, asks, faulty, found}
use Rattle.genedit_script.proofs.script.command_at.Goals as goal

pub returns-in-Some-clause-fault : goal.returns-in-Some-clause-fault
returns-in-Some-clause-fault c =
    IfErr-weaker c.block_in.result _ _ (λ fault told all is. subst (IsFaultOf fault) (sym (opens all _ _ _ is (sym c.in-Some.ensures))) told) c.block_in.ensures.fault

pub returns-in_err-command-in-None-clause-fault : goal.returns-in_err-command-in-None-clause-fault
returns-in_err-command-in-None-clause-fault c =
    let p = err_from_is_err_and c.from_residual-in_err-command-in-None.result c.from_residual-in_err-command-in-None.ensures.1 in
    let fault : ScriptFault = c.in_err-command-in-None.field-0.0 in
    let told : Err fault ≡ ok_or (command_spelled (words c.args.line.text.now)) (Line c.args.line.number) =
    c.in_err-command-in-None.ensures.value ∙ ap (λ (o : Option Command). ok_or o (Line c.args.line.number)) c.in_ok-command_in-in-None.ensures in
    rw (p.1, p.2) (λ all is. subst (IsFaultOf fault) (sym (asks all _ _ is (sym c.in-None.ensures))) (faulty _ _ _ _ told))

pub returns-in-Some-clause-command : goal.returns-in-Some-clause-command
returns-in-Some-clause-command c =
    IfOk-weaker c.block_in.result _ _ (λ command told all is. opens all _ _ _ is (sym c.in-Some.ensures) ∙ told) c.block_in.ensures.command

pub returns-in_ok-command-in-None-clause-command : goal.returns-in_ok-command-in-None-clause-command
returns-in_ok-command-in-None-clause-command c =
    let told : Ok c.in_ok-command-in-None.command ≡ ok_or (command_spelled (words c.args.line.text.now)) (Line c.args.line.number) =
    c.in_ok-command-in-None.ensures.value ∙ ap (λ (o : Option Command). ok_or o (Line c.args.line.number)) c.in_ok-command_in-in-None.ensures in
    λ all is. asks all _ _ is (sym c.in-None.ensures) ∙ found _ _ _ _ told
