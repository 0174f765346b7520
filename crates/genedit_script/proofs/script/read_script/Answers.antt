use Rattle.std.proofs.Common.{◌≡◌, rules}
use Rattle.std.specs.Prelude.{None, Ok}
use Rattle.std.proofs.lemmas.Result.{err_from_is_err_and}
use Rattle.genedit_script.specs.ScriptFault.{IsFaultOf}
use Rattle.genedit_script.specs.Script.{Head, head_of, lines_from, commands_spelled}
use Rattle.genedit_script.proofs.ScriptLemmas.{first_fault, later_fault}
use Rattle.genedit_script.proofs.script.read_script.Goals as goal

pub returns-in_err-rule-clause-fault : goal.returns-in_err-rule-clause-fault
returns-in_err-rule-clause-fault c =
    let p = err_from_is_err_and c.from_residual.result c.from_residual.ensures.1 in
    let told : IsFaultOf c.in_err-rule.field-0.0 (head_of c.args.text.now) = search rules in
    rw (p.1, p.2) (first_fault _ (head_of c.args.text.now) _ told)

pub returns-in_err-commands-clause-fault : goal.returns-in_err-commands-clause-fault
returns-in_err-commands-clause-fault c =
    let p = err_from_is_err_and c.from_residual-in_err-commands.result c.from_residual-in_err-commands.ensures.1 in
    let head : Head = record { rule = c.in_ok-rule.rule; replicas = c.in_ok-rule.replicas; behind = lines_from c.head_in.new.lines.number c.head_in.new.lines.rest.now } in
    let read : head_of c.args.text.now ≡ Ok head = search rules in
    rw (p.1, p.2) (later_fault _ (head_of c.args.text.now) _ head read
    (first_fault _ (commands_spelled None head.behind) (λ commands. Ok (record { rule = head.rule; replicas = head.replicas; commands = commands }))
    c.in_err-commands.ensures.fault))
