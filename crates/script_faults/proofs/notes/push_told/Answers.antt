use Rattle.std.proofs.Common.{◌∙◌, ap, sym, [], ◌∷◌, ◌++◌}
use Rattle.std.specs.Option.{option_to_list}
use Rattle.script_faults.specs.Faults.{fault_lines}
use Rattle.script_faults.proofs.FaultLemmas.{fault_lines-append}
use Rattle.script_faults.proofs.notes.push_told.Goals as goal

pub returns-in_ok-push : goal.returns-in_ok-push
returns-in_ok-push c =
    ap fault_lines c.in_ok-push.ensures.items ∙ fault_lines-append c.args.notes.now.items (c.in-Some.note ∷ [])
    ∙ ap (λ note. fault_lines c.args.notes.now.items ++ fault_lines (option_to_list note)) (sym c.in-Some.is)
