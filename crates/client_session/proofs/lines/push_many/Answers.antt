use Rattle.std.proofs.Common.{codes, decimal}
use Rattle.client_session.proofs.LineLaws.{printed_in_three}
use Rattle.client_session.proofs.lines.push_many.Goals as goal

pub returns-clause-told : goal.returns-clause-told
returns-clause-told c =
    printed_in_three c.args.out.now.items (codes "many ") (decimal c.args.number) (codes " cells look different: export 0 has them\n") _ _ _
    c.in_ok-extend_from_slice.ensures.items c.in_ok-push_number.ensures.told c.in_ok-extend_from_slice-2.ensures.items
