use Rattle.std.proofs.Common.{◌≡◌, ℕ, Some, rules}
use Rattle.std.specs.Global.{Vec}
use Rattle.client_commands.specs.declared.command.ClientCommand.TheVariants.{Cut}
use Rattle.document_pen.specs.Carrying.{cut_of}
use Rattle.document_pen.specs.Exporting.{IsTextGiven}
use Rattle.document_pen.proofs.carrying.carry_out.Goals as goal

pub returns-in-Cut-default-default-Some : goal.returns-in-Cut-default-default-Some
returns-in-Cut-default-default-Some g c =
    let w = c.in-Cut-default-default-Some in
    let is : c.args.command ≡ Cut w.window w.generation (Some w.file) = search rules in
    let given : IsTextGiven (λ (text : Vec ℕ). text.items) (cut_of w.window w.generation) c.args.pen.now c.text-in-Cut-default-default-Some.new.self c.text-in-Cut-default-default-Some.result =
    (rw c.cut_of-in-Cut-default-default-Some.ensures at c.text-in-Cut-default-default-Some.ensures) in
    rw is (record { called = c.text-in-Cut-default-default-Some.result; does = given; behind = c.written.ensures })
