use Rattle.std.proofs.Common.{◌∙◌, sym, ap, ◌++◌}
use Rattle.multistate_rle.specs.declared.tokens.TokenReader.{TokenReader}
use Rattle.multistate_rle.specs.Reading.{role_of}
use Rattle.std.specs.Prelude.{Ok}
use Rattle.generations_rule.specs.Refusal.{◌>>=◌}
use Rattle.multistate_rle.specs.Tokens.{cells_drawn}
use Rattle.multistate_rle.specs.Steps.{pen_of}
use Rattle.multistate_rle.proofs.ReadLemmas.{digit_read}
use Rattle.multistate_rle.proofs.tokens.TokenReader.read.Goals as goal

pub returns-in-Digit : goal.returns-in-Digit
returns-in-Digit c = λ end marks.
    ap (λ read. read >>= λ tokens. Ok (c.args.self.now.cells.items ++ cells_drawn tokens c.args.self.now.column c.args.self.now.row))
    (digit_read end c.args.place c.args.byte c.in-Digit.digit marks c.args.self.now.begun c.with_digit-self.result (pen_of c.args.self.now) (ap (λ (r : TokenReader). role_of r.begun.prefix c.args.byte) (sym c.self.view_is) ∙ sym c.in-Digit.ensures) c.with_digit-self.ensures)
