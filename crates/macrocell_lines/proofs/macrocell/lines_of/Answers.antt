use Rattle.std.proofs.Common.{◌∙◌, ◌-◌, ◌^◌}
use Rattle.macrocell_lines.specs.Squares.{square_of}
use Rattle.macrocell_lines.specs.Lines.{lines_of}
use Rattle.macrocell_lines.specs.Middle.{states_about}
use Rattle.macrocell_lines.specs.Raised.{square_of_pair}
use Rattle.macrocell_lines.proofs.Listed.{all_listed}
use Rattle.macrocell_lines.proofs.macrocell.lines_of.Goals as goal

pub returns : goal.returns
returns c =
    all_listed c.args.of_two (square_of_pair c.store-store.result.now) c.new-lines.result c.number_of_root.new.self _ _ c.new-lines.ensures.lines c.new-lines.ensures.numbers c.in_ok-number_of_root.ensures
    ∙ (λ i. lines_of c.args.of_two (square_of c.args.level (states_about (c.store-store.ensures i) (c.root.ensures i) (2 ^ (c.args.level - 1)))))
