use Rattle.std.proofs.Common.{ℕ, List, ◌++◌, ◌∙◌, ap, codes, decimal}
use Rattle.genedit_lib.specs.Output.{count_line}
use Rattle.told_generations.proofs.CountLaws.{four_parts}
use Rattle.told_generations.proofs.counts.push_counted.Goals as goal

pub returns-clause-told : goal.returns-clause-told
returns-clause-told c =
    let number = c.in_ok-extend_from_slice-2.ensures.items ∙ ap (λ (t : List ℕ). c.extend_from_slice.new.self.items ++ t) (c.as_bytes.ensures.value ∙ c.format.ensures.text) in
    let front = number ∙ ap (λ (t : List ℕ). t ++ decimal c.args.generation) c.in_ok-extend_from_slice.ensures.items in
    let head = c.in_ok-extend_from_slice-3.ensures.items ∙ ap (λ (t : List ℕ). t ++ codes ": ") front in
    c.in_ok-push_line.ensures.told ∙ ap (λ (t : List ℕ). t ++ count_line c.args.count) head
    ∙ four_parts c.args.out.now.items (codes "generation ") (decimal c.args.generation) (codes ": ") (count_line c.args.count)
