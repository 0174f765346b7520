use Rattle.std.proofs.Common.{◌≡◌, ◌∙◌, ◌++◌, ap, arith}
use Rattle.std.specs.Prelude.{codes, flat_map}
use Rattle.std.specs.List.{range_with_len}
use Rattle.macrocell_lines.specs.Lines.{line_text, row_text}
use Rattle.macrocell_lines.proofs.Texts.{appended_more, ended}
use Rattle.macrocell_lines.proofs.text.push_rows.Goals as goal

pub loop-row-preserved : goal.loop-row-preserved
loop-row-preserved c =
    appended_more (row_text c.args.leaf.now) c.loop-row.row c.args.out.now.items c.loop-row.out.items c.push_row.new.out.items c.in_ok-push_row.ensures c.loop-row.invariant

pub returns : goal.returns
unfolding line_text
returns c =
    let e : c.loop-row.row ≡ c.height_of-height.result = omega arith in
    ended c.extend_from_slice.result c.args.out.now.items c.loop-row.out.items c.extend_from_slice.new.self.items _ (codes "\n") c.extend_from_slice.ensures.items
    (c.loop-row.invariant ∙ ap (λ n. c.args.out.now.items ++ flat_map (row_text c.args.leaf.now) (range_with_len 0 n)) (e ∙ c.height_of-height.ensures.height))
