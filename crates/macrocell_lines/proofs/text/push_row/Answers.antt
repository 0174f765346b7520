use Rattle.std.proofs.Common.{◌≡◌, ◌∙◌, ◌++◌, ap, map, arith}
use Rattle.std.specs.Prelude.{codes}
use Rattle.std.specs.List.{range_with_len}
use Rattle.bitplane_kernel.specs.Square.{state_at}
use Rattle.macrocell_lines.specs.Lines.{mark_of}
use Rattle.macrocell_lines.proofs.Texts.{ended, pushed_more}
use Rattle.macrocell_lines.proofs.text.push_row.Goals as goal

pub loop-column-preserved : goal.loop-column-preserved
loop-column-preserved c =
    pushed_more (λ u. mark_of (state_at 8 c.args.leaf.now u c.args.row)) c.loop-column.column c.mark_of.result c.args.out.now.items c.loop-column.out.items c.push.new.self.items
    c.in_ok-push.ensures.items c.loop-column.invariant (c.mark_of.ensures ∙ ap mark_of c.get.ensures)

pub returns : goal.returns
returns c =
    let e : c.loop-column.column ≡ c.width_of-width.result = omega arith in
    ended c.extend_from_slice.result c.args.out.now.items c.loop-column.out.items c.extend_from_slice.new.self.items _ (codes "$") c.extend_from_slice.ensures.items
    (c.loop-column.invariant ∙ ap (λ n. c.args.out.now.items ++ map (λ u. mark_of (state_at 8 c.args.leaf.now u c.args.row)) (range_with_len 0 n)) (e ∙ c.width_of-width.ensures.width))
