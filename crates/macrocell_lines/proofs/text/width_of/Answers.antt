use Rattle.std.proofs.Common.{◌∙◌, sym, arith}
use Rattle.std.proofs.lemmas.Bool.{eq-eqb, ne_eqb}
use Rattle.bitplane_kernel.specs.Square.{state_at}
use Rattle.macrocell_lines.proofs.Texts.{dead_more, live_more}
use Rattle.macrocell_lines.proofs.text.width_of.Goals as goal
use Rattle.macrocell_lines.proofs.text.width_of.Goals.{then-get-ne0, else-get-ne0}

pub loop-column-preserved : goal.loop-column-preserved
loop-column-preserved c = elim c.if-get-ne0.branch [
  | then-get-ne0 w ↦ (w.width-is ∙ live_more (λ u. state_at 8 c.args.leaf.now u c.args.row) c.loop-column.column c.loop-column.width c.loop-column.invariant.0 (ne_eqb _ _ (λ e. w.if-get-ne0.true (c.get.ensures ∙ e))), omega (arith, w.width-is))
  | else-get-ne0 w ↦ (w.width-is ∙ dead_more (λ u. state_at 8 c.args.leaf.now u c.args.row) c.loop-column.column c.loop-column.width c.loop-column.invariant.0 (eq-eqb _ _ (sym c.get.ensures ∙ w.if-get-ne0.false)), omega (arith, w.width-is, c.loop-column.invariant.1))
]
