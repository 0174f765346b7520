use Rattle.std.proofs.Common.{◌≡◌, ◌∙◌, ap, map, sym, arith}
use Rattle.std.specs.List.{range_with_len}
use Rattle.std.proofs.lemmas.Bool.{eq-eqb, ne_eqb}
use Rattle.macrocell_lines.specs.Lines.{live_len, row_of}
use Rattle.macrocell_lines.proofs.Texts.{dead_more, live_more}
use Rattle.macrocell_lines.proofs.text.height_of.Goals as goal
use Rattle.macrocell_lines.proofs.text.height_of.Goals.{then-width_of-ne0, else-width_of-ne0}

pub loop-row-preserved : goal.loop-row-preserved
loop-row-preserved c = elim c.if-width_of-ne0.branch [
  | then-width_of-ne0 w ↦ (w.height-is ∙ live_more (λ v. live_len (row_of c.args.leaf.now v)) c.loop-row.row c.loop-row.height c.loop-row.invariant.0 (ne_eqb _ _ (λ e. w.if-width_of-ne0.true (c.width_of.ensures.width ∙ e))), omega (arith, w.height-is))
  | else-width_of-ne0 w ↦ (w.height-is ∙ dead_more (λ v. live_len (row_of c.args.leaf.now v)) c.loop-row.row c.loop-row.height c.loop-row.invariant.0 (eq-eqb _ _ (sym c.width_of.ensures.width ∙ w.if-width_of-ne0.false)), omega (arith, w.height-is, c.loop-row.invariant.1))
]

pub returns-clause-height : goal.returns-clause-height
returns-clause-height c = let e : c.loop-row.row ≡ 8 = omega arith in c.loop-row.invariant.0 ∙ ap (λ n. live_len (map (λ v. live_len (row_of c.args.leaf.now v)) (range_with_len 0 n))) e
