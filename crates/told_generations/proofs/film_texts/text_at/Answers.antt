use Rattle.std.proofs.Common.{◌≡◌, ◌∙◌, rules, sym, Err}
use Rattle.export.specs.declared.fault.ExportFault.TheVariants.{TooManyCells}
use Rattle.told_generations.proofs.FilmLaws.{macrocell_none, macrocell_text, rle_none, rle_text}
use Rattle.told_generations.proofs.film_texts.text_at.Goals as goal
use Rattle.told_generations.proofs.film_texts.text_at.Goals.{in-Rle, in-Macrocell}

pub returns-in-Ok-clause-text : goal.returns-in-Ok-clause-text
returns-in-Ok-clause-text c =
    elim c.match-form.branch [
      | in-Rle w ↦ rle_text c.args.replica.now.rule w.rule.result c.args.replica.now.plane w.plane.result.now c.args.generation w.rule.ensures w.plane.ensures.value w.rle_at-made.result
          c.args.form c.in-Ok.text w.in-Rle.is (sym w.made-is ∙ c.in-Ok.is) w.rle_at-made.ensures.text
      | in-Macrocell w ↦ macrocell_text c.args.replica.now.rule w.rule-in-Macrocell.result c.args.replica.now.plane w.plane-in-Macrocell.result.now c.args.generation
          w.rule-in-Macrocell.ensures w.plane-in-Macrocell.ensures.value w.macrocell_at-made.result
          c.args.form c.in-Ok.text w.in-Macrocell.is (sym w.made-is ∙ c.in-Ok.is) w.macrocell_at-made.ensures.text
    ]

pub returns-in-Err-TooManyCells-clause-text : goal.returns-in-Err-TooManyCells-clause-text
returns-in-Err-TooManyCells-clause-text c =
    let fault : c.match-form.made ≡ Err TooManyCells = search rules in
    elim c.match-form.branch [
      | in-Rle w ↦ rle_none c.args.replica.now.rule w.rule.result c.args.replica.now.plane w.plane.result.now c.args.generation w.rule.ensures w.plane.ensures.value w.rle_at-made.result
          c.args.form w.in-Rle.is (sym w.made-is ∙ fault) w.rle_at-made.ensures.err
      | in-Macrocell w ↦ macrocell_none c.args.replica.now.rule w.rule-in-Macrocell.result c.args.replica.now.plane w.plane-in-Macrocell.result.now c.args.generation
          w.rule-in-Macrocell.ensures w.plane-in-Macrocell.ensures.value w.macrocell_at-made.result
          c.args.form (sym w.made-is ∙ fault) w.macrocell_at-made.ensures.err
    ]
