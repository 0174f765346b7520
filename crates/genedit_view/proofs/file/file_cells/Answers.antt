use Rattle.std.proofs.Common.{◌≡◌, ◌∙◌, sym, refl, false}
use Rattle.genedit_view.specs.Macrocells.{begins_as_macrocell}
use Rattle.genedit_view.specs.Reading.IsReadAs.{Pattern}
use Rattle.genedit_view.proofs.SeenLaws.{on_ok}
use Rattle.genedit_view.proofs.file.file_cells.Goals as goal

pub returns-else-begins_as_macrocell-clause-read : goal.returns-else-begins_as_macrocell-clause-read
returns-else-begins_as_macrocell-clause-read c =
    let other : begins_as_macrocell c.args.text.now ≡ false = sym c.begins_as_macrocell.ensures ∙ c.if-begins_as_macrocell.false in
    on_ok c.pattern_cells.result _ _ c.pattern_cells.ensures.seen (λ seen is. Pattern seen.cells.items c.requires other is refl)
