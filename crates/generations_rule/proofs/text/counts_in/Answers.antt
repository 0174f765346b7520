use Rattle.std.proofs.Common.{◌≡◌, ◌≤◌, arith, get_or, None}
use Rattle.generations_rule.specs.RuleText.{glyph, is_misfit, misfit_at}
use Rattle.generations_rule.proofs.PartLemmas.{fails_at}
use Rattle.generations_rule.proofs.TextLaws.{no_misfit, within_digits}
use Rattle.generations_rule.proofs.text.counts_in.Goals as goal

pub set_in-requires : goal.set_in-requires
set_in-requires c k d within =
    let none : misfit_at c.args.start c.args.least 8 c.args.part.now ≡ None = cc in
    let fits = fails_at (is_misfit c.args.least 8) c.args.part.now (no_misfit c.args.start c.args.least 8 c.args.part.now none) k d within in
    let bounds : (glyph c.args.least ≤ get_or c.args.part.now k d) × (get_or c.args.part.now k d ≤ glyph 8) = within_digits c.args.least 8 (get_or c.args.part.now k d) fits in
    (omega arith, omega arith)
