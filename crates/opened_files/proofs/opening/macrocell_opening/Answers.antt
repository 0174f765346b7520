use Rattle.std.proofs.Common.{◌∙◌, ap, subst, sym, true, false, Err}
use Rattle.macrocell_text.specs.Readings.{macrocell_told}
use Rattle.macrocell_text.specs.Texts.{macrocell_read}
use Rattle.opened_files.specs.declared.opening.Unopened.{Unopened}
use Rattle.opened_files.specs.Counters.{suffice}
use Rattle.opened_files.specs.Opening.{OpensMacrocell}
use Rattle.opened_files.proofs.MacrocellLaws.{macrocell_at, opens_no_cells, read_whole, refuses_full}
use Rattle.opened_files.proofs.opening.macrocell_opening.Goals as goal

pub returns-then-suffice : goal.returns-then-suffice
returns-then-suffice c =
    let text = c.args.text.now in
    let m = c.in-Ok.macrocell in
    macrocell_at c.args.replica.now c.rule.result text (macrocell_told m) c.in-Ok-cells_under.cells.items c.suffice.ensures.0 c.plane.result.now c.suffice.result true
    c.rule.ensures (read_whole m (macrocell_read text) c.in-Ok.ensures) c.in-Ok-cells_under.ensures.allowed c.in-Ok-cells_under.ensures.listed c.plane.ensures.value c.suffice.ensures.1
    (c.suffice.ensures.2 ∙ ap (suffice 0 c.suffice.ensures.0) c.deref.ensures.value) c.if-suffice.true

pub returns-in-Ok-cells_under : goal.returns-in-Ok-cells_under
returns-in-Ok-cells_under c =
    let text = c.args.text.now in
    let m = c.in-Ok.macrocell in
    refuses_full c.args.replica.now text c.in-Ok-cells_under.cells.items
    (macrocell_at c.args.replica.now c.rule.result text (macrocell_told m) c.in-Ok-cells_under.cells.items c.suffice.ensures.0 c.plane.result.now c.suffice.result false
    c.rule.ensures (read_whole m (macrocell_read text) c.in-Ok.ensures) c.in-Ok-cells_under.ensures.allowed c.in-Ok-cells_under.ensures.listed c.plane.ensures.value c.suffice.ensures.1
    (c.suffice.ensures.2 ∙ ap (suffice 0 c.suffice.ensures.0) c.deref.ensures.value) c.if-suffice.false)

pub returns : goal.returns
returns c =
    let r = c.args.replica.now in
    let text = c.args.text.now in
    let m = c.in-Ok.macrocell in
    subst (λ (u : Unopened). OpensMacrocell r text (Err u)) (sym c.refused_by.ensures)
    (opens_no_cells r c.rule.result text (macrocell_told m) c.rule.ensures (read_whole m (macrocell_read text) c.in-Ok.ensures) c.in-Err-cells_under.fault c.in-Err-cells_under.ensures.fault)
