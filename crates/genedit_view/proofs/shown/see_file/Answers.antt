use Rattle.std.proofs.Common.{◌≡◌, ℕ, sym, subst, Bool, List}
use Rattle.std.specs.Prelude.{◌⊎◌, Some, is_some}
use Rattle.generations_rule.specs.Rule.{GenerationsRule}
use Rattle.pattern_cells.specs.declared.cell.Cell.{Cell}
use Rattle.cell_pictures.specs.Shown.{state_at}
use Rattle.genedit_view.specs.declared.fault.ViewFault.{ViewFault}
use Rattle.genedit_view.specs.declared.options.ViewOptions.{ViewOptions}
use Rattle.genedit_view.specs.Fault.{IsViewWant, memory_wanted}
use Rattle.genedit_view.specs.Reading.{IsReadAs, IsRefusedFile}
use Rattle.genedit_io.specs.declared.fault.RunFault.TheVariants.{StoreFull}
use Rattle.genedit_view.specs.declared.fault.ViewFault.TheVariants.{Run}
use Rattle.genedit_view.specs.Seeing.{AreCellsAt, IsLateFull, IsLateRefused, IsNotSeen, IsWantAt}
use Rattle.genedit_view.proofs.SeenLaws.{at_end, file_late, file_later, file_shown, file_unread}
use Rattle.genedit_view.proofs.shown.see_file.Goals as goal

-- what is read where generations are asked for
read_as : (o : ViewOptions) (text : List ℕ) (r : GenerationsRule) (cells : List Cell) (is_run : Bool) → is_run ≡ is_some o.generation → IsReadAs is_run o.rule text r (state_at cells) →
    IsReadAs (is_some o.generation) o.rule text r (state_at cells)
read_as o text r cells is_run is read = subst (λ (b : Bool). IsReadAs b o.rule text r (state_at cells)) is read

pub returns-in_err-seen-clause-fault : goal.returns-in_err-seen-clause-fault
returns-in_err-seen-clause-fault c =
    let o = c.args.options.now in
    let text = c.args.text.now in
    let e0 = c.in_err-seen.field-0.0 in
    let why : IsRefusedFile (is_some o.generation) o.rule text e0 ⊎ (e0 ≡ memory_wanted) =
    subst (λ (b : Bool). IsRefusedFile b o.rule text e0 ⊎ (e0 ≡ memory_wanted)) c.is_some-is_run.ensures c.in_err-seen.ensures.fault in
    at_end c.from_residual.result _ _ c.from_residual.ensures.1
    (λ e told. subst (λ (x : ViewFault). IsNotSeen o text x ⊎ IsWantAt o text x) (sym told) (file_unread o text e0 c.requires why))

pub returns-in_default-clause-seen : goal.returns-in_default-clause-seen
returns-in_default-clause-seen c =
    let o = c.args.options.now in
    let r = c.in_ok-seen.seen.rule in
    let cells = c.in_ok-seen.seen.cells.items in
    file_shown o c.args.text.now r cells c.in_default.is (read_as o c.args.text.now r cells c.is_some-is_run.result c.is_some-is_run.ensures c.in_ok-seen.ensures.read) c.in_ok-seen.ensures.cells.sorted c.in_ok-seen.ensures.cells.nonzero

pub returns-in_err-cells-clause-fault : goal.returns-in_err-cells-clause-fault
returns-in_err-cells-clause-fault c =
    let o = c.args.options.now in
    let text = c.args.text.now in
    let r = c.in_ok-seen.seen.rule in
    let cells = c.in_ok-seen.seen.cells.items in
    let g = c.in-Some.generation in
    let read = read_as o text r cells c.is_some-is_run.result c.is_some-is_run.ensures c.in_ok-seen.ensures.read in
    let late : IsLateRefused r (state_at cells) g c.in_err-cells.field-0.0 ⊎ IsViewWant c.in_err-cells.field-0.0 =
    subst (λ (cs : List Cell). IsLateRefused r (state_at cs) g c.in_err-cells.field-0.0 ⊎ IsViewWant c.in_err-cells.field-0.0) c.deref.ensures.value c.in_err-cells.ensures.fault in
    let full : c.in_err-cells.field-0.0 ≡ Run StoreFull → IsLateFull r (state_at cells) g =
    subst (λ (cs : List Cell). c.in_err-cells.field-0.0 ≡ Run StoreFull → IsLateFull r (state_at cs) g) c.deref.ensures.value c.in_err-cells.ensures.full in
    at_end c.from_residual-in_err-cells.result _ _ c.from_residual-in_err-cells.ensures.1
    (λ e told. subst (λ (x : ViewFault). IsNotSeen o text x ⊎ IsWantAt o text x) (sym told) (file_late o text r cells g c.in_err-cells.field-0.0 c.in-Some.is read full late))

pub returns-clause-seen : goal.returns-clause-seen
returns-clause-seen c =
    let o = c.args.options.now in
    let text = c.args.text.now in
    let r = c.in_ok-seen.seen.rule in
    let cells = c.in_ok-seen.seen.cells.items in
    let g = c.in-Some.generation in
    let read = read_as o text r cells c.is_some-is_run.result c.is_some-is_run.ensures c.in_ok-seen.ensures.read in
    let later : AreCellsAt r (state_at cells) (Some g) c.in_ok-cells.cells.items =
    subst (λ (cs : List Cell). AreCellsAt r (state_at cs) (Some g) c.in_ok-cells.cells.items) c.deref.ensures.value c.in_ok-cells.ensures.cells in
    file_later o text r cells c.in_ok-cells.cells.items g c.in-Some.is read later
