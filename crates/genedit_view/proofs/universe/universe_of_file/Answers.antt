use Rattle.std.proofs.Common.{◌≡◌, ◌∙◌, ℕ, sym, ap, subst, refl}
use Rattle.std.specs.Prelude.{◌⊎◌}
use Rattle.generations_rule.specs.Place.{Place}
use Rattle.stamped_tree.specs.Plane.{map_of}
use Rattle.generation_engine.specs.Universe.{states_in_writes}
use Rattle.export.specs.Kept.{IsRunOf}
use Rattle.export.proofs.ExportLaws.{one_map}
use Rattle.cell_pictures.specs.Shown.{state_at}
use Rattle.genedit_io.specs.declared.fault.RunFault.TheVariants.{StoreFull}
use Rattle.genedit_view.specs.declared.fault.ViewFault.{ViewFault}
use Rattle.genedit_view.specs.declared.fault.ViewFault.TheVariants.{Run}
use Rattle.genedit_view.specs.Fault.{IsViewWant}
use Rattle.genedit_view.specs.Seeing.{IsLateFull, IsLateRefused, IsNotSeen, IsWantAt}
use Rattle.genedit_view.specs.Universes.{universe_view}
use Rattle.genedit_view.proofs.SeenLaws.{at_end, file_late, file_unread}
use Rattle.genedit_view.proofs.universe.universe_of_file.Goals as goal

pub returns-in_err-seen-clause-fault : goal.returns-in_err-seen-clause-fault
returns-in_err-seen-clause-fault c =
    let o = universe_view c.args.given c.args.generation in
    let text = c.args.text.now in
    let e0 = c.in_err-seen.field-0.0 in
    at_end c.from_residual.result _ _ c.from_residual.ensures.1
    (λ e told. subst (λ (x : ViewFault). IsNotSeen o text x ⊎ IsWantAt o text x) (sym told) (file_unread o text e0 c.requires c.in_err-seen.ensures.fault))

pub returns-in_err-engine-clause-fault : goal.returns-in_err-engine-clause-fault
returns-in_err-engine-clause-fault c =
    let g = c.args.generation in
    let o = universe_view c.args.given g in
    let text = c.args.text.now in
    let r = c.in_ok-seen.seen.rule in
    let cells = c.in_ok-seen.seen.cells.items in
    let f = states_in_writes (map_of c.in_ok-plane.plane) in
    let same : f ≡ state_at cells = one_map f (state_at c.deref.result.now) c.in_ok-plane.ensures.states ∙ ap state_at c.deref.ensures.value in
    let e0 = c.in_err-engine.field-0.0 in
    let late : IsLateRefused r (state_at cells) g e0 ⊎ IsViewWant e0 = subst (λ (h : Place → ℕ). IsLateRefused r h g e0 ⊎ IsViewWant e0) same c.in_err-engine.ensures.fault in
    let full : e0 ≡ Run StoreFull → IsLateFull r (state_at cells) g = subst (λ (h : Place → ℕ). e0 ≡ Run StoreFull → IsLateFull r h g) same c.in_err-engine.ensures.full in
    at_end c.from_residual-in_err-engine.result _ _ c.from_residual-in_err-engine.ensures.1
    (λ e told. subst (λ (x : ViewFault). IsNotSeen o text x ⊎ IsWantAt o text x) (sym told) (file_late o text r cells g e0 refl c.in_ok-seen.ensures.read full late))

pub returns-clause-seen : goal.returns-clause-seen
returns-clause-seen c =
    let r = c.in_ok-seen.seen.rule in
    let cells = c.in_ok-seen.seen.cells.items in
    let f = states_in_writes (map_of c.in_ok-plane.plane) in
    let same : f ≡ state_at cells = one_map f (state_at c.deref.result.now) c.in_ok-plane.ensures.states ∙ ap state_at c.deref.ensures.value in
    record {
      states = state_at cells;
      read = c.in_ok-seen.ensures.read;
      run = subst (λ (h : Place → ℕ). IsRunOf r h c.in_ok-engine.engine) same c.in_ok-engine.ensures.run;
      at = c.in_ok-engine.ensures.at;
    }
