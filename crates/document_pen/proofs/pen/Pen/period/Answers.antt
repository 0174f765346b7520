use Rattle.std.proofs.Common.{◌≡◌, ℕ, ◌∙◌, List, length, take, Err, ap, rules, subst}
use Rattle.stamped_tree.specs.Plane.{map_of}
use Rattle.generation_engine.specs.Universe.{states_in_writes}
use Rattle.export.specs.declared.fault.ExportFault.TheVariants as exports
use Rattle.map_periods.specs.Periods.{IsRefusedWithin}
use Rattle.map_periods.specs.PlanePeriods.{refuses_export}
use Rattle.document_pen.specs.Pen.{PenState}
use Rattle.document_pen.proofs.PenLaws.{cut_back}
use Rattle.document_pen.proofs.pen.Pen.period.Goals as goal

pub returns-in-Err-StoreFull : goal.returns-in-Err-StoreFull
returns-in-Err-StoreFull g c =
    let m = c.args.self.now in
    let out = c.self.inside.out.items in
    let cut_out = c.truncate-in-Err-StoreFull.new.self.items in
    let size : c.len-before.result ≡ length out = search rules in
    let cut : cut_out ≡ take c.len-before.result c.push_period.new.out.items = search rules in
    let same = cut_back out c.push_period.new.out.items cut_out c.len-before.result c.in-Err-StoreFull.ensures.kept size cut in
    let stays =
    ap (λ (p : PenState). record p { out = cut_out }) c.self.view_is
    ∙ ap (λ (o : List ℕ). record m { out = o }) (same ∙ ap (λ (p : PenState). p.out) c.self.view_is) in
    let full = c.in-Err-StoreFull.ensures.full (ap Err c.in-Err-StoreFull.field-0-is) in
    let within =
    subst (λ (p : PenState). IsRefusedWithin p.replica.rule (states_in_writes (map_of p.replica.plane)) (refuses_export p.replica.rule (states_in_writes (map_of p.replica.plane)))
    c.args.first c.args.most exports.StoreFull) c.self.view_is full.1 in
    (stays, within)
