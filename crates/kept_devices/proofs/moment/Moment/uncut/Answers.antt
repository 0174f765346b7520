use Rattle.std.proofs.Common.{subst, sym, ◌∙◌, List, ℕ}
use Rattle.kept_records.specs.Laws.{IsLowered}
use Rattle.kept_devices.specs.Memory.{standing_of}
use Rattle.kept_devices.proofs.CrashLaws.{may_be_uncut}
use Rattle.kept_devices.proofs.moment.Moment.uncut.Goals as goal

pub returns : goal.returns
returns c =
    let low : IsLowered c.deref-3.result.now c.args.self.now.cut_pending.items =
    subst (λ (l : List ℕ). IsLowered l c.args.self.now.cut_pending.items) (sym c.deref-3.ensures.value) (subst (λ (l : List ℕ). IsLowered c.in_ok-end.end.items l) c.deref.ensures.value c.in_ok-end.ensures) in
    may_be_uncut c.joined-2.result (standing_of c.args.self.now) _ _ c.deref-2.result.now c.deref-3.result.now c.deref-4.ensures.value (c.deref-5.ensures.value ∙ c.in_ok-back.ensures) c.deref-2.ensures.value low c.joined-2.ensures
