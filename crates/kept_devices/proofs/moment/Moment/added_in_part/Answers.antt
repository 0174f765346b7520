use Rattle.std.proofs.Common.{subst, sym, List, ℕ}
use Rattle.kept_records.specs.Laws.{IsLowered}
use Rattle.kept_devices.specs.Memory.{standing_of}
use Rattle.kept_devices.proofs.CrashLaws.{may_be_added}
use Rattle.kept_devices.proofs.moment.Moment.added_in_part.Goals as goal

pub returns : goal.returns
returns c =
    let low : IsLowered c.deref-3.result.now c.args.self.now.pending.items =
    subst (λ (l : List ℕ). IsLowered l c.args.self.now.pending.items) (sym c.deref-3.ensures.value) (subst (λ (l : List ℕ). IsLowered c.in_ok-end.end.items l) c.deref.ensures.value c.in_ok-end.ensures) in
    may_be_added c.joined.result (standing_of c.args.self.now) _ _ c.deref-2.ensures.value low c.joined.ensures
