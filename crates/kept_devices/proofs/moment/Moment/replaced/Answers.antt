use Rattle.std.proofs.Common.{◌≡◌, subst, sym, map, List, ℕ, rules, arith}
use Rattle.std.specs.Prelude.{IfOk}
use Rattle.kept_devices.specs.Standing.{Has}
use Rattle.kept_devices.specs.Memory.{standing_of}
use Rattle.kept_devices.proofs.CrashLaws.{has_at, may_be_replaced}
use Rattle.kept_devices.proofs.moment.Moment.replaced.Goals as goal

pub returns-then-place-len : goal.returns-then-place-len
returns-then-place-len c =
    let same : IfOk c.to_vec.result (λ v. v.items ≡ c.deref.result.now) = search rules in
    let has : Has (map (λ t. t.items) c.args.self.now.others.items) c.index.result.now.items = has_at c.args.self.now.others.items c.up_to-place.result c.index.result.now (omega arith) c.index.ensures in
    may_be_replaced c.to_vec.result (standing_of c.args.self.now) c.deref.result.now (subst (λ (l : List ℕ). Has (map (λ t. t.items) c.args.self.now.others.items) l) (sym c.deref.ensures.value) has) same
