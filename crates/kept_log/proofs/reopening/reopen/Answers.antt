use Rattle.std.specs.Prelude.{IfSome}
use Rattle.std.proofs.Common.{◌≡◌, ◌-◌, [], None, length, sym, ap, ◌∙◌, arith}
use mathlib.Core.List.{IsPrefix}
use Rattle.kept_log.specs.Found.{listed}
use Rattle.kept_log.specs.Kept.{Always, Leaves}
use Rattle.kept_log.proofs.Along.{always_on, if_err_so, if_ok_so, in_the_end}
use Rattle.kept_log.proofs.FoundLaws.{between_by, listed_so}
use Rattle.kept_log.proofs.reopening.reopen.Goals as goal

pub returns-in-Ok-clause-head : goal.returns-in-Ok-clause-head
returns-in-Ok-clause-head g c = if_ok_so c.settle.result
    (λ r. (r.head ≡ c.in-Ok.found.parts.head) × (r.bodies ≡ c.in-Ok.found.parts.bodies) × (r.lost ≡ length c.in-Ok.found.bytes.items - c.in-Ok.found.parts.whole))
    (λ r. r.head ≡ None → (r.bodies.items ≡ []) × (r.lost ≡ 0))
    (λ r s none. let e = c.in-Ok.ensures.head (sym s.0 ∙ none) in (ap (λ v. v.items) s.1 ∙ e.1, omega (arith, s.2, ap length e.0)))
    c.settle.ensures.same

pub returns-in-Ok-clause-between : goal.returns-in-Ok-clause-between
returns-in-Ok-clause-between g c kept all leaves = if_ok_so c.settle.result
    (λ r. (r.head ≡ c.in-Ok.found.parts.head) × (r.bodies ≡ c.in-Ok.found.parts.bodies) × (r.lost ≡ length c.in-Ok.found.bytes.items - c.in-Ok.found.parts.whole))
    (λ r. IfSome (g.K.Keep.known c.args.keep).held (λ x. IsPrefix kept (listed r.head r.bodies.items) × IsPrefix (listed r.head r.bodies.items) all))
    (λ r s. listed_so (λ l. IfSome (g.K.Keep.known c.args.keep).held (λ x. IsPrefix kept l × IsPrefix l all)) c.in-Ok.found.parts.head r.head c.in-Ok.found.parts.bodies r.bodies s.0 s.1
    (between_by kept all c.in-Ok.found.bytes.items (listed c.in-Ok.found.parts.head c.in-Ok.found.parts.bodies.items) c.in-Ok.found.parts.whole (g.K.Keep.known c.args.keep).held leaves c.in-Ok.ensures.shows c.in-Ok.ensures.found.to))
    c.settle.ensures.same

pub returns-in-Ok-clause-crash : goal.returns-in-Ok-clause-crash
returns-in-Ok-clause-crash g c kept all leaves =
    let first : Always (Leaves kept all) (g.K.Keep.known c.args.keep) (g.K.Keep.known c.in-Ok.found.keep) = c.in-Ok.ensures.crash kept all leaves in
    if_ok_so c.settle.result
    (λ r. Always (Leaves kept all) (g.K.Keep.known c.in-Ok.found.keep) (g.K.Keep.known r.log.keep))
    (λ r. Always (Leaves kept all) (g.K.Keep.known c.args.keep) (g.K.Keep.known r.log.keep))
    (λ r second. always_on (Leaves kept all) (g.K.Keep.known c.args.keep).held (g.K.Keep.known c.in-Ok.found.keep).held (g.K.Keep.known r.log.keep).held first second)
    (c.settle.ensures.crash c.in-Ok.ensures.found kept all (in_the_end (Leaves kept all) (g.K.Keep.known c.args.keep).held (g.K.Keep.known c.in-Ok.found.keep).held first))

pub returns-in-Ok-clause-crash_err : goal.returns-in-Ok-clause-crash_err
returns-in-Ok-clause-crash_err g c kept all leaves =
    let first : Always (Leaves kept all) (g.K.Keep.known c.args.keep) (g.K.Keep.known c.in-Ok.found.keep) = c.in-Ok.ensures.crash kept all leaves in
    if_err_so c.settle.result
    (λ e. Always (Leaves kept all) (g.K.Keep.known c.in-Ok.found.keep) (g.K.Keep.known e.1))
    (λ e. Always (Leaves kept all) (g.K.Keep.known c.args.keep) (g.K.Keep.known e.1))
    (λ e second. always_on (Leaves kept all) (g.K.Keep.known c.args.keep).held (g.K.Keep.known c.in-Ok.found.keep).held (g.K.Keep.known e.1).held first second)
    (c.settle.ensures.crash_err c.in-Ok.ensures.found kept all (in_the_end (Leaves kept all) (g.K.Keep.known c.args.keep).held (g.K.Keep.known c.in-Ok.found.keep).held first))
