use Rattle.std.proofs.Common.{◌≡◌, ◌<◌, ◌++◌, ℕ, zero, suc, ◌==◌, false, List, Err, length, map, sym, ap, subst, ◌∙◌, arith, Vec, Global}
use Rattle.kept_devices.specs.Keep.{KnownKeep}
use Rattle.kept_log.specs.Kept.{Always, Keeps, Leaves}
use Rattle.kept_log.specs.declared.log.LogState.TheVariants as states
use Rattle.board_keeper.specs.Keeping.{Keeping}
use Rattle.board_keeper.specs.Kept.{IsKeeper}
use Rattle.board_keeper.specs.Steps.{Commits}
use Rattle.board_keeper.specs.Working.{CommitsSome, log_fault_of}
use Rattle.board_keeper.proofs.Doing.{IsCommit, IsRefused, committed_so, is_open, rebodied, refused_keeper}
use Rattle.board_keeper.proofs.keeper.Keeper.commit.Goals as goal

some_of : (n : ℕ) → (n == 0) ≡ false → 0 < n
some_of zero h = absurd (cc (h))
some_of (suc n) h = omega arith

-- the file has the bodies, or stands as a crash may leave it, by whatever spelling of them
crash_so : (file new : KnownKeep) (given bodies : List (Vec ℕ Global)) → given ≡ bodies
    → ((list : List (List ℕ)) → Keeps list file → Always (Leaves list (list ++ map (λ v. v.items) given)) file new)
    → (list : List (List ℕ)) → Keeps list file → Always (Leaves list (list ++ map (λ v. v.items) bodies)) file new
crash_so file new given bodies same crash list keeps = subst (λ vs. Always (Leaves list (list ++ map (λ v. v.items) vs)) file new) same (crash list keeps)

kept_so : (file new : KnownKeep) (given bodies : List (Vec ℕ Global)) → given ≡ bodies
    → ((list : List (List ℕ)) → Keeps list file → Keeps (list ++ map (λ v. v.items) given) new)
    → (list : List (List ℕ)) → Keeps list file → Keeps (list ++ map (λ v. v.items) bodies) new
kept_so file new given bodies same kept list keeps = subst (λ vs. Keeps (list ++ map (λ v. v.items) vs) new) same (kept list keeps)

pub invariant_of-self-in-Ok : goal.invariant_of-self-in-Ok
invariant_of-self-in-Ok g c =
    let s = c.self.inside in
    let k : Keeping = record { relay = s.relay; rule = s.rule; file = g.K.Keep.known s.log.keep; takes = s.log.state; committed = s.committed } in
    let bodies = c.write_bodies-all.new.bodies.items in
    let file : KnownKeep = g.K.Keep.known c.commit.new.self.keep in
    let none : k.committed ≡ 0 = ap (λ (v : Keeping). v.committed) c.self.view_is ∙ c.requires.none in
    let i : IsKeeper k bodies = rebodied k s.bodies.items bodies c.self.invariant none c.write_bodies-all.ensures.made in
    let of : IsCommit k bodies file = record { none = none; crash = crash_so k.file file c.as_slice.result.now bodies c.as_slice.ensures.value c.commit.ensures.crash } in
    let is : k.takes ≡ states.Open = is_open k.takes i.begun (λ f. absurd (cc (c.in-Ok.is, c.commit.ensures.stopped.1 f))) in
    let then_is : c.commit.new.self.state ≡ states.Open = rw c.in-Ok.is at c.commit.ensures.state in
    let long : c.len-self-inside.result ≡ length bodies = c.len-self-inside.ensures ∙ c.write_bodies-all.new.bodies.ok.0 in
    let some : 0 < length bodies = subst (λ n. 0 < n) c.write_bodies-all.new.bodies.ok.0 (some_of _ (sym c.is_empty.ensures ∙ c.if-is_empty.false)) in
    let kept = kept_so k.file file c.as_slice.result.now bodies c.as_slice.ensures.value (λ list keeps. rw c.in-Ok.is at (c.commit.ensures.kept list keeps)) in
    (committed_so k bodies c.clear.new.self.items file c.commit.new.self.state c.len-self-inside.result i some is then_is long c.clear.ensures.items of kept).0

pub invariant_of-self-in-Err : goal.invariant_of-self-in-Err
invariant_of-self-in-Err g c =
    let s = c.self.inside in
    let k : Keeping = record { relay = s.relay; rule = s.rule; file = g.K.Keep.known s.log.keep; takes = s.log.state; committed = s.committed } in
    let bodies = c.write_bodies-all.new.bodies.items in
    let file : KnownKeep = g.K.Keep.known c.commit.new.self.keep in
    let none : k.committed ≡ 0 = ap (λ (v : Keeping). v.committed) c.self.view_is ∙ c.requires.none in
    let i : IsKeeper k bodies = rebodied k s.bodies.items bodies c.self.invariant none c.write_bodies-all.ensures.made in
    let of : IsCommit k bodies file = record { none = none; crash = crash_so k.file file c.as_slice.result.now bodies c.as_slice.ensures.value c.commit.ensures.crash } in
    let some : 0 < length bodies = subst (λ n. 0 < n) c.write_bodies-all.new.bodies.ok.0 (some_of _ (sym c.is_empty.ensures ∙ c.if-is_empty.false)) in
    let refused : IsRefused k c.in-Err.fault file c.commit.new.self.state = record {
      state = rw c.in-Err.is at c.commit.ensures.state;
      memory = λ e. ap (λ l. g.K.Keep.known l.keep) (c.commit.ensures.memory (c.in-Err.is ∙ ap Err e));
      unbegun = λ e. c.commit.ensures.unbegun.0 (c.in-Err.is ∙ ap Err e);
      stopped = λ e. c.commit.ensures.stopped.0 (c.in-Err.is ∙ ap Err e);
      is_stopped = λ f. cc (c.in-Err.is, c.commit.ensures.stopped.1 f);
      never = λ e. c.commit.ensures.never (c.in-Err.is ∙ ap Err e);
      untouched = λ n. ap (λ l. g.K.Keep.known l.keep) (c.commit.ensures.untouched n);
    } in
    (refused_keeper k bodies c.in-Err.fault file c.commit.new.self.state i some of refused).0

pub returns-in-Ok : goal.returns-in-Ok
returns-in-Ok g c =
    let s = c.self.inside in
    let k : Keeping = record { relay = s.relay; rule = s.rule; file = g.K.Keep.known s.log.keep; takes = s.log.state; committed = s.committed } in
    let bodies = c.write_bodies-all.new.bodies.items in
    let file : KnownKeep = g.K.Keep.known c.commit.new.self.keep in
    let none : k.committed ≡ 0 = ap (λ (v : Keeping). v.committed) c.self.view_is ∙ c.requires.none in
    let i : IsKeeper k bodies = rebodied k s.bodies.items bodies c.self.invariant none c.write_bodies-all.ensures.made in
    let of : IsCommit k bodies file = record { none = none; crash = crash_so k.file file c.as_slice.result.now bodies c.as_slice.ensures.value c.commit.ensures.crash } in
    let is : k.takes ≡ states.Open = is_open k.takes i.begun (λ f. absurd (cc (c.in-Ok.is, c.commit.ensures.stopped.1 f))) in
    let then_is : c.commit.new.self.state ≡ states.Open = rw c.in-Ok.is at c.commit.ensures.state in
    let long : c.len-self-inside.result ≡ length bodies = c.len-self-inside.ensures ∙ c.write_bodies-all.new.bodies.ok.0 in
    let some : 0 < length bodies = subst (λ n. 0 < n) c.write_bodies-all.new.bodies.ok.0 (some_of _ (sym c.is_empty.ensures ∙ c.if-is_empty.false)) in
    let kept = kept_so k.file file c.as_slice.result.now bodies c.as_slice.ensures.value (λ list keeps. rw c.in-Ok.is at (c.commit.ensures.kept list keeps)) in
    let all = committed_so k bodies c.clear.new.self.items file c.commit.new.self.state c.len-self-inside.result i some is then_is long c.clear.ensures.items of kept in
    (subst (λ (v : Keeping). Commits v (record k { file = file; takes = c.commit.new.self.state; committed = c.len-self-inside.result })) c.self.view_is all.1, all.0.safe)

pub returns-in-Err : goal.returns-in-Err
returns-in-Err g c =
    let s = c.self.inside in
    let k : Keeping = record { relay = s.relay; rule = s.rule; file = g.K.Keep.known s.log.keep; takes = s.log.state; committed = s.committed } in
    let bodies = c.write_bodies-all.new.bodies.items in
    let file : KnownKeep = g.K.Keep.known c.commit.new.self.keep in
    let none : k.committed ≡ 0 = ap (λ (v : Keeping). v.committed) c.self.view_is ∙ c.requires.none in
    let i : IsKeeper k bodies = rebodied k s.bodies.items bodies c.self.invariant none c.write_bodies-all.ensures.made in
    let of : IsCommit k bodies file = record { none = none; crash = crash_so k.file file c.as_slice.result.now bodies c.as_slice.ensures.value c.commit.ensures.crash } in
    let some : 0 < length bodies = subst (λ n. 0 < n) c.write_bodies-all.new.bodies.ok.0 (some_of _ (sym c.is_empty.ensures ∙ c.if-is_empty.false)) in
    let refused : IsRefused k c.in-Err.fault file c.commit.new.self.state = record {
      state = rw c.in-Err.is at c.commit.ensures.state;
      memory = λ e. ap (λ l. g.K.Keep.known l.keep) (c.commit.ensures.memory (c.in-Err.is ∙ ap Err e));
      unbegun = λ e. c.commit.ensures.unbegun.0 (c.in-Err.is ∙ ap Err e);
      stopped = λ e. c.commit.ensures.stopped.0 (c.in-Err.is ∙ ap Err e);
      is_stopped = λ f. cc (c.in-Err.is, c.commit.ensures.stopped.1 f);
      never = λ e. c.commit.ensures.never (c.in-Err.is ∙ ap Err e);
      untouched = λ n. ap (λ l. g.K.Keep.known l.keep) (c.commit.ensures.untouched n);
    } in
    let b : Keeping = record k { file = file; takes = c.commit.new.self.state } in
    subst (λ f. CommitsSome c.args.self.now (Err f) b) (sym c.log_fault.ensures)
    (subst (λ (v : Keeping). CommitsSome v (Err (log_fault_of c.in-Err.fault)) b) c.self.view_is (refused_keeper k bodies c.in-Err.fault file c.commit.new.self.state i some of refused).1)
