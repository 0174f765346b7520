-- Runs of a keeper, one behind another.
use Rattle.std.proofs.Common.{◌≡◌, ◌∙◌, ℕ, zero, suc, refl, sym, ap, subst, inl, inr, true}
use Rattle.board_keeper.specs.Keeping.{IsSafe, Keeping}
use Rattle.board_keeper.specs.Steps.{AreSteps}
use Rattle.relay_board.specs.Same.{Same}
use Rattle.kept_server.specs.Running.{AreRunSteps, ClosesNow, IsAmid, Runs}

-- nothing was done yet
pub none_yet : (a : Keeping) → IsSafe a → Runs a a
none_yet a safe = (zero, (refl, safe))

steps_safe : (n : ℕ) (a b : Keeping) → AreRunSteps n a b → IsSafe b
steps_safe zero a b run = subst IsSafe (sym run.0) run.1
steps_safe (suc n) a b run = run.3

-- behind a run a crash leaves what it may
pub run_safe : (a b : Keeping) → Runs a b → IsSafe b
run_safe a b run = steps_safe run.0 a b run.1

-- and so it is behind the steps of a turn
pub runs_on : (n : ℕ) (a b c : Keeping) → Runs a b → AreSteps n b c → Runs a c
runs_on zero a b c run same = subst (Runs a) (sym same) run
runs_on (suc n) a b c run steps =
    let before : Runs a steps.0 = runs_on n a b steps.0 run steps.1 in
    (suc before.0, (steps.0, before.1, inl steps.2, steps.3))

-- a close leaves the file, and what is in it, as they were
pub runs_closed : (a b c : Keeping) → Runs a b → ClosesNow b c → Runs a c
runs_closed a b c run closes =
    let shut : Keeping = record b { relay = record b.relay { closed = true } } in
    let safe : IsSafe shut = run_safe a b run in
    (suc run.0, (b, run.1, inr closes, subst IsSafe (sym closes) safe))

more_steps : (n : ℕ) (a b c : Keeping) → Runs a b → AreRunSteps n b c → Runs a c
more_steps zero a b c run same = subst (Runs a) (sym same.0) run
more_steps (suc n) a b c run steps =
    let before : Runs a steps.0 = more_steps n a b steps.0 run steps.1 in
    (suc before.0, (steps.0, before.1, steps.2, steps.3))

-- one run behind another
pub runs_more : (a b c : Keeping) → Runs a b → Runs b c → Runs a c
runs_more a b c one other = more_steps other.0 a b c one other.1

-- ---- amid a run

-- one turn more
pub amid_turned : (n : ℕ) (a b c : Keeping) → IsAmid a b → Same b.relay c.relay × (c.rule ≡ b.rule) → AreSteps n b c → IsAmid a c
amid_turned n a b c amid same steps = record {
  run = runs_on n a b c amid.run steps;
  made = same.0.made ∙ amid.made;
  origin = same.0.origin ∙ amid.origin;
  rule = same.1 ∙ amid.rule;
}

-- a close more
pub amid_closed : (a b c : Keeping) → IsAmid a b → ClosesNow b c → IsAmid a c
amid_closed a b c amid closes = record {
  run = runs_closed a b c amid.run closes;
  made = ap (λ (k : Keeping). k.relay.made) closes ∙ amid.made;
  origin = ap (λ (k : Keeping). k.relay.origin) closes ∙ amid.origin;
  rule = ap (λ (k : Keeping). k.rule) closes ∙ amid.rule;
}
