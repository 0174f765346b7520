use Rattle.std.proofs.Common.{◌≡◌, ◌<◌, ◌≤◌, ℕ, get_or}
use Rattle.leaf_merge_lanes.proofs.bounds.greatest.Given as goal

abbrev pub invariant-loop-stamp : goal.invariant-loop-stamp
invariant-loop-stamp l = record {
  above : (k : ℕ) → k < l.stamp-index → get_or l.stamps k 0 ≤ l.greatest;
  there : (k : ℕ) × (k < 64) × (l.greatest ≡ get_or l.stamps k 0);
}
