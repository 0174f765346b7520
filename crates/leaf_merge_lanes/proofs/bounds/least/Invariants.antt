use Rattle.std.proofs.Common.{◌≡◌, ◌<◌, ◌≤◌, ℕ, get_or}
use Rattle.leaf_merge_lanes.proofs.bounds.least.Given as goal

abbrev pub invariant-loop-stamp : goal.invariant-loop-stamp
invariant-loop-stamp l = record {
  below : (k : ℕ) → k < l.stamp-index → l.least ≤ get_or l.stamps k 0;
  there : (k : ℕ) × (k < 64) × (l.least ≡ get_or l.stamps k 0);
}
