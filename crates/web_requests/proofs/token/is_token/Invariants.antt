use Rattle.std.proofs.Common.{◌≡◌, ℕ, ◌*◌, ◌<◌, ◌≤◌, get_or}
use Rattle.web_requests.proofs.token.is_token.Given as goal

abbrev pub invariant-loop-place : goal.invariant-loop-place
invariant-loop-place l = record {
  few : l.difference ≤ 255 * l.place;
  alike : (k : ℕ) → k < l.place → l.difference ≡ 0 → get_or l.given k 0 ≡ get_or l.token k 0;
  apart : ((k : ℕ) → k < l.place → get_or l.given k 0 ≡ get_or l.token k 0) → l.difference ≡ 0;
}
