use Rattle.std.proofs.Common.{◌≡◌, ℕ, ◌<◌, length, get_or}
use Rattle.stamped_tree.specs.Plane.{map_of}
use Rattle.generation_engine.specs.Universe.{states_in_writes}
use Rattle.command_words.specs.Ranges.{generation_at}
use Rattle.population_charts.specs.Sample.{SampleValue}
use Rattle.genedit_view.specs.Samples.{IsSampledAt}
use Rattle.genedit_view.proofs.samples.samples_in.Given as goal

abbrev pub invariant-loop-steps : goal.invariant-loop-steps
invariant-loop-steps l = record {
  rule : l.generations.rule.now ≡ l.rule;
  map : states_in_writes (map_of l.generations.plane.now) ≡ states_in_writes (map_of l.plane);
  many : length l.samples.items ≡ l.steps;
  each : (k : ℕ) (d : SampleValue) → k < l.steps → IsSampledAt l.rule (states_in_writes (map_of l.plane)) (generation_at l.range k) (get_or l.samples.items k d);
}
