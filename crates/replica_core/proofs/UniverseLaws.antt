-- The universe that a world keeps, and the replica whose map it runs.
use Rattle.std.proofs.Common.{◌≡◌, ℕ, List, ◌∙◌, ap}
use Rattle.std.specs.Prelude.{Option, Some, None, IfSome, slice_get}
use Rattle.generation_engine.specs.Universe.{EngineValue, states_in_writes}
use Rattle.stamped_tree.specs.Plane.{map_of}
use Rattle.export.specs.Kept.{IsRunOf}
use Rattle.replica_core.specs.Replica.{ReplicaState}
use Rattle.replica_core.specs.World.{IsUniverseOf}

-- what was kept for the replica at a place
pub universe_kept : {K : Type 0} (place_of : K → ℕ) (engine_of : K → EngineValue) (rs : List ReplicaState) (place : ℕ) (held : ReplicaState) (o : Option K) → slice_get rs place ≡ Some held
    → IfSome o (λ k. (place_of k ≡ place) × IsRunOf held.rule (states_in_writes (map_of held.plane)) (engine_of k)) → IfSome o (λ k. IsUniverseOf rs (place_of k) (engine_of k))
universe_kept place_of engine_of rs place held None there kept = tt
universe_kept place_of engine_of rs place held (Some k) there kept = record { held = held; there = ap (slice_get rs) kept.0 ∙ there; run = kept.1 }
