-- A drawing whose push is said, and its answer not yet heard.
use Rattle.std.specs.Prelude.{◌≡◌, ℕ, max, [], ◌∷◌, Result, Ok, Err}
use Rattle.std.specs.Result.{IsOk}
use Rattle.generations_rule.specs.Rule.{GenerationsRule}
use Rattle.edit_stamps.specs.Edit.{PlaneEdit}
use Rattle.edit_stamps.specs.PlaneMap.{IsGreatestStamp}
use Rattle.edit_stamps.specs.Stamp.{counter_in}
use Rattle.replica_core.specs.declared.fault.Fault.{Fault}
use Rattle.replica_core.specs.Replica.{ReplicaState, edit_drawn}
use Rattle.replica_events.specs.declared.edit_spec.EditSpec.{EditSpec}
use Rattle.stamped_tree.specs.Plane.{map_of}
use Rattle.board_client.specs.declared.publishing.Saying.{Saying}
use Rattle.board_client.specs.declared.publishing.Saying.TheVariants.{Refused, Said}
use Rattle.board_client.specs.declared.fault.ClientFault.{ClientFault}
use Rattle.board_client.specs.declared.fault.ClientFault.TheVariants.{Memory}
use Rattle.board_client.specs.Client.{LineState, IsTalk}
use Rattle.board_client.specs.Hearing.{IsSaid}
use Rattle.board_client.specs.Pushing.{push_bytes}

-- the push of the edit that is meant was said, or could not be; or the edit is refused, or memory is wanting for one that nothing refuses,
-- and nothing was said
abbrev pub SaysPush : GenerationsRule → Result PlaneEdit Fault → LineState → LineState → Result Saying ClientFault → Type 0
SaysPush rule meant a b (Ok (Said pushed)) = (meant ≡ Ok pushed.edit) × (pushed.rule ≡ rule) × IsTalk a b (push_bytes rule pushed.edit ∷ []) []
SaysPush rule meant a b (Ok (Refused fault)) = (meant ≡ Err fault) × (b ≡ a)
SaysPush rule meant a b (Err Memory) = IsOk meant × (b ≡ a)
SaysPush rule meant a b (Err fault) = (e : PlaneEdit) × (meant ≡ Ok e) × IsSaid {A = Unit {0}} (push_bytes rule e) a b (Err fault)

-- the edit is the one that a drawing would publish
abbrev pub IsDrawingSaid : ℕ → EditSpec → LineState → LineState → ReplicaState → Result Saying ClientFault → Type 0
IsDrawingSaid after spec a b r result = (n : ℕ) × IsGreatestStamp n (map_of r.plane) × SaysPush r.rule (edit_drawn r.rule (max after (counter_in n)) r.number spec) a b result
