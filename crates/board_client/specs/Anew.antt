-- Edits in doubt: their push was said, and nothing came of it. Drawn anew they have another stamp.
use Rattle.std.specs.Prelude.{◌≡◌, ◌≢◌, ◌⊎◌, ℕ, [], ◌∷◌, Option, Some, None, Result, Ok, Err}
use Rattle.generations_rule.specs.Refusal.{◌>>=◌}
use Rattle.edit_stamps.specs.Edit.{PlaneEdit}
use Rattle.edit_stamps.specs.PlaneMap.{IsGreatestStamp}
use Rattle.edit_stamps.specs.Stamp.{counter_in}
use Rattle.replica_core.specs.declared.fault.Fault.{Fault}
use Rattle.replica_core.specs.declared.fault.Fault.TheVariants as faults
use Rattle.replica_core.specs.Replica.{ReplicaState, stamp_after}
use Rattle.stamped_tree.specs.Plane.{map_of}
use Rattle.board_client.specs.declared.fault.ClientFault.{ClientFault}
use Rattle.board_client.specs.declared.fault.ClientFault.TheVariants as client
use Rattle.board_client.specs.declared.publishing.Drawing.{Drawing}
use Rattle.board_client.specs.declared.publishing.Saying.{Saying}
use Rattle.board_client.specs.declared.publishing.Saying.TheVariants.{Refused}
use Rattle.board_client.specs.Client.{LineState}
use Rattle.board_client.specs.Pushed.{PushedEdit}
use Rattle.board_client.specs.Saying.{SaysPush}

-- the edit is in doubt where its push was said and no answer came, or none that is one; else what was in doubt before
abbrev pub doubt_behind : PushedEdit → Option PushedEdit → Result Drawing ClientFault → Option PushedEdit
doubt_behind pushed old (Ok drawing) = old
doubt_behind pushed old (Err (client.Text fault)) = old
doubt_behind pushed old (Err (client.Line fault)) = Some pushed
doubt_behind pushed old (Err client.NoReply) = Some pushed
doubt_behind pushed old (Err client.Memory) = Some pushed

-- the same area and cells, with the stamp that a drawing would have at this counter
abbrev pub drawn_anew : ℕ → ℕ → PlaneEdit → Result PlaneEdit Fault
drawn_anew counter number e = stamp_after counter number >>= λ stamp. Ok (record { stamp = stamp; area = e.area; cells = e.cells })

-- an edit in doubt is one of the replica's rule, and is to be published with the stamp of the replica's next drawing
abbrev pub SaysAnew : PushedEdit → LineState → LineState → ReplicaState → Result Saying ClientFault → Type 0
SaysAnew doubted a b r result = (doubted.rule ≡ r.rule) × ((n : ℕ) × IsGreatestStamp n (map_of r.plane) × SaysPush r.rule (drawn_anew (counter_in n) r.number doubted.edit) a b result)

-- or it is of another rule, and refused, and nothing is said
pub record IsOfAnotherRule (doubted : PushedEdit) (a b : LineState) (r : ReplicaState) (result : Result Saying ClientFault) : Type 0 where
  pub another : doubted.rule ≢ r.rule
  pub refused : result ≡ Ok (Refused faults.OtherRule)
  pub unsaid : b ≡ a

abbrev pub IsAnewSaid : PushedEdit → LineState → LineState → ReplicaState → Result Saying ClientFault → Type 0
IsAnewSaid doubted a b r result = SaysAnew doubted a b r result ⊎ IsOfAnotherRule doubted a b r result
