-- An edit whose push was said.
use Rattle.std.specs.Prelude.{◌≡◌, IsTrue, List, ℕ}
use Rattle.generations_rule.specs.Rule.{GenerationsRule}
use Rattle.edit_stamps.specs.Edit.{PlaneEdit, has_states_below}
use Rattle.board_client.specs.Pushing.{push_bytes}

-- what contracts see of it: the edit, and the rule that it was drawn under
pub record PushedEdit : Type 0 where
  pub rule : GenerationsRule
  pub edit : PlaneEdit

-- its request is that push, and its states are the rule's
pub record IsPushedEdit (rule : GenerationsRule) (edit : PlaneEdit) (request : List ℕ) : Type 0 where
  pub bytes : request ≡ push_bytes rule edit
  pub states : IsTrue (has_states_below rule.states edit)
