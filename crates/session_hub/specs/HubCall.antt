-- The calls of a hub that may change it, each with its answer.
use Rattle.std.specs.Prelude.{◌≡◌, ℕ, Result, Option, Some, None}
use Rattle.edit_stamps.specs.Edit.{PlaneEdit}
use Rattle.stamped_tree.specs.Plane.{StampedPlane}
use Rattle.session_hub.specs.declared.fault.HubFault.{HubFault}
use Rattle.poll_news.specs.declared.news.News.{News}

pub data HubCall : Type 0 where
  -- an edit was pushed
  Pushes : (edit : PlaneEdit) → (answer : Result (Unit {0}) HubFault) → HubCall
  -- the hub was polled
  Polls : (answer : Result News HubFault) → HubCall
  -- the hub was asked for its plane
  Shows : (answer : Result StampedPlane HubFault) → HubCall
  -- the hub handed out its plane whole, and said of how many edits it is
  Hands : (answer : Result (StampedPlane × ℕ) HubFault) → HubCall

-- what a hub does in a call that may be made or not: without one it stays as it is
abbrev pub AllowsAtMost : {H : Type 0} → (H → HubCall → H → Type 0) → H → Option HubCall → H → Type 0
AllowsAtMost allows old None new = new ≡ old
AllowsAtMost allows old (Some call) new = allows old call new
