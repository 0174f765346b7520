-- The two ends of a channel of answers.
use Rattle.std.specs.Prelude.{◌≡◌, ℕ}
use Rattle.crossbeam_channel.specs.Claims.{view}
use Rattle.crossbeam_channel.specs.Ends.{sends_on, receives_on, ruled_capacity}
use Rattle.receipts.specs.Topics.{Topic}
use Rattle.receipts.specs.About.{known_by}
use Rattle.receipts.specs.declared.ends.Answering.{Answering}
use Rattle.receipts.specs.declared.ends.Pending.{Pending}

-- the channel by which an answer comes, and that by which it is sent: the name of the table that its passes are of, which
-- is no other channel's
abbrev pub channel_of : Pending → ℕ
channel_of p = p.pass.table_id.views_name

abbrev pub channel_to : Answering → ℕ
channel_to a = a.pass.table_id.views_name

-- two ends are of one channel, which has room for one answer, and both know of what that answer is
pub record IsOneChannel (t : Topic) (a : Answering) (p : Pending) : Type 0 where
  pub channel : receives_on p.receiver ≡ sends_on a.sender
  pub same : channel_of p ≡ channel_to a
  pub room : ruled_capacity (sends_on a.sender) ≡ 1
  pub answering : known_by (view a.pass) ≡ t
  pub pending : known_by (view p.pass) ≡ t
