-- States of a replica stay below its rule's number as it draws and takes.
use Rattle.std.proofs.Common.{ℕ, ◌<◌}
use Rattle.std.specs.Prelude.{IsTrue}
use Rattle.edit_stamps.specs.Edit.{PlaneEdit, has_states_below, writes_of}
use Rattle.edit_stamps.specs.PlaneMap.{HasStatesBelow}
use Rattle.edit_stamps.proofs.StateLaws.{greatest_below, states_joined, written_below, zero_below}
use Rattle.stamped_writes.specs.Write.{Writes, AreSame, joined}
use Rattle.delta_exchange.specs.declared.message.Content.{Content}
use Rattle.delta_exchange.specs.declared.message.Content.TheVariants as contents
use Rattle.delta_exchange.specs.Message.{writes_in, IsBelowStates}

content_below : (n : ℕ) (content : Content) → 0 < n → IsBelowStates n content → HasStatesBelow n (writes_in content)
content_below n (contents.Edits edits) some below = greatest_below n edits some below
content_below n (contents.State plane) some below = below

pub states_drawn : (n : ℕ) (p q : Writes) (e : PlaneEdit) → AreSame q (joined p (writes_of e)) → HasStatesBelow n p → IsTrue (has_states_below n e) → HasStatesBelow n q
states_drawn n p q e whole below own = states_joined n p q (writes_of e) whole below (written_below n e (zero_below n p below) own)

pub states_taken : (n : ℕ) (p q : Writes) (content : Content) → AreSame q (joined p (writes_in content)) → HasStatesBelow n p → IsBelowStates n content → HasStatesBelow n q
states_taken n p q content whole below own = states_joined n p q (writes_in content) whole below (content_below n content (zero_below n p below) own)
