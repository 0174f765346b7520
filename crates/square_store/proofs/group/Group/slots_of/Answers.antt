use borrow.Author.Rules.{rules}
use Rattle.square_store.proofs.Bits.{slot_tagged, tagged_slot}
use Rattle.square_store.proofs.group.Group.slots_of.Goals as goal

pub returns : goal.returns
returns c = record { only = slot_tagged c.args.self.now.tags c.args.tag (search rules); all = tagged_slot c.args.self.now.tags c.args.tag (search rules) }
