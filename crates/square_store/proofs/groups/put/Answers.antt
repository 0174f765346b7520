use Rattle.std.proofs.Common.{subst}
use Rattle.square_store.specs.Groups.{IsFree}
use Rattle.square_store.proofs.Chains.{put_free, put_last}
use Rattle.square_store.proofs.groups.put.Goals as goal

pub returns-in-Some : goal.returns-in-Some
returns-in-Some c =
    put_free c.args.groups.now.items c.requires.linked c.args.head c.args.tag c.args.place c.free_slot-free.result (subst (λ gs. IsFree gs c.args.head c.free_slot-free.result) c.deref.ensures.value c.free_slot-free.ensures)
    c.in-Some.slot c.index_mut.result.now c.put.new.self c.in-Some.is c.index_mut.ensures.value c.put.ensures

pub returns-in-None : goal.returns-in-None
returns-in-None c =
    put_last c.args.groups.now.items c.requires.linked c.args.head c.args.tag c.args.place c.free_slot-free.result (subst (λ gs. IsFree gs c.args.head c.free_slot-free.result) c.deref.ensures.value c.free_slot-free.ensures)
    c.put_behind.new.groups.items c.in-None.is c.put_behind.ensures
