use Rattle.std.proofs.Common.{arith}
use Rattle.std.proofs.lemmas.Option.{slice_get-get_or}
use Rattle.square_store.specs.Groups.{there}
use Rattle.square_store.proofs.Chains.{step_on, reach_on, free_slot_at, no_slot_at}
use Rattle.square_store.proofs.groups.free_slot.Goals as goal

pub loop-group-init : goal.loop-group-init
loop-group-init c = (c.requires.head, there c.args.head)

pub returns-then-free-ne0 : goal.returns-then-free-ne0
returns-then-free-ne0 c = record {
  reached = c.loop-group.invariant.1;
  free_in = free_slot_at c.args.groups.now c.loop-group.at _ _ c.loop-group.invariant.0 (c.slots_of-free.ensures.only _ c.lowest_bit.ensures.set);
}

pub loop-group-smaller : goal.loop-group-smaller
loop-group-smaller c =
    let within = c.loop-group.invariant.0 in
    let next = step_on c.args.groups.now c.requires.linked c.loop-group.at c.in-Some.next _ (slice_get-get_or c.args.groups.now c.loop-group.at _ within) c.in-Some.ensures.0 c.in-Some.ensures.1 in
    omega (arith, next, within)

pub loop-group-preserved : goal.loop-group-preserved
loop-group-preserved c =
    let there = slice_get-get_or c.args.groups.now c.loop-group.at _ c.loop-group.invariant.0 in (
      (step_on c.args.groups.now c.requires.linked c.loop-group.at c.in-Some.next _ there c.in-Some.ensures.0 c.in-Some.ensures.1).1,
      reach_on c.args.groups.now c.args.head c.loop-group.at c.in-Some.next _ c.loop-group.invariant.1 there c.in-Some.ensures.0 c.in-Some.ensures.1,
    )

pub returns-in-None : goal.returns-in-None
returns-in-None c = record { reached = c.loop-group.invariant.1; free_in = no_slot_at c.args.groups.now c.loop-group.at _ c.loop-group.invariant.0 c.in-None.ensures }
