use Rattle.std.proofs.Common.{◌≡◌, ◌∙◌, ◌+◌, ◌≤◌, length, ap, sym, subst, arith, Some}
use Rattle.macrocell_text.specs.declared.entry.Entry.{Entry}
use Rattle.macrocell_text.specs.Macrocells.{entry_level}
use Rattle.macrocell_universes.specs.Numbered.{IsNumbered, square_at}
use Rattle.macrocell_universes.specs.Reaches.{IsReach}
use Rattle.macrocell_universes.proofs.EntryReaches.{IsEntryNumbered, entry_numbered, reached_more}
use Rattle.macrocell_universes.proofs.Numbers.{none_past}
use Rattle.macrocell_universes.proofs.reaches.next_reach.Goals as goal

known : (c : goal.After-level) → IsEntryNumbered c.args.entries.now c.in-Some.entry (length c.args.reaches.now + 1)
known c = entry_numbered c.args.entries.now (length c.args.reaches.now) c.in-Some.entry c.requires.squares c.requires.levels c.requires.entries (sym c.entry_at.ensures ∙ c.in-Some.is)

pub square_reach-requires-clause-above : goal.square_reach-requires-clause-above
square_reach-requires-clause-above c = (let k = (known c).above in omega (arith, k, c.level.ensures))

pub square_reach-requires-clause-most : goal.square_reach-requires-clause-most
square_reach-requires-clause-most c = (let k = (known c).most in omega (arith, k, c.level.ensures))

pub square_reach-requires-clause-is : goal.square_reach-requires-clause-is
square_reach-requires-clause-is c = subst (λ l. IsNumbered c.args.entries.now (record { level = l; number = length c.args.reaches.now + 1 })) (sym c.level.ensures) (known c).is

pub unreachable-requires : goal.unreachable-requires
unreachable-requires c = (let past = none_past c.args.entries.now (length c.args.reaches.now) (sym c.entry_at.ensures ∙ c.in-None.is) in omega (arith, past, c.requires.more))

pub returns : goal.returns
returns c =
    let es = c.args.entries.now in let rs = c.args.reaches.now in let e = c.in-Some.entry in let r = c.square_reach.result in
    let at = sym c.entry_at.ensures ∙ c.in-Some.is in
    let n = entry_numbered es (length rs) e c.requires.squares c.requires.levels c.requires.entries at in
    reached_more es rs e r c.requires.reaches c.requires.levels at (subst (λ l. IsReach l (square_at es l (length rs + 1)) r) c.level.ensures c.square_reach.ensures) n.above
