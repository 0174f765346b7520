use Rattle.std.proofs.Common.{◌≡◌, ◌∙◌, ◌+◌, ◌-◌, ◌≤◌, ◌<◌, length, refl, ap, sym, subst, arith}
use Rattle.macrocell_text.specs.Macrocells.{entry_level}
use Rattle.macrocell_universes.specs.Numbered.{IsNumbered}
use Rattle.macrocell_universes.proofs.Corners.{empty_map, root_map}
use Rattle.macrocell_universes.proofs.EntryReaches.{entry_numbered}
use Rattle.macrocell_universes.proofs.Numbers.{none_past, zero_numbered}
use Rattle.macrocell_universes.proofs.root.root_of.Goals as goal

pub returns-then-count-eq0-clause-is : goal.returns-then-count-eq0-clause-is
returns-then-count-eq0-clause-is c = zero_numbered c.args.entries.now 1

pub returns-then-count-eq0-clause-map : goal.returns-then-count-eq0-clause-map
returns-then-count-eq0-clause-map c = λ p. empty_map c.args.entries.now (record { level = 1; number = 0 }) p refl c.if-count-eq0.true

pub unreachable-requires : goal.unreachable-requires
unreachable-requires c = (let past = none_past c.args.entries.now (length c.args.entries.now - 1) (sym c.entry_at.ensures ∙ c.in-None.is) in omega (arith, past, c.if-count-eq0.false))

pub returns-clause-is : goal.returns-clause-is
returns-clause-is c =
    let es = c.args.entries.now in
    let known = entry_numbered es (length es - 1) c.in-Some.entry c.requires.squares c.requires.levels c.requires.entries (sym c.entry_at.ensures ∙ c.in-Some.is) in
    let last : length es - 1 + 1 ≡ length es = omega (arith, c.if-count-eq0.false) in
    subst (λ l. IsNumbered es (record { level = l; number = length es })) (sym c.level.ensures) (subst (λ n. IsNumbered es (record { level = entry_level c.in-Some.entry; number = n })) last known.is)

pub returns-clause-least : goal.returns-clause-least
returns-clause-least c =
    let es = c.args.entries.now in
    let known = (entry_numbered es (length es - 1) c.in-Some.entry c.requires.squares c.requires.levels c.requires.entries (sym c.entry_at.ensures ∙ c.in-Some.is)).above in
    omega (arith, known, c.level.ensures)

pub returns-clause-most : goal.returns-clause-most
returns-clause-most c =
    let es = c.args.entries.now in
    let known = (entry_numbered es (length es - 1) c.in-Some.entry c.requires.squares c.requires.levels c.requires.entries (sym c.entry_at.ensures ∙ c.in-Some.is)).most in
    omega (arith, known, c.level.ensures)

pub returns-clause-map : goal.returns-clause-map
returns-clause-map c = λ p.
    root_map c.args.entries.now (record { level = c.level.result; number = length c.args.entries.now }) p (returns-clause-is c) (returns-clause-least c) refl (omega (arith, c.if-count-eq0.false))
